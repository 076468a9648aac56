-- One comparison of a search, in the code's own steps.
use Rattle.std.specs.Prelude.{ℕ, ◌+◌, ◌*◌, ◌-◌, ◌<◌, ◌≤◌, Bool, List, ◌≡◌, ltb, eqb, Some, None, if◌then◌else◌}
use Rattle.rules.specs.declared.Record.{Record}
use Rattle.rules.specs.Find.{passes, glyph_test}
use Rattle.find_match.specs.declared.Question.{Question}
use Rattle.find_match.specs.Match.{key_in, record_key, sought_at}
use Rattle.find_compare.specs.declared.Progress.{Progress}
use Rattle.find_compare.specs.declared.Fed.{Fed}

-- how much is left: 64 for each record, less the glyphs that were found at the current one
abbrev pub left_at : ℕ → ℕ → ℕ → ℕ
left_at records i glyph = (records - i) * 64 - glyph

-- on to the next record, after so many hits
abbrev pub next_record : Progress → ℕ → Progress
next_record st hits = record { left = left_at st.records (st.at + 1) 0; at = st.at + 1; glyph = 0; hits = hits; hmax = st.hmax; records = st.records; glyphs = st.glyphs; page = st.page }

-- on to the next glyph of the query
abbrev pub next_glyph : Progress → ℕ → Progress
next_glyph st page = record { left = left_at st.records st.at (st.glyph + 1); at = st.at; glyph = st.glyph + 1; hits = st.hits; hmax = st.hmax; records = st.records; glyphs = st.glyphs; page = page }

-- the page of the first glyph's record
abbrev pub page_of : Progress → Record → ℕ
page_of st r = if eqb st.glyph 0 then r.ordinal else st.page

abbrev pub fits_at : List ℕ → Question → Progress → Record → Bool
fits_at s w st r = passes (glyph_test (page_of st r) (sought_at w st.glyph) (key_in s (record_key r)))

abbrev pub passed : Progress → Fed
passed st = record { hit = None; state = next_record st st.hits }

-- a hit goes to the row where it has room
abbrev pub hit_at : Progress → Fed
hit_at st = if ltb st.hits st.hmax then record { hit = Some st.at; state = next_record st (st.hits + 1) } else passed st

-- behind a glyph that fits: the last one, another one, or the records end
abbrev pub fitted : Progress → ℕ → Fed
fitted st page =
    if eqb (st.glyph + 1) st.glyphs then hit_at st else
    if ltb (st.at + st.glyph + 1) st.records then record { hit = None; state = next_glyph st page } else
    passed st

unfoldable pub feed_of : List ℕ → Question → Progress → Record → Fed
feed_of s w st r = if fits_at s w st r then fitted st (page_of st r) else passed st

-- what keeps every place and sum within its bounds
pub record SearchGood (st : Progress) : Type 0 where
  pub few : st.records ≤ 16777216
  pub glyph : st.glyph < st.glyphs
  pub most : st.glyphs ≤ 64
  pub inside : st.at + st.glyph < st.records
  pub left : st.left ≡ left_at st.records st.at st.glyph
