-- One record against one glyph of the query, as the code holds them.
use Rattle.std.specs.Prelude.{ℕ, List, map, get_or, None, Result, Ok, Err}
use Rattle.std.proofs.Math.Option.{Option as Maybe, none, some}
use Rattle.rules.specs.declared.Record.{Record}
use Rattle.rules.specs.Find.{Sought as RulesSought, other_page, other_name, gap_present, gap_absent, Key as RulesKey, Reason}
use Rattle.name.specs.Part.{part_of}
use Rattle.query_line.specs.declared.Gap.TheVariants.{Either}
use Rattle.query_line.specs.Kinds.{gap_asked}
use Rattle.families_table.specs.declared.Table.{Table}
use Rattle.families_table.specs.Table.{kin_in}
use Rattle.find_match.specs.declared.Key.{Key}
use Rattle.find_match.specs.declared.Sought.{Sought}
use Rattle.find_match.specs.declared.Question.{Question}
use Rattle.find_match.specs.declared.Mismatch.{Mismatch}
use Rattle.find_match.specs.declared.Mismatch.TheVariants as M

-- what finding looks at in a record: its name stands in the stream
abbrev pub key_in : List ℕ → Key → RulesKey
key_in s k = record { name = part_of s k.place k.len; gap = k.gap; ordinal = k.ordinal }

abbrev pub record_key : Record → Key
record_key r = record { ordinal = r.ordinal; gap = r.gap; place = r.place; len = r.len }

-- a glyph whose name stands in the query, and its family in the table
abbrev pub sought_by : List ℕ → List ℕ → Table → Sought → RulesSought
sought_by q fl tab g = record { gap = gap_asked g.gap; name = part_of q g.place g.len; family = kin_in fl tab g.family }

abbrev pub sought_in : Question → Sought → RulesSought
sought_in w g = sought_by w.query.now w.families.now w.table.now g

-- the glyphs of a question
abbrev pub glyphs_of : Question → List RulesSought
glyphs_of w = map (sought_in w) w.glyphs.now

-- the glyph numbered j
abbrev pub no_glyph : Sought
no_glyph = record { place = 0; len = 0; gap = Either; family = None }

abbrev pub sought_at : Question → ℕ → RulesSought
sought_at w j = sought_in w (get_or w.glyphs.now j no_glyph)

abbrev pub tested : Maybe Reason → Result Unit Mismatch
tested none = Ok tt
tested (some other_page) = Err M.OtherPage
tested (some other_name) = Err M.OtherName
tested (some gap_present) = Err M.GapPresent
tested (some gap_absent) = Err M.GapAbsent
