-- A word as the code sets it: its widths by the table, where it ends, and its records. In the code's own steps.
use Rattle.std.specs.Prelude.{ℕ, zero, suc, ◌+◌, ◌*◌, ◌-◌, Bool, true, ◌&&◌, List, [], ◌∷◌, ltb, get_or, Option, Some, None, Result, if◌then◌else◌}
use Rattle.rules.specs.declared.Record.{Record}
use Rattle.rules.specs.declared.Refusal.{Refusal}
use Rattle.rules.specs.Bytes.{origin}
use Rattle.rules.specs.Widths.{advance}
use Rattle.rules.specs.Record.{shown}
use Rattle.rules.specs.Answers.{asked, and_then}
use Rattle.read_model.specs.declared.Environment.{Environment}
use Rattle.read_model.specs.declared.Word.{Word}
use Rattle.read_model.specs.declared.Emitted.TheVariants as E
use Rattle.read_model.specs.declared.Did.{Did}
use Rattle.read_model.specs.Environment.{with_spot, with_gap, set_or, may_move, placed_or, doing}

-- what the table holds for a byte: 0 for no width, else the width + 1
abbrev pub entry_at : List ℕ → ℕ → ℕ → ℕ
entry_at ws block b = get_or ws (block * 256 + b) 0

-- n bytes from at on have widths
unfoldable pub all_wide : ℕ → List ℕ → List ℕ → ℕ → ℕ → Bool
all_wide zero s ws block at = true
all_wide (suc n) s ws block at = let more = all_wide n s ws block (at + 1) in ltb 0 (entry_at ws block (get_or s at 0)) && more

-- how far h goes behind a byte, moved up
abbrev pub far_at : List ℕ → List ℕ → Word → ℕ
far_at s ws d = advance (entry_at ws d.block (get_or s d.at 0) - 1) d.size d.unitwidth d.quantum + d.track

-- behind one byte of the word
abbrev pub word_next : List ℕ → List ℕ → Word → Word
word_next s ws d = record { left = d.left - 1; at = d.at + 1; block = d.block; h = d.h + far_at s ws d - origin; v = d.v; ordinal = d.ordinal; number = d.number; font = d.font; size = d.size; gap = 0; track = d.track; unitwidth = d.unitwidth; quantum = d.quantum }

-- h behind n bytes of the word, where it stays within the limit
unfoldable pub word_end : ℕ → List ℕ → List ℕ → Word → Option ℕ
word_end zero s ws d = Some d.h
word_end (suc n) s ws d = let more = word_end n s ws (word_next s ws d) in if may_move d.h (far_at s ws d) then more else None

abbrev pub word_record : Word → Record
word_record d = record { ordinal = d.ordinal; page = shown d.number; h = shown d.h; v = shown d.v; font = d.font; size = d.size; place = d.at; len = 1; index = 0; gap = d.gap }

unfoldable pub word_records : ℕ → List ℕ → List ℕ → Word → List Record
word_records zero s ws d = []
word_records (suc n) s ws d = word_record d ∷ word_records n s ws (word_next s ws d)

-- a word of n bytes at a place, in the environment; block is that of the font now mounted
abbrev pub word_here : Environment → ℕ → ℕ → ℕ → ℕ → ℕ → Word
word_here e unit track n at block = record { left = n; at = at; block = block; h = e.h; v = e.v; ordinal = e.ordinal; number = e.number; font = e.font - 1; size = e.size; gap = e.gap; track = track; unitwidth = unit; quantum = e.quantum }

-- behind it, where it ends at h
abbrev pub word_to : Environment → ℕ → Word → Option ℕ → Result Did Refusal
word_to e at d h = and_then (placed_or h at) (λ x. doing (with_gap (with_spot e x e.v) 0) (E.Word d))

-- a word where a font and a size are there: 9 where a byte has no width, then 10
abbrev pub word_set : List ℕ → List ℕ → Environment → ℕ → ℕ → ℕ → ℕ → ℕ → ℕ → Result Did Refusal
word_set s ws e at unit track n place block =
    and_then (asked (all_wide n s ws block place) 9 at)
    (λ z. word_to e at (word_here e unit track n place block) (word_end n s ws (word_here e unit track n place block)))

-- the word's command begins at a place
abbrev pub word_on : List ℕ → List ℕ → Environment → ℕ → ℕ → ℕ → ℕ → ℕ → ℕ → Result Did Refusal
word_on s ws e at unit track n place block = set_or e at (word_set s ws e at unit track n place block)
