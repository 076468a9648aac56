-- What the helpers of the code answer.
use Rattle.std.specs.Prelude.{ℕ, ◌+◌, ◌-◌, List, Option}
use Rattle.rules.specs.Bytes.{origin}
use Rattle.read_model.specs.declared.Word.{Word}
use Rattle.read_model.specs.Environment.{gone}
use Rattle.read_model.specs.Words.{far_at, word_record, word_next}
use Rattle.read_word.specs.declared.Spelt.{Spelt}

-- h behind one byte of a word, where it stays within the limit
abbrev pub step_to : List ℕ → List ℕ → Word → Option ℕ
step_to s ws d = gone origin (d.h + far_at s ws d)

-- a word behind one of its bytes, where h is known
abbrev pub next_word : Word → ℕ → Word
next_word d h = record { left = d.left - 1; at = d.at + 1; block = d.block; h = h; v = d.v; ordinal = d.ordinal; number = d.number; font = d.font; size = d.size; gap = 0; track = d.track; unitwidth = d.unitwidth; quantum = d.quantum }

abbrev pub spelt_of : List ℕ → List ℕ → Word → Spelt
spelt_of s ws d = record { row = word_record d; next = word_next s ws d }
