-- A whole pass over the stream, with what it leaves in the rows, in the code's own steps.
use Rattle.std.specs.Prelude.{ℕ, zero, suc, ◌+◌, List, eqb, set, if◌then◌else◌}
use Rattle.rules.specs.declared.Record.{Record}
use Rattle.rules.specs.declared.Entry.{Entry}
use Rattle.read_model.specs.declared.Word.{Word}
use Rattle.read_model.specs.declared.State.{State}
use Rattle.read_model.specs.declared.Effect.{Effect}
use Rattle.read_model.specs.declared.Effect.TheVariants as F
use Rattle.read_model.specs.Words.{word_next, word_record}
use Rattle.read_model.specs.Turns.{turn_of, scratch_of}

-- the records of n bytes of a word go to the row from k on
unfoldable pub word_fill : ℕ → List ℕ → List ℕ → ℕ → Word → List Record → List Record
word_fill zero s ws k d rows = rows
word_fill (suc n) s ws k d rows = word_fill n s ws (k + 1) (word_next s ws d) (set rows k (word_record d))

abbrev pub records_after : List ℕ → List ℕ → List Record → Effect → List Record
records_after s ws rows F.Nothing = rows
records_after s ws rows (F.Record i r) = set rows i r
records_after s ws rows (F.Entry i x) = rows
records_after s ws rows (F.Word k d) = word_fill d.left s ws k d rows

abbrev pub entries_after : List Entry → Effect → List Entry
entries_after rows F.Nothing = rows
entries_after rows (F.Record i r) = rows
entries_after rows (F.Entry i x) = set rows i x
entries_after rows (F.Word k d) = rows

-- where a pass stands, with the scratch row and both rows
pub record ReadPass : Type 0 where
  pub state : State
  pub scratch : List ℕ
  pub records : List Record
  pub entries : List Entry

abbrev pub read_step_of : (List ℕ → ℕ) → List ℕ → ReadPass → ReadPass
read_step_of find s p = record {
  state = (turn_of s p.scratch p.state).state;
  scratch = scratch_of find s p.scratch p.state;
  records = records_after s p.scratch p.records (turn_of s p.scratch p.state).effect;
  entries = entries_after p.entries (turn_of s p.scratch p.state).effect;
}

-- at most f turns
unfoldable pub read_pass_for : ℕ → (List ℕ → ℕ) → List ℕ → ReadPass → ReadPass
read_pass_for zero find s p = p
read_pass_for (suc f) find s p = let more = read_pass_for f find s (read_step_of find s p) in if eqb p.state.left 0 then p else more

-- each turn takes at least one byte
abbrev pub read_pass_of : (List ℕ → ℕ) → List ℕ → ReadPass → ReadPass
read_pass_of find s p = read_pass_for p.state.left find s p
