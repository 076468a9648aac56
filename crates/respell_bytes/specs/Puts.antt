-- What is put on a lent sheet.
use Rattle.std.specs.Prelude.{ℕ, List, ◌≡◌}
use Rattle.respell_bytes.specs.declared.Sheet.{Sheet as Lent}
use Rattle.respell_model.specs.Sheet.{Sheet, put, put_all}

abbrev pub sheet_of : Lent → Sheet
sheet_of p = record { bytes = p.bytes.now; at = p.at }

-- a byte, or a text; the buffer is the same one
abbrev pub PutsByte : ℕ → Lent → Lent → Type 0
PutsByte b old new = (sheet_of new ≡ put b (sheet_of old)) × (new.bytes.ghost_name ≡ old.bytes.ghost_name)

abbrev pub Puts : List ℕ → Lent → Lent → Type 0
Puts t old new = (sheet_of new ≡ put_all t (sheet_of old)) × (new.bytes.ghost_name ≡ old.bytes.ghost_name)
