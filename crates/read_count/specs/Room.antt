-- Room in the rows.
use Rattle.std.specs.Prelude.{◌-◌, Bool, true, leb, ltb}
use Rattle.read_model.specs.declared.State.{State}
use Rattle.read_model.specs.declared.Emitted.{Emitted}
use Rattle.read_model.specs.declared.Emitted.TheVariants as E

-- whether the rows have room for what a command gives
abbrev pub has_room : State → Emitted → Bool
has_room st E.Nothing = true
has_room st (E.Record r) = ltb st.records st.rmax
has_room st (E.Entry x) = ltb st.entries st.emax
has_room st (E.Word w) = leb w.left (st.rmax - st.records)
