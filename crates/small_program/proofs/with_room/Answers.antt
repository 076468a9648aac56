-- The length of the buffer is answered by hand: a list of 1,048,577 is not to be computed.
use Rattle.std.proofs.Common.{ℕ, sym}
use Rattle.std.proofs.lemmas.List.{length-replicate}
use Rattle.small_program.proofs.with_room.Goals as goal

pub slice_bounds-load_all-end : goal.slice_bounds-load_all-end
slice_bounds-load_all-end g c = sym (length-replicate {A = ℕ} 1048577 0)
