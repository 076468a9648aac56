-- The slot of a name is one of 32, or 32 where there is none.
use Prim.Native.Nat.{ℕ, zero, suc, ◌≤◌}
use native.Mathlib.Omega.{arith}
use mathlib.Core.List.{List}
use mathlib.Core.Path.{◌≡◌}
use lib.ListN.{take, drop}
use Rattle.rules.specs.Bytes.{same}
use Rattle.laws.proofs.Cases.{if_both}
use Rattle.widths_table.specs.Slots.{name_at, slot_in}
use Rattle.read_mount.specs.Mounts.{find_in}

slot_most : (list ps ls n : List ℕ) (k : ℕ) → k ≤ 32 → slot_in list ps ls k n ≤ 32
unfolding slot_in
slot_most list ps ls n zero h = omega arith
slot_most list ps ls n (suc k) h = if_both (λ (x : ℕ). x ≤ 32) (same (name_at list ps ls k) n) k (slot_in list ps ls k n) (omega arith) (slot_most list ps ls n k (omega arith))

pub found_most : (list ws n : List ℕ) (fonts r : ℕ) → r ≡ find_in list fonts ws n → fonts ≤ 32 → r ≤ 32
found_most list ws n fonts r e h = rw e (slot_most list (take 32 (drop 8704 ws)) (take 32 (drop 8736 ws)) n fonts h)
