-- The commands of a spelling are the acts that were spelled, each at its place.
use Prim.Native.Nat.{ℕ, suc, ◌+◌, ◌-◌}
use native.Mathlib.Omega.{arith}
use native.Mathlib.Nat.{add-zero}
use mathlib.Core.Bool.{false}
use mathlib.Core.List.{List, [], ◌∷◌, ◌++◌, map, append_assoc}
use mathlib.Core.Path.{◌≡◌, refl, sym, ap, ◌∙◌}
use lib.ListN.{length}
use Rattle.rules.specs.Bytes.{is, is_white}
use Rattle.rules.specs.Act.{across, down, Act, glyph, index, to, by, page, font, size, colour, break, space, draw, device, resolution, init, file, mount, plain, raw, stop, Cmd, just}
use Rattle.rules.specs.Scan.{got, Cmds, done, next, commands, bare}
use Rattle.rules.specs.House.{spell_act, spell_all}
use Rattle.laws.proofs.Good.{AllGood, Ended}
use Rattle.laws_print.proofs.Back.{NoPlus, scan, name_at, scan_back}

-- ---- one command

-- the bytes of a command are passed
commands_skip : (p r : List ℕ) (at : ℕ) → commands at (length p) (p ++ r) ≡ commands (at + length p) 0 r
unfolding commands
commands_skip [] r at = rw add-zero
commands_skip (x ∷ p) r at = commands_skip p r (at + 1) ∙ ap (λ (k : ℕ). commands k 0 r) (omega arith)

less_one : (n : ℕ) → suc n - 1 ≡ n
less_one n = omega arith

-- the first byte begins a command, and adds no line to the text of an `x X` before it
abbrev Begins : List ℕ → Type 0
Begins [] = ⊥
Begins (b ∷ t) = (is_white b ≡ false) × (is "#" b ≡ false) × (is "+" b ≡ false)

begins_no_plus : (l r : List ℕ) → Begins l → NoPlus (l ++ r)
begins_no_plus [] r h = absurd h
begins_no_plus (b ∷ t) r h = h.2

commands_one : (at : ℕ) (l r : List ℕ) (c : Cmd) (a : ℕ) → Begins l → scan (l ++ r) ≡ got c a (length l)
    → commands at 0 (l ++ r) ≡ next c at (at + a) (length l) (commands (at + length l) 0 r)
unfolding commands
commands_one at [] r c a h e = absurd h
commands_one at (b ∷ t) r c a h e =
    rw (h.0, h.1, e, less_one (length t), commands_skip t r (at + 1))
    (ap (λ (k : ℕ). next c at (at + a) (suc (length t)) (commands k 0 r)) (omega arith))

begins : (a : Act) → Begins (spell_act a)
unfolding spell_act
begins (glyph []) = (refl, refl, refl)
begins (glyph (b ∷ [])) = (refl, refl, refl)
begins (glyph (b ∷ c ∷ n)) = (refl, refl, refl)
begins (index n) = (refl, refl, refl)
begins (to across n) = (refl, refl, refl)
begins (to down n) = (refl, refl, refl)
begins (by across n) = (refl, refl, refl)
begins (by down n) = (refl, refl, refl)
begins (page n) = (refl, refl, refl)
begins (font n) = (refl, refl, refl)
begins (size n) = (refl, refl, refl)
begins (colour c ns) = (refl, refl, refl)
begins break = (refl, refl, refl)
begins space = (refl, refl, refl)
begins (draw s ns) = (refl, refl, refl)
begins (device n) = (refl, refl, refl)
begins (resolution n h v) = (refl, refl, refl)
begins init = (refl, refl, refl)
begins (file n) = (refl, refl, refl)
begins (mount n m) = (refl, refl, refl)
begins (plain c ns) = (refl, refl, refl)
begins (raw t) = (refl, refl, refl)
begins stop = (refl, refl, refl)

-- ---- all commands

-- the acts of a list, as they stand in its spelling, which begins at a place
abbrev pub placed : ℕ → List Act → Cmds
placed at [] = done at
placed at (a ∷ xs) = next (just a) at (at + name_at a) (length (spell_act a)) (placed (at + length (spell_act a) + 1) xs)

-- the first line of a spelling adds nothing to a text before it
pub no_plus : (xs : List Act) → NoPlus (spell_all xs)
unfolding spell_all
no_plus [] = tt
no_plus (a ∷ xs) = begins_no_plus (spell_act a) (10 ∷ spell_all xs) (begins a)

pub round_trip_lem : (xs : List Act) → AllGood xs → (at : ℕ) → commands at 0 (spell_all xs) ≡ placed at xs
unfolding spell_all commands
round_trip_lem [] h at = refl
round_trip_lem (a ∷ xs) h at =
    rw (
      commands_one at (spell_act a) (10 ∷ spell_all xs) (just a) (name_at a) (begins a) (scan_back a (spell_all xs) h.0 (no_plus xs)),
      round_trip_lem xs h.1 (at + length (spell_act a) + 1),
    )

pub bare-placed : (xs : List Act) (at : ℕ) → bare (placed at xs) ≡ map just xs
bare-placed [] at = refl
bare-placed (a ∷ xs) at = ap (λ (l : List Cmd). just a ∷ l) (bare-placed xs (at + length (spell_act a) + 1))

pub placed-ended : (xs : List Act) (at : ℕ) → Ended (placed at xs)
placed-ended [] at = tt
placed-ended (a ∷ xs) at = placed-ended xs (at + length (spell_act a) + 1)

pub spell_all-append : (xs ys : List Act) → spell_all (xs ++ ys) ≡ spell_all xs ++ spell_all ys
unfolding spell_all
spell_all-append [] ys = refl
spell_all-append (a ∷ xs) ys =
    ap (λ (l : List ℕ). spell_act a ++ 10 ∷ l) (spell_all-append xs ys) ∙ sym (append_assoc (spell_act a) (10 ∷ spell_all xs) (spell_all ys))
