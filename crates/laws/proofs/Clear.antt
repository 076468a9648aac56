-- Names without a barred byte (2026-06), and the stage that asks for them.
use Prim.Native.Nat.{ℕ}
use native.Mathlib.Omega.{arith}
use mathlib.Core.Bool.{true, false, not, ◌&&◌, ◌||◌}
use mathlib.Core.List.{List, [], ◌∷◌}
use mathlib.Core.Logic.{inl, inr}
use mathlib.Core.Path.{◌≡◌, refl, sym, ◌∙◌}
use borrow.Author.Tests.{leb-true, le-leb, eqb-true}
use lib.Dec.{leb, eqb}
use Rattle.rules.specs.Bytes.{is_barred, is_clear}
use Rattle.rules.specs.Act.{Cmd}
use Rattle.rules.specs.Scan.{name_in, Scan, got, bad, cleared}
use Rattle.laws.specs.Barred.{Barred, NoBarred, SomeBarred}
use Rattle.laws.proofs.Cases.{on, no, if_both, and_left, and_right, or_true}

-- ---- one byte: the rules' test

pub barred_true : (b : ℕ) → Barred b → is_barred b ≡ true
barred_true b (inl h) = rw (le-leb b 8 h)
barred_true b (inr (inl h)) = or_true (leb b 8) (leb 11 b && leb b 31 || eqb b 127) (rw (le-leb 11 b h.0, le-leb b 31 h.1))
barred_true b (inr (inr h)) = rw h

pub true_barred : (b : ℕ) → is_barred b ≡ true → Barred b
true_barred b h =
    on (leb b 8) (λ e. inl (leb-true b 8 e)) (λ e.
    on (leb 11 b && leb b 31)
    (λ f. inr (inl (leb-true 11 b (and_left (leb 11 b) (leb b 31) f), leb-true b 31 (and_right (leb 11 b) (leb b 31) f))))
    (λ f. inr (inr (eqb-true b 127 (rw (e, f) at h)))))

-- ---- a name

pub clear_none : (n : List ℕ) → is_clear n ≡ true → NoBarred n
clear_none [] h = tt
clear_none (b ∷ n) h =
    on (is_barred b) (λ e. no (rw e at h)) (λ e. (λ x. no (sym e ∙ barred_true b x), clear_none n (rw e at h)))

pub none_clear : (n : List ℕ) → NoBarred n → is_clear n ≡ true
none_clear [] h = refl
none_clear (b ∷ n) h = on (is_barred b) (λ e. absurd (h.0 (true_barred b e))) (λ e. rw e (none_clear n h.1))

pub unclear_some : (n : List ℕ) → is_clear n ≡ false → SomeBarred n
unclear_some [] h = no (sym h)
unclear_some (b ∷ n) h = on (is_barred b) (λ e. inl (true_barred b e)) (λ e. inr (unclear_some n (rw e at h)))

pub some_unclear : (n : List ℕ) → SomeBarred n → is_clear n ≡ false
some_unclear [] h = absurd h
some_unclear (b ∷ n) (inl h) = rw (barred_true b h)
some_unclear (b ∷ n) (inr h) = on (is_barred b) (λ e. rw e) (λ e. rw e (some_unclear n h))

-- the first byte of a clear name, and the others
pub clear_one : (b : ℕ) (n : List ℕ) → is_clear (b ∷ n) ≡ true → is_clear (b ∷ []) ≡ true
clear_one b n h = rw (and_left (not (is_barred b)) (is_clear n) h)

pub clear_rest : (b : ℕ) (n : List ℕ) → is_clear (b ∷ n) ≡ true → is_clear n ≡ true
clear_rest b n h = and_right (not (is_barred b)) (is_clear n) h

-- ---- the stage

-- what was got is clear, and is what was put together
pub cleared-got : (c : Cmd) (a l : ℕ) (x : Cmd) (n m : ℕ) → cleared c a l ≡ got x n m → (is_clear (name_in c) ≡ true) × (got c a l ≡ got x n m)
cleared-got c a l x n m e =
    on (is_clear (name_in c)) (λ h. (h, rw h at e)) (λ h. let f : bad 16 0 ≡ got x n m = rw h at e in let z : ◌≡◌ {A = ℕ} 0 1 = cc in absurd (omega arith))

-- what holds of the command and of the refusal holds behind the stage
pub cleared_both : (P : Scan → Type 0) (c : Cmd) (a l : ℕ) → P (got c a l) → P (bad 16 0) → P (cleared c a l)
cleared_both P c a l f g = if_both P (is_clear (name_in c)) (got c a l) (bad 16 0) f g
