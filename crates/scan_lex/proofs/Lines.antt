-- The lines of a list one line further, and what stands behind a key.
use Prim.Native.Nat.{ℕ, zero, suc, ◌+◌, ◌-◌, ◌≤◌, ◌<◌}
use native.Mathlib.Omega.{arith}
use native.Mathlib.Nat.{add-zero}
use native.Mathlib.Numerals.{add-one}
use mathlib.Core.Bool.{true, false, false≢true}
use mathlib.Core.List.{List, [], ◌∷◌}
use mathlib.Core.Option.{none, some}
use mathlib.Core.Path.{◌≡◌, refl, sym, ◌∙◌}
use lib.Dec.{ltb, eqb}
use lib.ListN.{length, take, drop, length-drop, drop_of_length-le}
use lib.Seq.{drop-drop, take_all, take-nil}
use borrow.Author.Tests.{ltb-true, ltb-false, lt-ltb, le-ltb}
use Rattle.rules.specs.Bytes.{is, same, is_not_newline, span, one_line}
use Rattle.rules.specs.Widths.{Line, with_byte, lines_from, behind}
use Rattle.laws.proofs.Cases.{on}
use Rattle.scan_lex.specs.At.{run_end}
use Rattle.scan_lex.proofs.Runs.{run_from}

-- ---- lines

ltb_suc : (m n : ℕ) → ltb (suc m) (suc n) ≡ ltb m n
ltb_suc m n =
    on (ltb m n)
    (λ e. rw e (lt-ltb (suc m) (suc n) (omega (arith, ltb-true m n e))))
    (λ e. rw e (le-ltb (suc m) (suc n) (omega (arith, ltb-false m n e))))

ltb_shift : (a k n : ℕ) → ltb k (n - a) ≡ ltb (a + k) n
ltb_shift a k n =
    on (ltb k (n - a))
    (λ e. rw e (sym (lt-ltb (a + k) n (omega (arith, ltb-true k (n - a) e)))))
    (λ e. rw e (sym (le-ltb (a + k) n (omega (arith, ltb-false k (n - a) e)))))

-- the line from a place on, when n of its bytes stand at the front of r, and what comes behind it
abbrev line_at : ℕ → ℕ → List ℕ → List Line
line_at at n r = record { place = at; text = take n r; ended = ltb n (length r) } ∷ lines_from (suc (at + n)) (drop (suc n) r)

module _ (at b : ℕ) (r : List ℕ) where
  at_newline : is "\n" b ≡ true → lines_from at (b ∷ r) ≡ line_at at (one_line (b ∷ r)) (b ∷ r)
  unfolding lines_from span
  at_newline e = rw (e, add-zero, add-one at, lt-ltb 0 (suc (length r)) (omega arith))

  at_byte : is "\n" b ≡ false → lines_from at (b ∷ r) ≡ with_byte at b (lines_from (at + 1) r)
  unfolding lines_from
  at_byte e = rw e

  one_more : is "\n" b ≡ false → one_line (b ∷ r) ≡ suc (one_line r)
  unfolding span
  one_more e = rw e

at_last : (at b : ℕ) → is "\n" b ≡ false → lines_from at (b ∷ []) ≡ line_at at (one_line (b ∷ [])) (b ∷ [])
unfolding lines_from span
at_last at b e = rw e

line_of : (at b : ℕ) (r : List ℕ) → lines_from at (b ∷ r) ≡ line_at at (one_line (b ∷ r)) (b ∷ r)
line_of at b [] = on (is "\n" b) (at_newline at b []) (at_last at b)
line_of at b (a ∷ r) =
    let k : ℕ = one_line (a ∷ r) in
    let z : at + 1 + k ≡ at + suc k = omega arith in
    on (is "\n" b)
    (at_newline at b (a ∷ r))
    (λ e. at_byte at b (a ∷ r) e ∙ rw (line_of (at + 1) a r, one_more at b (a ∷ r) e, z, ltb_suc k (suc (length r))))

-- the first line of the bytes r, which stand at a place, and the lines behind it
pub line_first : (at : ℕ) (r : List ℕ) → 0 < length r
    → lines_from at r ≡ record { place = at; text = take (one_line r) r; ended = ltb (one_line r) (length r) } ∷ lines_from (at + one_line r + 1) (drop (one_line r + 1) r)
line_first at [] h = absurd (omega arith)
line_first at (b ∷ r) h = rw (add-one (at + one_line (b ∷ r)), add-one (one_line (b ∷ r))) (line_of at b r)

-- the same from a place of s on, whose line ends at e
pub line_at_lem : (s : List ℕ) (at e : ℕ) → at < length s → e ≡ run_end is_not_newline s at
    → lines_from at (drop at s) ≡ record { place = at; text = take (e - at) (drop at s); ended = ltb e (length s) } ∷ lines_from (e + 1) (drop (e + 1) s)
unfolding run_end
line_at_lem s at e h p =
    let k : ℕ = one_line (drop at s) in
    let l : length (drop at s) ≡ length s - at = length-drop at s in
    let z : at + k - at ≡ k = omega arith in
    let a : at + (k + 1) ≡ at + k + 1 = omega arith in
    let d : drop (k + 1) (drop at s) ≡ drop (at + k + 1) s = rw (← a) (drop-drop (k + 1) at s) in
    line_first at (drop at s) (omega arith) ∙ rw (p, z, d, l, ltb_shift at k (length s))

pub line_from : (s : List ℕ) (at e : ℕ) → e ≡ run_end is_not_newline s at → at ≤ e
line_from s at e p = omega (arith, run_from is_not_newline s at)

pub lines_none : (s : List ℕ) (at : ℕ) → length s ≤ at → lines_from at (drop at s) ≡ []
unfolding lines_from
lines_none s at h = rw (drop_of_length-le s h)

-- ---- keys

-- what stands behind a key: the key is compared with the front of the line
pub key_short : (key t : List ℕ) → length t < length key → behind key t ≡ none
unfolding behind
key_short [] t h = absurd (omega arith)
key_short (x ∷ xs) [] h = refl
key_short (x ∷ xs) (b ∷ t) h = on (eqb x b) (λ e. rw e (key_short xs t (omega arith))) (λ e. rw e)

pub key_on : (key t : List ℕ) → same key (take (length key) t) ≡ true → behind key t ≡ some (drop (length key) t)
unfolding behind same
key_on [] t h = refl
key_on (x ∷ xs) [] h = absurd (false≢true h)
key_on (x ∷ xs) (b ∷ t) h = on (eqb x b) (λ e. rw e (key_on xs t (rw e at h))) (λ e. absurd (false≢true (rw e at h)))

pub key_off : (key t : List ℕ) → same key (take (length key) t) ≡ false → behind key t ≡ none
unfolding behind same
key_off [] t h = absurd (false≢true (sym h))
key_off (x ∷ xs) [] h = refl
key_off (x ∷ xs) (b ∷ t) h = on (eqb x b) (λ e. rw e (key_off xs t (rw e at h))) (λ e. rw e)

-- what stands behind a key is the rest of the line
pub behind_some : (key t n : List ℕ) → behind key t ≡ some n → (n ≡ drop (length key) t) × (length key ≤ length t)
unfolding behind
behind_some [] t n h = (cc, omega arith)
behind_some (x ∷ xs) [] n h = absurd (let z : ◌≡◌ {A = ℕ} 0 1 = cc in omega arith)
behind_some (x ∷ xs) (b ∷ t) n h =
    on (eqb x b)
    (λ e. let i = behind_some xs t n (rw e at h) in (i.0, omega (arith, i.1)))
    (λ e. absurd (let k = rw e at h in let z : ◌≡◌ {A = ℕ} 0 1 = cc k in omega arith))

-- ---- the front and the rest of a text

pub drop-take : (k n : ℕ) (l : List ℕ) → drop k (take n l) ≡ take (n - k) (drop k l)
drop-take zero n l = let e : n - 0 ≡ n = omega arith in rw e
drop-take (suc k) zero l = let e : 0 - suc k ≡ 0 = omega arith in rw e
drop-take (suc k) (suc n) [] = sym (take-nil (suc n - suc k))
drop-take (suc k) (suc n) (x ∷ l) = let e : suc n - suc k ≡ n - k = omega arith in rw e (drop-take k n l)

pub rest_is : (k : ℕ) (t : List ℕ) → take (length t - k) (drop k t) ≡ drop k t
rest_is k t = take_all (length t - k) (drop k t) (omega (arith, length-drop k t))
