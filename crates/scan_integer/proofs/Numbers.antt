-- Digits and integers at a place, one place at a time, and in the form in which the check applies them at a need.
use Rattle.std.specs.Prelude.{Option, Some, None}
use Prim.Native.Nat.{ℕ, zero, suc, ◌+◌, ◌-◌, ◌*◌, ◌≤◌, ◌<◌, min}
use native.Mathlib.Omega.{arith}
use native.Mathlib.Nat.{zero-add}
use mathlib.Core.Bool.{Bool, true, false}
use mathlib.Core.List.{List, [], ◌∷◌}
use mathlib.Core.Path.{◌≡◌, refl, sym, ap, ◌∙◌}
use borrow.Author.Tests.{eq-eqb, ne_eqb}
use lib.Dec.{eqb}
use lib.ListN.{length, drop, get_or, drop_of_length-le}
use Rattle.rules.specs.Bytes.{span, is_digit, digits, value, signed, integer, moved}
use Rattle.laws.proofs.Cases.{on}
use Rattle.laws_scan.proofs.Walk.{cons_at}
use Rattle.scan_lex.specs.At.{run_end}
use Rattle.scan_lex.proofs.Runs.{run_on, inside}
use Rattle.scan_integer.specs.At.{cut, number_of, integer_at}
use Rattle.scan_integer.specs.Parts.{value_from, digits_at, signed_at}
use Rattle.scan_integer.specs.declared.Number.{Number}

-- ---- digits: some number has been read, and v is that number, cut

module _ (n : ℕ) (s : List ℕ) (i : ℕ) where
  value_on : i < length s → is_digit (get_or s i 0) ≡ true → value_from n s i ≡ value_from (n * 10 + (get_or s i 0 - 48)) s (i + 1)
  unfolding value value_from
  value_on h e = rw (cons_at s i h, e)

  pub value_off : i < length s → is_digit (get_or s i 0) ≡ false → value_from n s i ≡ n
  unfolding value value_from
  value_off h e = rw (cons_at s i h, e)

  pub value_out : length s ≤ i → value_from n s i ≡ n
  unfolding value value_from
  value_out h = rw (drop_of_length-le s h)

pub record Read (s : List ℕ) (at i v : ℕ) : Type 0 where
  pub number : ℕ
  pub rest : value_from 0 s at ≡ value_from number s i
  pub capped : v ≡ min number 100000000
  pub end : run_end is_digit s at ≡ run_end is_digit s i

pub read_none : (s : List ℕ) (at : ℕ) → Read s at at 0
read_none s at = record { number = 0; rest = refl; capped = refl; end = refl }

module _ (s : List ℕ) (at i v : ℕ) (r : Read s at i v) where
  pub read_more : (t : Bool) (w : ℕ) → i < length s → t ≡ is_digit (get_or s i 0) → t ≡ true → w ≡ min (v * 10 + (get_or s i 0 - 48)) 100000000 → Read s at (i + 1) w
  read_more t w h e f g = record {
    number = r.number * 10 + (get_or s i 0 - 48);
    rest = r.rest ∙ value_on r.number s i h (sym e ∙ f);
    capped = omega arith;
    end = r.end ∙ run_on is_digit s i h (sym e ∙ f);
  }

-- ---- an integer

module _ (s : List ℕ) (at : ℕ) (d : Number) (g : d ≡ digits_at s at) where
  size : d.value ≡ min (value 0 (drop at s)) 100000000
  unfolding value_from
  size = rw g

  end : d.next ≡ at + digits (drop at s)
  unfolding run_end
  end = rw g

  pub signed-missing : (negative : Bool) → d.next ≤ at → None ≡ signed_at negative s at
  unfolding signed_at
  signed-missing negative l = rw (eq-eqb (digits (drop at s)) 0 (omega (arith, end)))

  module _ (negative : Bool) (l : at < d.next) where
    some_digit : digits (drop at s) ≡ 0 → ⊥
    some_digit e = omega (arith, end)

    pub signed-negative : negative ≡ true → Some (record { value = 100000000 - d.value; next = d.next }) ≡ signed_at negative s at
    unfolding signed_at
    signed-negative n = rw (n, ne_eqb (digits (drop at s)) 0 some_digit, zero-add, end, size) (ap (λ (v : ℕ). Some (record { value = v; next = at + digits (drop at s) })) (omega arith))

    pub signed-plain : negative ≡ false → Some (record { value = 100000000 + d.value; next = d.next }) ≡ signed_at negative s at
    unfolding signed_at
    signed-plain n = rw (n, ne_eqb (digits (drop at s)) 0 some_digit, zero-add, end, size) (ap (λ (v : ℕ). Some (record { value = v; next = at + digits (drop at s) })) (omega arith))

behind-minus : (m : Bool) (at : ℕ) (r : List ℕ) → number_of at (signed m 1 r) ≡ number_of (at + 1) (signed m 0 r)
behind-minus m at r =
    on (eqb (digits r) 0) (λ e. rw e) (λ e. rw e (ap (λ (i : ℕ). Some (record { value = cut (moved (record { neg = m; mag = value 0 r })); next = i })) (omega arith)))

module _ (s : List ℕ) (at b : ℕ) (q : Option Number) (p : b ≡ get_or s at 0) where
  pub integer-negative : b ≡ 45 → q ≡ signed_at true s (at + 1) → q ≡ integer_at s at
  unfolding integer_at integer signed_at
  integer-negative e f =
      let h : at < length s = inside s at 44 (sym p ∙ e) in
      rw (f, cons_at s at h, ← p, e) (sym (behind-minus true at (drop (at + 1) s)))

integer-first : (s : List ℕ) (at : ℕ) → (get_or s at 0 ≡ 45 → ⊥) → integer (drop at s) ≡ signed false 0 (drop at s)
unfolding integer span
integer-first [] zero n = refl
integer-first [] (suc at) n = refl
integer-first (a ∷ s) zero n = rw (ne_eqb a 45 n)
integer-first (a ∷ s) (suc at) n = integer-first s at n

pub integer-plain : (s : List ℕ) (at b : ℕ) (q : Option Number) → b ≡ get_or s at 0 → (b ≡ 45 → ⊥) → q ≡ signed_at false s at → q ≡ integer_at s at
unfolding integer_at signed_at
integer-plain s at b q p n f = rw (f, integer-first s at (λ e. n (p ∙ e)))

pub ruleset reading = (value_off, value_out, read_none, read_more)

pub ruleset numbers = (signed-missing, signed-negative, signed-plain, integer-negative, integer-plain)
