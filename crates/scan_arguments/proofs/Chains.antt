-- Integers one behind the other, at places of the whole list: the first one, and what is read behind it.
use Rattle.std.specs.Prelude.{if◌then◌else◌, Option, Some, None, Result, Ok, Err}
use Prim.Native.Nat.{ℕ, zero, suc, ◌+◌}
use mathlib.Core.Bool.{◌||◌}
use mathlib.Core.List.{List, [], ◌∷◌, map}
use mathlib.Core.Path.{◌≡◌, refl, ap, ◌∙◌}
use lib.Dec.{eqb}
use lib.ListN.{length, drop, get_or}
use lib.Seq.{drop-drop}
use Rattle.rules.specs.Bytes.{is_space, is_digit, unspaced, Num, Int, no_int, int, integer, moved, Nums, short, nums, with_num, after_int, integers, is_present, perhaps_integer}
use Rattle.rules.specs.declared.Refusal.{Refusal}
use Rattle.rules.specs.Answers.{refusal, and_then}
use Rattle.scan_lex.specs.At.{run_end}
use Rattle.scan_integer.specs.At.{cut, number_of, integer_at}
use Rattle.scan_arguments.specs.At.{one_of, one_at, due_of, due_at, args_at, perhaps_of, perhaps_at}
use Rattle.scan_arguments.specs.Parts.{present_at}
use Rattle.scan_integer.specs.declared.Number.{Number}
use Rattle.scan_arguments.specs.declared.Argument.{Argument}
use Rattle.scan_lex.proofs.Runs.{unspaced_at}
use Rattle.laws.proofs.Cases.{on}

-- the place behind a spacer
abbrev pub behind : List ℕ → ℕ → ℕ
behind s i = run_end is_space s i

-- n integers from a place on
abbrev pub ints : List ℕ → ℕ → ℕ → Nums
ints s n i = integers n i (drop i s)

-- an integer at a place, and what is read behind it
abbrev pub then_at : ℕ → (ℕ → Nums) → Int → Nums
then_at k go no_int = short
then_at k go (int n l) = with_num n k (go (k + l))

pub after_at : (s : List ℕ) (k : ℕ) (go : ℕ → List ℕ → Nums) (x : Int) → after_int k (drop k s) go x ≡ then_at k (λ j. go j (drop j s)) x
after_at s k go no_int = refl
after_at s k go (int n l) = ap (λ (t : List ℕ). with_num n k (go (k + l) t)) (drop-drop l k s)

module _ (s : List ℕ) (i : ℕ) where
  pub after_spaced : (go : ℕ → List ℕ → Nums) →
      after_int (behind s i) (unspaced (drop i s)) go (integer (unspaced (drop i s))) ≡ then_at (behind s i) (λ j. go j (drop j s)) (integer (drop (behind s i) s))
  after_spaced go = rw (unspaced_at s i) (after_at s (behind s i) go (integer (drop (behind s i) s)))

  pub ints_more : (n : ℕ) → ints s (suc n) i ≡ then_at (behind s i) (ints s n) (integer (drop (behind s i) s))
  unfolding integers run_end
  ints_more n = after_spaced (λ j t. integers n j t)

-- ---- one integer

abbrev pub one_from : ℕ → Option Number → Option Argument
one_from k None = None
one_from k (Some n) = Some (record { number = n.value; place = k; next = n.next })

one_first : (s : List ℕ) (k : ℕ) (x : Int) → one_of (then_at k (ints s 0) x) ≡ one_from k (number_of k x)
unfolding integers
one_first s k no_int = refl
one_first s k (int n l) = refl

pub one_is : (s : List ℕ) (i : ℕ) → one_at s i ≡ one_from (behind s i) (integer_at s (behind s i))
unfolding one_at integer_at
one_is s i = ap one_of (ints_more s i 0) ∙ one_first s (behind s i) (integer (drop (behind s i) s))

-- ---- arguments that are due: what a chain of them answers, by what the definitions read at its place

module _ {R : Type 0} (at : ℕ) (s : List ℕ) where
  -- P holds of what is read and what is answered: where there is no argument, and where there is one
  pub by_first : (n i : ℕ) (f : Argument → Result R Refusal) (P : Nums → Result R Refusal → Type 0)
      → P short (Err (refusal 4 at))
      → ((a : Argument) (m : Num) → a.number ≡ cut (moved m) → P (with_num m a.place (ints s n a.next)) (f a))
      → P (ints s (suc n) i) (and_then (due_at at s i) f)
  unfolding integer_at
  by_first n i f P none some = rw (ints_more s i n, one_is s i) (go (integer (drop (behind s i) s)))
    where
      go : (x : Int) → P (then_at (behind s i) (ints s n) x) (and_then (due_of at (one_from (behind s i) (number_of (behind s i) x))) f)
      go no_int = none
      go (int m l) = some (record { number = cut (moved m); place = behind s i; next = behind s i + l }) m refl

  pub by_one : (i : ℕ) (f : Argument → Result R Refusal) (P : Nums → Result R Refusal → Type 0)
      → P short (Err (refusal 4 at))
      → ((a : Argument) (m : Num) → a.number ≡ cut (moved m) → P (nums (m ∷ []) (a.place ∷ []) a.next (drop a.next s)) (f a))
      → P (ints s 1 i) (and_then (due_at at s i) f)
  unfolding integers
  by_one i f P none some = by_first 0 i f P none some

  pub by_two : (i : ℕ) (f : Argument → Argument → Result R Refusal) (P : Nums → Result R Refusal → Type 0)
      → P short (Err (refusal 4 at))
      → ((a b : Argument) (m n : Num) → a.number ≡ cut (moved m) → b.number ≡ cut (moved n)
      → P (nums (m ∷ n ∷ []) (a.place ∷ b.place ∷ []) b.next (drop b.next s)) (f a b))
      → P (ints s 2 i) (and_then (due_at at s i) (λ a. and_then (due_at at s a.next) (f a)))
  by_two i f P none some =
      by_first 1 i (λ a. and_then (due_at at s a.next) (f a)) P none
      (λ a m g. by_one a.next (f a) (λ x r. P (with_num m a.place x) r) none (λ b n h. some a b m n g h))

  pub by_three : (i : ℕ) (f : Argument → Argument → Argument → Result R Refusal) (P : Nums → Result R Refusal → Type 0)
      → P short (Err (refusal 4 at))
      → ((a b c : Argument) (m n o : Num) → a.number ≡ cut (moved m) → b.number ≡ cut (moved n) → c.number ≡ cut (moved o)
      → P (nums (m ∷ n ∷ o ∷ []) (a.place ∷ b.place ∷ c.place ∷ []) c.next (drop c.next s)) (f a b c))
      → P (ints s 3 i) (and_then (due_at at s i) (λ a. and_then (due_at at s a.next) (λ b. and_then (due_at at s b.next) (f a b))))
  by_three i f P none some =
      by_first 2 i (λ a. and_then (due_at at s a.next) (λ b. and_then (due_at at s b.next) (f a b))) P none
      (λ a m g. by_two a.next (f a) (λ x r. P (with_num m a.place x) r) none (λ b c n o h k. some a b c m n o g h k))

  pub by_four : (i : ℕ) (f : Argument → Argument → Argument → Argument → Result R Refusal) (P : Nums → Result R Refusal → Type 0)
      → P short (Err (refusal 4 at))
      → ((a b c d : Argument) (m n o p : Num) → a.number ≡ cut (moved m) → b.number ≡ cut (moved n) → c.number ≡ cut (moved o) → d.number ≡ cut (moved p)
      → P (nums (m ∷ n ∷ o ∷ p ∷ []) (a.place ∷ b.place ∷ c.place ∷ d.place ∷ []) d.next (drop d.next s)) (f a b c d))
      → P (ints s 4 i) (and_then (due_at at s i) (λ a. and_then (due_at at s a.next) (λ b. and_then (due_at at s b.next) (λ c. and_then (due_at at s c.next) (f a b c)))))
  by_four i f P none some =
      by_first 3 i (λ a. and_then (due_at at s a.next) (λ b. and_then (due_at at s b.next) (λ c. and_then (due_at at s c.next) (f a b c)))) P none
      (λ a m g. by_three a.next (f a) (λ x r. P (with_num m a.place x) r) none (λ b c d n o p h k l. some a b c d m n o p g h k l))

-- ---- n arguments that are due

abbrev pub numbers : List Argument → List ℕ
numbers xs = map (λ (a : Argument). a.number) xs

abbrev pub places : List Argument → List ℕ
places xs = map (λ (a : Argument). a.place) xs

-- the place behind arguments from a place on
abbrev pub end_of : ℕ → List Argument → ℕ
end_of i [] = i
end_of i (a ∷ xs) = end_of a.next xs

-- what x is, n integers that were read from s at a place: those of the arguments
pub record ArgsAre (s : List ℕ) (n i : ℕ) (x : Nums) (xs : List Argument) : Type 0 where
  pub all : List Num
  pub are : x ≡ nums all (places xs) (end_of i xs) (drop (end_of i xs) s)
  pub sizes : numbers xs ≡ map (λ (m : Num). cut (moved m)) all
  pub count : length xs ≡ n

abbrev pub ArgsNums : ℕ → List ℕ → ℕ → ℕ → Nums → Result (List Argument) Refusal → Type 0
ArgsNums at s n i x (Err r) = (x ≡ short) × (r ≡ refusal 4 at)
ArgsNums at s n i x (Ok xs) = ArgsAre s n i x xs

module _ (at : ℕ) (s : List ℕ) where
  pub args_nums : (n i : ℕ) → ArgsNums at s n i (ints s n i) (args_at n at s i)
  unfolding integers args_at
  args_nums zero i = record { all = []; are = refl; sizes = refl; count = refl }
  args_nums (suc n) i =
      by_first at s n i (λ a. and_then (args_at n at s a.next) (λ xs. Ok (a ∷ xs))) (ArgsNums at s (suc n) i) (refl, refl)
      (λ a m g. more a m g (ints s n a.next) (args_at n at s a.next) (args_nums n a.next))
    where
      more : (a : Argument) (m : Num) → a.number ≡ cut (moved m) → (x : Nums) (q : Result (List Argument) Refusal) → ArgsNums at s n a.next x q
          → ArgsNums at s (suc n) i (with_num m a.place x) (and_then q (λ xs. Ok (a ∷ xs)))
      more a m g x (Err r) h = (ap (with_num m a.place) h.0, h.1)
      more a m g x (Ok xs) h = record { all = m ∷ h.all; are = ap (with_num m a.place) h.are; sizes = rw (g, h.sizes); count = ap suc h.count }

  pub args_none : (i : ℕ) → args_at 0 at s i ≡ Ok []
  unfolding args_at
  args_none i = refl

  pub args_more : (n i : ℕ) → args_at (suc n) at s i ≡ and_then (due_at at s i) (λ a. and_then (args_at n at s a.next) (λ xs. Ok (a ∷ xs)))
  unfolding args_at
  args_more n i = refl

-- ---- whether an integer is present

present_byte : (s : List ℕ) (i : ℕ) → is_present (drop i s) ≡ (eqb (get_or s i 0) 45 || is_digit (get_or s i 0))
present_byte [] zero = refl
present_byte [] (suc i) = refl
present_byte (a ∷ s) zero = refl
present_byte (a ∷ s) (suc i) = present_byte s i

pub present_is : (s : List ℕ) (i : ℕ) → present_at s i ≡ (eqb (get_or s (behind s i) 0) 45 || is_digit (get_or s (behind s i) 0))
unfolding present_at
present_is s i = rw (unspaced_at s i) (present_byte s (behind s i))

module _ (at : ℕ) (s : List ℕ) (i : ℕ) where
  pub perhaps_is : perhaps_at at s i ≡ (if present_at s i then and_then (due_at at s i) (λ a. Ok (Some a)) else Ok None)
  unfolding perhaps_at perhaps_integer present_at
  perhaps_is =
      on (is_present (unspaced (drop i s)))
      (λ e. rw e (by_one at s i (λ a. Ok (Some a)) (λ x r. perhaps_of at x ≡ r) refl (λ a m g. rw g)))
      (λ e. rw e)

  -- as of an argument that is due
  pub by_perhaps : (P : Nums → Result (Option Argument) Refusal → Type 0)
      → P short (Err (refusal 4 at))
      → P (nums [] [] i (drop i s)) (Ok None)
      → ((a : Argument) (m : Num) → a.number ≡ cut (moved m) → P (nums (m ∷ []) (a.place ∷ []) a.next (drop a.next s)) (Ok (Some a)))
      → P (perhaps_integer i (drop i s)) (perhaps_at at s i)
  unfolding perhaps_integer present_at
  by_perhaps P none absent some =
      rw perhaps_is (on (is_present (unspaced (drop i s))) (λ e. rw e (by_one at s i (λ a. Ok (Some a)) P none some)) (λ e. rw e absent))
