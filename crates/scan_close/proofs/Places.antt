-- A command closed and judged: from places of the command to places of the stream, and a limit's test of a number that is cut.
use Rattle.std.specs.Prelude.{Option as Maybe, Some, None, Result, Ok, Err}
use Prim.Native.Nat.{ℕ, ◌+◌, ◌-◌, ◌≤◌, ◌<◌}
use native.Mathlib.Omega.{arith}
use native.Mathlib.Nat.{add-zero}
use mathlib.Core.Bool.{Bool, true, false, and-false}
use mathlib.Core.List.{List, [], ◌∷◌, map}
use mathlib.Core.Option.{Option, none, some}
use mathlib.Core.Path.{◌≡◌, refl, sym, ap, ◌∙◌}
use borrow.Author.Tests.{le-leb, lt-leb, leb-true, leb-false}
use lib.Dec.{leb}
use lib.ListN.{length, drop}
use Rattle.rules.specs.Bytes.{Num, moved, origin, most, within, near, is_clear, Nums, short, nums, integers, perhaps_integer, many_integers}
use Rattle.rules.specs.Act.{Cmd}
use Rattle.rules.specs.Drawing.{is_paired, in_pairs}
use Rattle.rules.specs.Scan.{name_in, up_to, outside, cleared, judged_by, is_small}
use Rattle.rules.specs.declared.Refusal.{Refusal}
use Rattle.rules.specs.Answers.{refusal, asked, and_then}
use Rattle.laws.proofs.Cases.{on, and_right}
use Rattle.scan_command.specs.View.{cmd_of, command_of}
use Rattle.scan_command.specs.declared.Command.{Command}
use Rattle.scan_command.proofs.Shift.{shifted, integers_shift, many_shift, perhaps_shift}
use Rattle.scan_integer.specs.At.{cut}
use Rattle.scan_arguments.specs.At.{due_at, args_at, perhaps_at, sums_of, pairs_at}
use Rattle.scan_arguments.specs.declared.Argument.{Argument}
use Rattle.scan_arguments.specs.declared.Pairs.{Pairs}
use Rattle.scan_arguments.proofs.Chains.{by_one, by_two, by_three, by_four, by_perhaps, ArgsNums, args_nums}
use Rattle.scan_arguments.proofs.Many.{by_pairs}
use Rattle.scan_close.specs.Closed.{clear_or}

-- ---- integers whose places are those of the stream, as integers of the command

pub record Back (at : ℕ) (x : Nums) (ns : List Num) (ps : List ℕ) (n : ℕ) (t : List ℕ) : Type 0 where
  pub places : List ℕ
  pub end : ℕ
  pub are : x ≡ nums ns places end t
  pub from : map (λ (k : ℕ). at + k) places ≡ ps
  pub to : at + end ≡ n

module _ (at : ℕ) where
  pub short_back : (x : Nums) → shifted at x ≡ short → x ≡ short
  short_back short h = refl
  short_back (nums ns ks l t) h = let z : ◌≡◌ {A = ℕ} 0 1 = cc in absurd (omega arith)

  pub nums_back : (x : Nums) (ns : List Num) (ps : List ℕ) (n : ℕ) (t : List ℕ) → shifted at x ≡ nums ns ps n t → Back at x ns ps n t
  nums_back short ns ps n t h = let z : ◌≡◌ {A = ℕ} 0 1 = cc in absurd (omega arith)
  nums_back (nums ms ks l u) ns ps n t h = record { places = ks; end = l; are = cc; from = cc; to = cc }

-- A chain of arguments that are due, the first of them k bytes behind the command's first, by what the definitions read there: P holds
-- of what is read and what is answered, where an argument is missing, and where they all stand.
module _ {R : Type 0} (at : ℕ) (s : List ℕ) (k : ℕ) (P : Nums → Result R Refusal → Type 0) (missing : P short (Err (refusal 4 at))) where
  -- P of what the same integers are at places of the command
  abbrev Shifted : Nums → Result R Refusal → Type 0
  Shifted x r = (y : Nums) → shifted at y ≡ x → P y r

  none_back : Shifted short (Err (refusal 4 at))
  none_back y h = rw (short_back at y h) missing

  read_back : (n : ℕ) → shifted at (integers n k (drop (at + k) s)) ≡ integers n (at + k) (drop (at + k) s)
  read_back n = sym (integers_shift n at k (drop (at + k) s))

  pub one_due : (f : Argument → Result R Refusal)
      → ((a : Argument) (m : Num) (y : Nums) → a.number ≡ cut (moved m)
      → Back at y (m ∷ []) (a.place ∷ []) a.next (drop a.next s) → P y (f a))
      → P (integers 1 k (drop (at + k) s)) (and_then (due_at at s (at + k)) f)
  one_due f read =
      by_one at s (at + k) f Shifted none_back (λ a m g y e. read a m y g (nums_back at y _ _ _ _ e)) (integers 1 k (drop (at + k) s)) (read_back 1)

  pub two_due : (f : Argument → Argument → Result R Refusal)
      → ((a b : Argument) (m n : Num) (y : Nums) → a.number ≡ cut (moved m) → b.number ≡ cut (moved n)
      → Back at y (m ∷ n ∷ []) (a.place ∷ b.place ∷ []) b.next (drop b.next s) → P y (f a b))
      → P (integers 2 k (drop (at + k) s)) (and_then (due_at at s (at + k)) (λ a. and_then (due_at at s a.next) (f a)))
  two_due f read =
      by_two at s (at + k) f Shifted none_back (λ a b m n g h y e. read a b m n y g h (nums_back at y _ _ _ _ e)) (integers 2 k (drop (at + k) s)) (read_back 2)

  pub three_due : (f : Argument → Argument → Argument → Result R Refusal)
      → ((a b c : Argument) (m n o : Num) (y : Nums) → a.number ≡ cut (moved m) → b.number ≡ cut (moved n) → c.number ≡ cut (moved o)
      → Back at y (m ∷ n ∷ o ∷ []) (a.place ∷ b.place ∷ c.place ∷ []) c.next (drop c.next s) → P y (f a b c))
      → P (integers 3 k (drop (at + k) s)) (and_then (due_at at s (at + k)) (λ a. and_then (due_at at s a.next) (λ b. and_then (due_at at s b.next) (f a b))))
  three_due f read =
      by_three at s (at + k) f Shifted none_back (λ a b c m n o g h i y e. read a b c m n o y g h i (nums_back at y _ _ _ _ e))
      (integers 3 k (drop (at + k) s)) (read_back 3)

  pub four_due : (f : Argument → Argument → Argument → Argument → Result R Refusal)
      → ((a b c d : Argument) (m n o p : Num) (y : Nums) → a.number ≡ cut (moved m) → b.number ≡ cut (moved n) → c.number ≡ cut (moved o) → d.number ≡ cut (moved p)
      → Back at y (m ∷ n ∷ o ∷ p ∷ []) (a.place ∷ b.place ∷ c.place ∷ d.place ∷ []) d.next (drop d.next s) → P y (f a b c d))
      → P (integers 4 k (drop (at + k) s)) (and_then (due_at at s (at + k)) (λ a. and_then (due_at at s a.next) (λ b. and_then (due_at at s b.next) (λ c. and_then (due_at at s c.next) (f a b c)))))
  four_due f read =
      by_four at s (at + k) f Shifted none_back (λ a b c d m n o p g h i j y e. read a b c d m n o p y g h i j (nums_back at y _ _ _ _ e))
      (integers 4 k (drop (at + k) s)) (read_back 4)

-- the same of one that may be absent, and of pairs
module _ (at : ℕ) (s : List ℕ) (k : ℕ) where
  pub dummy_due : (P : Nums → Result (Maybe Argument) Refusal → Type 0) → P short (Err (refusal 4 at))
      → ((y : Nums) → Back at y [] [] (at + k) (drop (at + k) s) → P y (Ok None))
      → ((a : Argument) (m : Num) (y : Nums) → a.number ≡ cut (moved m)
      → Back at y (m ∷ []) (a.place ∷ []) a.next (drop a.next s) → P y (Ok (Some a)))
      → P (perhaps_integer k (drop (at + k) s)) (perhaps_at at s (at + k))
  dummy_due P missing absent read =
      by_perhaps at s (at + k) (λ x r. (y : Nums) → shifted at y ≡ x → P y r) (λ y h. rw (short_back at y h) missing)
      (λ y e. absent y (nums_back at y _ _ _ _ e)) (λ a m g y e. read a m y g (nums_back at y _ _ _ _ e))
      (perhaps_integer k (drop (at + k) s)) (sym (perhaps_shift at k (drop (at + k) s)))

  pairs_shift : (x : Nums) → in_pairs (shifted at x) ≡ shifted at (in_pairs x)
  pairs_shift short = refl
  pairs_shift (nums ns ks l t) = on (is_paired ns) (λ e. rw e) (λ e. rw e)

  pub pairs_due : (P : Nums → Result Pairs Refusal → Type 0) → P short (Err (refusal 4 at))
      → ((ns : List Num) (ps : List ℕ) (l : ℕ) (y : Nums) → Back at y ns ps l (drop l s)
      → P y (Ok (record { sums = sums_of (map moved ns) (outside (up_to 64 (map moved ns)) ps); next = l })))
      → P (in_pairs (many_integers (length (drop (at + k) s)) k (drop (at + k) s))) (pairs_at at s (at + k))
  pairs_due P missing read =
      let r : List ℕ = drop (at + k) s in
      by_pairs at s (at + k) (λ x q. (y : Nums) → shifted at y ≡ x → P y q) (λ y h. rw (short_back at y h) missing)
      (λ ns ps l y e. read ns ps l y (nums_back at y _ _ _ _ e))
      (in_pairs (many_integers (length r) k r)) (sym (pairs_shift (many_integers (length r) k r)) ∙ ap in_pairs (sym (many_shift (length r) at k r)))

  -- n arguments that are due
  pub args_due : (n : ℕ) → ArgsNums at s n (at + k) (shifted at (integers n k (drop (at + k) s))) (args_at n at s (at + k))
  args_due n = rw (← (integers_shift n at k (drop (at + k) s))) (args_nums at s n (at + k))

-- ---- a command, judged

-- an answer, or a refusal of the argument that begins at a place
abbrev pub answered : Result Command Refusal → Option ℕ → Result Command Refusal
answered c none = c
answered c (some k) = Err (refusal 6 k)

-- the arguments one by one
pub answered_more : (c : Result Command Refusal) (t : Bool) (bs : List Bool) (p : ℕ) (ps : List ℕ)
    → answered c (outside (t ∷ bs) (p ∷ ps)) ≡ and_then (asked t 6 p) (λ z. answered c (outside bs ps))
answered_more c true bs p ps = refl
answered_more c false bs p ps = refl

module _ (at : ℕ) where
  judged-map : (c : Cmd) (a l : ℕ) (bs : List Bool) (ks : List ℕ) → length bs ≤ length (map (λ (k : ℕ). at + k) ks)
      → command_of at (judged_by c a l (outside bs ks)) ≡ answered (command_of at (cleared c a l)) (outside bs (map (λ (k : ℕ). at + k) ks))
  judged-map c a l [] ks h = refl
  judged-map c a l (b ∷ bs) [] h = absurd (omega arith)
  judged-map c a l (true ∷ bs) (k ∷ ks) h = judged-map c a l bs ks (omega arith)
  judged-map c a l (false ∷ bs) (k ∷ ks) h = refl

  pub judged_at : (c : Cmd) (a l : ℕ) (bs : List Bool) (ks ps : List ℕ) → map (λ (k : ℕ). at + k) ks ≡ ps → length bs ≤ length ps
      → command_of at (judged_by c a l (outside bs ks)) ≡ answered (command_of at (cleared c a l)) (outside bs ps)
  judged_at c a l bs ks ps e h = rw (← e) (judged-map c a l bs ks (rw e h))

  -- a command with a name that is t: clear or not
  pub cleared_at : (c : Cmd) (a l : ℕ) (t : Bool) → is_clear (name_in c) ≡ t
      → command_of at (cleared c a l) ≡ and_then (clear_or t at) (λ z. Ok (cmd_of (at + a) (at + l) c))
  cleared_at c a l true e = rw e
  cleared_at c a l false e = rw (e, add-zero)

-- ---- limits

module _ (lo hi m : ℕ) (h : hi < 200000000) where
  pub within-cut : within lo hi (cut m) ≡ within lo hi m
  within-cut =
      on (leb m 200000000)
      (λ e. let z : cut m ≡ m = omega (arith, leb-true m 200000000 e) in rw z)
      (λ e.
      let l : 200000000 < m = leb-false m 200000000 e in
      rw (lt-leb m hi (omega arith), lt-leb (cut m) hi (omega arith), and-false (leb lo m), and-false (leb lo (cut m))))

  pub within_uncut : within lo hi m ≡ true → cut m ≡ m
  within_uncut e = omega (arith, leb-true m hi (and_right (leb lo m) (leb m hi) e))

-- an ignored number is judged as any other
small_by : (m : Bool) (k : ℕ) → near (moved (record { neg = m; mag = k })) ≡ leb k most
small_by true k =
    on (leb k most)
    (λ e. let h : k ≤ most = leb-true k most e in rw (e, le-leb 1 (origin - k) (omega arith), le-leb (origin - k) (origin + most) (omega arith)))
    (λ e. let h : most < k = leb-false k most e in rw (e, lt-leb 1 (origin - k) (omega arith)))
small_by false k =
    on (leb k most)
    (λ e. let h : k ≤ most = leb-true k most e in rw (e, le-leb 1 (origin + k) (omega arith), le-leb (origin + k) (origin + most) (omega arith)))
    (λ e. let h : most < k = leb-false k most e in rw (e, le-leb 1 (origin + k) (omega arith), lt-leb (origin + k) (origin + most) (omega arith)))

pub near-small : (n : Num) → near (moved n) ≡ is_small n
near-small n = small_by n.neg n.mag

pub cut_small : (n : Num) → near (cut (moved n)) ≡ is_small n
cut_small n = within-cut 1 199999999 (moved n) (omega arith) ∙ near-small n
