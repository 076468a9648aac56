-- The integers that are arguments, at a place of a list, as the scanners answer them (document 01, "Bytes, spaces, numbers",
-- "Drawing"): the numbers, where each begins, and the place behind the last one. Each stands perhaps behind a spacer.
use Rattle.std.specs.Prelude.{ℕ, zero, suc, List, [], ◌∷◌, map, length, drop, get_or, Option, Some, None, Result, Ok, Err}
use Rattle.std.proofs.Math.Option as Math
use Rattle.rules.specs.Bytes.{moved, within, near, Nums, short, nums, integers, many_integers, perhaps_integer}
use Rattle.rules.specs.Drawing.{pairwise, in_pairs}
use Rattle.rules.specs.Scan.{up_to, outside}
use Rattle.rules.specs.declared.Refusal.{Refusal}
use Rattle.rules.specs.Answers.{refusal, asked, and_then}
use Rattle.scan_integer.specs.At.{cut}
use Rattle.scan_arguments.specs.declared.Argument.{Argument}
use Rattle.scan_arguments.specs.declared.Sums.{Sums}
use Rattle.scan_arguments.specs.declared.Pairs.{Pairs}

abbrev pub one_of : Nums → Option Argument
one_of short = None
one_of (nums [] ks l t) = None
one_of (nums (a ∷ ns) ks l t) = Some (record { number = cut (moved a); place = get_or ks 0 0; next = l })

unfoldable pub one_at : List ℕ → ℕ → Option Argument
one_at s i = one_of (integers 1 i (drop i s))

-- one that is due, of the command at a place: "argument missing or malformed" is 4
abbrev pub due_of : ℕ → Option Argument → Result Argument Refusal
due_of at None = Err (refusal 4 at)
due_of at (Some a) = Ok a

abbrev pub due_at : ℕ → List ℕ → ℕ → Result Argument Refusal
due_at at s i = due_of at (one_at s i)

-- n that are due, one behind the other
unfoldable pub args_at : ℕ → ℕ → List ℕ → ℕ → Result (List Argument) Refusal
args_at zero at s i = Ok []
args_at (suc n) at s i = and_then (due_at at s i) (λ a. and_then (args_at n at s a.next) (λ xs. Ok (a ∷ xs)))

-- an argument is within its limit, or within the general one
abbrev pub within_of : ℕ → ℕ → Argument → Result Unit Refusal
within_of lo hi a = asked (within lo hi a.number) 6 a.place

abbrev pub near_of : Argument → Result Unit Refusal
near_of a = asked (near a.number) 6 a.place

-- a dummy, where an integer is present
abbrev pub perhaps_of : ℕ → Nums → Result (Option Argument) Refusal
perhaps_of at short = Err (refusal 4 at)
perhaps_of at (nums [] ks l t) = Ok None
perhaps_of at (nums (a ∷ ns) ks l t) = Ok (Some (record { number = cut (moved a); place = get_or ks 0 0; next = l }))

unfoldable pub perhaps_at : ℕ → List ℕ → ℕ → Result (Option Argument) Refusal
perhaps_at at s i = perhaps_of at (perhaps_integer i (drop i s))

-- as many integers as there are, an even number: all within their limits, with their sums and how many pairs there are; or where
-- the first one outside begins
abbrev pub sums_of : List ℕ → Math.Option ℕ → Result Sums Refusal
sums_of ns Math.none = Ok (record { dh = (pairwise ns).dh; dv = (pairwise ns).dv; terms = (pairwise ns).terms })
sums_of ns (Math.some k) = Err (refusal 6 k)

abbrev pub pairs_of : ℕ → Nums → Result Pairs Refusal
pairs_of at short = Err (refusal 4 at)
pairs_of at (nums ns ks l t) = Ok (record { sums = sums_of (map moved ns) (outside (up_to 64 (map moved ns)) ks); next = l })

unfoldable pub pairs_at : ℕ → List ℕ → ℕ → Result Pairs Refusal
pairs_at at s i = pairs_of at (in_pairs (many_integers (length (drop i s)) i (drop i s)))
