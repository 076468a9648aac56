-- As many integers as are present, in pairs: what is summed from place to place is what the whole list says.
use Rattle.std.specs.Prelude.{if◌then◌else◌, Result, Ok, Err}
use Prim.Native.Nat.{ℕ, zero, suc, ◌+◌, ◌-◌, ◌*◌, ◌≤◌, ◌<◌}
use native.Mathlib.Omega.{arith}
use native.Mathlib.Nat.{add-zero, zero-add}
use mathlib.Core.Bool.{Bool, true, false, ◌&&◌}
use mathlib.Core.List.{List, [], ◌∷◌, map}
use mathlib.Core.Option as Math
use mathlib.Core.Path.{◌≡◌, refl, sym, ◌∙◌}
use borrow.Author.Tests.{eq-eqb, eqb-true, lt-ltb, le-ltb, le-leb, lt-leb, ltb-true, ltb-false, leb-true, leb-false}
use lib.Dec.{eqb, leb, ltb}
use lib.ListN.{length, drop, get_or, length-drop, drop_of_length-le}
use Rattle.rules.specs.Bytes.{is, span, is_space, Num, Int, no_int, int, integer, moved, near, Nums, short, nums, with_num, is_present, many_integers}
use Rattle.rules.specs.Drawing.{is_paired, in_pairs, Way, farther, pairwise}
use Rattle.rules.specs.Scan.{up_to, outside}
use Rattle.rules.specs.declared.Refusal.{Refusal}
use Rattle.rules.specs.Answers.{refusal, and_then}
use Rattle.laws.proofs.Cases.{on, no, if_both, and_right}
use Rattle.laws_scan.proofs.Bounds.{IntIn, integer_in, NumsIn, Reach, many_integers_in}
use Rattle.scan_lex.specs.At.{run_end}
use Rattle.scan_lex.proofs.Runs.{unspaced_at, run_from}
use lib.Seq.{drop-drop}
use Rattle.scan_integer.specs.At.{cut, number_of, integer_at}
use Rattle.scan_arguments.specs.At.{due_of, due_at, sums_of, pairs_of, pairs_at}
use Rattle.scan_arguments.specs.Parts.{present_at, added_to, Fine}
use Rattle.scan_arguments.specs.declared.Argument.{Argument}
use Rattle.scan_arguments.specs.declared.Sums.{Sums}
use Rattle.scan_arguments.specs.declared.Pairs.{Pairs}
use Rattle.scan_arguments.proofs.Chains.{behind, then_at, after_spaced, one_from, one_is}
use Rattle.scan_arguments.proofs.Bounds.{due_in}

-- ---- the answer from sums and the numbers that are left

-- a number that begins at a place, as an argument whose end does not matter
abbrev argument : Num → ℕ → Argument
argument a k = record { number = cut (moved a); place = k; next = 0 }

unfoldable pub finish : ℕ → Result Sums Refusal → List Num → List ℕ → ℕ → Result Pairs Refusal
finish at t [] ks l = Ok (record { sums = t; next = l })
finish at t (a ∷ []) ks l = Err (refusal 4 at)
finish at t (a ∷ b ∷ ns) ks l = finish at (added_to t (argument a (get_or ks 0 0)) (argument b (get_or ks 1 0))) ns (drop 2 ks) l

abbrev pub finish_of : ℕ → Result Sums Refusal → Nums → Result Pairs Refusal
finish_of at t short = Err (refusal 4 at)
finish_of at t (nums ns ks l u) = finish at t ns ks l

abbrev pub sums : ℕ → ℕ → ℕ → Sums
sums h v c = record { dh = h; dv = v; terms = c }

abbrev pub start : Result Sums Refusal
start = Ok (sums 0 0 0)

abbrev is_even : List Num → Bool
is_even [] = true
is_even (a ∷ []) = false
is_even (a ∷ b ∷ ns) = is_even ns

paired_even : (a b : Num) (ns : List Num) → is_paired (a ∷ b ∷ ns) ≡ is_even ns
paired_even a b [] = refl
paired_even a b (c ∷ []) = refl
paired_even a b (c ∷ d ∷ ns) = paired_even c d ns

-- a number that is cut is within its limit where the number is, and is then that number
near_le : (n : ℕ) → near n ≡ true → n ≤ 199999999
near_le n e = leb-true n 199999999 (and_right (leb 1 n) (leb n 199999999) e)

near-cut : (n : ℕ) → near (cut n) ≡ near n
near-cut n =
    on (leb n 199999999)
    (λ e. let h : n ≤ 199999999 = leb-true n 199999999 e in let c : cut n ≡ n = omega arith in rw c)
    (λ e.
    let h : 199999999 < n = leb-false n 199999999 e in
    rw (lt-leb (cut n) 199999999 (omega arith), e, le-leb 1 (cut n) (omega arith), le-leb 1 n (omega arith)))

near_same : (n : ℕ) → near n ≡ true → cut n ≡ n
near_same n e = let h : n ≤ 199999999 = near_le n e in omega arith

-- the first number outside begins at the first place, or at the second; or none of the two is outside
outside-first : (bs : List Bool) (ks : List ℕ) → outside (false ∷ bs) ks ≡ Math.some (get_or ks 0 0)
outside-first bs [] = refl
outside-first bs (k ∷ ks) = refl

outside_second : (bs : List Bool) (ks : List ℕ) → outside (true ∷ false ∷ bs) ks ≡ Math.some (get_or ks 1 0)
outside_second bs [] = refl
outside_second bs (j ∷ []) = refl
outside_second bs (j ∷ k ∷ ks) = refl

outside_none : (bs : List Bool) (ks : List ℕ) → outside (true ∷ true ∷ bs) ks ≡ outside bs (drop 2 ks)
outside_none bs [] = refl
outside_none bs (j ∷ []) = refl
outside_none bs (j ∷ k ∷ ks) = refl

abbrev with_sums : ℕ → ℕ → ℕ → Way → Math.Option ℕ → Result Sums Refusal
with_sums h v c w Math.none = Ok (sums (h + w.dh) (v + w.dv) (c + w.terms))
with_sums h v c w (Math.some k) = Err (refusal 6 k)

sums_on : (h v c x y : ℕ) (w : Way) (o : Math.Option ℕ) → with_sums (h + x) (v + y) (c + 1) w o ≡ with_sums h v c (farther x y w) o
sums_on h v c x y w Math.none =
    let e : h + x + w.dh ≡ h + (x + w.dh) = omega arith in
    let f : v + y + w.dv ≡ v + (y + w.dv) = omega arith in
    let g : c + 1 + w.terms ≡ c + suc w.terms = omega arith in
    rw (e, f, g)
sums_on h v c x y w (Math.some k) = refl

module _ (at : ℕ) where
  -- an even number of them, with these sums
  abbrev even : List Num → ℕ → Result Sums Refusal → Result Pairs Refusal
  even ns l t = if is_even ns then Ok (record { sums = t; next = l }) else Err (refusal 4 at)

  finish_outside : (r : Refusal) (ns : List Num) (ks : List ℕ) (l : ℕ) → finish at (Err r) ns ks l ≡ even ns l (Err r)
  unfolding finish
  finish_outside r [] ks l = refl
  finish_outside r (a ∷ []) ks l = refl
  finish_outside r (a ∷ b ∷ ns) ks l = finish_outside r ns (drop 2 ks) l

  -- c pairs have been summed, and m numbers more may stand
  finish_within : (h v c m : ℕ) (ns : List Num) (ks : List ℕ) (l : ℕ) → m + 2 * c ≡ 64 →
      finish at (Ok (sums h v c)) ns ks l ≡ even ns l (with_sums h v c (pairwise (map moved ns)) (outside (up_to m (map moved ns)) ks))
  unfolding finish
  finish_within h v c m [] ks l e = rw (add-zero, add-zero, add-zero)
  finish_within h v c m (a ∷ []) ks l e = refl
  finish_within h v c m (a ∷ b ∷ ns) ks l e =
      let x : ℕ = moved a in
      let y : ℕ = moved b in
      let js : List ℕ = drop 2 ks in
      let gone : (r : Refusal) → finish at (Err r) ns js l ≡ even ns l (Err r) = λ r. finish_outside r ns js l in
      on (ltb c 32)
      (λ f.
      let p : c < 32 = ltb-true c 32 f in
      let q : ltb 0 m ≡ true = lt-ltb 0 m (omega arith) in
      let r : ltb 0 (m - 1) ≡ true = lt-ltb 0 (m - 1) (omega arith) in
      on (near x)
      (λ g.
      on (near y)
      (λ i.
      rw (near-cut y, i, r, near-cut x, g, q, f, near_same x g, near_same y i, outside_none (up_to (m - 1 - 1) (map moved ns)) ks)
      (finish_within (h + x) (v + y) (c + 1) (m - 1 - 1) ns js l (omega arith) ∙ rw (sums_on h v c x y (pairwise (map moved ns)) (outside (up_to (m - 1 - 1) (map moved ns)) js))))
      (λ i. rw (near-cut y, i, r, near-cut x, g, q, f, outside_second (up_to (m - 1 - 1) (map moved ns)) ks) (gone (refusal 6 (get_or ks 1 0)))))
      (λ g. rw (near-cut x, g, q, f, outside-first ((ltb 0 (m - 1) && near y) ∷ up_to (m - 1 - 1) (map moved ns)) ks) (gone (refusal 6 (get_or ks 0 0)))))
      (λ f.
      let p : 32 ≤ c = ltb-false c 32 f in
      rw (f, le-ltb 0 m (omega arith), outside-first ((ltb 0 (m - 1) && near y) ∷ up_to (m - 1 - 1) (map moved ns)) ks) (gone (refusal 6 (get_or ks 0 0))))

  from_none : (ns : List ℕ) (o : Math.Option ℕ) → with_sums 0 0 0 (pairwise ns) o ≡ sums_of ns o
  from_none ns Math.none = rw (zero-add, zero-add, zero-add)
  from_none ns (Math.some k) = refl

  -- some number was read, or none could be
  abbrev Filled : Nums → Type 0
  Filled short = Unit {0}
  Filled (nums [] ks l t) = ⊥
  Filled (nums (a ∷ ns) ks l t) = Unit {0}

  pairs_finish : (x : Nums) → Filled x → pairs_of at (in_pairs x) ≡ finish_of at start x
  unfolding finish
  pairs_finish short h = refl
  pairs_finish (nums [] ks l t) h = absurd h
  pairs_finish (nums (a ∷ []) ks l t) h = refl
  pairs_finish (nums (a ∷ b ∷ ns) ks l t) h =
      let e : finish at start (a ∷ b ∷ ns) ks l ≡ even (a ∷ b ∷ ns) l (with_sums 0 0 0 (pairwise (map moved (a ∷ b ∷ ns))) (outside (up_to 64 (map moved (a ∷ b ∷ ns))) ks)) =
      finish_within 0 0 0 64 (a ∷ b ∷ ns) ks l refl in
      on (is_even ns)
      (λ f. rw (paired_even a b ns, f) (sym (rw (f, from_none) at e)))
      (λ f. rw (paired_even a b ns, f) (sym (rw f at e)))

-- ---- the integers that are present, from place to place

abbrev pub many : List ℕ → ℕ → ℕ → Nums
many s f i = many_integers f i (drop i s)

absent_int : (r : List ℕ) → is_present r ≡ false → integer r ≡ no_int
unfolding integer span
absent_int [] e = refl
absent_int (b ∷ r) e = on (is "-" b) (λ f. no (sym (rw f at e))) (λ f. rw (f, rw f at e))

module _ (at : ℕ) (s : List ℕ) where
  present_in : (i : ℕ) → present_at s i ≡ true → i < length s
  unfolding present_at span
  present_in i e =
      on (ltb i (length s)) (λ f. ltb-true i (length s) f)
      (λ f. no (rw (drop_of_length-le s (ltb-false i (length s) f)) at e))

  due_none : (i : ℕ) → present_at s i ≡ false → due_at at s i ≡ Err (refusal 4 at)
  unfolding present_at integer_at
  due_none i e = rw (one_is s i, absent_int (drop (behind s i) s) (rw (unspaced_at s i) at e))

module _ (s : List ℕ) where
  pub many_none : (f i : ℕ) → present_at s i ≡ false → many s f i ≡ nums [] [] i (drop i s)
  unfolding many_integers present_at
  many_none zero i e = refl
  many_none (suc f) i e = rw e

  pub many_more : (f i : ℕ) → present_at s i ≡ true → many s (suc f) i ≡ then_at (behind s i) (many s f) (integer (drop (behind s i) s))
  unfolding many_integers present_at run_end
  many_more f i e = rw e (after_spaced s i (λ j t. many_integers f j t))

module _ (at : ℕ) (s : List ℕ) where
  -- P holds of what is read and what is answered, where an integer is present
  many_first : {R : Type 0} (f i : ℕ) → present_at s i ≡ true → (g : Argument → Result R Refusal) (P : Nums → Result R Refusal → Type 0)
      → P short (Err (refusal 4 at))
      → ((a : Argument) (m : Num) → a.number ≡ cut (moved m) → i < a.next → P (with_num m a.place (many s f a.next)) (g a))
      → P (many s (suc f) i) (and_then (due_at at s i) g)
  unfolding integer_at
  many_first f i e g P none some = rw (many_more s f i e, one_is s i) (go (integer (drop (behind s i) s)) (integer_in (drop (behind s i) s)))
    where
      go : (x : Int) → IntIn (length (drop (behind s i) s)) x → P (then_at (behind s i) (many s f) x) (and_then (due_of at (one_from (behind s i) (number_of (behind s i) x))) g)
      go no_int h = none
      go (int m l) h = some (record { number = cut (moved m); place = behind s i; next = behind s i + l }) m refl (omega (arith, run_from is_space s i))

  filled : (f i : ℕ) → present_at s i ≡ true → length s ≤ f + i → Filled at (many s f i)
  filled zero i e h = absurd (omega (arith, present_in at s i e))
  filled (suc f) i e h = rw (many_more s f i e) (go (integer (drop (behind s i) s)))
    where
      with : (m : Num) (k : ℕ) (x : Nums) → Filled at (with_num m k x)
      with m k short = tt
      with m k (nums ns ks l t) = tt

      go : (x : Int) → Filled at (then_at (behind s i) (many s f) x)
      go no_int = tt
      go (int m l) = with m (behind s i) (many s f (behind s i + l))

  pairs_is : (i : ℕ) → present_at s i ≡ true → pairs_at at s i ≡ finish_of at start (many s (length (drop i s)) i)
  unfolding pairs_at
  pairs_is i e = pairs_finish at (many s (length (drop i s)) i) (filled (length (drop i s)) i e (omega (arith, length-drop i s)))

  pairs_none : (i : ℕ) → present_at s i ≡ false → pairs_at at s i ≡ Err (refusal 4 at)
  unfolding pairs_at
  pairs_none i e = rw (many_none s (length (drop i s)) i e)

  -- two integers more, and what is read behind them
  module _ (t : Result Sums Refusal) where
    finish_two : (a b : Argument) (m n : Num) (x : Nums) → a.number ≡ cut (moved m) → b.number ≡ cut (moved n)
        → finish_of at t (with_num m a.place (with_num n b.place x)) ≡ finish_of at (added_to t a b) x
    unfolding finish
    finish_two a b m n short g h = refl
    finish_two a b m n (nums ns ks l u) g h = rw (g, h)

    finish_second : (a : Argument) (m : Num) (f : ℕ) → a.number ≡ cut (moved m) → length s ≤ f + a.next
        → finish_of at t (with_num m a.place (many s f a.next)) ≡ and_then (due_at at s a.next) (λ b. finish_of at (added_to t a b) (many s (f - 1) b.next))
    unfolding finish
    finish_second a m zero g h = on (present_at s a.next) (λ e. absurd (omega (arith, present_in at s a.next e))) (λ e. rw (many_none s 0 a.next e, due_none at s a.next e))
    finish_second a m (suc f) g h =
        let d : suc f - 1 ≡ f = omega arith in
        on (present_at s a.next)
        (λ e. rw d (many_first f a.next e (λ b. finish_of at (added_to t a b) (many s f b.next)) (λ x r. finish_of at t (with_num m a.place x) ≡ r) refl
        (λ b n k l. finish_two a b m n (many s f b.next) g k)))
        (λ e. rw (many_none s (suc f) a.next e, due_none at s a.next e))

    finish_pair : (f i : ℕ) → present_at s i ≡ true → length s ≤ f + i
        → finish_of at t (many s f i) ≡ and_then (due_at at s i) (λ a. and_then (due_at at s a.next) (λ b. finish_of at (added_to t a b) (many s (f - 2) b.next)))
    finish_pair zero i e h = absurd (omega (arith, present_in at s i e))
    finish_pair (suc f) i e h =
        let d : suc f - 2 ≡ f - 1 = omega arith in
        rw d (many_first f i e (λ a. and_then (due_at at s a.next) (λ b. finish_of at (added_to t a b) (many s (f - 1) b.next))) (λ x r. finish_of at t x ≡ r) refl
        (λ a m g l. finish_second a m f g (omega arith)))

-- ---- what the loop keeps: t and the integers that are present from next on, with enough steps left, give the answer

pub record Going (at : ℕ) (s : List ℕ) (i next : ℕ) (t : Result Sums Refusal) : Type 0 where
  pub left : ℕ
  pub same : present_at s i ≡ true → pairs_at at s i ≡ finish_of at t (many s left next)
  pub from : i ≤ next
  pub some : (next ≡ i → ⊥) → present_at s i ≡ true
  pub enough : length s ≤ left + next
  pub fine : Fine t

fine_added : (t : Result Sums Refusal) (a b : Argument) → Fine t → Fine (added_to t a b)
fine_added (Err r) a b f = tt
fine_added (Ok t) a b f =
    on (ltb t.terms 32)
    (λ p. let l : t.terms < 32 = ltb-true t.terms 32 p in
    rw p (on (near a.number) (λ x. rw x (on (near b.number) (λ y. rw y (omega (arith, near_le a.number x, near_le b.number y))) (λ y. rw y tt))) (λ x. rw x tt)))
    (λ p. rw p tt)

pub going_start : (at : ℕ) (s : List ℕ) (i : ℕ) → Going at s i i start
going_start at s i = record {
  left = length (drop i s);
  same = λ e. pairs_is at s i e;
  from = omega arith;
  some = λ n. absurd (n refl);
  enough = omega (arith, length-drop i s);
  fine = omega arith;
}

module _ (at : ℕ) (s : List ℕ) (i next : ℕ) (t : Result Sums Refusal) (g : Going at s i next t) where
  pub going_none : present_at s next ≡ false → next ≡ i → pairs_at at s i ≡ Err (refusal 4 at)
  going_none e h = pairs_none at s i (rw h at e)

  pub going_end : present_at s next ≡ false → (next ≡ i → ⊥) → pairs_at at s i ≡ Ok (record { sums = t; next = next })
  unfolding finish
  going_end e h = g.same (g.some h) ∙ rw (many_none s g.left next e)

  module _ (e : present_at s next ≡ true) where
    here : present_at s i ≡ true
    here = on (eqb next i) (λ f. rw (eqb-true next i f) at e) (λ f. g.some (λ h. no (sym f ∙ eq-eqb next i h)))

    step : pairs_at at s i ≡ and_then (due_at at s next) (λ a. and_then (due_at at s a.next) (λ b. finish_of at (added_to t a b) (many s (g.left - 2) b.next)))
    step = g.same here ∙ finish_pair at s t g.left next e g.enough

    pub going_first : (r : Refusal) → due_at at s next ≡ Err r → pairs_at at s i ≡ Err r
    going_first r h = step ∙ rw h

    module _ (a : Argument) (h : due_at at s next ≡ Ok a) where
      pub going_second : (r : Refusal) → due_at at s a.next ≡ Err r → pairs_at at s i ≡ Err r
      going_second r k = step ∙ rw (h, k)

      module _ (b : Argument) (k : due_at at s a.next ≡ Ok b) where
        pub going_less : length s - b.next < length s - next
        going_less = omega (arith, due_in s at next a h, due_in s at a.next b k)

        pub going_more : Going at s i b.next (added_to t a b)
        going_more = record {
          left = g.left - 2;
          same = λ f. step ∙ rw (h, k);
          from = omega (arith, g.from, due_in s at next a h, due_in s at a.next b k);
          some = λ n. here;
          enough = omega (arith, g.enough, due_in s at next a h, due_in s at a.next b k);
          fine = fine_added t a b g.fine;
        }

pub ruleset pairs = (going_start, going_more)

-- ---- pairs, for callers: as of an argument that is due

-- what stands behind integers that were read at a place
pub rest_at : (s : List ℕ) (i : ℕ) (r : List ℕ) (l : ℕ) (t : List ℕ) → r ≡ drop i s → Reach i r l t → t ≡ drop l s
rest_at s i r l t e h =
    let n : i + (l - i) ≡ l = omega (arith, h.far) in
    h.rest ∙ rw (e, drop-drop (l - i) i s, n)

module _ (at : ℕ) (s : List ℕ) (i : ℕ) (P : Nums → Result Pairs Refusal → Type 0) where
  by_paired : (x : Nums) → NumsIn i (drop i s) x → P short (Err (refusal 4 at))
      → ((ns : List Num) (ks : List ℕ) (l : ℕ) → P (nums ns ks l (drop l s)) (Ok (record { sums = sums_of (map moved ns) (outside (up_to 64 (map moved ns)) ks); next = l })))
      → P x (pairs_of at x)
  by_paired short h none some = none
  by_paired (nums ns ks l t) h none some = rw (rest_at s i (drop i s) l t refl h.0) (some ns ks l)

  pub by_pairs : P short (Err (refusal 4 at))
      → ((ns : List Num) (ks : List ℕ) (l : ℕ) → P (nums ns ks l (drop l s)) (Ok (record { sums = sums_of (map moved ns) (outside (up_to 64 (map moved ns)) ks); next = l })))
      → P (in_pairs (many s (length (drop i s)) i)) (pairs_at at s i)
  unfolding pairs_at
  by_pairs = by_paired (in_pairs (many s (length (drop i s)) i)) (pairs_in (many s (length (drop i s)) i) (many_integers_in (length (drop i s)) i (drop i s)))
    where
      pairs_in : (x : Nums) → NumsIn i (drop i s) x → NumsIn i (drop i s) (in_pairs x)
      pairs_in short h = tt
      pairs_in (nums ns ks l t) h = if_both (NumsIn i (drop i s)) (is_paired ns) (nums ns ks l t) short h tt
