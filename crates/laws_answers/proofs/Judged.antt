-- What the judge's answer says of reader, rewriter and finder.
use Rattle.std.specs.Prelude.{Ok, Err}
use Prim.Native.Nat.{ℕ, suc, ◌+◌, ◌<◌, ◌≤◌}
use native.Mathlib.Omega.{arith}
use mathlib.Core.Bool.{true, false}
use mathlib.Core.List.{List, [], ◌∷◌, map}
use mathlib.Core.Logic.{inl, inr}
use mathlib.Core.Path.{◌≡◌, refl, sym, ap, ◌∙◌}
use lib.ListN.{length}
use borrow.Author.Tests.{ltb-false, le-ltb}
use Rattle.rules.specs.declared.Judging.{Judging}
use Rattle.rules.specs.Widths.{width_list}
use Rattle.rules.specs.State.{Env}
use Rattle.rules.specs.Record.{GlyphRow, ItemRow, Answer, refuse, answer}
use Rattle.rules.specs.Families.{Family, grouped, family_list}
use Rattle.rules.specs.Find.{Wanted, sought, hits_from, well_formed, query}
use Rattle.rules.specs.Answers.{stream_most, is_over, read, is_accepted, read_into, not_spelled, spelled, spell_with, respell, respell_into, Found, not_found, found, key_of, find, found_in, find_into, length_of, refusal, judging_of, judge}
use Rattle.laws.proofs.Cases.{on}
use Rattle.laws_find.specs.Occurs.{Elem, Above}
use Rattle.laws_answers.specs.Statements.{Accepted, rows_in, Exact, Judged}
use Rattle.laws_answers.proofs.Theorems.{exactness, answered, query_text, roomy}
use Rattle.laws_answers.proofs.Numbers.{numbers, find-not_13}

-- ---- the judge's answer taken apart

refused_as : (u : List ℕ) (a : Answer) (n at : ℕ) → judging_of u a ≡ Err (refusal n at) → a ≡ refuse n at
refused_as u (refuse m k) n at h = grind arith
refused_as u (answer rs xs e) n at h = grind arith

-- the reader's answer behind an acceptance, and the text that was measured
record Behind (u : List ℕ) (a : Answer) (j : Judging) : Type 0 where
  rows : List GlyphRow
  items : List ItemRow
  end : Env
  answered_so : a ≡ answer rows items end
  records : length rows ≡ j.records
  entries : length items ≡ j.entries
  pages : end.ordinal ≡ j.pages
  bytes : length_of u ≡ j.spelling

behind : (u : List ℕ) (a : Answer) (j : Judging) → judging_of u a ≡ Ok j → Behind u a j
behind u (refuse n at) j h = grind arith
behind u (answer rs xs e) j h = record {
  rows = rs;
  items = xs;
  end = e;
  answered_so = refl;
  records = grind arith;
  entries = grind arith;
  pages = grind arith;
  bytes = grind arith;
}

-- ---- the measured length

fits_limit : (u : List ℕ) (t : ℕ) → length_of u ≡ t → t ≤ stream_most → (is_over stream_most u ≡ false) × (length u ≡ t)
fits_limit u t h l =
    on (is_over stream_most u)
    (λ k. absurd (let e : suc stream_most ≡ t = rw k at h in omega arith))
    (λ k. (k, rw k at h))

over_limit : (u : List ℕ) (t : ℕ) → length_of u ≡ t → t ≡ suc stream_most → is_over stream_most u ≡ true
over_limit u t h l =
    on (is_over stream_most u) (λ k. k)
    (λ k. absurd (let e : length u ≡ t = rw k at h in let m : length u ≤ stream_most = ltb-false stream_most (length u) k in omega arith))

limit_most : (u : List ℕ) → length_of u ≤ suc stream_most
limit_most u =
    on (is_over stream_most u) (λ k. rw k (omega arith)) (λ k. rw k (let m : length u ≤ stream_most = ltb-false stream_most (length u) k in omega arith))

-- ---- hits are rising and below the number of records, so there are no more of them

hits_few : (is : List ℕ) (n m : ℕ) → n ≤ m → Above n is → ((i : ℕ) → Elem i is → i < m) → n + length is ≤ m
hits_few [] n m l a b = omega arith
hits_few (i ∷ is) n m l a b =
    let f : n ≤ i = a.0 in
    let g : i < m = b i (inl refl) in
    let more : i + 1 + length is ≤ m = hits_few is (i + 1) m (omega arith) a.1 (λ j z. b j (inr z)) in
    omega arith

-- ---- what it says of a stream

module _ (s list : List ℕ) where
  refused : (n at : ℕ) → judge s list ≡ Err (refusal n at) → read s list ≡ refuse n at
  unfolding judge
  refused n at h = refused_as (spell_with s (width_list list)) (read s list) n at h

  refuses : (n at : ℕ) → read s list ≡ refuse n at → judge s list ≡ Err (refusal n at)
  unfolding judge
  refuses n at h = rw h

  module _ (j : Judging) (h : judge s list ≡ Ok j) where
    known : Behind (spell_with s (width_list list)) (read s list) j
    unfolding judge
    known = behind (spell_with s (width_list list)) (read s list) j h

    accepted : (rs : List GlyphRow) × (xs : List ItemRow) × (e : Env) × (read s list ≡ answer rs xs e) × (length rs ≡ j.records) × (length xs ≡ j.entries) × (e.ordinal ≡ j.pages)
    accepted = let k = known in (k.rows, k.items, k.end, k.answered_so, k.records, k.entries, k.pages)

    is_accepted_lem : Accepted s list
    is_accepted_lem = ap is_accepted known.answered_so

    records_are : length (rows_in (read s list)) ≡ j.records
    records_are = ap (λ (a : Answer). length (rows_in a)) known.answered_so ∙ known.records

    reader : (records entries : ℕ) → j.records ≤ records → j.entries ≤ entries → read_into records entries s list ≡ read s list
    reader records entries a b =
        let k = known in
        roomy.reader records entries s list k.rows k.items k.end k.answered_so (rw k.records a) (rw k.entries b) ∙ sym k.answered_so

    -- the rewriter gives the text that was measured
    given : is_over stream_most (spell_with s (width_list list)) ≡ false → respell s list ≡ spelled (spell_with s (width_list list))
    unfolding respell
    given f = rw (known.answered_so, f)

    rewriter : (room : ℕ) → j.spelling ≤ stream_most → j.spelling ≤ room → (u : List ℕ) × (respell_into room s list ≡ spelled u) × (length u ≡ j.spelling)
    rewriter room a b =
        let u : List ℕ = spell_with s (width_list list) in
        let f : (is_over stream_most u ≡ false) × (length u ≡ j.spelling) = fits_limit u j.spelling known.bytes a in
        (u, roomy.rewriter room s list u (given f.0) (rw f.1 b), f.1)

    rewriter_over : (room : ℕ) → j.spelling ≡ suc stream_most → respell_into room s list ≡ not_spelled 13 0
    unfolding respell_into respell
    rewriter_over room a = rw (known.answered_so, over_limit (spell_with s (width_list list)) j.spelling known.bytes a)

    spelling-most : j.spelling ≤ suc stream_most
    spelling-most = rw (← known.bytes) (limit_most (spell_with s (width_list list)))

    module _ (fl q : List ℕ) (records hits : ℕ) (a : j.records ≤ records) (b : j.records ≤ hits) where
      finder : find_into records hits s list fl q ≡ find s list fl q
      unfolding find_into
      finder = go (find s list fl q) refl
        where
          go : (y : Found) → find s list fl q ≡ y → found_in records hits y ≡ y
          go (not_found n at) e = refl
          go (found rs is) e =
              let z : Exact s list fl q rs is = exactness s list fl q rs is e in
              let c : length rs ≡ j.records = ap (λ (l : List GlyphRow). length l) (sym z.records) ∙ records_are in
              let d : 0 + length is ≤ length rs = hits_few is 0 (length rs) (omega arith) z.rising z.below in
              rw (le-ltb records (length rs) (omega arith), le-ltb hits (length is) (omega arith))

      finder_never_13 : (n at : ℕ) → find_into records hits s list fl q ≡ not_found n at → n ≡ 13 → ⊥
      finder_never_13 n at e k = find-not_13 s list fl q n at (sym finder ∙ e) k

      finder_found : (fs : List Family) (qs : List Wanted) → family_list fl ≡ grouped fs → length fl ≤ 65_536 → query q ≡ well_formed qs
          → (rs : List GlyphRow) × (is : List ℕ) × (find_into records hits s list fl q ≡ found rs is) × (length rs ≡ j.records)
      finder_found fs qs g l e = (
        rows_in (read s list),
        hits_from (map (sought fs) qs) 0 (map key_of (rows_in (read s list))),
        finder ∙ answered.accepted s list fl q fs qs is_accepted_lem g (le-ltb 65_536 (length fl) l) e (le-ltb 8_192 (length q) (query_text.short q qs e)),
        records_are,
      )

pub judged : Judged
judged = record {
  refused = refused;
  refuses = refuses;
  numbers = λ s list n at h. numbers.read_numbers s list n at (refused s list n at h);
  accepted = accepted;
  reader = λ s list j records entries h a b. reader s list j h records entries a b;
  rewriter = λ s list j room h a b. rewriter s list j h room a b;
  rewriter_over = λ s list j room h a. rewriter_over s list j h room a;
  spelling-most = spelling-most;
  finder = λ s list fl q j records hits h a b. finder s list j h fl q records hits a b;
  finder_never_13 = λ s list fl q j records hits n at h a b e k. finder_never_13 s list j h fl q records hits a b n at e k;
  finder_found = λ s list fl q fs qs j records hits h a b g l e. finder_found s list j h fl q records hits a b fs qs g l e;
}
