-- The list of hits is rising and has exactly the record numbers at which the query occurs.
use Rattle.std.specs.Prelude.{if◌then◌else◌}
use Prim.Native.Nat.{ℕ, zero, suc, ◌+◌, ◌<◌, ◌≤◌}
use native.Mathlib.Omega.{arith}
use native.Mathlib.Nat.{add-zero, zero-add, le_of_suc-le-suc}
use mathlib.Core.Bool.{true}
use mathlib.Core.List.{List, [], ◌∷◌, ◌++◌, map}
use mathlib.Core.Logic.{◌⊎◌, inl, inr}
use mathlib.Core.Path.{◌≡◌, refl, sym, ap, ◌∙◌}
use lib.Dec.{eqb}
use lib.ListN.{length, drop, get_or, length-drop}
use lib.Seq.{get_or-drop}
use borrow.Author.Tests.{eqb-true, eq-eqb, ne_eqb}
use Rattle.rules.specs.Families.{Family}
use Rattle.rules.specs.Find.{Gap, any_gap, no_gap, some_gap, Wanted, Key, Sought, sought, same_name, gap_test, glyph_test, passes, goes_on, occurs, hits_from}
use Rattle.laws.proofs.Cases.{on, no, and_left, and_right, not_zero}
use Rattle.laws_find.specs.Occurs.{key_at, wanted_at, no_key, GapAsAsked, OccursAt, Elem, Above, Rising}
use Rattle.laws_find.proofs.Families.{Parted, name_match, match_name}

-- ---- the test of one glyph

-- what the test asks
pub record Fits (o : ℕ) (q : Sought) (k : Key) : Type 0 where
  pub page : k.ordinal ≡ o
  pub name : same_name k.name q ≡ true
  pub gap : GapAsAsked q.gap k.gap

gap_asked : (g : Gap) (m : ℕ) → passes (gap_test g m) ≡ true → GapAsAsked g m
gap_asked any_gap m h = tt
gap_asked no_gap m h = on (eqb m 0) (λ e. eqb-true m 0 e) (λ e. no (rw e at h))
gap_asked some_gap m h = on (eqb m 0) (λ e. no (rw e at h)) (λ e. not_zero m e)

asked_gap : (g : Gap) (m : ℕ) → GapAsAsked g m → passes (gap_test g m) ≡ true
asked_gap any_gap m h = refl
asked_gap no_gap m h = rw (eq-eqb m 0 h)
asked_gap some_gap m h = rw (ne_eqb m 0 (λ e. omega arith))

module _ (o : ℕ) (q : Sought) (k : Key) where
  pub test_fits : passes (glyph_test o q k) ≡ true → Fits o q k
  test_fits h =
      on (eqb k.ordinal o)
      (λ e. on (same_name k.name q)
      (λ f. record { page = eqb-true _ _ e; name = f; gap = gap_asked q.gap k.gap (rw (e, f) at h) })
      (λ f. no (rw (e, f) at h)))
      (λ e. no (rw e at h))

  pub fits_test : Fits o q k → passes (glyph_test o q k) ≡ true
  fits_test f = rw (eq-eqb k.ordinal o f.page, f.name) (asked_gap q.gap k.gap f.gap)

-- ---- a run of glyphs

-- what stands where there is no glyph of the query
abbrev pub no_sought : Sought
no_sought = record { gap = any_gap; name = []; family = [] }

abbrev pub sought_at : List Sought → ℕ → Sought
sought_at qs j = get_or qs j no_sought

pub record Runs (o : ℕ) (qs : List Sought) (ks : List Key) : Type 0 where
  pub exist : length qs ≤ length ks
  pub each : (j : ℕ) → j < length qs → Fits o (sought_at qs j) (key_at ks j)

pub goes_runs : (o : ℕ) (qs : List Sought) (ks : List Key) → goes_on o qs ks ≡ true → Runs o qs ks
unfolding goes_on
goes_runs o [] ks h = record { exist = omega arith; each = λ j l. absurd (omega arith) }
goes_runs o (q ∷ qs) [] h = no h
goes_runs o (q ∷ qs) (k ∷ ks) h =
    more (test_fits o q k (and_left (passes (glyph_test o q k)) (goes_on o qs ks) h)) (goes_runs o qs ks (and_right (passes (glyph_test o q k)) (goes_on o qs ks) h))
  where
    more : Fits o q k → Runs o qs ks → Runs o (q ∷ qs) (k ∷ ks)
    more f r = record { exist = let e : length qs ≤ length ks = r.exist in omega arith; each = each }
      where
        each : (j : ℕ) → j < length (q ∷ qs) → Fits o (sought_at (q ∷ qs) j) (key_at (k ∷ ks) j)
        each zero l = f
        each (suc j) l = r.each j (le_of_suc-le-suc l)

pub runs_goes : (o : ℕ) (qs : List Sought) (ks : List Key) → Runs o qs ks → goes_on o qs ks ≡ true
unfolding goes_on
runs_goes o [] ks r = refl
runs_goes o (q ∷ qs) [] r = absurd (let e : suc (length qs) ≤ 0 = r.exist in omega arith)
runs_goes o (q ∷ qs) (k ∷ ks) r =
    rw (
      fits_test o q k (r.each zero (omega arith)),
      runs_goes o qs ks (record { exist = let e : suc (length qs) ≤ suc (length ks) = r.exist in omega arith; each = λ j l. r.each (suc j) (omega arith) }),
    )

-- ---- at a record number

module _ (qs : List Sought) where
  occurs_runs : (l : List Key) → occurs qs l ≡ true → Runs (key_at l 0).ordinal qs l
  occurs_runs [] h = no h
  occurs_runs (k ∷ ks) h = goes_runs k.ordinal qs (k ∷ ks) h

  runs_occurs : (l : List Key) → 0 < length qs → Runs (key_at l 0).ordinal qs l → occurs qs l ≡ true
  runs_occurs [] p r = absurd (let e : length qs ≤ 0 = r.exist in omega arith)
  runs_occurs (k ∷ ks) p r = runs_goes k.ordinal qs (k ∷ ks) r

-- the glyphs of a query, with their families
pub sought_at_lem : (fs : List Family) (qs : List Wanted) (j : ℕ) → j < length qs → sought_at (map (sought fs) qs) j ≡ sought fs (wanted_at qs j)
sought_at_lem fs [] j l = absurd (omega arith)
sought_at_lem fs (q ∷ qs) zero l = refl
sought_at_lem fs (q ∷ qs) (suc j) l = sought_at_lem fs qs j (le_of_suc-le-suc l)

pub sought-length : (fs : List Family) (qs : List Wanted) → length (map (sought fs) qs) ≡ length qs
sought-length fs [] = refl
sought-length fs (q ∷ qs) = ap suc (sought-length fs qs)

module _ (fs : List Family) (qs : List Wanted) (ks : List Key) (i : ℕ) where
  at : (j : ℕ) → key_at (drop i ks) j ≡ key_at ks (i + j)
  at j = get_or-drop i ks j no_key

  first : key_at (drop i ks) 0 ≡ key_at ks i
  first = at 0 ∙ ap (key_at ks) (add-zero i)

  fits_at : Runs (key_at (drop i ks) 0).ordinal (map (sought fs) qs) (drop i ks) → (j : ℕ) → j < length qs → Fits (key_at ks i).ordinal (sought fs (wanted_at qs j)) (key_at ks (i + j))
  fits_at r j m = rw (at j, first, sought_at_lem fs qs j m) at (r.each j (rw (sought-length fs qs) m))

  pub runs_at : i < length ks → Runs (key_at (drop i ks) 0).ordinal (map (sought fs) qs) (drop i ks) → OccursAt fs qs ks i
  runs_at l r = record {
    exist = let e : length (map (sought fs) qs) ≤ length (drop i ks) = r.exist in omega (arith, length-drop i ks, sought-length fs qs);
    page = λ j m. (fits_at r j m).page;
    name = λ j m. name_match fs (key_at ks (i + j)).name (wanted_at qs j) (fits_at r j m).name;
    gap = λ j m. (fits_at r j m).gap;
  }

  pub at_runs : Parted fs → OccursAt fs qs ks i → Runs (key_at (drop i ks) 0).ordinal (map (sought fs) qs) (drop i ks)
  at_runs p o = record {
    exist = let e : i + length qs ≤ length ks = o.exist in omega (arith, length-drop i ks, sought-length fs qs);
    each = each;
  }
    where
      each : (j : ℕ) → j < length (map (sought fs) qs) → Fits (key_at (drop i ks) 0).ordinal (sought_at (map (sought fs) qs) j) (key_at (drop i ks) j)
      each j l =
          let m : j < length qs = rw (sought-length fs qs) at l in
          rw (at j, first, sought_at_lem fs qs j m) (record {
            page = o.page j m;
            name = match_name fs (key_at ks (i + j)).name (wanted_at qs j) p (o.name j m);
            gap = o.gap j m;
          })

-- ---- the list

-- a number of the list, counted from i
pub record Hit (qs : List Sought) (i n : ℕ) (ks : List Key) : Type 0 where
  pub far : ℕ
  pub is : n ≡ i + far
  pub inside : far < length ks
  pub there : occurs qs (drop far ks) ≡ true

module _ (qs : List Sought) where
  pub hit_elem : (ks : List Key) (i n : ℕ) → Hit qs i n ks → Elem n (hits_from qs i ks)
  unfolding hits_from
  hit_elem [] i n h = absurd (let l : h.far < 0 = h.inside in omega arith)
  hit_elem (k ∷ ks) i n h = go h.far h.is h.inside h.there (λ x. hit_elem ks (i + 1) n x)
    where
      later : Elem n (hits_from qs (i + 1) ks) → Elem n ((if occurs qs (k ∷ ks) then i ∷ [] else []) ++ hits_from qs (i + 1) ks)
      later x = on (occurs qs (k ∷ ks)) (λ e. rw e (inr x)) (λ e. rw e x)

      go : (far : ℕ) → n ≡ i + far → far < length (k ∷ ks) → occurs qs (drop far (k ∷ ks)) ≡ true → (Hit qs (i + 1) n ks → Elem n (hits_from qs (i + 1) ks))
          → Elem n ((if occurs qs (k ∷ ks) then i ∷ [] else []) ++ hits_from qs (i + 1) ks)
      go zero e l t more = rw t (inl (e ∙ add-zero i))
      go (suc far) e l t more = later (more (record { far = far; is = omega arith; inside = le_of_suc-le-suc l; there = t }))

  pub elem_hit : (ks : List Key) (i n : ℕ) → Elem n (hits_from qs i ks) → Hit qs i n ks
  unfolding hits_from
  elem_hit [] i n h = absurd h
  elem_hit (k ∷ ks) i n h = on (occurs qs (k ∷ ks)) (λ e. here e (λ x. elem_hit ks (i + 1) n x) (rw e at h)) (λ e. later (elem_hit ks (i + 1) n (rw e at h)))
    where
      later : Hit qs (i + 1) n ks → Hit qs i n (k ∷ ks)
      later x = record { far = suc x.far; is = let e : n ≡ i + 1 + x.far = x.is in omega arith; inside = let l : x.far < length ks = x.inside in omega arith; there = x.there }

      here : occurs qs (k ∷ ks) ≡ true → (Elem n (hits_from qs (i + 1) ks) → Hit qs (i + 1) n ks) → (n ≡ i) ⊎ Elem n (hits_from qs (i + 1) ks)
          → Hit qs i n (k ∷ ks)
      here e more (inl x) = record { far = 0; is = x ∙ sym (add-zero i); inside = omega arith; there = e }
      here e more (inr x) = later (more x)

  above_less : (ms : List ℕ) (n m : ℕ) → n ≤ m → Above m ms → Above n ms
  above_less [] n m l h = tt
  above_less (x ∷ ms) n m l h = (let g : m ≤ x = h.0 in omega arith, h.1)

  pub hits_above : (ks : List Key) (i : ℕ) → Above i (hits_from qs i ks)
  unfolding hits_from
  hits_above [] i = tt
  hits_above (k ∷ ks) i =
      on (occurs qs (k ∷ ks)) (λ e. rw e (omega arith, hits_above ks (i + 1))) (λ e. rw e (above_less (hits_from qs (i + 1) ks) i (i + 1) (omega arith) (hits_above ks (i + 1))))

  -- earliest first, each once
  pub hits_rise : (ks : List Key) → Rising (hits_from qs 0 ks)
  hits_rise ks = hits_above ks 0

module _ (fs : List Family) (qs : List Wanted) where
  -- no other
  pub hits_occur : (ks : List Key) (i : ℕ) → Elem i (hits_from (map (sought fs) qs) 0 ks) → OccursAt fs qs ks i
  hits_occur ks i h = go (elem_hit (map (sought fs) qs) ks 0 i h)
    where
      go : Hit (map (sought fs) qs) 0 i ks → OccursAt fs qs ks i
      go x =
          let e : i ≡ x.far = x.is ∙ zero-add x.far in
          rw e (runs_at fs qs ks x.far x.inside (occurs_runs (map (sought fs) qs) (drop x.far ks) x.there))

  -- every one, no name being in two families
  pub occurs_hits : (ks : List Key) (i : ℕ) → Parted fs → 0 < length qs → OccursAt fs qs ks i → Elem i (hits_from (map (sought fs) qs) 0 ks)
  occurs_hits ks i p l o =
      hit_elem (map (sought fs) qs) ks 0 i (record {
        far = i;
        is = sym (zero-add i);
        inside = let e : i + length qs ≤ length ks = o.exist in omega arith;
        there = runs_occurs (map (sought fs) qs) (drop i ks) (rw (sought-length fs qs) l) (at_runs fs qs ks i p o);
      })
