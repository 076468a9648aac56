-- The search leaves the rules' list of hits in the row.
use Rattle.std.specs.Prelude.{Option, Some, None, if◌then◌else◌}
use Prim.Native.Nat.{ℕ, zero, suc, ◌+◌, ◌<◌, ◌≤◌, min}
use native.Mathlib.Omega.{arith}
use native.Mathlib.Numerals.{add-one}
use mathlib.Core.Bool.{Bool, true, false, ◌&&◌}
use mathlib.Core.List.{List, [], ◌∷◌, ◌++◌, map, append_assoc, append-nil}
use mathlib.Core.Path.{◌≡◌, refl, sym, ap, ◌∙◌}
use lib.Dec.{ltb, eqb}
use lib.ListN.{length, take, drop, get_or, set, length-append, length-take, drop_of_length-le}
use lib.Seq.{sets, drop-cons, get_or-take}
use borrow.Author.Tests.{eq-eqb, ne_eqb, lt-ltb, ltb-true, ltb-false, eqb-true}
use Rattle.rules.specs.declared.Record.{Record}
use Rattle.rules.specs.Find.{Sought, goes_on, hits_from, Key as RulesKey}
use Rattle.rules.specs.Record.{over}
use Rattle.laws.proofs.Cases.{on, no as impossible, if_both, not_zero}
use Rattle.read_model.proofs.Rows.{sets_append, over_is}
use Rattle.find_match.specs.declared.Question.{Question}
use Rattle.find_match.specs.Match.{key_in, record_key, glyphs_of}
use Rattle.find_match.proofs.Glyphs.{glyph_here, glyphs_over}
use Rattle.find_compare.specs.declared.Progress.{Progress}
use Rattle.find_compare.specs.declared.Fed.{Fed}
use Rattle.find_compare.specs.Compare.{left_at, next_record, next_glyph, page_of, fits_at, passed, hit_at, fitted, feed_of, SearchGood}
use Rattle.find_search.specs.Search.{blank, hits_after, Looked, looked_at, search_step_of, search_for, search_of}
use Rattle.find_search.proofs.Looking.{Well, feed_well}

module _ (s : List ℕ) (w : Question) (recs : List Record) (n : ℕ) (enough : n ≤ length recs) where
  -- what finding sees of the records
  abbrev seen : Record → RulesKey
  seen r = key_in s (record_key r)

  abbrev pub keys : List RulesKey
  keys = map seen (take n recs)

  abbrev pub wanted : List Sought
  wanted = glyphs_of w

  -- how many they are
  abbrev pub m : ℕ
  m = length w.glyphs.now

  abbrev at : ℕ → Record
  at i = get_or recs i blank

  drop-map : (k : ℕ) (l : List Record) → drop k (map seen l) ≡ map seen (drop k l)
  drop-map zero l = refl
  drop-map (suc k) [] = refl
  drop-map (suc k) (x ∷ l) = drop-map k l

  take_size : length (take n recs) ≡ n
  take_size = length-take n recs ∙ (let e : min n (length recs) ≡ n = omega arith in e)

  -- the keys from a place on
  keys_at : (i : ℕ) → i < n → drop i keys ≡ seen (at i) ∷ drop (i + 1) keys
  keys_at i h =
      drop-map i (take n recs)
      ∙ ap (map seen) (drop-cons (take n recs) i blank (omega (arith, take_size)))
      ∙ ap (λ (r : Record). seen r ∷ map seen (drop (suc i) (take n recs))) (get_or-take n recs i blank h)
      ∙ ap (λ (l : List RulesKey). seen (at i) ∷ l) (sym (drop-map (suc i) (take n recs)) ∙ ap (λ (k : ℕ). drop k keys) (sym (add-one i)))

  keys_end : (i : ℕ) → n ≤ i → drop i keys ≡ []
  keys_end i h =
      let l : length (take n recs) ≤ i = omega (arith, take_size) in
      drop-map i (take n recs) ∙ ap (map seen) (drop_of_length-le (take n recs) l)

  -- ---- the hits from a record on, and where some glyphs were found at it

  abbrev from : ℕ → List ℕ
  from i = hits_from wanted i (drop i keys)

  abbrev if_hit : Bool → ℕ → List ℕ → List ℕ
  if_hit b i more = (if b then i ∷ [] else []) ++ more

  -- what is still to be found
  abbrev going : Progress → Bool
  going st = goes_on (page_of st (at (st.at + st.glyph))) (drop st.glyph wanted) (drop (st.at + st.glyph) keys)

  abbrev rest : Progress → List ℕ
  rest st = if_hit (going st) st.at (from (st.at + 1))

  abbrev rest_or : Progress → List ℕ
  rest_or st = if eqb st.left 0 then [] else rest st

  from_end : (i : ℕ) → n ≤ i → from i ≡ []
  unfolding hits_from
  from_end i h = rw (keys_end i h)

  from_at : (i : ℕ) → i < n → from i ≡ if_hit (goes_on (at i).ordinal wanted (drop i keys)) i (from (i + 1))
  unfolding hits_from
  from_at i h = rw (keys_at i h)

  -- the state of a search over these records
  pub record Fair (st : Progress) : Type 0 where
    pub records : st.records ≡ n
    pub glyphs : st.glyphs ≡ m
    pub good : 0 < st.left → SearchGood st

  left_some : (st : Progress) → Fair st → 0 < st.left → eqb st.left 0 ≡ false
  left_some st f h = ne_eqb st.left 0 (λ z. omega arith)

  -- on to the next record
  next_rest : (st : Progress) (hits : ℕ) → Fair st → SearchGood st → rest_or (next_record st hits) ≡ from (st.at + 1)
  next_rest st hits f g =
      on (ltb (st.at + 1) n)
      (λ z.
      let h : st.at + 1 < n = ltb-true (st.at + 1) n z in
      let l : 0 < left_at st.records (st.at + 1) 0 = omega (arith, f.records) in
      rw (ne_eqb (left_at st.records (st.at + 1) 0) 0 (λ y. omega arith)) (first h) ∙ sym (from_at (st.at + 1) h))
      (λ z.
      let h : n ≤ st.at + 1 = ltb-false (st.at + 1) n z in
      let l : left_at st.records (st.at + 1) 0 ≡ 0 = omega (arith, f.records) in
      rw (eq-eqb (left_at st.records (st.at + 1) 0) 0 l) (sym (from_end (st.at + 1) h)))
    where
      first : st.at + 1 < n → rest (next_record st hits) ≡ if_hit (goes_on (at (st.at + 1)).ordinal wanted (drop (st.at + 1) keys)) (st.at + 1) (from (st.at + 1 + 1))
      first h =
          let e : st.at + 1 + 0 ≡ st.at + 1 = omega arith in
          rw e

  -- ---- one turn

  abbrev given : Option ℕ → List ℕ
  given (Some i) = i ∷ []
  given None = []

  abbrev Turned : Progress → Fed → Type 0
  Turned st x = rest st ≡ given x.hit ++ rest_or x.state

  module _ (st : Progress) (f : Fair st) (g : SearchGood st) (roomy : 0 < length (rest st) → st.hits < st.hmax) where
    abbrev here : Record
    here = at (st.at + st.glyph)

    abbrev onward : Bool
    onward = goes_on (page_of st here) (drop (st.glyph + 1) wanted) (drop (st.at + st.glyph + 1) keys)

    going_is : going st ≡ (fits_at s w st here && onward)
    unfolding goes_on
    going_is =
        let h : st.glyph < m = omega (arith, g.glyph, f.glyphs) in
        rw (glyph_here w st.glyph h, keys_at (st.at + st.glyph) (omega (arith, g.inside, f.records)))

    passed_turned : going st ≡ false → Turned st (passed st)
    passed_turned e = rw e (sym (next_rest st st.hits f g))

    hit_turned : going st ≡ true → Turned st (hit_at st)
    hit_turned e =
        let z : 0 < length (rest st) = rw e (omega arith) in
        let h : st.hits < st.hmax = roomy z in
        rw (lt-ltb st.hits st.hmax h, e) (ap (λ (l : List ℕ). st.at ∷ l) (sym (next_rest st (st.hits + 1) f g)))

    glyph_turned : fits_at s w st here ≡ true → eqb (st.glyph + 1) st.glyphs ≡ false → st.at + st.glyph + 1 < st.records → Turned st (record { hit = None; state = next_glyph st (page_of st here) })
    glyph_turned e z h =
        let l : 0 < left_at st.records st.at (st.glyph + 1) = omega (arith, g.inside, g.glyph, g.most) in
        let a : st.at + (st.glyph + 1) ≡ st.at + st.glyph + 1 = omega arith in
        let b : eqb (st.glyph + 1) 0 ≡ false = ne_eqb (st.glyph + 1) 0 (λ y. omega arith) in
        rw (ne_eqb (left_at st.records st.at (st.glyph + 1)) 0 (λ y. omega arith), going_is, e, a, b)

    last_goes : st.glyph + 1 ≡ st.glyphs → onward ≡ true
    unfolding goes_on
    last_goes e = let z : m ≤ st.glyph + 1 = omega (arith, f.glyphs) in rw (glyphs_over w (st.glyph + 1) z)

    end_stops : eqb (st.glyph + 1) st.glyphs ≡ false → n ≤ st.at + st.glyph + 1 → onward ≡ false
    unfolding goes_on
    end_stops e h =
        let y : st.glyph + 1 ≡ st.glyphs → ⊥ = λ z. impossible (sym e ∙ eq-eqb (st.glyph + 1) st.glyphs z) in
        let z : st.glyph + 1 < m = omega (arith, g.glyph, f.glyphs, y) in
        rw (glyph_here w (st.glyph + 1) z, keys_end (st.at + st.glyph + 1) h)

    fitted_turned : fits_at s w st here ≡ true → Turned st (fitted st (page_of st here))
    fitted_turned e =
        on (eqb (st.glyph + 1) st.glyphs)
        (λ z. rw z (hit_turned (going_is ∙ rw (e, last_goes (eqb-true (st.glyph + 1) st.glyphs z)))))
        (λ z. on (ltb (st.at + st.glyph + 1) st.records)
        (λ y. rw (z, y) (glyph_turned e z (ltb-true (st.at + st.glyph + 1) st.records y)))
        (λ y. rw (z, y) (passed_turned (going_is ∙ rw (e, end_stops z (let x : st.records ≤ st.at + st.glyph + 1 = ltb-false (st.at + st.glyph + 1) st.records y in omega (arith, f.records)))))))

    pub feed_turned : Turned st (feed_of s w st here)
    unfolding feed_of
    feed_turned =
        on (fits_at s w st here) (λ e. rw e (fitted_turned e)) (λ e. rw e (passed_turned (going_is ∙ rw e)))

  -- ---- where the hits go

  abbrev Counted : Progress → Option ℕ → Progress → Type 0
  Counted st (Some i) d = (d.hits ≡ st.hits + 1) × (d.glyphs ≡ st.glyphs) × (d.records ≡ st.records)
  Counted st None d = (d.hits ≡ st.hits) × (d.glyphs ≡ st.glyphs) × (d.records ≡ st.records)

  abbrev Counts : Progress → Fed → Type 0
  Counts st x = Counted st x.hit x.state

  feed_counts : (st : Progress) (r : Record) → Counts st (feed_of s w st r)
  unfolding feed_of
  feed_counts st r =
      if_both (Counts st) (fits_at s w st r) (fitted st (page_of st r)) (passed st)
      (if_both (Counts st) (eqb (st.glyph + 1) st.glyphs) (hit_at st) _
      (if_both (Counts st) (ltb st.hits st.hmax) _ (passed st) (refl, refl, refl) (refl, refl, refl))
      (if_both (Counts st) (ltb (st.at + st.glyph + 1) st.records) _ (passed st) (refl, refl, refl) (refl, refl, refl)))
      (refl, refl, refl)

  module _ (old : List ℕ) (room : length (hits_from wanted 0 keys) ≤ length old) where
    -- what was found so far stands in the row
    pub record Found (p : Looked) : Type 0 where
      pub found : List ℕ
      pub row : p.hits ≡ sets old 0 found
      pub count : length found ≡ p.state.hits
      pub all : found ++ rest_or p.state ≡ hits_from wanted 0 keys
      pub fair : Fair p.state
      pub hmax : p.state.hmax ≡ length old

    module _ (p : Looked) (v : Found p) (h : 0 < p.state.left) where
      abbrev fed : Fed
      fed = looked_at s w recs p

      fed_well : Well p.state fed
      fed_well = feed_well p.state (v.fair.good h) s w (at (p.state.at + p.state.glyph))

      all_here : v.found ++ rest p.state ≡ hits_from wanted 0 keys
      all_here = ap (λ (b : Bool). v.found ++ (if b then [] else rest p.state)) (sym (left_some p.state v.fair h)) ∙ v.all

      roomy : 0 < length (rest p.state) → p.state.hits < p.state.hmax
      roomy z =
          let e : length (v.found ++ rest p.state) ≡ length (hits_from wanted 0 keys) = ap length all_here in
          omega (arith, e, length-append v.found (rest p.state), v.count, v.hmax, room)

      turned : rest p.state ≡ given fed.hit ++ rest_or fed.state
      turned = feed_turned p.state v.fair (v.fair.good h) roomy

      pub found_more : Found (search_step_of s w recs p)
      found_more = go fed.hit turned (feed_counts p.state (at (p.state.at + p.state.glyph)))
        where
          go : (a : Option ℕ) → rest p.state ≡ given a ++ rest_or fed.state → Counted p.state a fed.state → Found (record { state = fed.state; hits = hits_after p.hits p.state.hits a })
          go (Some i) e c = record {
            found = v.found ++ i ∷ [];
            row = rw (v.row, ← v.count) (ap (λ (k : ℕ). set (sets old 0 v.found) k i) (let z : length v.found ≡ 0 + length v.found = omega arith in z) ∙ sets_append v.found (i ∷ []) old 0);
            count = length-append v.found (i ∷ []) ∙ (let z : length v.found + 1 ≡ fed.state.hits = omega (arith, v.count, c.0) in z);
            all = append_assoc v.found (i ∷ []) (rest_or fed.state) ∙ ap (λ (l : List ℕ). v.found ++ l) (sym e) ∙ all_here;
            fair = record { records = c.2 ∙ v.fair.records; glyphs = c.1 ∙ v.fair.glyphs; good = fed_well.good };
            hmax = fed_well.hmax ∙ v.hmax;
          }
          go None e c = record {
            found = v.found;
            row = v.row;
            count = v.count ∙ sym c.0;
            all = ap (λ (l : List ℕ). v.found ++ l) (sym e) ∙ all_here;
            fair = record { records = c.2 ∙ v.fair.records; glyphs = c.1 ∙ v.fair.glyphs; good = fed_well.good };
            hmax = fed_well.hmax ∙ v.hmax;
          }

    found_for : (f : ℕ) (p : Looked) → Found p → p.state.left ≤ f → Found (search_for f s w recs p) × ((search_for f s w recs p).state.left ≡ 0)
    unfolding search_for
    found_for zero p v l = (v, omega arith)
    found_for (suc f) p v l =
        on (eqb p.state.left 0)
        (λ z. rw z (v, eqb-true p.state.left 0 z))
        (λ z.
        let h : 0 < p.state.left = not_zero p.state.left z in
        rw z (found_for f (search_step_of s w recs p) (found_more p v h) (omega (arith, (fed_well p v h).less))))

    -- from the first record on
    abbrev pub fresh : Progress
    fresh = record { left = left_at n 0 0; at = 0; glyph = 0; hits = 0; hmax = length old; records = n; glyphs = m; page = 0 }

    fresh_found : n ≤ 16777216 → 1 ≤ m → m ≤ 64 → Found (record { state = fresh; hits = old })
    fresh_found a b c = record {
      found = [];
      row = refl;
      count = refl;
      all = start;
      fair = record { records = refl; glyphs = refl; good = λ z. record { few = a; glyph = omega arith; most = c; inside = omega arith; left = refl } };
      hmax = refl;
    }
      where
        start : rest_or fresh ≡ hits_from wanted 0 keys
        start =
            on (ltb 0 n)
            (λ z.
            let h : 0 < n = ltb-true 0 n z in
            let l : 0 < left_at n 0 0 = omega arith in
            rw (ne_eqb (left_at n 0 0) 0 (λ y. omega arith)) (sym (from_at 0 h)))
            (λ z.
            let h : n ≤ 0 = ltb-false 0 n z in
            let l : left_at n 0 0 ≡ 0 = omega arith in
            rw (eq-eqb (left_at n 0 0) 0 l) (sym (from_end 0 h)))

    pub search_exact : n ≤ 16777216 → 1 ≤ m → m ≤ 64
        → ((search_of s w recs (record { state = fresh; hits = old })).hits ≡ over (hits_from wanted 0 keys) old) × ((search_of s w recs (record { state = fresh; hits = old })).state.hits ≡ length (hits_from wanted 0 keys))
    search_exact a b c =
        let e : Found (search_of s w recs (record { state = fresh; hits = old })) × ((search_of s w recs (record { state = fresh; hits = old })).state.left ≡ 0) =
        found_for (left_at n 0 0) (record { state = fresh; hits = old }) (fresh_found a b c) (omega arith) in
        let v : Found (search_of s w recs (record { state = fresh; hits = old })) = e.0 in
        let l : v.found ≡ hits_from wanted 0 keys = sym (append-nil v.found) ∙ ap (λ (k : Bool). v.found ++ (if k then [] else rest (search_of s w recs (record { state = fresh; hits = old })).state)) (sym (eq-eqb (search_of s w recs (record { state = fresh; hits = old })).state.left 0 e.1)) ∙ v.all in
        (v.row ∙ ap (sets old 0) l ∙ over_is (hits_from wanted 0 keys) old room, sym v.count ∙ ap length l)
