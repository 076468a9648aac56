-- The query, with the family of each of its names, and what is answered of it.
use Rattle.std.specs.Prelude.{Option as Maybe, Result, Ok, Err, if◌then◌else◌}
use Prim.Native.Nat.{ℕ, suc, ◌+◌, ◌<◌, ◌≤◌}
use native.Mathlib.Omega.{arith}
use native.Mathlib.Decide.{ℕ_discrete}
use mathlib.Core.Bool.{Bool, true, false, ◌&&◌, ◌||◌}
use mathlib.Core.List.{List, [], ◌∷◌, map}
use mathlib.Core.Option.{Option, none, some}
use mathlib.Core.Path.{◌≡◌, refl, sym, ap, ap₂, ◌∙◌}
use lib.Dec.{ltb}
use lib.ListN.{length, take, get_or, set, length-set}
use lib.Seq.{get_or-set_same, get_or-set_other}
use borrow.Author.Tests.{ltb-true, ltb-false}
use Rattle.rules.specs.declared.Refusal.{Refusal}
use Rattle.rules.specs.Bytes.{bytes, same}
use Rattle.rules.specs.Answers.{is_over, refusal}
use Rattle.rules.specs.Widths.{Line, lines_from, behind, is_list_name}
use Rattle.rules.specs.Families.{Family, FamilyList, ill_grouped, grouped, family_list}
use Rattle.rules.specs.Find.{Gap, Wanted as RulesWanted, sought, Expected, first_glyph, gap_glyph, either, Query, ill_formed, well_formed, query_ends, with_wanted, gap_of, may_part, may_ask, query_line, query_lines, query}
use Rattle.laws.proofs.Cases.{on, no as impossible, if_both, if_on, and_left, or_true}
use Rattle.laws_find.proofs.Asked.{query-shape, shape_some}
use Rattle.laws_find.proofs.Exact.{no_sought, sought_at_lem, sought-length}
use Rattle.query.specs.declared.Wanted.{Wanted}
use Rattle.query.specs.Asked.{glyph_at, query_of, LinesIn, LinesOf}
use Rattle.families_table.specs.declared.Table.{Table}
use Rattle.families_table.specs.Table.{families_at, Sized, owner_of}
use Rattle.families_table.proofs.Owners.{owner_kin}
use Rattle.families.specs.Loading.{answer_of, Loaded}
use Rattle.find_match.specs.declared.Sought.{Sought}
use Rattle.find_match.specs.Match.{no_glyph, sought_by}
use Rattle.find_ask.specs.Ask.{wanted_by, sizes_of, AsksWith, AsksIn, AsksOr, AsksFor}

-- ---- one glyph

module _ (q fl : List ℕ) (tab : Table) (n : ℕ) (g : Sized tab n) where
  abbrev fs : List Family
  fs = families_at fl tab n

  pub sought_is : (w : Wanted) (own : List ℕ) (k : Maybe ℕ) → own ≡ (wanted_by q w).name → k ≡ owner_of own fs → sought_by q fl tab (record { place = w.place; len = w.len; gap = w.gap; family = k }) ≡ sought fs (wanted_by q w)
  sought_is w own k e d = ap (λ (ns : List (List ℕ)). record { gap = (wanted_by q w).gap; name = (wanted_by q w).name; family = ns }) (owner_kin fl tab (wanted_by q w).name n k g (sym (d ∙ ap (λ (o : List ℕ). owner_of o fs) e)))

-- ---- one by one

pub record Gathering (q fl : List ℕ) (tab : Table) (n : ℕ) (wanted : List Wanted) (gl : List Sought) (j : ℕ) : Type 0 where
  pub size : length gl ≡ 64
  pub each : (i : ℕ) → i < j → sought_by q fl tab (get_or gl i no_glyph) ≡ sought (families_at fl tab n) (wanted_by q (glyph_at wanted i))

module _ (q fl : List ℕ) (tab : Table) (n : ℕ) (wanted : List Wanted) where
  pub gathering_start : (gl : List Sought) → length gl ≡ 64 → Gathering q fl tab n wanted gl 0
  gathering_start gl h = record { size = h; each = λ i l. absurd (omega arith) }

  pub gathering_more : (gl : List Sought) (j : ℕ) (x : Sought) → Gathering q fl tab n wanted gl j → j < 64 → sought_by q fl tab x ≡ sought (families_at fl tab n) (wanted_by q (glyph_at wanted j))
      → Gathering q fl tab n wanted (set gl j x) (j + 1)
  gathering_more gl j x v h e = record { size = length-set gl j x ∙ v.size; each = λ i y. go i y (ℕ_discrete i j) }
    where
      go : (i : ℕ) → i < j + 1 → Dec (i ≡ j) → sought_by q fl tab (get_or (set gl j x) i no_glyph) ≡ sought (families_at fl tab n) (wanted_by q (glyph_at wanted i))
      go i y (yes z) = rw (z, get_or-set_same gl j x no_glyph (omega (arith, v.size))) e
      go i y (no z) = rw (get_or-set_other gl j i x no_glyph z) (v.each i (omega (arith, z)))

-- ---- "1 to 64 glyph lines": n came before

abbrev Few : ℕ → Query → Type 0
Few n (ill_formed at) = Unit {0}
Few n (well_formed qs) = n + length qs ≤ 64

few_ends : (n : ℕ) (x : Expected) → n ≤ 64 → Few n (query_ends x)
few_ends n first_glyph h = tt
few_ends n (gap_glyph at) h = tt
few_ends n either h = omega arith

few_glyph : (n : ℕ) (g : Gap) (t : List ℕ) (q : Query) → Few (n + 1) q → Few n (with_wanted g t q)
few_glyph n g t (ill_formed at) h = tt
few_glyph n g t (well_formed qs) h = omega arith

few_line : (n : ℕ) (x : Expected) (at : ℕ) (t : List ℕ) (go : ℕ → Expected → Query) (o : Option (List ℕ)) → n ≤ 64
    → ((m : ℕ) (y : Expected) → m ≤ 64 → Few m (go m y)) → Few n (query_line n x at t go o)
few_line n x at t go (some name) h more =
    if_on (Few n) (may_ask n name) (with_wanted (gap_of x) name (go (n + 1) either)) (ill_formed at)
    (λ z. let l : n < 64 = ltb-true n 64 (and_left (ltb n 64) (is_list_name name) z) in few_glyph n (gap_of x) name (go (n + 1) either) (more (n + 1) either (omega arith))) (λ z. tt)
few_line n x at t go none h more = if_both (Few n) (may_part x && same t (bytes "gap=any")) (go n (gap_glyph at)) (ill_formed at) (more n (gap_glyph at) h) tt

few_lines : (ls : List Line) (n : ℕ) (x : Expected) → n ≤ 64 → Few n (query_lines n x ls)
unfolding query_lines
few_lines [] n x h = few_ends n x h
few_lines (l ∷ ls) n x h =
    if_both (Few n) l.ended (query_line n x l.place l.text (λ m y. query_lines m y ls) (behind (bytes "glyph=") l.text)) (ill_formed l.place)
    (few_line n x l.place l.text (λ m y. query_lines m y ls) (behind (bytes "glyph=") l.text) h (λ m y k. few_lines ls m y k)) tt

query_few : (q : List ℕ) (qs : List RulesWanted) → query q ≡ well_formed qs → length qs ≤ 64
unfolding query
query_few q qs h = let l : 0 + length qs ≤ 64 = rw h at (few_lines (lines_from 0 q) 0 first_glyph (omega arith)) in omega arith

-- ---- the answer tells the query

-- a list of as many as another one, each the other's by a function
each_of : {A B : Type 0} (f : A → B) (d : A) (e : B) (xs : List A) (ys : List B) → length ys ≤ length xs → ((j : ℕ) → j < length ys → f (get_or xs j d) ≡ get_or ys j e) → map f (take (length ys) xs) ≡ ys
each_of f d e xs [] h k = refl
each_of f d e [] (y ∷ ys) h k = absurd (omega arith)
each_of f d e (x ∷ xs) (y ∷ ys) h k = ap₂ (λ a l. a ∷ l) (k 0 (omega arith)) (each_of f d e xs ys (omega arith) (λ j l. k (suc j) (omega arith)))

module _ (q fl : List ℕ) (tab : Table) (n : ℕ) where
  abbrev fams : List Family
  fams = families_at fl tab n

  module _ (qs : List RulesWanted) (wanted : List Wanted) (lines : LinesIn q qs wanted) (gl : List Sought) (i : ℕ) (some : length qs ≤ i) (g : Gathering q fl tab n wanted gl i) (few : length qs ≤ 64) where
    held : (j : ℕ) → j < length (map (sought fams) qs) → sought_by q fl tab (get_or gl j no_glyph) ≡ get_or (map (sought fams) qs) j no_sought
    held j h =
        let l : j < length qs = omega (arith, sought-length fams qs) in
        g.each j (omega arith) ∙ ap (sought fams) (λ i. record { gap = lines.gap j l i; name = lines.name j l i }) ∙ sym (sought_at_lem fams qs j l)

    all_held : map (sought_by q fl tab) (take (length qs) gl) ≡ map (sought fams) qs
    all_held =
        ap (λ (k : ℕ). map (sought_by q fl tab) (take k gl)) (sym (sought-length fams qs))
        ∙ each_of (sought_by q fl tab) no_glyph no_sought gl (map (sought fams) qs) (omega (arith, g.size, sought-length fams qs)) held

  module _ (gl : List Sought) where
    pub ask_ill : (r : Refusal) → Err r ≡ query_of (query q) → AsksWith fams q fl tab (Err r) gl (query q)
    ask_ill r h = go (query q) h
      where
        go : (y : Query) → Err r ≡ query_of y → AsksWith fams q fl tab (Err r) gl y
        go (ill_formed at) z = z
        go (well_formed qs) z = cc

    pub ask_well : (k : ℕ) (wanted : List Wanted) → Ok k ≡ query_of (query q) → LinesOf q wanted (query q) → (i : ℕ) → k ≤ i → Gathering q fl tab n wanted gl i → AsksWith fams q fl tab (Ok k) gl (query q)
    ask_well k wanted h l i m g = go (query q) refl h l
      where
        go : (y : Query) → query q ≡ y → Ok k ≡ query_of y → LinesOf q wanted y → AsksWith fams q fl tab (Ok k) gl y
        go (ill_formed at) e z v = cc
        go (well_formed qs) e z v =
            let c : k ≡ length qs = cc in
            let few : length qs ≤ 64 = query_few q qs e in
            (z, record { all = all_held qs wanted v gl i (omega arith) g few; some = let l : 0 < length qs = shape_some qs (query-shape q qs e) in omega arith; few = few })

pub ask_few : (q : List ℕ) (k : ℕ) → Ok k ≡ query_of (query q) → k ≤ 64
ask_few q k h = go (query q) refl h
  where
    go : (y : Query) → query q ≡ y → Ok k ≡ query_of y → k ≤ 64
    go (ill_formed at) e z = cc
    go (well_formed qs) e z = let c : k ≡ length qs = cc in omega (arith, query_few q qs e)

pub ruleset asking = (gathering_start, gathering_more, ask_ill, ask_well, ask_few)

-- ---- the family list before the query

module _ (fl q : List ℕ) where
  abbrev pub over : Bool
  over = is_over 65_536 fl || is_over 8_192 q

  abbrev size_by : Bool → Result (Unit {0}) Refusal
  size_by b = if b then Err (refusal 1 0) else Ok tt

  sized_by : (b : Bool) → (u : Unit {0}) → Ok u ≡ size_by b → b ≡ false
  sized_by true u h = cc
  sized_by false u h = refl

  pub in_sizes : (u : Unit {0}) → Ok u ≡ sizes_of fl q → over ≡ false
  in_sizes u h = sized_by over u h

  pub list_short : (u : Unit {0}) → Ok u ≡ sizes_of fl q → length fl ≤ 65536
  list_short u h = let b : over ≡ false = in_sizes u h in on (is_over 65_536 fl) (λ z. impossible (sym (rw z at b))) (λ z. ltb-false 65_536 (length fl) z)

  pub query_short : (u : Unit {0}) → Ok u ≡ sizes_of fl q → length q ≤ 8192
  query_short u h = let b : over ≡ false = in_sizes u h in on (is_over 8_192 q) (λ z. impossible (sym b ∙ or_true (is_over 65_536 fl) (is_over 8_192 q) z)) (λ z. ltb-false 8_192 (length q) z)

  module _ (tab : Table) (gl : List Sought) where
    pub ask_long : (r : Refusal) → Err r ≡ sizes_of fl q → AsksFor fl q (Err r) tab gl
    ask_long r h = go over h
      where
        go : (b : Bool) → Err r ≡ size_by b → AsksOr b fl q (Err r) tab gl
        go true z = cc
        go false z = cc

    module _ (u : Unit {0}) (s : Ok u ≡ sizes_of fl q) where
      within : (x : Result ℕ Refusal) → AsksIn q fl x tab gl (family_list fl) → AsksFor fl q x tab gl
      within x k = let b : over ≡ false = in_sizes u s in rw b k

      pub group_ill : (r : Refusal) → Err r ≡ answer_of (family_list fl) → AsksFor fl q (Err r) tab gl
      group_ill r h = within (Err r) (go (family_list fl) h)
        where
          go : (y : FamilyList) → Err r ≡ answer_of y → AsksIn q fl (Err r) tab gl y
          go (ill_grouped at) z = z
          go (grouped fs) z = cc

      pub group_well : (n : ℕ) (x : Result ℕ Refusal) → Ok n ≡ answer_of (family_list fl) → Loaded fl tab (family_list fl) → AsksWith (families_at fl tab n) q fl tab x gl (query q) → AsksFor fl q x tab gl
      group_well n x h l k = within x (go (family_list fl) h l)
        where
          go : (y : FamilyList) → Ok n ≡ answer_of y → Loaded fl tab y → AsksIn q fl x tab gl y
          go (ill_grouped at) z v = cc
          go (grouped fs) z v = let c : n ≡ length fs = cc in rw (← v.families, ← c) k

pub group_sized : (fl : List ℕ) (tab : Table) (n : ℕ) → Ok n ≡ answer_of (family_list fl) → Loaded fl tab (family_list fl) → Sized tab n
group_sized fl tab n h l = go (family_list fl) h l
  where
    go : (y : FamilyList) → Ok n ≡ answer_of y → Loaded fl tab y → Sized tab n
    go (ill_grouped at) z v = cc
    go (grouped fs) z v = let c : n ≡ length fs = cc in rw c v.sized

pub ruleset grouping = (list_short, query_short, ask_long, group_ill, group_well, group_sized)
