-- One line of the family list further: what is still to come, put behind the families read so far, stays the whole.
use Rattle.std.specs.Prelude.{Some, None, ok_or, Result, Ok, Err, if◌then◌else◌}
use Rattle.std.specs.Prelude as P
use Prim.Native.Nat.{ℕ, zero, suc, ◌+◌, ◌-◌, ◌≤◌, ◌<◌}
use native.Mathlib.Omega.{arith}
use native.Mathlib.Numerals.{add-one}
use mathlib.Core.Bool.{Bool, true, false, ◌&&◌, ◌||◌}
use mathlib.Core.List.{List, [], ◌∷◌}
use mathlib.Core.Option.{Option, none, some}
use mathlib.Core.Path.{◌≡◌, refl, sym, ap, ◌∙◌}
use lib.Dec.{ltb, eqb}
use lib.ListN.{length, take, drop, set, length-set}
use lib.Seq.{drop-drop}
use borrow.Author.Rules.{rules}
use borrow.Author.Tests.{lt-ltb, le-ltb, ltb-true, ltb-false, ne_eqb}
use Rattle.rules.specs.declared.Refusal.{Refusal}
use Rattle.rules.specs.Answers.{refusal}
use Rattle.rules.specs.Bytes.{bytes, same, is_not_newline}
use Rattle.rules.specs.Widths.{lines_from, behind}
use Rattle.rules.specs.Families.{Family, family_of, is_none, is_new_name, is_whole, name_line, same_line, family_line, FamilyList, ill_grouped, grouped, families_end, families_on, family_lines, family_list}
use Rattle.laws.proofs.Cases.{on, and_left, and_right}
use Rattle.scan_lex.specs.At.{run_end}
use Rattle.scan_lex.proofs.Lines.{line_at_lem, line_from, lines_none, behind_some, drop-take}
use Rattle.name.specs.Part.{part_of}
use Rattle.families_line.specs.Line.{key_by, key_of, may_stand, mark_of}
use Rattle.families_line.specs.declared.Key.{Key}
use Rattle.families_line.specs.declared.Key.TheVariants.{Name, Same}
use Rattle.families_table.specs.Table.{families_at, Sized}
use Rattle.families_table.specs.declared.FamilyName.{FamilyName}
use Rattle.families_table.specs.declared.Table.{Table}
use Rattle.families_table.proofs.Owners.{families_count}
use Rattle.families.specs.Loading.{key_if, line_key, next_of, Slot, put_at, Put, newest_size, Going, Turned, answer_of, Loaded}
use Rattle.families.specs.declared.FamilyState.{FamilyState}
use Rattle.families.proofs.Putting.{begun, grown, sized_less, put_begun, put_grown, put_sized, marked_more, begun_none, grown_none}
use Rattle.families.proofs.Steps.{key_place}

-- ---- a line by its key and by numbers

and_assoc : (a b c : Bool) → (a && (b && c)) ≡ ((a && b) && c)
and_assoc true b c = refl
and_assoc false b c = refl

ltb_suc : (m n : ℕ) → ltb (suc m) (suc n) ≡ ltb m n
ltb_suc m n =
    on (ltb m n)
    (λ e. rw e (lt-ltb (suc m) (suc n) (omega (arith, ltb-true m n e))))
    (λ e. rw e (le-ltb (suc m) (suc n) (omega (arith, ltb-false m n e))))

-- what a line with a key makes of the families
abbrev made_by : Key → ℕ → List ℕ → List Family → List Family
made_by Name at n fs = begun at n fs
made_by Same at n fs = grown n fs

-- a line by its key, none where it is wrong
abbrev made_of : P.Option Key → ℕ → List ℕ → List Family → Option (List Family)
made_of None at n fs = none
made_of (Some key) at n fs = some (made_by key at n fs)

made_if : (b : Bool) (key : Key) (at : ℕ) (n : List ℕ) (fs : List Family) → (if b then some (made_by key at n fs) else none) ≡ made_of (if b then Some key else None) at n fs
made_if true key at n fs = refl
made_if false key at n fs = refl

-- the line with a key, perhaps, and a name behind it
abbrev line_by : P.Option Key → ℕ → List ℕ → List Family → Option (List Family)
line_by o at n fs = made_of (key_if o (length fs) (newest_size fs) (is_new_name n fs)) at n fs

may_begin : (fs : List Family) → (is_whole fs && ltb (length fs) 256) ≡ may_stand (Some Name) (length fs) (newest_size fs)
may_begin [] = refl
may_begin (f ∷ fs) = rw (ne_eqb (suc (length fs)) 0 (λ e. omega arith), ltb_suc 0 (length f.others))

name_by : (fs : List Family) (at : ℕ) (n : List ℕ) → name_line fs at n ≡ line_by (Some Name) at n fs
name_by fs at n =
    ap (λ (b : Bool). if b then some (begun at n fs) else none)
    (and_assoc (is_whole fs) (ltb (length fs) 256) (is_new_name n fs) ∙ ap (λ (b : Bool). b && is_new_name n fs) (may_begin fs))
    ∙ made_if (may_stand (Some Name) (length fs) (newest_size fs) && is_new_name n fs) Name at n fs

same_by : (fs : List Family) (at : ℕ) (n : List ℕ) → same_line fs (some n) ≡ line_by (Some Same) at n fs
same_by [] at n = refl
same_by (f ∷ fs) at n =
    rw (lt-ltb 0 (suc (length fs)) (omega arith), ltb_suc (length f.others) 7) (made_if (ltb (length f.others) 7 && is_new_name n (f ∷ fs)) Same at n (f ∷ fs))

line_by_lem : (fs : List Family) (at : ℕ) (t : List ℕ) → family_line fs at t (behind (bytes "name=") t) ≡ line_by (key_of t) (at + 5) (drop 5 t) fs
line_by_lem fs at t = go (behind (bytes "name=") t) (behind (bytes "same=") t) refl refl
  where
    second : (p : Option (List ℕ)) → behind (bytes "same=") t ≡ p → same_line fs p ≡ line_by (key_by none p) (at + 5) (drop 5 t) fs
    second (some n) e = rw (behind_some (bytes "same=") t n e).0 (same_by fs (at + 5) (drop 5 t))
    second none e = refl

    go : (o p : Option (List ℕ)) → behind (bytes "name=") t ≡ o → behind (bytes "same=") t ≡ p → family_line fs at t o ≡ line_by (key_by o p) (at + 5) (drop 5 t) fs
    go (some n) p e f = rw (behind_some (bytes "name=") t n e).0 (name_by fs (at + 5) (drop 5 t))
    go none p e f = rw f (second p f)

-- ---- the state behind the line

key_if_some : (o : P.Option Key) (families size : ℕ) (b : Bool) (key : Key) → key_if o families size b ≡ Some key → (o ≡ Some key) × (may_stand (Some key) families size ≡ true)
key_if_some None families size b key h = cc
key_if_some (Some k) families size b key h =
    on (may_stand (Some k) families size && b)
    (λ e.
    let z : k ≡ key = cc (rw e at h) in
    (ap Some z, rw (← z) (and_left (may_stand (Some k) families size) b e)))
    (λ e. cc (rw e at h))

may_name : (families size : ℕ) → may_stand (Some Name) families size ≡ true → families < 256
may_name families size h = ltb-true families 256 (and_right (eqb families 0 || ltb 1 size) (ltb families 256) h)

may_same : (families size : ℕ) → may_stand (Some Same) families size ≡ true → (0 < families) × (size < 8)
may_same families size h = (ltb-true 0 families (and_left (ltb 0 families) (ltb size 8) h), ltb-true size 8 (and_right (ltb 0 families) (ltb size 8) h))

-- what the state behind a line with a key that may stand has
record Ahead (u : FamilyState) (at : ℕ) : Type 0 where
  at_is : u.at ≡ at
  some_families : 1 ≤ u.families
  few_families : u.families ≤ 256
  some_names : 1 ≤ u.size
  few_names : u.size ≤ 8

ahead : (key : Key) (at : ℕ) (st : FamilyState) → st.families ≤ 256 → st.size ≤ 8 → may_stand (Some key) st.families st.size ≡ true → Ahead (next_of key at st) at
ahead Name at st a b h =
    let c = may_name st.families st.size h in
    record { at_is = refl; some_families = omega arith; few_families = omega arith; some_names = omega arith; few_names = omega arith }
ahead Same at st a b h =
    let c = may_same st.families st.size h in
    record { at_is = refl; some_families = omega (arith, c.0); few_families = a; some_names = omega arith; few_names = omega (arith, c.1) }

-- ---- the table behind the line

grown_size : (n : List ℕ) (fs : List Family) → 0 < length fs → newest_size (grown n fs) ≡ newest_size fs + 1
grown_size n [] h = absurd (omega arith)
grown_size n (f ∷ fs) h = omega arith

made_none : (key : Key) (at : ℕ) (name : List ℕ) (fs : List Family) (n : List ℕ) → same n name ≡ false → is_none (family_of n fs) ≡ true
    → is_none (family_of n (made_by key at name fs)) ≡ true
made_none Name at name fs n d h = begun_none at name fs n d h
made_none Same at name fs n d h = grown_none name fs n d h

module _ (fl : List ℕ) (tab : Table) (x : FamilyName) (l : length tab.names ≡ 2048) (m : length tab.sizes ≡ 256) where
  -- the table with the name in it, u being the state behind the line
  abbrev after : FamilyState → Table
  after u = put_at tab (u.families - 1) u.size x

  record Held (key : Key) (st u : FamilyState) : Type 0 where
    families : families_at fl (after u) u.families ≡ made_by key x.place (part_of fl x.place x.len) (families_at fl tab st.families)
    sized : Sized (after u) u.families
    size_is : newest_size (made_by key x.place (part_of fl x.place x.len) (families_at fl tab st.families)) ≡ u.size

  -- of the newest family: the numbers may be taken apart here
  grown_held : (n size : ℕ) → 0 < n → n ≤ 256 → size < 8 → Sized tab n → newest_size (families_at fl tab n) ≡ size
      → (families_at fl (put_at tab (n - 1) (size + 1) x) n ≡ grown (part_of fl x.place x.len) (families_at fl tab n))
      × Sized (put_at tab (n - 1) (size + 1) x) n
  grown_held zero size a b c g v = absurd (omega arith)
  grown_held (suc n) size a b c g v =
      let e : suc n - 1 ≡ n = omega arith in
      rw e (put_grown fl tab x l m n size (omega arith) c g v, put_sized tab n (size + 1) x l m (omega arith) (omega arith) (omega arith) (sized_less tab n g))

  held : (key : Key) (at : ℕ) (st : FamilyState) → Sized tab st.families → newest_size (families_at fl tab st.families) ≡ st.size
      → may_stand (Some key) st.families st.size ≡ true → Held key st (next_of key at st)
  held Name at st g v h =
      let c = may_name st.families st.size h in
      let e : st.families + 1 - 1 ≡ st.families = omega arith in
      record {
        families = rw (e, add-one st.families) (put_begun fl tab x l m st.families c g);
        sized = rw (e, add-one st.families) (put_sized tab st.families 1 x l m c (omega arith) (omega arith) g);
        size_is = refl;
      }
  held Same at st g v h =
      let c = may_same st.families st.size h in
      let w = grown_held st.families st.size c.0 g.few_families c.1 g v in
      record {
        families = w.0;
        sized = w.1;
        size_is = omega (arith, grown_size (part_of fl x.place x.len) (families_at fl tab st.families) (omega (arith, families_count fl tab st.families, c.0)), v);
      }

-- ---- the line at the state's place

module _ (fl : List ℕ) (st : FamilyState) (tab : Table) (seen : List Bool) (G : Going fl st tab seen) (e : ℕ) (h : st.at < length fl) (f : e ≡ run_end is_not_newline fl st.at) where
  abbrev text : List ℕ
  text = take (e - st.at) (drop st.at fl)

  abbrev name : List ℕ
  name = take (e - (st.at + 5)) (drop (st.at + 5) fl)

  abbrev so_far : List Family
  so_far = families_at fl tab st.families

  abbrev goes : List Family → FamilyList
  goes gs = family_lines (length fl) gs (lines_from (e + 1) (drop (e + 1) fl))

  whole : family_list fl ≡ families_on st.at goes (if ltb e (length fl) then family_line so_far st.at text (behind (bytes "name=") text) else none)
  unfolding family_lines
  whole = G.rest ∙ rw (line_at_lem fl st.at e h f)

  pub stop-unended : length fl ≤ e → family_list fl ≡ ill_grouped st.at
  stop-unended i = whole ∙ rw (le-ltb e (length fl) i)

  name_is : drop 5 text ≡ name
  name_is =
      let a : e - st.at - 5 ≡ e - (st.at + 5) = omega arith in
      drop-take 5 (e - st.at) (drop st.at fl) ∙ rw (a, drop-drop 5 st.at fl)

  module _ (i : e < length fl) (o : P.Option Key) (k : o ≡ line_key fl tab st e) where
    ended : family_list fl ≡ families_on st.at goes (made_of o (st.at + 5) name so_far)
    unfolding line_key
    ended = whole ∙ rw (lt-ltb e (length fl) i, line_by_lem so_far st.at text, name_is, families_count fl tab st.families, G.size_is, ← k)

    pub stop-key : (w u : Refusal) (x : Result FamilyState Refusal) → o ≡ None → ◌≡◌ {A = Result Key Refusal} (Err u) (ok_or o w) → w ≡ refusal 14 st.at
        → x ≡ Err u → Turned fl st x tab seen
    stop-key w u x n v a y =
        let z : u ≡ w = cc (rw n at v) in
        rw y (ended ∙ rw n, z ∙ a)

    module _ (key : Key) (n : o ≡ Some key) where
      parts : (key_of text ≡ Some key) × (may_stand (Some key) st.families st.size ≡ true)
      unfolding line_key
      parts = key_if_some (key_of text) st.families st.size (is_new_name name so_far) key (sym k ∙ n)

      pub place_fits : st.at + 5 ≤ e
      place_fits = key_place fl st.at e key (line_from fl st.at e f) (omega arith) (sym parts.0)

      module _ (u : FamilyState) (z : u ≡ next_of key (e + 1) st) where
        next_is : Ahead u (e + 1)
        next_is = rw z (ahead key (e + 1) st G.sized.few_families G.few_names parts.1)

        pub next_some : 1 ≤ u.families
        next_some = next_is.some_families

        pub line_less : st.at < u.at
        line_less = omega (arith, next_is.at_is, line_from fl st.at e f)

        pub next_slot : Slot (u.families - 1) u.size
        next_slot = record {
          family = omega (arith, next_is.some_families, next_is.few_families);
          some = next_is.some_names;
          few = next_is.few_names;
        }

        module _ (x : FamilyName) (xp : x ≡ record { place = st.at + 5; len = e - (st.at + 5) }) (tab' : Table) (t : Put tab (u.families - 1) u.size x tab') where
          holds : Held fl tab x t.names_room t.sizes_room key st u
          holds = rw z (held fl tab x t.names_room t.sizes_room key (e + 1) st G.sized G.size_is parts.1)

          pub on_line : (m : ℕ) → (m ≡ mark_of name) × (m < 16384) → Going fl u tab' (set seen m true)
          on_line m c =
              let f : made_by key x.place (part_of fl x.place x.len) so_far ≡ made_by key (st.at + 5) name so_far = rw xp in
              rw t.table (record {
                rest = rw (holds.families, next_is.at_is, f) (ended ∙ rw n);
                sized = holds.sized;
                marked = rw (holds.families, f)
                    (marked_more seen so_far (made_by key (st.at + 5) name so_far) name m G.seen_room G.marked c.0 c.1 (made_none key (st.at + 5) name so_far));
                size_is = rw holds.families holds.size_is;
                few_names = next_is.few_names;
                within = omega (arith, next_is.at_is);
                short = G.short;
                seen_room = rw length-set G.seen_room;
              })

-- ---- the loop over the lines

pub going_start : (fl : List ℕ) (tab : Table) (seen : List Bool) → length seen ≡ 16384 → length fl ≤ 65536
    → Going fl (record { at = 0; families = 0; size = 0 }) tab seen
unfolding family_list families_at family_of
going_start fl tab seen d c = record {
  rest = refl;
  sized = record { few_families = omega arith; each = λ j h. absurd (omega arith) };
  marked = record { each = λ n h. refl };
  size_is = refl;
  few_names = omega arith;
  within = omega arith;
  short = c;
  seen_room = d;
}

ends_one : (n : ℕ) (fs : List Family) → newest_size fs ≡ 1 → families_end n fs ≡ ill_grouped n
ends_one n [] h = absurd (omega arith)
ends_one n (f ∷ fs) h = rw (le-ltb 0 (length f.others) (omega arith))

ends_more : (n : ℕ) (fs : List Family) → (newest_size fs ≡ 1 → ⊥) → families_end n fs ≡ grouped fs
ends_more n [] h = refl
ends_more n (f ∷ fs) h = rw (lt-ltb 0 (length f.others) (more (length f.others) h))
  where
    more : (m : ℕ) → (suc m ≡ 1 → ⊥) → 0 < m
    more zero h = absurd (h refl)
    more (suc m) h = omega arith

module _ (fl : List ℕ) (st : FamilyState) (tab : Table) (seen : List Bool) (G : Going fl st tab seen) (h : length fl ≤ st.at) where
  at_end : family_list fl ≡ families_end (length fl) (families_at fl tab st.families)
  unfolding family_lines
  at_end = G.rest ∙ rw (lines_none fl st.at h)

  module _ (e : st.size ≡ 1) where
    missing : family_list fl ≡ ill_grouped (length fl)
    missing = at_end ∙ ends_one (length fl) (families_at fl tab st.families) (G.size_is ∙ e)

    pub missing-answer : (r : Refusal) → r ≡ refusal 14 (length fl) → Err r ≡ answer_of (family_list fl)
    missing-answer r q = rw (missing, q)

    pub missing-table : Loaded fl tab (family_list fl)
    missing-table = rw missing tt

  module _ (d : st.size ≡ 1 → ⊥) where
    is_grouped : family_list fl ≡ grouped (families_at fl tab st.families)
    is_grouped = at_end ∙ ends_more (length fl) (families_at fl tab st.families) (λ e. d (sym G.size_is ∙ e))

    pub grouped-answer : Ok st.families ≡ answer_of (family_list fl)
    grouped-answer = rw (is_grouped, families_count fl tab st.families)

    pub grouped-table : Loaded fl tab (family_list fl)
    grouped-table =
        let n : length (families_at fl tab st.families) ≡ st.families = families_count fl tab st.families in
        rw is_grouped (record { families = rw n; sized = rw n G.sized; few = rw n G.sized.few_families })

pub ruleset turning = (
  line_from,
  stop-unended,
  stop-key,
  place_fits,
  next_some,
  next_slot,
  on_line,
  line_less,
  going_start,
  missing-answer,
  missing-table,
  grouped-answer,
  grouped-table,
  rules,
)
