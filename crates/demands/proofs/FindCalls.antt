-- The demands, proved of calls of the finder.
use Rattle.std.specs.Prelude.{Result, Ok, Err}
use Prim.Native.Nat.{ℕ, zero, suc, ◌+◌, ◌<◌, ◌≤◌}
use native.Mathlib.Omega.{arith}
use mathlib.Core.Bool.{Bool, true, false}
use mathlib.Core.List.{List, [], ◌∷◌, ◌++◌, map, map-map}
use mathlib.Core.Logic.{◌⊎◌, inl, inr}
use mathlib.Core.Path.{◌≡◌, refl, sym, ap, ap₂, subst, ◌∙◌}
use lib.Dec.{ltb}
use lib.ListN.{length, take, drop, length-map}
use borrow.Author.Tests.{ltb-true, ltb-false, lt-ltb, le-ltb}
use Rattle.std.proofs.lemmas.List.{append_assoc}
use Rattle.rules.specs.declared.Record.{Record}
use Rattle.rules.specs.declared.Entry.{Entry}
use Rattle.rules.specs.declared.Reading.{Reading}
use Rattle.rules.specs.declared.Finding.{Finding}
use Rattle.rules.specs.declared.Refusal.{Refusal}
use Rattle.rules.specs.Act.{Cmd}
use Rattle.rules.specs.State.{Glyph}
use Rattle.rules.specs.Record.{GlyphRow, ItemRow, Answer, refuse, answer, record_of, over}
use Rattle.rules.specs.Families.{Family}
use Rattle.rules.specs.Find.{Wanted, Key, key, query, well_formed, sought, hits_from}
use Rattle.rules.specs.Answers.{is_over, read, Found, not_found, found, key_of, find, found_in, find_into, refusal, finding_of, records_found, hits_over}
use Rattle.rules.specs.Calls.{ReadCall, FindCall}
use Rattle.laws.proofs.Cases.{on, no, or_true}
use Rattle.laws_read.specs.Outline.{Sign, byte_sign, signs_of, outline, keys_from}
use Rattle.laws_find.specs.Occurs.{key_at, wanted_at, GapAsAsked, Match, OccursAt, Elem, Above}
use Rattle.laws_find.specs.Written.{written, GoodQuery}
use Rattle.laws_find.proofs.Families.{Parted}
use Rattle.laws_find.proofs.Exact.{hits_rise, hits_occur, occurs_hits}
use Rattle.laws_answers.specs.Statements.{rows_in, cmds_of, Exact}
use Rattle.laws_answers.specs.Statements as T
use Rattle.laws_answers.proofs.Theorems.{keys_in, keys_by_outline, exactness, answered, query_text, roomy}
use Rattle.laws_answers.proofs.Numbers.{find-not_13}
use Rattle.laws_offsets.specs.Offsets.{FindOffset, one_too_long, OrRoom, Said}
use Rattle.laws_offsets.proofs.Offsets.{offsets}
use Rattle.laws_offsets.proofs.ByNumber.{by_number}
use Rattle.laws_offsets.proofs.Exactly.{exactly}
use Rattle.demands.specs.Demands.{SoundFamilies, Accepted, recorded, set, WellFormed, ListOf, counted, FoundAll, SetBy, none, c_or_C, t_or_u, two_digits, motion, Motion, to_place, by_way, SetOtherwise, ended, same, otherwise, moved, moved₂, SameList, Alike, AlikeByFamilies}
use Rattle.demands.proofs.Allowed.{ReadsTo, allowed_reads, allowed_accepted, commands_are, Stream, read_allowed}
use Rattle.demands.proofs.Families.{sound_parted, match_back, match_on}
use Rattle.demands.proofs.ReadCalls.{take_over, drop_over, length_over, glyphs-seen, rows_stand, Rows, accepted_call}

abbrev glyphs_in : List GlyphRow → List Glyph
glyphs_in rs = map (λ (r : GlyphRow). r.glyph) rs

-- ---- the list: there is one, and one alone

above_all : (n : ℕ) (xs : List ℕ) (i : ℕ) → Above n xs → Elem i xs → n ≤ i
above_all n [] i h e = absurd e
above_all n (x ∷ xs) i h (inl e) = omega (arith, h.0, e)
above_all n (x ∷ xs) i h (inr e) = omega (arith, h.0, above_all (x + 1) xs i h.1 e)

one_rising : (n : ℕ) (xs ys : List ℕ) → Above n xs → Above n ys → ((i : ℕ) → Elem i xs → Elem i ys) → ((i : ℕ) → Elem i ys → Elem i xs) → xs ≡ ys
one_rising n [] [] h k f g = refl
one_rising n [] (y ∷ ys) h k f g = absurd (g y (inl refl))
one_rising n (x ∷ xs) [] h k f g = absurd (f x (inl refl))
one_rising n (x ∷ xs) (y ∷ ys) h k f g = ap₂ (λ (a : ℕ) (l : List ℕ). a ∷ l) heads (one_rising (x + 1) xs ys h.1 (subst (λ (a : ℕ). Above (a + 1) ys) (sym heads) k.1) left right)
  where
    below : (a b : ℕ) (l : List ℕ) → Above (b + 1) l → Elem a (b ∷ l) → b ≤ a
    below a b l p (inl e) = omega (arith, e)
    below a b l p (inr e) = omega (arith, above_all (b + 1) l a p e)

    heads : x ≡ y
    heads = omega (arith, below x y ys k.1 (f x (inl refl)), below y x xs h.1 (g y (inl refl)))

    rest : (i b : ℕ) (l : List ℕ) → b + 1 ≤ i → Elem i (b ∷ l) → Elem i l
    rest i b l p (inl e) = absurd (omega (arith, e, p))
    rest i b l p (inr e) = e

    left : (i : ℕ) → Elem i xs → Elem i ys
    left i e = rest i y ys (let z : x + 1 ≤ i = above_all (x + 1) xs i h.1 e in omega (arith, z, heads)) (f i (inr e))

    right : (i : ℕ) → Elem i ys → Elem i xs
    right i e = rest i x xs (let z : y + 1 ≤ i = above_all (y + 1) ys i k.1 e in omega (arith, z, heads)) (g i (inr e))

pub one_list : (fs : List Family) (qs : List Wanted) (gs : List Glyph) (xs ys : List ℕ) → ListOf fs qs gs xs → ListOf fs qs gs ys → xs ≡ ys
one_list fs qs gs xs ys a b =
    one_rising 0 xs ys a.each_once_earliest_first b.each_once_earliest_first (λ i e. b.every i (a.no_other i e)) (λ i e. a.every i (b.no_other i e))

abbrev hits_of : List Family → List Wanted → List Glyph → List ℕ
hits_of fs qs gs = hits_from (map (sought fs) qs) 0 (map key gs)

hits_list : (fs : List Family) (qs : List Wanted) (gs : List Glyph) → Parted fs → GoodQuery qs → ListOf fs qs gs (hits_of fs qs gs)
hits_list fs qs gs p g = record {
  every = λ i o. occurs_hits fs qs (map key gs) i p (let z : 1 ≤ length qs = g.some in omega (arith, z)) o;
  no_other = λ i e. hits_occur fs qs (map key gs) i e;
  each_once_earliest_first = hits_rise (map (sought fs) qs) (map key gs);
}

pub some_list : (fl : List ℕ) (fs : List Family) (qs : List Wanted) (gs : List Glyph) → SoundFamilies fl fs → GoodQuery qs → (is : List ℕ) × ListOf fs qs gs is
some_list fl fs qs gs z g = (hits_of fs qs gs, hits_list fs qs gs (sound_parted fl fs z) g)

-- ---- the list goes by names, gap marks and page ordinals, and by names of one family alike

-- two records that are alike
abbrev KeysAlike : List Family → Key → Key → Type 0
KeysAlike fs k k₂ = Match fs k.name k₂.name × (k.gap ≡ k₂.gap) × (k.ordinal ≡ k₂.ordinal)

keys_alike : (fs : List Family) (gs gs₂ : List Glyph) → AlikeByFamilies fs gs gs₂ → (i : ℕ) → KeysAlike fs (key_at (map key gs) i) (key_at (map key gs₂) i)
keys_alike fs [] [] h i = (inl refl, refl, refl)
keys_alike fs [] (g₂ ∷ gs₂) h i = absurd h
keys_alike fs (g ∷ gs) [] h i = absurd h
keys_alike fs (g ∷ gs) (g₂ ∷ gs₂) h zero = (h.0, h.1, h.2)
keys_alike fs (g ∷ gs) (g₂ ∷ gs₂) h (suc i) = keys_alike fs gs gs₂ h.3 i

pub alike_count : (fs : List Family) (gs gs₂ : List Glyph) → AlikeByFamilies fs gs gs₂ → length gs ≡ length gs₂
alike_count fs [] [] h = refl
alike_count fs [] (g₂ ∷ gs₂) h = absurd h
alike_count fs (g ∷ gs) [] h = absurd h
alike_count fs (g ∷ gs) (g₂ ∷ gs₂) h = ap suc (alike_count fs gs gs₂ h.3)

alike_back : (fs : List Family) (gs gs₂ : List Glyph) → AlikeByFamilies fs gs gs₂ → AlikeByFamilies fs gs₂ gs
alike_back fs [] [] h = tt
alike_back fs [] (g₂ ∷ gs₂) h = absurd h
alike_back fs (g ∷ gs) [] h = absurd h
alike_back fs (g ∷ gs) (g₂ ∷ gs₂) h = (match_back fs g.name g₂.name h.0, sym h.1, sym h.2, alike_back fs gs gs₂ h.3)

alike_occurs : (fs : List Family) (qs : List Wanted) (gs gs₂ : List Glyph) (i : ℕ) → Parted fs → AlikeByFamilies fs gs gs₂ → OccursAt fs qs (map key gs) i → OccursAt fs qs (map key gs₂) i
alike_occurs fs qs gs gs₂ i p h o = record {
  exist = omega (arith, o.exist, length-map gs key, length-map gs₂ key, alike_count fs gs gs₂ h);
  page = λ j l. sym (keys_alike fs gs gs₂ h (i + j)).2 ∙ o.page j l ∙ (keys_alike fs gs gs₂ h i).2;
  name = λ j l. match_on fs _ _ _ p (match_back fs _ _ (keys_alike fs gs gs₂ h (i + j)).0) (o.name j l);
  gap = λ j l. subst (GapAsAsked (wanted_at qs j).gap) (keys_alike fs gs gs₂ h (i + j)).1 (o.gap j l);
}

list_alike : (fs : List Family) (qs : List Wanted) (gs gs₂ : List Glyph) (is : List ℕ) → Parted fs → AlikeByFamilies fs gs gs₂ → ListOf fs qs gs is → ListOf fs qs gs₂ is
list_alike fs qs gs gs₂ is p h l = record {
  every = λ i o. l.every i (alike_occurs fs qs gs₂ gs i p (alike_back fs gs gs₂ h) o);
  no_other = λ i m. alike_occurs fs qs gs gs₂ i p h (l.no_other i m);
  each_once_earliest_first = l.each_once_earliest_first;
}

-- records with the same names, gap marks and page ordinals are alike with any families
pub keys_same : (fs : List Family) (gs gs₂ : List Glyph) → map key gs ≡ map key gs₂ → AlikeByFamilies fs gs gs₂
keys_same fs [] [] e = tt
keys_same fs [] (g₂ ∷ gs₂) e = absurd (omega (arith, ap length e))
keys_same fs (g ∷ gs) [] e = absurd (omega (arith, ap length e))
keys_same fs (g ∷ gs) (g₂ ∷ gs₂) e =
    let k : key g ≡ key g₂ = ap (λ (l : List Key). key_at l 0) e in
    (inl (ap (λ (x : Key). x.name) k), ap (λ (x : Key). x.gap) k, ap (λ (x : Key). x.ordinal) k, keys_same fs gs gs₂ (ap (drop 1) e))

keys_rows : (rs : List GlyphRow) → map key_of rs ≡ map key (glyphs_in rs)
keys_rows rs = sym (map-map key (λ (r : GlyphRow). r.glyph) rs)

-- ---- what is answered with the room lent

abbrev Kept : ℕ → ℕ → Found → Found → Type 0
Kept records hits y (not_found n at) = (y ≡ not_found n at) ⊎ ((n ≡ 13) × (at ≡ 0) × (gs : List GlyphRow) × (is : List ℕ) × (y ≡ found gs is) × ((records < length gs) ⊎ (hits < length is)))
Kept records hits y (found gs is) = (y ≡ found gs is) × (length gs ≤ records) × (length is ≤ hits)

kept : (records hits : ℕ) (y : Found) → Kept records hits y (found_in records hits y)
kept records hits (not_found n at) = inl refl
kept records hits (found gs is) =
    on (ltb records (length gs)) (λ e. rw e (inr (refl, refl, gs, is, refl, inl (ltb-true records (length gs) e))))
    (λ e. on (ltb hits (length is)) (λ f. rw (e, f) (inr (refl, refl, gs, is, refl, inr (ltb-true hits (length is) f))))
    (λ f. rw (e, f) (refl, ltb-false records (length gs) e, ltb-false hits (length is) f)))

pub kept_into : (records hits : ℕ) (s list fl q : List ℕ) → Kept records hits (find s list fl q) (find_into records hits s list fl q)
unfolding find_into
kept_into records hits s list fl q = kept records hits (find s list fl q)

-- ---- what the rules find in an accepted stream

-- an accepted stream's rows
accepted_reads : (s list : List ℕ) (gs : List Glyph) (a : Accepted s list gs) → ReadsTo s list a.end gs a.items
accepted_reads s list gs a = allowed_reads s list a.end gs a.items a.widths a.list_sound a.allowed

-- the rules find these rows and this list
pub record Finds (s list fl q : List ℕ) (gs : List Glyph) (is : List ℕ) : Type 0 where
  pub rows : List GlyphRow
  pub found_is : find s list fl q ≡ found rows is
  pub glyphs_are : glyphs_in rows ≡ gs
  pub stand : map (recorded s) (map record_of rows) ≡ map set gs

finds : (s list fl q : List ℕ) (fs : List Family) (gs : List Glyph) (qs : List Wanted) (is : List ℕ) → SoundFamilies fl fs → Accepted s list gs → WellFormed q qs → ListOf fs qs gs is → Finds s list fl q gs is
finds s list fl q fs gs qs is z a w l = record {
  rows = to.rows;
  found_is = answered.accepted s list fl q fs qs accepted z.says (le-ltb 65_536 (length fl) z.short) asked short ∙ rw (ap rows_in to.read_is) (ap (found to.rows) list_is);
  glyphs_are = to.glyphs_are;
  stand = glyphs-seen s to.rows (rows_stand s list to.rows to.items a.end to.read_is) ∙ ap (map set) to.glyphs_are;
}
  where
    to : ReadsTo s list a.end gs a.items
    to = accepted_reads s list gs a

    accepted : T.Accepted s list
    accepted = allowed_accepted s list a.end gs a.items a.widths a.list_sound a.allowed

    asked : query q ≡ well_formed qs
    asked = ap query w.text ∙ query_text.asks qs w.good

    short : is_over 8_192 q ≡ false
    short = le-ltb 8_192 (length q) (query_text.short q qs asked)

    list_is : hits_from (map (sought fs) qs) 0 (map key_of to.rows) ≡ is
    list_is =
        ap (hits_from (map (sought fs) qs) 0) (keys_rows to.rows ∙ ap (map key) to.glyphs_are)
        ∙ one_list fs qs gs (hits_of fs qs gs) is (hits_list fs qs gs (sound_parted fl fs z) w.good) l

count_rows : (gs : List Glyph) (rows : List GlyphRow) → glyphs_in rows ≡ gs → length rows ≡ length gs
count_rows gs rows e = sym (length-map rows (λ (r : GlyphRow). r.glyph)) ∙ ap length e

-- ---- a call

module _ (s list fl q : List ℕ) (rs : List Record) (hs : List ℕ) (r : Result Finding Refusal) (rs' : List Record) (hs' : List ℕ) (c : FindCall s list fl q rs hs r rs' hs') where
  pub lengths : (length rs' ≡ length rs) × (length hs' ≡ length hs)
  lengths = go (find_into (length rs) (length hs) s list fl q) (kept_into (length rs) (length hs) s list fl q) c.records c.hits
    where
      go : (x : Found) → Kept (length rs) (length hs) (find s list fl q) x → rs' ≡ records_found rs x → hs' ≡ hits_over hs x → (length rs' ≡ length rs) × (length hs' ≡ length hs)
      go (not_found n at) k a b = (ap length a, ap length b)
      go (found gs is) k a b = (ap length a ∙ length_over (map record_of gs) rs (omega (arith, length-map gs record_of, k.1)), ap length b ∙ length_over is hs k.2)

  pub refuses : (number at : ℕ) → FindOffset s list fl q number at → r ≡ Err (refusal number at)
  refuses number at h = c.answer ∙ ap finding_of (exactly.finder (length rs) (length hs) s list fl q number at h)

  -- what the rules found is in the rows
  found_all : (gs : List Glyph) (is : List ℕ) (f : Finds s list fl q gs is) → find_into (length rs) (length hs) s list fl q ≡ found f.rows is → FoundAll s rs hs gs is r rs' hs'
  found_all gs is f e =
      let n : length gs ≡ length (map record_of f.rows) = sym (count_rows gs f.rows f.glyphs_are) ∙ sym (length-map f.rows record_of) in
      let rows : rs' ≡ over (map record_of f.rows) rs = c.records ∙ ap (records_found rs) e in
      let hits : hs' ≡ over is hs = c.hits ∙ ap (hits_over hs) e in
      record {
        list = take_over (length is) is hs hs' refl hits;
        numbers = c.answer ∙ ap finding_of e ∙ ap (λ (i : ℕ). counted i (length is)) (count_rows gs f.rows f.glyphs_are);
        records = ap (map (recorded s)) (take_over (length gs) (map record_of f.rows) rs rs' n rows) ∙ f.stand;
        list_behind = drop_over (length is) is hs hs' refl hits;
        records_behind = drop_over (length gs) (map record_of f.rows) rs rs' n rows;
      }

  module _ (fs : List Family) (gs : List Glyph) (qs : List Wanted) (is : List ℕ) (z : SoundFamilies fl fs) (a : Accepted s list gs) (w : WellFormed q qs) (l : ListOf fs qs gs is) where
    abbrev these : Finds s list fl q gs is
    these = finds s list fl q fs gs qs is z a w l

    pub answers : length gs ≤ length rs → length is ≤ length hs → FoundAll s rs hs gs is r rs' hs'
    answers p k =
        found_all gs is these
        (roomy.finder (length rs) (length hs) s list fl q these.rows is these.found_is (omega (arith, count_rows gs these.rows these.glyphs_are, p)) k)

    short_in : (length rs < length gs) ⊎ (length hs < length is) → found_in (length rs) (length hs) (found these.rows is) ≡ not_found 13 0
    short_in (inl h) = rw (lt-ltb (length rs) (length these.rows) (omega (arith, count_rows gs these.rows these.glyphs_are, h)))
    short_in (inr h) = rw (or_true (ltb (length rs) (length these.rows)) (ltb (length hs) (length is)) (lt-ltb (length hs) (length is) h))

    pub no_room : (length rs < length gs) ⊎ (length hs < length is) → r ≡ Err (refusal 13 0)
    unfolding find_into
    no_room h = c.answer ∙ ap (λ (x : Found). finding_of (found_in (length rs) (length hs) x)) these.found_is ∙ ap finding_of (short_in h)

-- ---- what is found was accepted and well formed, and its families sound

pub record Source (s list fl q : List ℕ) (is : List ℕ) : Type 0 where
  pub families : List Family
  pub glyphs : List Glyph
  pub wanted : List Wanted
  pub sound_families : SoundFamilies fl families
  pub accepted : Accepted s list glyphs
  pub well_formed : WellFormed q wanted
  pub list_of : ListOf families wanted glyphs is

-- where something is found the family list is not too long: it would have been refused as 1
abbrev is_found : Found → Bool
is_found (not_found n at) = false
is_found (found rows is) = true

families_short : (s list fl q : List ℕ) (rows : List GlyphRow) (is : List ℕ) → find s list fl q ≡ found rows is → length fl ≤ 65_536
families_short s list fl q rows is h =
    on (is_over 65_536 fl)
    (λ e. no (ap is_found (sym (exactly.finds s list fl q 1 0 (one_too_long (inr (inr (inl (ltb-true 65_536 (length fl) e)))))) ∙ h)))
    (λ e. ltb-false 65_536 (length fl) e)

pub source : (s list fl q : List ℕ) (rows : List GlyphRow) (is : List ℕ) → find s list fl q ≡ found rows is → (x : Source s list fl q is) × (x.glyphs ≡ glyphs_in rows)
source s list fl q rows is h = go (read s list) refl (exactness s list fl q rows is h)
  where
    go : (x : Answer) → read s list ≡ x → Exact s list fl q rows is → (y : Source s list fl q is) × (y.glyphs ≡ glyphs_in rows)
    go (refuse n at) e z = no (rw e at z.accepted)
    go (answer rs xs d) e z =
        let rows_are : rs ≡ rows = sym (ap rows_in e) ∙ z.records in
        let y : Stream s list d (glyphs_in rs) (map (λ (x : ItemRow). x.item) xs) = read_allowed s list rs xs d e in
        let keys : map key_of rows ≡ map key (glyphs_in rs) = keys_rows rows ∙ ap (λ (l : List GlyphRow). map key (glyphs_in l)) (sym rows_are) in
        let text : (q ≡ written z.glyphs) × GoodQuery z.glyphs = query_text.only q z.glyphs z.asked in (
          record {
            families = z.families;
            glyphs = glyphs_in rs;
            wanted = z.glyphs;
            sound_families = record { short = families_short s list fl q rows is h; says = z.sound_families };
            accepted = record { widths = y.widths; list_sound = y.list_sound; end = d; items = map (λ (x : ItemRow). x.item) xs; allowed = y.allowed };
            well_formed = record { text = text.0; good = text.1 };
            list_of = record {
              every = λ i o. z.every i (subst (λ (ks : List Key). OccursAt z.families z.glyphs ks i) (sym keys) o);
              no_other = λ i m. subst (λ (ks : List Key). OccursAt z.families z.glyphs ks i) keys (z.only i m);
              each_once_earliest_first = z.rising;
            };
          },
          ap glyphs_in rows_are,
        )

module _ (s list fl q : List ℕ) (rs : List Record) (hs : List ℕ) (f : Finding) (rs' : List Record) (hs' : List ℕ) (c : FindCall s list fl q rs hs (Ok f) rs' hs') where
  pub only_found : (fs : List Family) × (gs : List Glyph) × (qs : List Wanted) × (is : List ℕ) × SoundFamilies fl fs × Accepted s list gs × WellFormed q qs × ListOf fs qs gs is × FoundAll s rs hs gs is (Ok f) rs' hs'
  only_found = go (find_into (length rs) (length hs) s list fl q) (kept_into (length rs) (length hs) s list fl q) c.answer
    where
      go : (x : Found) → Kept (length rs) (length hs) (find s list fl q) x → Ok f ≡ finding_of x
          → (fs : List Family) × (gs : List Glyph) × (qs : List Wanted) × (is : List ℕ) × SoundFamilies fl fs × Accepted s list gs × WellFormed q qs × ListOf fs qs gs is × FoundAll s rs hs gs is (Ok f) rs' hs'
      go (not_found m at) k a = grind arith
      go (found rows is) k a =
          let y : (x : Source s list fl q is) × (x.glyphs ≡ glyphs_in rows) = source s list fl q rows is k.0 in
          let x : Source s list fl q is = y.0 in
          let m : length x.glyphs ≡ length rows = ap length y.1 ∙ length-map rows (λ (r : GlyphRow). r.glyph) in
          (x.families, x.glyphs, x.wanted, is, x.sound_families, x.accepted, x.well_formed, x.list_of, answers s list fl q rs hs (Ok f) rs' hs' c x.families x.glyphs x.wanted is x.sound_families x.accepted x.well_formed x.list_of (omega (arith, m, k.1)) k.2)

  -- the row is the reader's
  pub as_the_reader : (es : List Entry) (a : Reading) (rs₂' : List Record) (es' : List Entry) → ReadCall s list rs es (Ok a) rs₂' es' → rs' ≡ rs₂'
  as_the_reader es a rs₂' es' d = go (find_into (length rs) (length hs) s list fl q) (kept_into (length rs) (length hs) s list fl q) c.answer c.records
    where
      x : Rows s list rs es (Ok a) rs₂' es' d
      x = accepted_call s list rs es (Ok a) rs₂' es' d refl

      go : (y : Found) → Kept (length rs) (length hs) (find s list fl q) y → Ok f ≡ finding_of y → rs' ≡ records_found rs y → rs' ≡ rs₂'
      go (not_found m at) k b e = grind arith
      go (found rows is) k b e =
          let same : rows ≡ x.glyphs = sym (exactness s list fl q rows is k.0).records ∙ ap rows_in x.read_is in
          e ∙ ap (λ (l : List GlyphRow). over (map record_of l) rs) same ∙ sym x.records

-- ---- a refusal

module _ (s list fl q : List ℕ) (rs : List Record) (hs : List ℕ) (rs' : List Record) (hs' : List ℕ) (number at : ℕ) (c : FindCall s list fl q rs hs (Err (refusal number at)) rs' hs') where
  refused_is : (x : Found) → find_into (length rs) (length hs) s list fl q ≡ x → Kept (length rs) (length hs) (find s list fl q) x → Err (refusal number at) ≡ finding_of x → rs' ≡ records_found rs x → hs' ≡ hits_over hs x
      → (find_into (length rs) (length hs) s list fl q ≡ not_found number at) × (rs' ≡ rs) × (hs' ≡ hs) × Kept (length rs) (length hs) (find s list fl q) (not_found number at)
  refused_is (not_found n k) e g a b d =
      let i : not_found n k ≡ not_found number at = grind arith in (e ∙ i, b, d, subst (Kept (length rs) (length hs) (find s list fl q)) i g)
  refused_is (found gs is) e g a b d = grind arith

  refused_call : (find_into (length rs) (length hs) s list fl q ≡ not_found number at) × (rs' ≡ rs) × (hs' ≡ hs) × Kept (length rs) (length hs) (find s list fl q) (not_found number at)
  refused_call = refused_is (find_into (length rs) (length hs) s list fl q) refl (kept_into (length rs) (length hs) s list fl q) c.answer c.records c.hits

  pub leaves : (rs' ≡ rs) × (hs' ≡ hs)
  leaves = let z = refused_call in (z.1, z.2)

  pub refused_into : find_into (length rs) (length hs) s list fl q ≡ not_found number at
  refused_into = refused_call.0

  pub from_the_table : OrRoom (FindOffset s list fl q) number at × Said s list fl q number at
  from_the_table = (offsets.finder (length rs) (length hs) s list fl q number at refused_into, by_number.finder (length rs) (length hs) s list fl q number at refused_into)

  pub refused-kept : Kept (length rs) (length hs) (find s list fl q) (not_found number at)
  refused-kept = refused_call.3

pub only_no_room : (s list fl q : List ℕ) (rs : List Record) (hs : List ℕ) (at : ℕ) (rs' : List Record) (hs' : List ℕ) → FindCall s list fl q rs hs (Err (refusal 13 at)) rs' hs'
    → (fs : List Family) × (gs : List Glyph) × (qs : List Wanted) × (is : List ℕ) × SoundFamilies fl fs × Accepted s list gs × WellFormed q qs × ListOf fs qs gs is × ((length rs < length gs) ⊎ (length hs < length is))
only_no_room s list fl q rs hs at rs' hs' c = go (refused-kept s list fl q rs hs rs' hs' 13 at c)
  where
    go : Kept (length rs) (length hs) (find s list fl q) (not_found 13 at)
        → (fs : List Family) × (gs : List Glyph) × (qs : List Wanted) × (is : List ℕ) × SoundFamilies fl fs × Accepted s list gs × WellFormed q qs × ListOf fs qs gs is × ((length rs < length gs) ⊎ (length hs < length is))
    go (inl e) = absurd (find-not_13 s list fl q 13 at e refl)
    go (inr (e, z, rows, is, f, less)) =
        let y : (x : Source s list fl q is) × (x.glyphs ≡ glyphs_in rows) = source s list fl q rows is f in
        let x : Source s list fl q is = y.0 in
        let m : length x.glyphs ≡ length rows = ap length y.1 ∙ length-map rows (λ (r : GlyphRow). r.glyph) in
        (x.families, x.glyphs, x.wanted, is, x.sound_families, x.accepted, x.well_formed, x.list_of, rw m less)

-- ---- two calls

module _ (s list s₂ list₂ fl q : List ℕ) (rs rs₂ : List Record) (hs hs₂ : List ℕ) (r r₂ : Result Finding Refusal) (rs' rs₂' : List Record) (hs' hs₂' : List ℕ) (fs : List Family) (gs gs₂ : List Glyph) (qs : List Wanted) (is : List ℕ)
    (a : Accepted s list gs) (a₂ : Accepted s₂ list₂ gs₂) (alike : AlikeByFamilies fs gs gs₂) (c : FindCall s list fl q rs hs r rs' hs') (c₂ : FindCall s₂ list₂ fl q rs₂ hs₂ r₂ rs₂' hs₂') (z : SoundFamilies fl fs) (w : WellFormed q qs) (l : ListOf fs qs gs is)
    (p : length gs ≤ length rs) (p₂ : length gs₂ ≤ length rs₂) (k : length is ≤ length hs) (k₂ : length is ≤ length hs₂) where
  one : FoundAll s rs hs gs is r rs' hs'
  one = answers s list fl q rs hs r rs' hs' c fs gs qs is z a w l p k

  two : FoundAll s₂ rs₂ hs₂ gs₂ is r₂ rs₂' hs₂'
  two = answers s₂ list₂ fl q rs₂ hs₂ r₂ rs₂' hs₂' c₂ fs gs₂ qs is z a₂ w (list_alike fs qs gs gs₂ is (sound_parted fl fs z) alike l) p₂ k₂

  count : length gs ≡ length gs₂
  count = alike_count fs gs gs₂ alike

  pub same_list : SameList r r₂ hs' hs₂' × (r ≡ counted (length gs) (length is))
  same_list = (record { numbers = one.numbers ∙ ap (λ (i : ℕ). counted i (length is)) count ∙ sym two.numbers; list = λ f e. lists f.hits (let z : counted (length gs) (length is) ≡ Ok f = sym one.numbers ∙ e in grind arith) }, one.numbers)
    where
      lists : (j : ℕ) → length is ≡ j → take j hs' ≡ take j hs₂'
      lists j e = ap (λ (i : ℕ). take i hs') (sym e) ∙ one.list ∙ sym two.list ∙ ap (λ (i : ℕ). take i hs₂') e

-- ---- whichever command set a one-byte name

outline-append : (cs ds : List Cmd) → outline (cs ++ ds) ≡ outline cs ++ outline ds
unfolding outline
outline-append [] ds = refl
outline-append (c ∷ cs) ds = ap (λ (l : List Sign). signs_of c ++ l) (outline-append cs ds) ∙ sym (append_assoc (signs_of c) (outline cs) (outline ds))

map_both : (xs ys : List ℕ) → map byte_sign xs ++ map byte_sign ys ≡ map byte_sign (xs ++ ys)
map_both [] ys = refl
map_both (x ∷ xs) ys = ap (λ (l : List Sign). byte_sign x ∷ l) (map_both xs ys)

motion-outline : (c : Cmd) (cs : List Cmd) → Motion c → outline (c ∷ cs) ≡ outline cs
unfolding outline
motion-outline c cs (to_place x n) = refl
motion-outline c cs (by_way x n) = refl

set-outline : (cs : List Cmd) (bs : List ℕ) → SetBy cs bs → outline cs ≡ map byte_sign bs
unfolding outline
set-outline cs bs none = refl
set-outline cs bs (c_or_C b cs' bs' h) = ap (λ (l : List Sign). byte_sign b ∷ l) (set-outline cs' bs' h)
set-outline cs bs (t_or_u n ps cs' bs' h) = ap (λ (l : List Sign). map byte_sign ps ++ l) (set-outline cs' bs' h) ∙ map_both ps bs'
set-outline cs bs (two_digits n b cs' bs' h) = ap (λ (l : List Sign). byte_sign b ∷ l) (set-outline cs' bs' h)
set-outline cs bs (motion c cs' bs' m h) = motion-outline c cs' m ∙ set-outline cs' bs' h

otherwise-outline : (cs cs₂ : List Cmd) → SetOtherwise cs cs₂ → outline cs ≡ outline cs₂
unfolding outline
otherwise-outline cs cs₂ ended = refl
otherwise-outline cs cs₂ (same c ds ds₂ h) = ap (λ (l : List Sign). signs_of c ++ l) (otherwise-outline ds ds₂ h)
otherwise-outline cs cs₂ (otherwise ps ps₂ bs ds ds₂ u v h) =
    outline-append ps ds ∙ ap₂ (λ (x y : List Sign). x ++ y) (set-outline ps bs u ∙ sym (set-outline ps₂ bs v)) (otherwise-outline ds ds₂ h) ∙ sym (outline-append ps₂ ds₂)
otherwise-outline cs cs₂ (moved c ds ds₂ m h) = motion-outline c ds m ∙ otherwise-outline ds ds₂ h
otherwise-outline cs cs₂ (moved₂ c ds ds₂ m h) = otherwise-outline ds ds₂ h ∙ sym (motion-outline c ds₂ m)

pub outline_keys : (s list : List ℕ) (gs : List Glyph) (a : Accepted s list gs) → map key gs ≡ keys_from 0 0 (outline a.allowed.commands)
outline_keys s list gs a =
    let x : ReadsTo s list a.end gs a.items = accepted_reads s list gs a in
    ap (map key) (sym x.glyphs_are)
    ∙ sym (keys_rows x.rows)
    ∙ sym (ap keys_in x.read_is)
    ∙ keys_by_outline s list (allowed_accepted s list a.end gs a.items a.widths a.list_sound a.allowed)
    ∙ ap (λ (cs : List Cmd). keys_from 0 0 (outline cs)) (commands_are s list a.end gs a.items a.widths a.list_sound a.allowed)

pub otherwise_keys : (s list s₂ list₂ : List ℕ) (gs gs₂ : List Glyph) (a : Accepted s list gs) (a₂ : Accepted s₂ list₂ gs₂) → SetOtherwise a.allowed.commands a₂.allowed.commands → map key gs ≡ map key gs₂
otherwise_keys s list s₂ list₂ gs gs₂ a a₂ h =
    outline_keys s list gs a ∙ ap (keys_from 0 0) (otherwise-outline a.allowed.commands a₂.allowed.commands h) ∙ sym (outline_keys s₂ list₂ gs₂ a₂)

-- ---- alike

pub alike_keys : (gs gs₂ : List Glyph) → Alike gs gs₂ → map key gs ≡ map key gs₂
alike_keys [] [] h = refl
alike_keys [] (g₂ ∷ gs₂) h = absurd h
alike_keys (g ∷ gs) [] h = absurd h
alike_keys (g ∷ gs) (g₂ ∷ gs₂) h =
    ap₂ (λ (k : Key) (l : List Key). k ∷ l) (λ i. record { name = h.0 i; gap = h.1 i; ordinal = h.2 i }) (alike_keys gs gs₂ h.3)
