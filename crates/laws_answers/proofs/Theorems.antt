-- The proofs of the statements.
use Rattle.std.specs.Prelude.{if◌then◌else◌}
use Prim.Native.Nat.{ℕ, suc, ◌+◌, ◌<◌, ◌≤◌}
use native.Mathlib.Omega.{arith}
use mathlib.Core.Bool.{Bool, true, false, ◌||◌}
use mathlib.Core.List.{List, [], ◌∷◌, ◌++◌, map, map-map}
use mathlib.Core.Logic.{◌⊎◌, inl, inr}
use mathlib.Core.Path.{◌≡◌, refl, sym, ap, ap₂, ◌∙◌}
use lib.ListN.{length}
use borrow.Author.Tests.{ltb-true, le-ltb, lt-ltb, le-leb, lt-leb}
use Rattle.rules.specs.Act.{Cmd, just, word}
use Rattle.rules.specs.Scan.{Cmds, commands}
use Rattle.rules.specs.Widths.{Widths, WidthList, unsound, sound, width_list}
use Rattle.rules.specs.State.{corner, Env, start, Item, Step, refused, went, steps}
use Rattle.rules.specs.Record.{GlyphRow, Answer, refuse, answer, follow, seen}
use Rattle.rules.specs.House.{played, spelling, spell_all}
use Rattle.rules.specs.Families.{Family, FamilyList, ill_grouped, grouped, family_list}
use Rattle.rules.specs.Find.{Wanted, Key, key, Sought, sought, hits_from, Query, ill_formed, well_formed, query}
use Rattle.rules.specs.Answers.{stream_most, is_over, read, is_accepted, Spelling, not_spelled, spelled, spell_if, spell_with, respell, Found, not_found, found, key_of, hits_in, find_asked, find_grouped, find_with, find, read_into, respell_into, find_into}
use Rattle.laws.proofs.Cases.{on, no, or_true}
use Rattle.laws.proofs.Good.{AllGood}
use Rattle.laws_read.specs.Outline.{Sign, byte_sign, signs_of, outline, keys_from}
use Rattle.laws_read.proofs.Runs.{well}
use Rattle.laws_read.proofs.Play.{spelling-read, spelling_again}
use Rattle.laws_read.proofs.Alike.{glyphs_of, keys_of}
use Rattle.laws_read.specs.Kept.{unmotioned, all_kept}
use Rattle.laws_read.proofs.Kept.{spelling-kept, commands-kept}
use Rattle.laws_read.specs.Spots.{spots_of}
use Rattle.laws_read.proofs.Spots.{spelling_spots}
use Rattle.laws_read.proofs.Placed.{did_go, seen-follow, seen-goes, goes_well, says, finish_well}
use Rattle.laws_read.proofs.Spells.{played_fair, house_good}
use Rattle.laws_print.proofs.Trip.{placed, round_trip_lem, bare-placed, placed-ended}
use Rattle.laws_find.specs.Occurs.{key_at, wanted_at, QueryShape, OccursAt, Elem}
use Rattle.laws_find.proofs.Families.{grouped_parted, match_good}
use Rattle.laws_find.proofs.Exact.{hits_rise, hits_occur, occurs_hits}
use Rattle.laws_find.proofs.Asked.{query-shape, shape_some}
use Rattle.laws_find.proofs.Written.{written_read, read-written, query_short, names_some}
use Rattle.laws_scan.proofs.Fair.{commands_good}
use Rattle.laws_scan.proofs.Names.{AllRows, RowsOf, read_stands}
use Rattle.laws_answers.specs.Statements.{Accepted, rows_in, SameReading, ReadAgain, RoundTrip, FixedPoint, Exact, Exactness, listed, told, cmds_of, acts_of, house_text, OneSpelling, Answered, QueryText, Roomy, Limits, ByOutline, single, ByAnyCommand, NamesIn, NamesOf, NamesStand, Alike, Likeness}

-- ---- an accepted stream

-- its list is sound, nothing is too long, and it is read command by command
pub record SoundInputs (s list : List ℕ) : Type 0 where
  pub widths : Widths
  pub list_sound : width_list list ≡ sound widths
  pub stream_short : is_over stream_most s ≡ false
  pub list_short : is_over 65_536 list ≡ false

pub sound_of : (s list : List ℕ) → Accepted s list → SoundInputs s list
unfolding read
sound_of s list h =
    on (is_over stream_most s) (λ k. no (rw k at h))
    (λ k. on (is_over 65_536 list) (λ j. no (rw (k, j) at h)) (λ j. go k j (width_list list) refl (rw (k, j) at h)))
  where
    go : is_over stream_most s ≡ false → is_over 65_536 list ≡ false → (x : WidthList) → width_list list ≡ x
        → is_accepted (Rattle.rules.specs.Answers.read_with s x) ≡ true → SoundInputs s list
    go k j (unsound at) q a = no a
    go k j (sound w) q a = record { widths = w; list_sound = q; stream_short = k; list_short = j }

module _ (s list : List ℕ) (z : SoundInputs s list) where
  pub read-follow : read s list ≡ follow z.widths start (commands 0 0 s)
  unfolding read
  read-follow = rw (z.stream_short, z.list_short, z.list_sound)

module _ (s list : List ℕ) (z : SoundInputs s list) (h : Accepted s list) where
  w : Widths
  w = z.widths

  follows : is_accepted (follow z.widths start (commands 0 0 s)) ≡ true
  follows = rw (read-follow s list z) at h

  pub all_well : well (steps z.widths start (cmds_of s)) ≡ true
  all_well = goes_well z.widths (commands 0 0 s) follows

  -- what an accepted stream says, its commands say
  pub read_says : seen (read s list) ≡ steps z.widths start (cmds_of s)
  read_says = ap seen (read-follow s list z) ∙ says z.widths (commands 0 0 s) follows

-- ---- the spelling of an accepted stream

module _ (v : Widths) (s : List ℕ) (g : well (steps v start (cmds_of s)) ≡ true) where
  all_good : AllGood (spelling v (cmds_of s))
  all_good = house_good (played v start (cmds_of s)) start corner (played_fair v (commands 0 0 s) start (commands_good s 0 0)) (refl, refl)

  -- its commands
  pub spelling_cmds : commands 0 0 (spell_all (spelling v (cmds_of s))) ≡ placed 0 (spelling v (cmds_of s))
  spelling_cmds = round_trip_lem (spelling v (cmds_of s)) all_good 0

  pub spelling-bare : cmds_of (spell_all (spelling v (cmds_of s))) ≡ map just (spelling v (cmds_of s))
  spelling-bare = ap Rattle.rules.specs.Scan.bare spelling_cmds ∙ bare-placed (spelling v (cmds_of s)) 0

  spelling-follow : seen (follow v start (commands 0 0 (spell_all (spelling v (cmds_of s))))) ≡ steps v start (cmds_of s)
  spelling-follow =
      rw (
        spelling_cmds,
        seen-follow v (placed 0 (spelling v (cmds_of s))) start (placed-ended (spelling v (cmds_of s)) 0),
        bare-placed (spelling v (cmds_of s)) 0,
        spelling-read v (cmds_of s) g,
      )
      (finish_well (steps v start (cmds_of s)) g)

  spelling-text : spell_all (spelling v (cmds_of (spell_all (spelling v (cmds_of s))))) ≡ spell_all (spelling v (cmds_of s))
  spelling-text = rw spelling-bare (ap spell_all (spelling_again v (cmds_of s) g))

abbrev widths_in : Widths → WidthList → Widths
widths_in w (unsound at) = w
widths_in w (sound v) = v

sound_same : (v w : Widths) → sound v ≡ sound w → v ≡ w
sound_same v w h = ap (widths_in v) h

-- what it says that a spelling was given
abbrev is_spelled : Spelling → Bool
is_spelled (not_spelled n at) = false
is_spelled (spelled t) = true

abbrev text_of : Spelling → List ℕ
text_of (not_spelled n at) = []
text_of (spelled t) = t

pub record Spelt (t u : List ℕ) (x : Answer) : Type 0 where
  pub accepted : is_accepted x ≡ true
  pub text : t ≡ u
  pub fits : is_over stream_most u ≡ false

pub spelt : (t u : List ℕ) (x : Answer) → spell_if t x ≡ spelled u → Spelt t u x
spelt t u (refuse n at) h = no (ap is_spelled h)
spelt t u (answer rs xs e) h =
    on (is_over stream_most t) (λ k. no (ap is_spelled (rw k at h)))
    (λ k. let q : t ≡ u = ap text_of (rw k at h) in record { accepted = refl; text = q; fits = rw (← q) k })

spells : (t : List ℕ) (x : Answer) → is_accepted x ≡ true → is_over stream_most t ≡ false → spell_if t x ≡ spelled t
spells t (refuse n at) h k = no h
spells t (answer rs xs e) h k = rw k

-- ---- the round trip

-- the spelling is read as the stream is, places aside, and is its own spelling
pub record Again (s list t : List ℕ) : Type 0 where
  pub stream_accepted : Accepted s list
  pub spelling_accepted : Accepted t list
  pub alike : seen (read t list) ≡ seen (read s list)
  pub same : respell t list ≡ spelled t
  pub kept : (w : Widths) → width_list list ≡ sound w → unmotioned (acts_of w t) ≡ unmotioned (acts_of w s)
  pub kept_commands : all_kept (cmds_of t) ≡ all_kept (cmds_of s)
  pub places : (w : Widths) → width_list list ≡ sound w → spots_of w start (cmds_of t) ≡ spots_of w start (cmds_of s)

pub again : (s list t : List ℕ) → respell s list ≡ spelled t → Again s list t
unfolding respell
again s list t h = first (spelt (spell_with s (width_list list)) t (read s list) h)
  where
    go : (z : SoundInputs s list) → Accepted s list → is_over stream_most t ≡ false → spell_all (spelling z.widths (cmds_of s)) ≡ t → Again s list t
    go z a f e =
        let g : well (steps z.widths start (cmds_of s)) ≡ true = all_well s list z a in
        let zt : SoundInputs t list = record { widths = z.widths; list_sound = z.list_sound; stream_short = f; list_short = z.list_short } in
        let r : seen (read t list) ≡ seen (read s list) =
        ap seen (read-follow t list zt) ∙ rw (← e) (spelling-follow z.widths s g) ∙ sym (read_says s list z a) in
        let b : Accepted t list = sym (seen-goes (read t list)) ∙ ap did_go r ∙ seen-goes (read s list) ∙ a in
        let x : spell_all (spelling z.widths (cmds_of t)) ≡ t = rw (← e) (spelling-text z.widths s g) in
        let kept_here : unmotioned (acts_of z.widths t) ≡ unmotioned (acts_of z.widths s) = rw (← e, spelling-bare z.widths s g) (spelling-kept z.widths (cmds_of s) g) in
        let places_here : spots_of z.widths start (cmds_of t) ≡ spots_of z.widths start (cmds_of s) = rw (← e, spelling-bare z.widths s g) (spelling_spots z.widths (cmds_of s) g) in
        record {
          stream_accepted = a;
          spelling_accepted = b;
          alike = r;
          same = rw (z.list_sound, x) (spells t (read t list) b f);
          kept = λ w q. rw (← sound_same z.widths w (sym z.list_sound ∙ q)) kept_here;
          kept_commands = rw (← e, spelling-bare z.widths s g) (commands-kept z.widths (cmds_of s) g);
          places = λ w q. rw (← sound_same z.widths w (sym z.list_sound ∙ q)) places_here;
        }

    second : (z : SoundInputs s list) → Spelt (spell_with s (width_list list)) t (read s list) → Again s list t
    second z p = go z p.accepted p.fits (rw z.list_sound at p.text)

    first : Spelt (spell_with s (width_list list)) t (read s list) → Again s list t
    first p = second (sound_of s list p.accepted) p

-- answers that say the same are the same readings
pub same_reading : (a b : Answer) → is_accepted a ≡ true → is_accepted b ≡ true → seen a ≡ seen b → SameReading a b
same_reading (refuse n at) b h k e = no h
same_reading (answer rs xs d) (refuse n at) h k e = no k
same_reading (answer rs xs d) (answer rs' xs' d') h k e = record {
  glyphs = ap glyphs_of e;
  drawings_and_controls = ap items_of e;
  pages = ap (λ (v : Env). v.ordinal) (ap (env_of d) e);
  end_position = ap (λ (v : Env). v.spot) (ap (env_of d) e);
  glyph_colour = ap (λ (v : Env). v.glyph_paint) (ap (env_of d) e);
  fill_colour = ap (λ (v : Env). v.fill_paint) (ap (env_of d) e);
}
  where
    items_of : Step → List Item
    items_of (refused n) = []
    items_of (went v gs is) = is

    env_of : Env → Step → Env
    env_of v (refused n) = v
    env_of v (went u gs is) = u

pub round_trip : RoundTrip
round_trip s list t h = go (again s list t h)
  where
    go : Again s list t → ReadAgain s list t
    go a = record {
      stream_accepted = a.stream_accepted;
      spelling_accepted = a.spelling_accepted;
      same = same_reading (read t list) (read s list) a.spelling_accepted a.stream_accepted a.alike;
      kept = a.kept;
      kept_commands = a.kept_commands;
      places = a.places;
    }

pub fixed_point : FixedPoint
fixed_point s list t h = (again s list t h).same

-- ---- the one spelling

spelled_or : (t : List ℕ) (a : Answer) → is_accepted a ≡ true → (spell_if t a ≡ spelled t) ⊎ ((spell_if t a ≡ not_spelled 13 0) × (stream_most < length t))
spelled_or t (refuse n at) h = no h
spelled_or t (answer rs xs e) h = on (is_over stream_most t) (λ k. rw k (inr (refl, ltb-true stream_most (length t) k))) (λ k. rw k (inl refl))

same_if : (t t' : List ℕ) (a b : Answer) → t ≡ t' → is_accepted a ≡ true → is_accepted b ≡ true → spell_if t a ≡ spell_if t' b
same_if t t' (refuse n at) b e h k = no h
same_if t t' (answer rs xs d) (refuse n at) e h k = no k
same_if t t' (answer rs xs d) (answer rs' xs' d') e h k = rw e

same_commands : (s s' list : List ℕ) → Accepted s list → Accepted s' list → cmds_of s ≡ cmds_of s' → respell s list ≡ respell s' list
unfolding respell
same_commands s s' list h k e = go (width_list list)
  where
    go : (x : WidthList) → spell_if (spell_with s x) (read s list) ≡ spell_if (spell_with s' x) (read s' list)
    go (unsound at) = same_if [] [] (read s list) (read s' list) refl h k
    go (sound v) = same_if (spell_all (spelling v (cmds_of s))) (spell_all (spelling v (cmds_of s'))) (read s list) (read s' list) (rw e) h k

refused-spelling : (s list : List ℕ) (n at : ℕ) → read s list ≡ refuse n at → respell s list ≡ not_spelled n at
unfolding respell
refused-spelling s list n at h = rw h

sound-list : (s list : List ℕ) → Accepted s list → (w : Widths) × (width_list list ≡ sound w)
sound-list s list h = let z : SoundInputs s list = sound_of s list h in (z.widths, z.list_sound)

given_spelling : (s list : List ℕ) (w : Widths) → width_list list ≡ sound w → Accepted s list
    → (respell s list ≡ spelled (house_text w s)) ⊎ ((respell s list ≡ not_spelled 13 0) × (stream_most < length (house_text w s)))
unfolding respell
given_spelling s list w e h = rw e (spelled_or (house_text w s) (read s list) h)

pub one_spelling : OneSpelling
one_spelling = record { by_commands = same_commands; sound-list = sound-list; accepted = given_spelling; refused = refused-spelling }

-- ---- finding

-- what the finder does with an accepted stream: the family list and the query are judged, then the records are searched
abbrev searched : Answer → List Family → Query → Found
searched a fs (ill_formed at) = not_found 12 at
searched a fs (well_formed qs) = hits_in (map (sought fs) qs) a

abbrev searched_in : Answer → Query → FamilyList → Found
searched_in a x (ill_grouped at) = not_found 14 at
searched_in a x (grouped fs) = searched a fs x

abbrev searched_if : Bool → Answer → Query → FamilyList → Found
searched_if b a x g = if b then not_found 1 0 else searched_in a x g

-- the family list or the query is too long
abbrev pub is_long : List ℕ → List ℕ → Bool
is_long fl q = is_over 65_536 fl || is_over 8_192 q

pub find-searched : (s list fl q : List ℕ) → SoundInputs s list → find s list fl q ≡ searched_if (is_long fl q) (read s list) (query q) (family_list fl)
unfolding find
find-searched s list fl q z =
    rw (z.stream_short, z.list_short, z.list_sound, read-follow s list z) (go (is_long fl q) (family_list fl))
  where
    asked : (x : Query) (fs : List Family) → find_asked s z.widths fs x ≡ searched (follow z.widths start (commands 0 0 s)) fs x
    asked (ill_formed at) fs = refl
    asked (well_formed qs) fs = refl

    with_families : (y : FamilyList) → find_grouped s z.widths q y ≡ searched_in (follow z.widths start (commands 0 0 s)) (query q) y
    with_families (ill_grouped at) = refl
    with_families (grouped fs) = asked (query q) fs

    go : (b : Bool) (y : FamilyList) → (if b then not_found 1 0 else find_grouped s z.widths q y) ≡ searched_if b (follow z.widths start (commands 0 0 s)) (query q) y
    go true y = refl
    go false y = with_families y

abbrev pub keys_in : Answer → List Key
keys_in a = map key_of (rows_in a)

length_keys : (rs : List GlyphRow) → length (map key_of rs) ≡ length rs
length_keys [] = refl
length_keys (r ∷ rs) = ap suc (length_keys rs)

told_hits : (qs : List Sought) (a : Answer) → is_accepted a ≡ true → told (hits_in qs a) ≡ listed (hits_from qs 0 (keys_in a)) (length (keys_in a))
told_hits qs (refuse n at) h = no h
told_hits qs (answer rs xs e) h = ap (listed (hits_from qs 0 (map key_of rs))) (sym (length_keys rs))

told-searched : (b : Bool) (x : Query) (g : FamilyList) (a a' : Answer) → is_accepted a ≡ true → is_accepted a' ≡ true → keys_in a ≡ keys_in a'
    → told (searched_if b a x g) ≡ told (searched_if b a' x g)
told-searched true x g a a' h h' e = refl
told-searched false x (ill_grouped at) a a' h h' e = refl
told-searched false (ill_formed at) (grouped fs) a a' h h' e = refl
told-searched false (well_formed qs) (grouped fs) a a' h h' e = told_hits (map (sought fs) qs) a h ∙ rw e (sym (told_hits (map (sought fs) qs) a' h'))

-- with one family list, finding depends only on the names' bytes, the gap signs and the page ordinals of the records, in order
pub found_by_keys : (s list s' list' : List ℕ) → Accepted s list → Accepted s' list' → keys_in (read s list) ≡ keys_in (read s' list')
    → (fl q : List ℕ) → told (find s list fl q) ≡ told (find s' list' fl q)
found_by_keys s list s' list' h h' e fl q =
    ap told (find-searched s list fl q (sound_of s list h))
    ∙ told-searched (is_long fl q) (query q) (family_list fl) (read s list) (read s' list') h h' e
    ∙ sym (ap told (find-searched s' list' fl q (sound_of s' list' h')))

keys_glyphs : (x : Answer) → keys_in x ≡ map key (glyphs_of (seen x))
keys_glyphs (refuse n at) = refl
keys_glyphs (answer rs xs e) = sym (map-map key (λ (r : GlyphRow). r.glyph) rs)

-- what finding sees of an accepted stream is told by its outline
pub keys_by_outline : (s list : List ℕ) → Accepted s list → keys_in (read s list) ≡ keys_from 0 0 (outline (cmds_of s))
keys_by_outline s list h = go (sound_of s list h)
  where
    go : SoundInputs s list → keys_in (read s list) ≡ keys_from 0 0 (outline (cmds_of s))
    go z = keys_glyphs (read s list) ∙ rw (read_says s list z h) (keys_of z.widths (cmds_of s) (all_well s list z h))

pub by_outline : ByOutline
by_outline s list s' list' h h' e =
    found_by_keys s list s' list' h h' (rw (keys_by_outline s list h, keys_by_outline s' list' h', e))

swap_outline : (xs ys : List Cmd) (c c' : Cmd) → signs_of c ≡ signs_of c' → outline (xs ++ c ∷ ys) ≡ outline (xs ++ c' ∷ ys)
unfolding outline
swap_outline [] ys c c' e = ap (λ (l : List Sign). l ++ outline ys) e
swap_outline (x ∷ xs) ys c c' e = ap (λ (l : List Sign). signs_of x ++ l) (swap_outline xs ys c c' e)

word_glyphs : (n : ℕ) (bs : List ℕ) (cs : List Cmd) → outline (word n bs ∷ cs) ≡ outline (map single bs ++ cs)
unfolding outline
word_glyphs n [] cs = refl
word_glyphs n (b ∷ bs) cs = ap (λ (l : List Sign). byte_sign b ∷ l) (word_glyphs n bs cs)

pub by_any_command : ByAnyCommand
by_any_command = record { by_outline = by_outline; swap = swap_outline; by_word = λ n b. refl; by_two_digits = λ n b. refl; word_by_glyphs = word_glyphs }

-- ---- the list is exact

abbrev is_found : Found → Bool
is_found (not_found n at) = false
is_found (found rs is) = true

abbrev rows_of : Found → List GlyphRow
rows_of (not_found n at) = []
rows_of (found rs is) = rs

abbrev hits_of : Found → List ℕ
hits_of (not_found n at) = []
hits_of (found rs is) = is

-- the finder's list comes from sound lists, a well-formed query and an accepted stream
pub record Searched (s list fl q : List ℕ) (rs : List GlyphRow) (is : List ℕ) : Type 0 where
  pub families : List Family
  pub sound_families : family_list fl ≡ grouped families
  pub wanted : List Wanted
  pub asked : query q ≡ well_formed wanted
  pub accepted : Accepted s list
  pub records : rows_in (read s list) ≡ rs
  pub hits : is ≡ hits_from (map (sought families) wanted) 0 (map key_of rs)

hits_searched : (qs : List Sought) (a : Answer) (rs : List GlyphRow) (is : List ℕ) → hits_in qs a ≡ found rs is
    → (is_accepted a ≡ true) × (rows_in a ≡ rs) × (is ≡ hits_from qs 0 (map key_of rs))
hits_searched qs (refuse n at) rs is h = no (ap is_found h)
hits_searched qs (answer rs' xs e) rs is h =
    let r : rs' ≡ rs = ap rows_of h in
    (refl, r, sym (ap hits_of h) ∙ ap (λ (l : List GlyphRow). hits_from qs 0 (map key_of l)) r)

module _ (s list fl q : List ℕ) (rs : List GlyphRow) (is : List ℕ) where
  searched_if_lem : (b : Bool) (x : Query) (g : FamilyList) → query q ≡ x → family_list fl ≡ g → searched_if b (read s list) x g ≡ found rs is → Searched s list fl q rs is
  searched_if_lem true x g e f h = no (ap is_found h)
  searched_if_lem false x (ill_grouped at) e f h = no (ap is_found h)
  searched_if_lem false (ill_formed at) (grouped fs) e f h = no (ap is_found h)
  searched_if_lem false (well_formed qs) (grouped fs) e f h =
      let p : (is_accepted (read s list) ≡ true) × (rows_in (read s list) ≡ rs) × (is ≡ hits_from (map (sought fs) qs) 0 (map key_of rs)) = hits_searched (map (sought fs) qs) (read s list) rs is h in
      record { families = fs; sound_families = f; wanted = qs; asked = e; accepted = p.0; records = p.1; hits = p.2 }

  -- a list of hits is given only where no input is too long and the width list is sound
  found-sound : find s list fl q ≡ found rs is → SoundInputs s list
  unfolding find
  found-sound h =
      on (is_over stream_most s) (λ k. no (ap is_found (rw k at h)))
      (λ k. on (is_over 65_536 list) (λ j. no (ap is_found (rw (k, j) at h)))
      (λ j. on (is_long fl q) (λ i. no (ap is_found (rw (k, j, i) at h))) (λ i. go k j (width_list list) refl (rw (k, j, i) at h))))
    where
      go : is_over stream_most s ≡ false → is_over 65_536 list ≡ false → (x : WidthList) → width_list list ≡ x → find_with s fl q x ≡ found rs is → SoundInputs s list
      go k j (unsound at) e a = no (ap is_found a)
      go k j (sound v) e a = record { widths = v; list_sound = e; stream_short = k; list_short = j }

pub exactness : Exactness
exactness s list fl q rs is h =
    go (searched_if_lem s list fl q rs is (is_long fl q) (query q) (family_list fl) refl refl (sym (find-searched s list fl q (found-sound s list fl q rs is h)) ∙ h))
  where
    below : (fs : List Family) (qs : List Wanted) (i : ℕ) → 0 < length qs → OccursAt fs qs (map key_of rs) i → i < length rs
    below fs qs i p o = let e : i + length qs ≤ length (map key_of rs) = o.exist in omega (arith, length_keys rs)

    go : Searched s list fl q rs is → Exact s list fl q rs is
    go x =
        let fs : List Family = x.families in
        let qs : List Wanted = x.wanted in
        let shape : QueryShape qs = query-shape q qs x.asked in
        let only : (i : ℕ) → Elem i is → OccursAt fs qs (map key_of rs) i = λ i m. hits_occur fs qs (map key_of rs) i (rw x.hits at m) in
        record {
          families = fs;
          sound_families = x.sound_families;
          glyphs = qs;
          asked = x.asked;
          shape = shape;
          accepted = x.accepted;
          records = x.records;
          rising = rw x.hits (hits_rise (map (sought fs) qs) (map key_of rs));
          only = only;
          every = λ i o. rw x.hits (occurs_hits fs qs (map key_of rs) i (grouped_parted fl fs x.sound_families) (shape_some qs shape) o);
          below = λ i m. below fs qs i (shape_some qs shape) (only i m);
        }

-- ---- names

names_in : (s : List ℕ) (rs : List GlyphRow) → AllRows s rs → NamesIn s rs
names_in s [] h = tt
names_in s (r ∷ rs) h = (h.0.stands, names_in s rs h.1)

names_of : (s : List ℕ) (a : Answer) → RowsOf s a → NamesOf s a
names_of s (refuse n at) h = tt
names_of s (answer rs xs e) h = names_in s rs h.0

pub names_stand : NamesStand
names_stand s list = names_of s (read s list) (read_stands s list)

-- ---- likeness

rows_names : (s : List ℕ) (a : Answer) → NamesOf s a → NamesIn s (rows_in a)
rows_names s (refuse n at) h = tt
rows_names s (answer rs xs e) h = h

alike_keys : (s : List ℕ) (rs : List GlyphRow) (s' : List ℕ) (rs' : List GlyphRow) → NamesIn s rs → NamesIn s' rs' → Alike s rs s' rs'
    → map key_of rs ≡ map key_of rs'
alike_keys s [] s' [] n n' h = refl
alike_keys s [] s' (r' ∷ rs') n n' h = absurd h
alike_keys s (r ∷ rs) s' [] n n' h = absurd h
alike_keys s (r ∷ rs) s' (r' ∷ rs') n n' h =
    let e : r.glyph.name ≡ r'.glyph.name = sym n.0 ∙ h.0 ∙ n'.0 in
    let k : key_of r ≡ key_of r' = λ i. record { name = e i; gap = h.1 i; ordinal = h.2 i } in
    ap₂ (λ (x : Key) (l : List Key). x ∷ l) k (alike_keys s rs s' rs' n.1 n'.1 h.3)

pub likeness : Likeness
likeness s list s' list' h h' a =
    found_by_keys s list s' list' h h'
    (alike_keys s (rows_in (read s list)) s' (rows_in (read s' list')) (rows_names s (read s list) (names_stand s list)) (rows_names s' (read s' list') (names_stand s' list')) a)

-- ---- every well-formed query is answered

abbrev numbers_of : Answer → Found
numbers_of (refuse m b) = not_found m b
numbers_of (answer rs xs d) = not_found 0 0

module _ (s list fl q : List ℕ) (fs : List Family) (qs : List Wanted) (g : family_list fl ≡ grouped fs) (l : is_over 65_536 fl ≡ false) (a : query q ≡ well_formed qs) (o : is_over 8_192 q ≡ false) where
  sound_or : (x : WidthList) → width_list list ≡ x → is_over stream_most s ≡ false → is_over 65_536 list ≡ false → (n at : ℕ) → read s list ≡ refuse n at → find s list fl q ≡ not_found n at
  unfolding read find
  sound_or (unsound p) e k j n at h = rw (k, j, l, o, e) (ap numbers_of (let z : refuse 2 p ≡ refuse n at = rw (k, j, e) at h in z))
  sound_or (sound v) e k j n at h = rw (k, j, l, o, e, g, a, rw (k, j, e) at h)

  refused-find : (n at : ℕ) → read s list ≡ refuse n at → find s list fl q ≡ not_found n at
  unfolding read find
  refused-find n at h =
      on (is_over stream_most s) (λ k. rw k (ap numbers_of (rw k at h)))
      (λ k. on (is_over 65_536 list) (λ j. rw (k, j) (ap numbers_of (rw (k, j) at h))) (λ j. sound_or (width_list list) refl k j n at h))

  accepted_find : Accepted s list → find s list fl q ≡ found (rows_in (read s list)) (hits_from (map (sought fs) qs) 0 (map key_of (rows_in (read s list))))
  accepted_find h = find-searched s list fl q (sound_of s list h) ∙ rw (l, o, a, g) (go (read s list) h)
    where
      go : (x : Answer) → is_accepted x ≡ true → hits_in (map (sought fs) qs) x ≡ found (rows_in x) (hits_from (map (sought fs) qs) 0 (map key_of (rows_in x)))
      go (refuse n at) k = no k
      go (answer rs xs e) k = refl

pub answered : Answered
answered = record {
  accepted = λ s list fl q fs qs h g l a o. accepted_find s list fl q fs qs g l a o h;
  refused = λ s list fl q fs qs n at g l a o h. refused-find s list fl q fs qs g l a o n at h;
}

-- ---- what a query's text asks

named : (fl q : List ℕ) (fs : List Family) (qs : List Wanted) (ks : List Key) (i j : ℕ) → family_list fl ≡ grouped fs → query q ≡ well_formed qs → OccursAt fs qs ks i → j < length qs
    → 1 ≤ length (key_at ks (i + j)).name
named fl q fs qs ks i j g a o l =
    (match_good fs (key_at ks (i + j)).name (wanted_at qs j).name (grouped_parted fl fs g) (o.name j l) (names_some q qs j a l)).some

pub query_text : QueryText
query_text = record { asks = written_read; only = read-written; short = query_short; named = named }

-- ---- enough room

pub roomy : Roomy
unfolding read_into respell_into find_into
roomy = record {
  reader = λ records entries s list rs xs e h a b. rw (h, le-ltb records (length rs) a, le-ltb entries (length xs) b);
  rewriter = λ room s list t h a. rw (h, le-ltb room (length t) a);
  finder = λ records hits s list fl q rs is h a b. rw (h, le-ltb records (length rs) a, le-ltb hits (length is) b);
}

-- ---- limits

-- the limit of a spelling
short_spelling : (s list : List ℕ) (w : Widths) → width_list list ≡ sound w → Accepted s list → length (house_text w s) ≤ 16_777_216 → respell s list ≡ spelled (house_text w s)
unfolding respell
short_spelling s list w e h k = rw e (spells (house_text w s) (read s list) h (le-ltb stream_most (length (house_text w s)) k))

too_long : (t : List ℕ) (x : Answer) → is_accepted x ≡ true → is_over stream_most t ≡ true → spell_if t x ≡ not_spelled 13 0
too_long t (refuse n at) h k = no h
too_long t (answer rs xs e) h k = rw k

long_spelling : (s list : List ℕ) (w : Widths) → width_list list ≡ sound w → Accepted s list → 16_777_216 < length (house_text w s) → respell s list ≡ not_spelled 13 0
unfolding respell
long_spelling s list w e h k = rw e (too_long (house_text w s) (read s list) h (lt-ltb stream_most (length (house_text w s)) k))

pub limits_hold : Limits
unfolding read find
limits_hold = record {
  long_stream = λ s list h. rw (lt-ltb stream_most (length s) h);
  long_list = λ s list h. rw (lt-ltb 65_536 (length list) h, or_true (is_over stream_most s) true refl);
  long_families = λ s list fl q h. rw (lt-ltb 65_536 (length fl) h, or_true (is_over 65_536 list) true refl, or_true (is_over stream_most s) true refl);
  long_query = λ s list fl q h. rw (lt-ltb 8_192 (length q) h, or_true (is_over 65_536 fl) true refl, or_true (is_over 65_536 list) true refl, or_true (is_over stream_most s) true refl);
  not_long = λ s list h k. rw (le-ltb stream_most (length s) h, le-ltb 65_536 (length list) k);
  not_long_query = λ s list fl q h k m l. rw (le-ltb stream_most (length s) h, le-ltb 65_536 (length list) k, le-ltb 65_536 (length fl) m, le-ltb 8_192 (length q) l);
  not_long_spelling = short_spelling;
  long_spelling = long_spelling;
  text = λ t h. rw (le-leb (length t) 4_096 h);
  long_text = λ t h. rw (lt-leb (length t) 4_096 h);
}
