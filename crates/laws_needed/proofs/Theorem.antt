-- Each `H` and `V` line of a house spelling is needed.
use Prim.Native.Nat.{ℕ, suc, ◌+◌, ◌≤◌}
use native.Mathlib.Omega.{arith}
use mathlib.Core.Bool.{true, false}
use mathlib.Core.List.{List, [], ◌∷◌, ◌++◌, map}
use mathlib.Core.Logic.{◌⊎◌, inl, inr}
use mathlib.Core.Path.{◌≡◌, refl, sym, ap, subst, ◌∙◌}
use lib.ListN.{length, length-append}
use borrow.Author.Tests.{ltb-false, le-ltb}
use Rattle.rules.specs.Act.{Axis, across, down, Act, to, by, Cmd, just, word, pair}
use Rattle.rules.specs.Scan.{Cmds, commands, bare}
use Rattle.rules.specs.Widths.{Widths, width_list}
use Rattle.rules.specs.State.{Spot, corner, get, put, Env, start, set_spot, Glyph, Item, Step, refused, went, before, and_then, on_page, act, run, steps}
use Rattle.rules.specs.Record.{Answer, refuse, answer, follow, seen}
use Rattle.rules.specs.House.{played, spelling, spell_act, spell_all}
use Rattle.rules.specs.Answers.{stream_most, read, is_accepted, spelled, spell_with, respell}
use Rattle.laws.proofs.Cases.{on, no}
use Rattle.laws.proofs.Good.{AllGood}
use Rattle.laws_read.proofs.Runs.{well, run-append, well_before, before_nil}
use Rattle.laws_read.proofs.Play.{justs, spelling-run}
use Rattle.laws_read.proofs.Placed.{did_go, finish, seen-follow, seen-goes, finish_well}
use Rattle.laws_read.proofs.Spells.{played_fair, house_good}
use Rattle.laws_print.proofs.Trip.{round_trip_lem, bare-placed, placed-ended, spell_all-append}
use Rattle.laws_scan.proofs.Fair.{commands_good}
use Rattle.laws_moves.specs.Sparing.{Kind, placed, mute, goes, shifts, turns, other, kind_of, is_placed, placed_next, v_next, behind, Spared, Sparing}
use Rattle.laws_moves.proofs.Spare.{house_spares, sparing_at}
use Rattle.laws_answers.specs.Statements.{Accepted, SameReading, cmds_of}
use Rattle.laws_answers.proofs.Theorems.{SoundInputs, sound_of, read-follow, all_well, read_says, same_reading, spelling-bare, Spelt, spelt, round_trip}
use Rattle.laws_needed.specs.Statement.{PlaceToldBy, PlaceTold, mute_by, mute_next, OnlyWhereItDiffers, MotionsNeeded}
use Rattle.laws_needed.proofs.Leaving.{Alike, Reads, Rest, peel, differ, go_before, on_page_not-stopped}
use Rattle.laws_needed.proofs.Idle.{Beside, idle}

-- ---- the acts of a spelling

-- a list of commands that are one act each tells the acts
abbrev act_of : Cmd → List Act
act_of (just a) = a ∷ []
act_of (word n bs) = []
act_of (pair n b) = []

abbrev acts_in : List Cmd → List Act
acts_in [] = []
acts_in (c ∷ cs) = act_of c ++ acts_in cs

acts_back : (xs : List Act) → acts_in (map just xs) ≡ xs
acts_back [] = refl
acts_back (a ∷ xs) = ap (λ (l : List Act). a ∷ l) (acts_back xs)

same_acts : (xs ys : List Act) → map just xs ≡ map just ys → xs ≡ ys
same_acts xs ys h = sym (acts_back xs) ∙ ap acts_in h ∙ acts_back ys

-- what a spelling's acts are known to be
record Spelling (list t : List ℕ) (zs : List Act) : Type 0 where
  good : AllGood zs
  spared : Sparing start zs
  all_went : well (run start zs) ≡ true
  text : t ≡ spell_all zs
  accepted : Accepted t list

spelling_of : (s list t : List ℕ) → respell s list ≡ spelled t → (zs : List Act) → cmds_of t ≡ map just zs → Spelling list t zs
unfolding respell
spelling_of s list t h zs q = first (spelt (spell_with s (width_list list)) t (read s list) h)
  where
    go : (w : Widths) → well (steps w start (cmds_of s)) ≡ true → spell_all (spelling w (cmds_of s)) ≡ t → Spelling list t zs
    go w g e =
        let same : spelling w (cmds_of s) ≡ zs = same_acts (spelling w (cmds_of s)) zs (sym (spelling-bare w s g) ∙ ap cmds_of e ∙ q) in
        record {
          good = subst AllGood same (house_good (played w start (cmds_of s)) start corner (played_fair w (commands 0 0 s) start (commands_good s 0 0)) (refl, refl));
          spared = subst (Sparing start) same (house_spares (played w start (cmds_of s)) start corner);
          all_went = ap (λ (l : List Act). well (run start l)) (sym same) ∙ ap well (spelling-run w (cmds_of s) g) ∙ g;
          text = sym e ∙ ap spell_all same;
          accepted = (round_trip s list t h).spelling_accepted;
        }

    second : (z : SoundInputs s list) → Spelt (spell_with s (width_list list)) t (read s list) → Spelling list t zs
    second z p = go z.widths (all_well s list z p.accepted) (rw z.list_sound at p.text)

    first : Spelt (spell_with s (width_list list)) t (read s list) → Spelling list t zs
    first p = second (sound_of s list p.accepted) p

single-acts : (s list t : List ℕ) → respell s list ≡ spelled t → (zs : List Act) × (cmds_of t ≡ map just zs)
unfolding respell
single-acts s list t h = first (spelt (spell_with s (width_list list)) t (read s list) h)
  where
    second : (z : SoundInputs s list) → Spelt (spell_with s (width_list list)) t (read s list) → (zs : List Act) × (cmds_of t ≡ map just zs)
    second z p = (spelling z.widths (cmds_of s), ap cmds_of (sym (rw z.list_sound at p.text)) ∙ spelling-bare z.widths s (all_well s list z p.accepted))

    first : Spelt (spell_with s (width_list list)) t (read s list) → (zs : List Act) × (cmds_of t ≡ map just zs)
    first p = second (sound_of s list p.accepted) p

-- ---- what a reader of the lines before one has

record Before (xs : List Act) : Type 0 where
  reader : Env
  glyphs : List Glyph
  items : List Item
  so_far : run start xs ≡ went reader glyphs items

run_on : (xs ys : List Act) (e : Env) (gs : List Glyph) (is : List Item) → run start xs ≡ went e gs is → run start (xs ++ ys) ≡ before gs is (run e ys)
run_on xs ys e gs is ran = run-append xs ys start ∙ ap (λ (z : Step). and_then z (λ u. run u ys)) ran

before_of : (xs : List Act) (a : Act) (ys : List Act) → well (run start (xs ++ a ∷ ys)) ≡ true → Before xs
before_of xs a ys g = go (run start xs) refl (sym (ap well (run-append xs (a ∷ ys) start)) ∙ g)
  where
    go : (z : Step) → run start xs ≡ z → well (and_then z (λ e. run e (a ∷ ys))) ≡ true → Before xs
    go (refused n) q h = no h
    go (went e gs is) q h = record { reader = e; glyphs = gs; items = is; so_far = q }

-- ---- the text without a line

drop_good : (xs : List Act) (a : Act) (ys : List Act) → AllGood (xs ++ a ∷ ys) → AllGood (xs ++ ys)
drop_good [] a ys g = g.1
drop_good (x ∷ xs) a ys g = (g.0, drop_good xs a ys g.1)

-- a text of good acts is read as they are, unless it is refused
text_reads : (list : List ℕ) (us : List Act) → AllGood us → Reads (seen (read (spell_all us) list)) (run start us)
text_reads list us g h = go (sym (seen-goes (read (spell_all us) list)) ∙ h)
  where
    cmds : cmds_of (spell_all us) ≡ map just us
    cmds = ap bare (round_trip_lem us g 0) ∙ bare-placed us 0

    by_acts : Accepted (spell_all us) list → SoundInputs (spell_all us) list → seen (read (spell_all us) list) ≡ run start us
    by_acts a z = read_says (spell_all us) list z a ∙ ap (steps z.widths start) cmds ∙ justs z.widths us start

    go : Accepted (spell_all us) list → seen (read (spell_all us) list) ≡ run start us
    go a = by_acts a (sound_of (spell_all us) list a)

-- and is not refused where they all go well and it is not too long
text-read : (list : List ℕ) (us : List Act) → AllGood us → well (run start us) ≡ true → SoundInputs (spell_all us) list → seen (read (spell_all us) list) ≡ run start us
text-read list us g h z =
    ap seen (read-follow (spell_all us) list z)
    ∙ ap (λ (c : Cmds). seen (follow z.widths start c)) (round_trip_lem us g 0)
    ∙ seen-follow z.widths (Rattle.laws_print.proofs.Trip.placed 0 us) start (placed-ended us 0)
    ∙ ap (λ (c : List Cmd). finish (steps z.widths start c)) (bare-placed us 0)
    ∙ ap finish (justs z.widths us start)
    ∙ finish_well (run start us) h

alike_of : (a b : Answer) → SameReading a b → Alike (seen a) (seen b)
alike_of (refuse n at) (refuse m bt) k = record { records = k.glyphs; entries = k.drawings_and_controls; end = k.end_position }
alike_of (refuse n at) (answer rs xs e) k = record { records = k.glyphs; entries = k.drawings_and_controls; end = k.end_position }
alike_of (answer rs xs e) (refuse m bt) k = record { records = k.glyphs; entries = k.drawings_and_controls; end = k.end_position }
alike_of (answer rs xs e) (answer rs' xs' e') k = record { records = k.glyphs; entries = k.drawings_and_controls; end = k.end_position }

well_goes : (b : Step) → well b ≡ true → did_go b ≡ true
well_goes (refused n) h = h
well_goes (went e gs is) h = refl

get-put : (x : Axis) (n : ℕ) (p : Spot) → get x (put x n p) ≡ n
get-put across n p = refl
get-put down n p = refl

-- a motion that went
moved : (e : Env) (x : Axis) (n : ℕ) (ys : List Act) → did_go (run e (to x n ∷ ys)) ≡ true → run e (to x n ∷ ys) ≡ run (set_spot e (put x n e.spot)) ys
unfolding run act
moved e x n ys g = on (on_page e) (λ h. rw h (before_nil (run (set_spot e (put x n e.spot)) ys))) (λ h. no (rw h at g))

module _ (xs : List Act) (x : Axis) (n : ℕ) (ys : List Act) (e : Env) (gs : List Glyph) (is : List Item) (ran : run start xs ≡ went e gs is) (d : get x e.spot ≡ n → ⊥) where
  -- what is read of the text without the line is not what is read of the whole
  apart : (a : Step) → Reads a (run start (xs ++ ys)) → Alike a (run start (xs ++ to x n ∷ ys)) → did_go (run start (xs ++ to x n ∷ ys)) ≡ true → PlaceTold x ys → ⊥
  apart a r k g t =
      let there : Env = set_spot e (put x n e.spot) in
      let whole : run start (xs ++ to x n ∷ ys) ≡ before gs is (run e (to x n ∷ ys)) = run_on xs (to x n ∷ ys) e gs is ran in
      let line_goes : did_go (run e (to x n ∷ ys)) ≡ true = go_before gs is (run e (to x n ∷ ys)) (sym (ap did_go whole) ∙ g) in
      let same : run e (to x n ∷ ys) ≡ run there ys = moved e x n ys line_goes in
      let goes_on : did_go (run there ys) ≡ true = sym (ap did_go same) ∙ line_goes in
      let l : Rest (run there ys) (run e ys) = peel gs is a (run there ys) (run e ys) goes_on (λ h. r h ∙ run_on xs ys e gs is ran) (subst (Alike a) (whole ∙ ap (before gs is) same) k) in
      differ x ys there e.spot l.read (λ h. d (h ∙ get-put x n e.spot)) t goes_on l.reads l.alike

put_beside : (x : Axis) (n : ℕ) (p : Spot) → Beside x (put x n p) p
put_beside across n p = refl
put_beside down n p = refl

motion_idle : (e : Env) (x : Axis) (n : ℕ) (ys : List Act) → Sparing e (to x n ∷ ys) → well (run e (to x n ∷ ys)) ≡ true
    → PlaceTold x ys ⊎ (run e ys ≡ run e (to x n ∷ ys))
unfolding Sparing run act
motion_idle e x n ys s w = on (on_page e) (λ h. go h (rw h at s.1)) (λ h. no (rw h at w))
  where
    same : run e (to x n ∷ ys) ≡ run (set_spot e (put x n e.spot)) ys
    same = moved e x n ys (well_goes (run e (to x n ∷ ys)) w)

    on_to : PlaceTold x ys ⊎ (run e ys ≡ run (set_spot e (put x n e.spot)) ys) → PlaceTold x ys ⊎ (run e ys ≡ run e (to x n ∷ ys))
    on_to (inl p) = inl p
    on_to (inr h) = inr (h ∙ sym same)

    go : on_page e ≡ true → Sparing (set_spot e (put x n e.spot)) ys → PlaceTold x ys ⊎ (run e ys ≡ run e (to x n ∷ ys))
    go h s = on_to (idle x ys (set_spot e (put x n e.spot)) e.spot (put_beside x n e.spot) (on_page_not-stopped e h) s (sym (ap well same) ∙ w))

-- the place is told behind the line, or the text without it is read by the same steps
idle_line : (xs : List Act) (x : Axis) (n : ℕ) (ys : List Act) (e : Env) (gs : List Glyph) (is : List Item) → run start xs ≡ went e gs is
    → Sparing start (xs ++ to x n ∷ ys) → well (run start (xs ++ to x n ∷ ys)) ≡ true → PlaceTold x ys ⊎ (run start (xs ++ ys) ≡ run start (xs ++ to x n ∷ ys))
idle_line xs x n ys e gs is ran s g =
    go (well_before gs is (run e (to x n ∷ ys)) (sym (ap well whole) ∙ g))
  where
    whole : run start (xs ++ to x n ∷ ys) ≡ before gs is (run e (to x n ∷ ys))
    whole = run_on xs (to x n ∷ ys) e gs is ran

    on_to : PlaceTold x ys ⊎ (run e ys ≡ run e (to x n ∷ ys)) → PlaceTold x ys ⊎ (run start (xs ++ ys) ≡ run start (xs ++ to x n ∷ ys))
    on_to (inl p) = inl p
    on_to (inr h) = inr (run_on xs ys e gs is ran ∙ ap (before gs is) h ∙ sym whole)

    go : well (run e (to x n ∷ ys)) ≡ true → PlaceTold x ys ⊎ (run start (xs ++ ys) ≡ run start (xs ++ to x n ∷ ys))
    go w = on_to (motion_idle e x n ys (sparing_at xs (to x n ∷ ys) start e gs is s ran) w)

-- ---- what is placed next tells, unless it is a negative `N`

next-told : (x : Axis) (ys : List Act) → placed_next ys ≡ true → mute_next ys ≡ false → PlaceTold x ys
unfolding mute_next PlaceTold
next-told x [] h m = no h
next-told x (a ∷ ys) h m = go (kind_of a) h m
  where
    go : (k : Kind) → is_placed k ≡ true → mute_by k (mute_next ys) ≡ false → PlaceToldBy x k (PlaceTold x ys)
    go placed h m = tt
    go mute h m = no (sym m)
    go (goes y n) h m = no h
    go shifts h m = no h
    go turns h m = no h
    go other h m = no h

place_told : (x : Axis) (ys : List Act) → behind x ys ≡ true → mute_next ys ≡ false → PlaceTold x ys
unfolding mute_next PlaceTold
place_told down ys h m = next-told down ys h m
place_told across [] h m = no h
place_told across (a ∷ ys) h m = go (kind_of a) h m
  where
    go : (k : Kind) → v_next k ys ≡ true → mute_by k (mute_next ys) ≡ false → PlaceToldBy across k (PlaceTold across ys)
    go placed h m = tt
    go mute h m = no (sym m)
    go (goes across n) h m = no h
    go (goes down n) h m = next-told across ys h m
    go shifts h m = no h
    go turns h m = no h
    go other h m = no h

-- ---- the theorem

module _ (list t : List ℕ) (xs : List Act) (x : Axis) (n : ℕ) (ys : List Act) (z : Spelling list t (xs ++ to x n ∷ ys)) where
  line_text : t ≡ spell_all xs ++ (spell_act (to x n) ++ 10 ∷ spell_all ys)
  unfolding spell_all
  line_text = z.text ∙ spell_all-append xs (to x n ∷ ys)

  whole_says : seen (read t list) ≡ run start (xs ++ to x n ∷ ys)
  whole_says = rw z.text (text_reads list (xs ++ to x n ∷ ys) z.good (rw (← z.text) (seen-goes (read t list) ∙ z.accepted)))

  line_needed : (b : Before xs) → (get x b.reader.spot ≡ n → ⊥) → PlaceTold x ys → SameReading (read (spell_all xs ++ spell_all ys) list) (read t list) → ⊥
  line_needed b d p k =
      let without : Reads (seen (read (spell_all xs ++ spell_all ys) list)) (run start (xs ++ ys)) =
      rw (← spell_all-append xs ys) (text_reads list (xs ++ ys) (drop_good xs (to x n) ys z.good)) in
      apart xs x n ys b.reader b.glyphs b.items b.so_far d (seen (read (spell_all xs ++ spell_all ys) list)) without
      (subst (Alike (seen (read (spell_all xs ++ spell_all ys) list))) whole_says (alike_of (read (spell_all xs ++ spell_all ys) list) (read t list) k))
      (well_goes (run start (xs ++ to x n ∷ ys)) z.all_went) p

  -- the text without the line is shorter
  without_sound : SoundInputs t list → SoundInputs (spell_all (xs ++ ys)) list
  without_sound i = record { widths = i.widths; list_sound = i.list_sound; stream_short = le-ltb stream_most (length (spell_all (xs ++ ys))) shorter; list_short = i.list_short }
    where
      lengths : length t ≡ length (spell_all xs) + (length (spell_act (to x n)) + suc (length (spell_all ys)))
      lengths =
          ap length line_text
          ∙ length-append (spell_all xs) (spell_act (to x n) ++ 10 ∷ spell_all ys)
          ∙ ap (λ (k : ℕ). length (spell_all xs) + k) (length-append (spell_act (to x n)) (10 ∷ spell_all ys))

      without_lengths : length (spell_all (xs ++ ys)) ≡ length (spell_all xs) + length (spell_all ys)
      without_lengths = ap length (spell_all-append xs ys) ∙ length-append (spell_all xs) (spell_all ys)

      shorter : length (spell_all (xs ++ ys)) ≤ stream_most
      shorter = let m : length t ≤ stream_most = ltb-false stream_most (length t) i.stream_short in omega (arith, lengths, without_lengths)

  -- where it is read by the same steps, it is the same reading
  same_without : SoundInputs t list → run start (xs ++ ys) ≡ run start (xs ++ to x n ∷ ys) → SameReading (read (spell_all (xs ++ ys)) list) (read t list)
  same_without i h =
      let says : seen (read (spell_all (xs ++ ys)) list) ≡ seen (read t list) =
      text-read list (xs ++ ys) (drop_good xs (to x n) ys z.good) (ap well h ∙ z.all_went) (without_sound i) ∙ h ∙ sym whole_says in
      let accepted_too : is_accepted (read (spell_all (xs ++ ys)) list) ≡ true = sym (seen-goes (read (spell_all (xs ++ ys)) list)) ∙ ap did_go says ∙ seen-goes (read t list) ∙ z.accepted in
      same_reading (read (spell_all (xs ++ ys)) list) (read t list) accepted_too z.accepted says

  told_or : (b : Before xs) → PlaceTold x ys ⊎ SameReading (read (spell_all xs ++ spell_all ys) list) (read t list)
  told_or b = go (idle_line xs x n ys b.reader b.glyphs b.items b.so_far z.spared z.all_went)
    where
      go : PlaceTold x ys ⊎ (run start (xs ++ ys) ≡ run start (xs ++ to x n ∷ ys)) → PlaceTold x ys ⊎ SameReading (read (spell_all xs ++ spell_all ys) list) (read t list)
      go (inl p) = inl p
      go (inr h) = inr (rw (← spell_all-append xs ys) (same_without (sound_of t list z.accepted) h))

  only_there : Before xs → OnlyWhereItDiffers list t xs x n ys
  unfolding Sparing
  only_there b =
      let s : Spared b.reader ys (goes x n) = (sparing_at xs (to x n ∷ ys) start b.reader b.glyphs b.items z.spared b.so_far).0 in
      record {
        reader = b.reader;
        glyphs = b.glyphs;
        items = b.items;
        so_far = b.so_far;
        differs = s.0;
        before_placed = s.1;
        line = line_text;
        needed = line_needed b s.0;
        told_or_same = told_or b;
        told = place_told x ys s.1;
      }

pub motions_needed : MotionsNeeded
unfolding Sparing
motions_needed = record {
  single = single-acts;
  each = λ s list t h xs x n ys q. each list t xs x n ys (spelling_of s list t h (xs ++ to x n ∷ ys) q);
  no_other = λ s list t h xs x n ys q. other-motion list t xs x n ys (spelling_of s list t h (xs ++ by x n ∷ ys) q);
}
  where
    each : (list t : List ℕ) (xs : List Act) (x : Axis) (n : ℕ) (ys : List Act) → Spelling list t (xs ++ to x n ∷ ys) → OnlyWhereItDiffers list t xs x n ys
    each list t xs x n ys z = only_there list t xs x n ys z (before_of xs (to x n) ys z.all_went)

    other-motion : (list t : List ℕ) (xs : List Act) (x : Axis) (n : ℕ) (ys : List Act) → Spelling list t (xs ++ by x n ∷ ys) → ⊥
    other-motion list t xs x n ys z =
        let b : Before xs = before_of xs (by x n) ys z.all_went in
        (sparing_at xs (by x n ∷ ys) start b.reader b.glyphs b.items z.spared b.so_far).0
