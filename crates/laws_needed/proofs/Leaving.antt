-- Two readers of the same acts, at two places that differ in x: what they read differs, where anything tells.
use Rattle.std.specs.Prelude.{if◌then◌else◌}
use Prim.Native.Nat.{ℕ}
use mathlib.Core.Bool.{Bool, true, false}
use mathlib.Core.List.{List, [], ◌∷◌, ◌++◌, map, map-append}
use mathlib.Core.Option.{Option, none, some}
use mathlib.Core.Path.{◌≡◌, refl, sym, ap, subst, ◌∙◌}
use lib.Dec.{ltb}
use Rattle.std.proofs.lemmas.List.{append_cancel_left}
use Rattle.rules.specs.Bytes.{origin}
use Rattle.rules.specs.Drawing.{way_of}
use Rattle.rules.specs.Act.{Shape, Axis, across, down, Act, glyph, index, to, by, page, font, size, colour, break, space, draw, device, resolution, init, file, mount, plain, raw, stop}
use Rattle.rules.specs.State.{Spot, corner, get, put, item, item_at, with_font, recorded, indexed, may_go, spot_after, filled, Env, set_spot, set_fill_paint, set_phase, Glyph, Item, Step, refused, went, before, and_then, on_page, in_body, due, effect, act, run, stopped}
use Rattle.laws.proofs.Cases.{on, no, and_left, if_on}
use Rattle.laws_read.proofs.Placed.{did_go}
use Rattle.laws_moves.specs.Sparing.{placed, mute, kind_of}
use Rattle.laws_moves.proofs.Spare.{Same, stays, top, not_stopped, facts}
use Rattle.laws_needed.specs.Statement.{across_only, other_axis, PlaceToldBy, PlaceTold}

-- ---- what is read, as far as places go

abbrev pub records_of : Step → List Glyph
records_of (refused n) = []
records_of (went e gs is) = gs

abbrev pub entries_of : Step → List Item
entries_of (refused n) = []
entries_of (went e gs is) = is

abbrev pub end_of : Step → Spot
end_of (refused n) = corner
end_of (went e gs is) = e.spot

pub record Alike (a b : Step) : Type 0 where
  pub records : records_of a ≡ records_of b
  pub entries : entries_of a ≡ entries_of b
  pub end : end_of a ≡ end_of b

-- what came of reading y, unless that was refused
abbrev pub Reads : Step → Step → Type 0
Reads a b = did_go a ≡ true → a ≡ b

-- ---- what was read before is the same

abbrev is_nil : {A : Type 0} → List A → Bool
is_nil [] = true
is_nil (y ∷ l) = false

nil_right : {A : Type 0} (xs ys : List A) → [] ≡ xs ++ ys → [] ≡ ys
nil_right [] ys h = h
nil_right (x ∷ xs) ys h = no (ap is_nil (sym h))

pub record Rest (b b' : Step) : Type 0 where
  pub read : Step
  pub reads : Reads read b'
  pub alike : Alike read b

pub peel : (gs : List Glyph) (is : List Item) (a b b' : Step) → did_go b ≡ true → Reads a (before gs is b') → Alike a (before gs is b) → Rest b b'
peel gs is a (refused n) b' g r k = no g
peel gs is (refused m) (went d hs js) b' g r k = record {
  read = refused m;
  reads = λ h. no h;
  alike = record { records = nil_right gs hs k.records; entries = nil_right is js k.entries; end = k.end };
}
peel gs is (went v ks ls) (went d hs js) (refused m) g r k = no (sym (ap did_go (r refl)))
peel gs is (went v ks ls) (went d hs js) (went d' hs' js') g r k = record {
  read = went d' hs' js';
  reads = λ h. refl;
  alike = record {
    records = append_cancel_left gs hs' hs (sym (ap records_of (r refl)) ∙ k.records);
    entries = append_cancel_left is js' js (sym (ap entries_of (r refl)) ∙ k.entries);
    end = sym (ap end_of (r refl)) ∙ k.end;
  };
}

pub go_before : (gs : List Glyph) (is : List Item) (b : Step) → did_go (before gs is b) ≡ true → did_go b ≡ true
go_before gs is (refused n) h = h
go_before gs is (went e hs js) h = h

-- ---- a line that tells: the first record or entry of what is read has the reader's place

abbrev record_spots : Step → List Spot
record_spots (refused n) = []
record_spots (went e gs is) = map (λ (g : Glyph). g.spot) gs

abbrev entry_spots : Step → List Spot
entry_spots (refused n) = []
entry_spots (went e gs is) = map (λ (i : Item). i.spot) is

same_records : (a b : Step) → records_of a ≡ records_of b → record_spots a ≡ record_spots b
same_records (refused n) (refused m) h = refl
same_records (refused n) (went e gs is) h = ap (map (λ (g : Glyph). g.spot)) h
same_records (went e gs is) (refused m) h = ap (map (λ (g : Glyph). g.spot)) h
same_records (went e gs is) (went e' gs' is') h = ap (map (λ (g : Glyph). g.spot)) h

same_entries : (a b : Step) → entries_of a ≡ entries_of b → entry_spots a ≡ entry_spots b
same_entries (refused n) (refused m) h = refl
same_entries (refused n) (went e gs is) h = ap (map (λ (i : Item). i.spot)) h
same_entries (went e gs is) (refused m) h = ap (map (λ (i : Item). i.spot)) h
same_entries (went e gs is) (went e' gs' is') h = ap (map (λ (i : Item). i.spot)) h

abbrev FirstAt : Spot → List Spot → Type 0
FirstAt p [] = ⊥
FirstAt p (s ∷ l) = s ≡ p

first_front : (p : Spot) (l m : List Spot) → FirstAt p l → FirstAt p (l ++ m)
first_front p [] m h = absurd h
first_front p (s ∷ l) m h = h

one_first : (p q : Spot) (l : List Spot) → FirstAt p l → FirstAt q l → q ≡ p
one_first p q [] h k = absurd h
one_first p q (s ∷ l) h k = sym k ∙ h

first_same : (f : Step → List Spot) → ((n : ℕ) → f (refused n) ≡ []) → (a b b' : Step) (p q : Spot) → Reads a b' → f a ≡ f b → FirstAt p (f b)
    → (did_go b' ≡ true → FirstAt q (f b')) → q ≡ p
first_same f z (refused n) b b' p q r k h j = absurd (subst (FirstAt p) (sym k ∙ z n) h)
first_same f z (went d gs is) b b' p q r k h j =
    one_first p q (f b) h (subst (FirstAt q) (sym (ap f (r refl)) ∙ k) (j (sym (ap did_go (r refl)))))

-- of what one act did
abbrev Marks : (Step → List Spot) → Spot → Step → Type 0
Marks f p (refused n) = Unit {0}
Marks f p (went e gs is) = FirstAt p (f (went e gs is))

records_first : (p : Spot) (z : Step) (go : Env → Step) → Marks record_spots p z → did_go (and_then z go) ≡ true → FirstAt p (record_spots (and_then z go))
records_first p (refused n) go h g = no g
records_first p (went e gs is) go h g = on_to (go e) g
  where
    on_to : (b : Step) → did_go (before gs is b) ≡ true → FirstAt p (record_spots (before gs is b))
    on_to (refused n) g = no g
    on_to (went e' gs' is') g =
        rw (map-append (λ (i : Glyph). i.spot) gs gs') (first_front p (map (λ (i : Glyph). i.spot) gs) (map (λ (i : Glyph). i.spot) gs') h)

entries_first : (p : Spot) (z : Step) (go : Env → Step) → Marks entry_spots p z → did_go (and_then z go) ≡ true → FirstAt p (entry_spots (and_then z go))
entries_first p (refused n) go h g = no g
entries_first p (went e gs is) go h g = on_to (go e) g
  where
    on_to : (b : Step) → did_go (before gs is b) ≡ true → FirstAt p (entry_spots (before gs is b))
    on_to (refused n) g = no g
    on_to (went e' gs' is') g =
        rw (map-append (λ (i : Item). i.spot) is is') (first_front p (map (λ (i : Item). i.spot) is) (map (λ (i : Item). i.spot) is') h)

gate : (P : Step → Type 0) (b : Bool) (z : Step) (n : ℕ) → (b ≡ true → P z) → P (refused n) → P (if b then z else refused n)
gate P b z n f y = if_on P b z (refused n) f (λ k. y)

font_marks : (f : Step → List Spot) (p : Spot) (e : Env) (go : ℕ → Step) (o : Option ℕ) → ((n : ℕ) → Marks f p (go n)) → Marks f p (with_font e go o)
font_marks f p e go none h = tt
font_marks f p e go (some n) h = gate (Marks f p) (ltb 0 e.size) (go n) 8 (λ k. h n) tt

glyph_marks : (n : List ℕ) (e : Env) → Marks record_spots e.spot (act e (glyph n))
unfolding act
glyph_marks n e =
    gate (Marks record_spots e.spot) (on_page e) (effect e (glyph n)) 7 (λ h. font_marks record_spots e.spot e (recorded e n 0) e.font (λ f. refl)) tt

index_marks : (n : ℕ) → ltb n origin ≡ false → (e : Env) → Marks record_spots e.spot (act e (index n))
unfolding act
index_marks n k e =
    gate (Marks record_spots e.spot) (on_page e) (effect e (index n)) 7 (λ h. font_marks record_spots e.spot e (indexed e n) e.font (λ f. rw k refl)) tt

draw_marks : (s : Shape) (ns : List ℕ) (e : Env) → Marks entry_spots e.spot (act e (draw s ns))
unfolding act
draw_marks s ns e =
    gate (Marks entry_spots e.spot) (on_page e) (effect e (draw s ns)) 7
    (λ h. gate (Marks entry_spots e.spot) (may_go e.spot (way_of s ns)) (went (set_fill_paint (set_spot e (spot_after e.spot (way_of s ns))) (filled e s ns)) [] (item_at e (draw s ns) ∷ [])) 10 (λ k. refl) tt) tt

raw_marks : (t : List ℕ) (e : Env) → Marks entry_spots e.spot (act e (raw t))
unfolding act
raw_marks t e = gate (Marks entry_spots e.spot) (in_body e) (effect e (raw t)) 7 (λ h. refl) tt

-- ---- nothing is read behind `x s`

none_due : (e : Env) (a : Act) → due (set_phase e 4) a ≡ false
none_due e (glyph n) = refl
none_due e (index n) = refl
none_due e (to x n) = refl
none_due e (by x n) = refl
none_due e (page n) = refl
none_due e (font n) = refl
none_due e (size n) = refl
none_due e (colour c ns) = refl
none_due e break = refl
none_due e space = refl
none_due e (draw s ns) = refl
none_due e (device n) = refl
none_due e (resolution n h v) = refl
none_due e init = refl
none_due e (file n) = refl
none_due e (mount n m) = refl
none_due e (plain c ns) = refl
none_due e (raw t) = refl
none_due e stop = refl

behind-stop : (e : Env) (ys : List Act) → did_go (run (set_phase e 4) ys) ≡ true → end_of (run (set_phase e 4) ys) ≡ e.spot
unfolding run act
behind-stop e [] g = refl
behind-stop e (a ∷ ys) g = no (rw (none_due e a) at g)

-- the reader's place at `x s` is the end position, and there is an entry
pub record Ends (p : Spot) (b : Step) : Type 0 where
  pub end : end_of b ≡ p
  pub some : is_nil (entries_of b) ≡ false

stop_ends : (ys : List Act) (e : Env) → did_go (run e (stop ∷ ys)) ≡ true → Ends e.spot (run e (stop ∷ ys))
unfolding run act
stop_ends ys e g = on (in_body e) (λ h. rw h (here (run (set_phase e 4) ys) (rw h at g) (behind-stop e ys))) (λ h. no (rw h at g))
  where
    here : (b : Step) → did_go (before [] (item e stop ∷ []) b) ≡ true → (did_go b ≡ true → end_of b ≡ e.spot) → Ends e.spot (before [] (item e stop ∷ []) b)
    here (refused n) g f = no g
    here (went d gs is) g f = record { end = f refl; some = refl }

ends_same : (a b b' : Step) (p q : Spot) → Reads a b' → Alike a b → Ends p b → (did_go b' ≡ true → Ends q b') → q ≡ p
ends_same (refused n) b b' p q r k h j = no (sym h.some ∙ sym (ap is_nil k.entries))
ends_same (went d gs is) b b' p q r k h j = sym (j (sym (ap did_go (r refl)))).end ∙ sym (ap end_of (r refl)) ∙ k.end ∙ h.end

-- ---- a line that is passed by: both readers do the same, and their places still differ

pub on_page_not-stopped : (e : Env) → on_page e ≡ true → stopped e ≡ false
on_page_not-stopped e h = not_stopped e 3 (and_left (in_body e) (ltb 0 e.ordinal) h) refl

pub to_same : (y : Axis) (n : ℕ) (e : Env) (q : Spot) → Same e q (put y n) (to y n) (act e (to y n))
unfolding act
to_same across n e q = gate (Same e q (put across n) (to across n)) (on_page e) (effect e (to across n)) 7 (λ h. (rw h, refl, on_page_not-stopped e h)) tt
to_same down n e q = gate (Same e q (put down n) (to down n)) (on_page e) (effect e (to down n)) 7 (λ h. (rw h, refl, on_page_not-stopped e h)) tt

pub mute_same : (n : ℕ) → ltb n origin ≡ true → (e : Env) (q : Spot) → Same e q stays (index n) (act e (index n))
unfolding act
mute_same n k e q = gate (Same e q stays (index n)) (on_page e) (effect e (index n)) 7 (λ h. with_font_lem h e.font refl) tt
  where
    with_font_lem : on_page e ≡ true → (o : Option ℕ) → e.font ≡ o → Same e q stays (index n) (with_font e (indexed e n) o)
    with_font_lem h none w = tt
    with_font_lem h (some f) w = gate (Same e q stays (index n)) (ltb 0 e.size) (indexed e n f) 8 (λ j. rw k (rw (h, w, j, k) refl, refl, on_page_not-stopped e h)) tt

module _ (x : Axis) where
  abbrev Apart : Spot → Spot → Type 0
  Apart p q = get x q ≡ get x p → ⊥

  -- of two readers at places apart, with all that is read by one of them and what is said to be read by the other
  abbrev pub Differ : List Act → Type 0
  Differ ys = (e : Env) (q : Spot) (a : Step) → (get x q ≡ get x e.spot → ⊥) → PlaceTold x ys → did_go (run e ys) ≡ true → Reads a (run (set_spot e q) ys) → Alike a (run e ys) → ⊥

  module _ (b : Act) (ys : List Act) where
    -- the same, of the act and all behind it
    abbrev DifferOn : Type 0
    DifferOn = (e : Env) (q : Spot) (a : Step) → Apart e.spot q → did_go (run e (b ∷ ys)) ≡ true → Reads a (run (set_spot e q) (b ∷ ys)) → Alike a (run e (b ∷ ys)) → ⊥

    passes : (m : Spot → Spot) → ((p q : Spot) → Apart p q → Apart (m p) (m q)) → ((e : Env) (q : Spot) → Same e q m b (act e b)) → Differ ys → PlaceTold x ys → DifferOn
    unfolding run
    passes m w f more t e q a d g r k = go (act e b) (f e q) g k
      where
        go : (z : Step) → Same e q m b z → did_go (and_then z (λ u. run u ys)) ≡ true → Alike a (and_then z (λ u. run u ys)) → ⊥
        go (refused n) s g k = no g
        go (went u gs is) s g k =
            let went_on : did_go (run u ys) ≡ true = go_before gs is (run u ys) g in
            let l : Rest (run u ys) (run (set_spot u (m q)) ys) = peel gs is a (run u ys) (run (set_spot u (m q)) ys) went_on (rw s.0 at r) k in
            more u (m q) l.read (λ h. w e.spot q d (h ∙ ap (get x) s.1)) t went_on l.reads l.alike

    by_records : ((e : Env) → Marks record_spots e.spot (act e b)) → DifferOn
    unfolding run
    by_records f e q a d g r k =
        let at : (u : Env) → did_go (run u (b ∷ ys)) ≡ true → FirstAt u.spot (record_spots (run u (b ∷ ys))) = λ u. records_first u.spot (act u b) (λ v. run v ys) (f u) in
        d (ap (get x) (first_same record_spots (λ n. refl) a (run e (b ∷ ys)) (run (set_spot e q) (b ∷ ys)) e.spot q r (same_records a (run e (b ∷ ys)) k.records) (at e g) (at (set_spot e q))))

    by_entries : ((e : Env) → Marks entry_spots e.spot (act e b)) → DifferOn
    unfolding run
    by_entries f e q a d g r k =
        let at : (u : Env) → did_go (run u (b ∷ ys)) ≡ true → FirstAt u.spot (entry_spots (run u (b ∷ ys))) = λ u. entries_first u.spot (act u b) (λ v. run v ys) (f u) in
        d (ap (get x) (first_same entry_spots (λ n. refl) a (run e (b ∷ ys)) (run (set_spot e q) (b ∷ ys)) e.spot q r (same_entries a (run e (b ∷ ys)) k.entries) (at e g) (at (set_spot e q))))

  by_end : (ys : List Act) → DifferOn stop ys
  by_end ys e q a d g r k = d (ap (get x) (ends_same a (run e (stop ∷ ys)) (run (set_spot e q) (stop ∷ ys)) e.spot q r k (stop_ends ys e g) (stop_ends ys (set_spot e q))))

-- a motion of the other axis, and for h a page, leave the places apart
to_differ : (x y : Axis) (n : ℕ) (ys : List Act) → Differ x ys → other_axis x y (PlaceTold x ys) → DifferOn x (to y n) ys
to_differ across across n ys more t = absurd t
to_differ across down n ys more t = passes across (to down n) ys (put down n) (λ p q d. d) (to_same down n) more t
to_differ down across n ys more t = passes down (to across n) ys (put across n) (λ p q d. d) (to_same across n) more t
to_differ down down n ys more t = absurd t

page_differ : (x : Axis) (n : ℕ) (ys : List Act) → Differ x ys → across_only x (PlaceTold x ys) → DifferOn x (page n) ys
page_differ across n ys more t = passes across (page n) ys top (λ p q d. d) (λ e q. (facts e q (page n)).1) more t
page_differ down n ys more t = absurd t

index_differ : (x : Axis) (n : ℕ) (ys : List Act) → Differ x ys → (b : Bool) → ltb n origin ≡ b → PlaceToldBy x (if b then mute else placed) (PlaceTold x ys) → DifferOn x (index n) ys
index_differ x n ys more true k t = passes x (index n) ys stays (λ p q d. d) (mute_same n k) more t
index_differ x n ys more false k t = by_records x (index n) ys (index_marks n k)

module _ (x : Axis) (ys : List Act) (more : Differ x ys) where
  floats_on : (a : Act) → ((e : Env) (q : Spot) → Same e q stays a (act e a)) → PlaceTold x ys → DifferOn x a ys
  floats_on a f t = passes x a ys stays (λ p q d. d) f more t

  act_differ : (a : Act) → PlaceToldBy x (kind_of a) (PlaceTold x ys) → DifferOn x a ys
  act_differ (glyph n) t = by_records x (glyph n) ys (glyph_marks n)
  act_differ (index n) t = index_differ x n ys more (ltb n origin) refl t
  act_differ (to y n) t = to_differ x y n ys more t
  act_differ (by y n) t = absurd t
  act_differ (page n) t = page_differ x n ys more t
  act_differ (font n) t = floats_on (font n) (λ e q. (facts e q (font n)).1) t
  act_differ (size n) t = floats_on (size n) (λ e q. (facts e q (size n)).1) t
  act_differ (colour c ns) t = floats_on (colour c ns) (λ e q. (facts e q (colour c ns)).1) t
  act_differ break t = floats_on break (λ e q. (facts e q break).1) t
  act_differ space t = floats_on space (λ e q. (facts e q space).1) t
  act_differ (draw s ns) t = by_entries x (draw s ns) ys (draw_marks s ns)
  act_differ (device n) t = floats_on (device n) (λ e q. (facts e q (device n)).1) t
  act_differ (resolution n h v) t = floats_on (resolution n h v) (λ e q. (facts e q (resolution n h v)).1) t
  act_differ init t = floats_on init (λ e q. (facts e q init).1) t
  act_differ (file n) t = floats_on (file n) (λ e q. (facts e q (file n)).1) t
  act_differ (mount n m) t = floats_on (mount n m) (λ e q. (facts e q (mount n m)).1) t
  act_differ (plain c ns) t = floats_on (plain c ns) (λ e q. (facts e q (plain c ns)).1) t
  act_differ (raw s) t = by_entries x (raw s) ys (raw_marks s)
  act_differ stop t = by_end x ys

pub differ : (x : Axis) (ys : List Act) → Differ x ys
unfolding PlaceTold
differ x [] e q a d t g r k = absurd t
differ x (b ∷ ys) e q a d t g r k = act_differ x ys (differ x ys) b t e q a d g r k
