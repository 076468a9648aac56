-- Records found one by one, a query at one of them, and how many hits there are.
use Rattle.std.specs.Prelude.{Option, Some, None, if◌then◌else◌}
use Prim.Native.Nat.{ℕ, zero, suc, ◌+◌, ◌<◌, ◌≤◌}
use native.Mathlib.Omega.{arith}
use mathlib.Core.Bool.{Bool, true, false, ◌&&◌}
use mathlib.Core.List.{List, [], ◌∷◌, map}
use mathlib.Core.Path.{◌≡◌, refl, sym, ap, ◌∙◌}
use mir.Val.{bool_byte}
use lib.Dec.{ltb}
use Rattle.std.proofs.lemmas.List.{length-map}
use lib.ListN.{length, drop}
use Rattle.rules.specs.Find.{Sought, glyph_test, passes, goes_on, occurs, hits_from, Key as RulesKey}
use Rattle.laws.proofs.Cases.{on}
use Rattle.find_match.specs.declared.Key.{Key}
use Rattle.find_match.specs.declared.Question.{Question}
use Rattle.find_match.specs.Match.{key_in, sought_at, glyphs_of}
use Rattle.find_match.proofs.Glyphs.{glyph_here, glyphs_over}
use Rattle.find_outline.specs.declared.Outline.{Outline}
use Rattle.find_outline.specs.declared.Moved.{Moved}
use Rattle.find_outline.specs.Move.{standing, move_of}
use Rattle.find_keys.specs.Keys.{keys_before, keys_on, keys_for, moves_left, keys_at, Fair}
use Rattle.find_keys.proofs.Hits.{hits_few}
use Rattle.find_keys.proofs.Keys.{Onward, move_on, keys_step, keys_over}
use Rattle.find_count.specs.declared.Found.{Found}
use Rattle.find_count.specs.Count.{seen_from, GoesOn}

-- ---- the next record

pub record Nexting (s : List ℕ) (o d : Outline) : Type 0 where
  pub same : keys_at s o ≡ keys_at s d
  pub fair : Fair (length s) d
  pub less : moves_left s d ≤ moves_left s o

pub next_start : (s : List ℕ) (o : Outline) → Fair (length s) o → Nexting s o o
next_start s o f = record { same = refl; fair = f; less = omega arith }

module _ (s : List ℕ) (o d : Outline) (v : Nexting s o d) where
  pub next_fair : Fair (length s) d
  next_fair = v.fair

  module _ (m : Moved) (h : d.at < length s) (e : m ≡ move_of s d) where
    onward : Onward s d m.on
    onward = rw e (move_on s d v.fair h)

    keys_here : keys_at s o ≡ keys_on m (keys_at s m.on)
    keys_here = v.same ∙ keys_step s d v.fair h ∙ ap (λ (x : Moved). keys_on x (keys_at s x.on)) (sym e)

    module _ (k : Key) (z : m.key ≡ Some k) where
      pub next_seen : key_in s k ∷ map (key_in s) (keys_at s m.on) ≡ map (key_in s) (keys_at s o)
      next_seen = ap (map (key_in s)) (sym (keys_here ∙ ap (λ (x : Option Key). keys_before x (keys_at s m.on)) z))

      pub next_goes : Fair (length s) m.on
      next_goes = onward.fair

      pub next_nearer : moves_left s m.on < moves_left s o
      next_nearer = omega (arith, onward.less, v.less)

    pub next_more : m.key ≡ None → Nexting s o m.on
    next_more z = record { same = keys_here ∙ ap (λ (x : Option Key). keys_before x (keys_at s m.on)) z; fair = onward.fair; less = omega (arith, onward.less, v.less) }

    pub next_less : moves_left s m.on < moves_left s d
    next_less = onward.less

  pub next_none : length s ≤ d.at → [] ≡ map (key_in s) (keys_at s o)
  next_none h = ap (map (key_in s)) (sym (v.same ∙ keys_over s d h))

pub ruleset nexting = (next_start, next_fair, next_seen, next_goes, next_nearer, next_more, next_less, next_none)

-- ---- the glyphs from one on

module _ (s : List ℕ) (w : Question) (first : Found) where
  -- the page of the first one's record
  abbrev page : ℕ
  page = first.key.ordinal

  pub record Going (found : Option Found) (j : ℕ) : Type 0 where
    pub same : occurs (glyphs_of w) (seen_from s (Some first)) ≡ goes_on page (drop j (glyphs_of w)) (seen_from s found)
    pub on : GoesOn s found

  pub going_start : Fair (length s) first.on → Going (Some first) 0
  going_start f = record { same = refl; on = f }

  module _ (found : Option Found) (j : ℕ) (v : Going found j) where
    module _ (h : j < length w.glyphs.now) where
      here : occurs (glyphs_of w) (seen_from s (Some first)) ≡ goes_on page (sought_at w j ∷ drop (j + 1) (glyphs_of w)) (seen_from s found)
      here = v.same ∙ ap (λ (l : List Sought). goes_on page l (seen_from s found)) (glyph_here w j h)

      pub going_over : found ≡ None → false ≡ occurs (glyphs_of w) (seen_from s (Some first))
      unfolding goes_on
      going_over z = sym (here ∙ ap (λ (x : Option Found). goes_on page (sought_at w j ∷ drop (j + 1) (glyphs_of w)) (seen_from s x)) z)

      module _ (r : Found) (z : found ≡ Some r) where
        pub going_fair : Fair (length s) r.on
        going_fair = rw z at v.on

        at_glyph : occurs (glyphs_of w) (seen_from s (Some first)) ≡ (passes (glyph_test page (sought_at w j) (key_in s r.key)) && goes_on page (drop (j + 1) (glyphs_of w)) (map (key_in s) (keys_at s r.on)))
        unfolding goes_on
        at_glyph = here ∙ ap (λ (x : Option Found). goes_on page (sought_at w j ∷ drop (j + 1) (glyphs_of w)) (seen_from s x)) z

        module _ (fit : Bool) (e : fit ≡ passes (glyph_test page (sought_at w j) (key_in s r.key))) where
          pub going_off : fit ≡ false → false ≡ occurs (glyphs_of w) (seen_from s (Some first))
          going_off f = sym (at_glyph ∙ rw (← e, f))

          pub going_more : (x : Option Found) → fit ≡ true → seen_from s x ≡ map (key_in s) (keys_at s r.on) → GoesOn s x → Going x (j + 1)
          going_more x f p g = record { same = at_glyph ∙ rw (← e, f, ← p); on = g }

    pub going_done : length w.glyphs.now ≤ j → true ≡ occurs (glyphs_of w) (seen_from s (Some first))
    unfolding goes_on
    going_done h = sym (v.same ∙ ap (λ (l : List Sought). goes_on page l (seen_from s found)) (glyphs_over w j h))

pub ruleset goings = (going_start, going_over, going_fair, going_off, going_more, going_done)

-- ---- how many hits

hits_length : (qs : List Sought) (i j : ℕ) (ks : List RulesKey) → length (hits_from qs i ks) ≡ length (hits_from qs j ks)
unfolding hits_from
hits_length qs i j [] = refl
hits_length qs i j (k ∷ ks) = on (occurs qs (k ∷ ks)) (λ z. rw z (ap suc (hits_length qs (i + 1) (j + 1) ks))) (λ z. rw z (hits_length qs (i + 1) (j + 1) ks))

abbrev one : Bool → ℕ
one true = 1
one false = 0

one_is : (b : Bool) → bool_byte b ≡ one b
one_is true = refl
one_is false = refl

pub one_most : (b : Bool) → bool_byte b ≤ 1
one_most true = omega arith
one_most false = omega arith

hits_cons : (qs : List Sought) (k : RulesKey) (ks : List RulesKey) → length (hits_from qs 0 (k ∷ ks)) ≡ one (occurs qs (k ∷ ks)) + length (hits_from qs 0 ks)
unfolding hits_from
hits_cons qs k ks =
    let e : length (hits_from qs 1 ks) ≡ length (hits_from qs 0 ks) = hits_length qs 1 0 ks in
    on (occurs qs (k ∷ ks)) (λ z. rw z (omega arith)) (λ z. rw z (omega arith))

keys_few : (f : ℕ) (s : List ℕ) (o : Outline) → length (keys_for f s o) ≤ f
unfolding keys_for
keys_few zero s o = omega arith
keys_few (suc f) s o = go (ltb o.at (length s)) (move_of s o).key (keys_few f s (move_of s o).on)
  where
    go : (b : Bool) (k : Option Key) → length (keys_for f s (move_of s o).on) ≤ f → length (if b then keys_before k (keys_for f s (move_of s o).on) else []) ≤ suc f
    go true (Some k) h = omega arith
    go true None h = omega arith
    go false k h = omega arith

module _ (s : List ℕ) (w : Question) where
  abbrev all : List RulesKey
  all = map (key_in s) (keys_at s (standing 0 0 0))

  abbrev hits_on : List RulesKey → ℕ
  hits_on ks = length (hits_from (glyphs_of w) 0 ks)

  pub record Counting (o : Outline) (n : ℕ) : Type 0 where
    pub same : n + hits_on (map (key_in s) (keys_at s o)) ≡ hits_on all
    pub fair : Fair (length s) o
    pub short : length s ≤ 16777216

  pub counting_start : length s ≤ 16777216 → Counting (standing 0 0 0) 0
  counting_start h = record { same = omega arith; fair = record { within = omega arith; most = h; pages = omega arith; word = tt }; short = h }

  module _ (o : Outline) (n : ℕ) (v : Counting o n) where
    pub counting_fair : Fair (length s) o
    counting_fair = v.fair

    pub counting_most : n ≤ 40000000
    counting_most =
        omega (arith, v.same, hits_few (glyphs_of w) 0 all, length-map (keys_at s (standing 0 0 0)) (key_in s), keys_few (moves_left s (standing 0 0 0)) s (standing 0 0 0), v.short)

    pub counting_done : (x : Option Found) → seen_from s x ≡ map (key_in s) (keys_at s o) → x ≡ None → n ≡ hits_on all
    unfolding hits_from
    counting_done x e z =
        let k : hits_on (map (key_in s) (keys_at s o)) ≡ 0 = ap hits_on (sym e) ∙ ap (λ (y : Option Found). hits_on (seen_from s y)) z in
        omega (arith, v.same)

    pub counting_next : (r : Found) (hit : Bool) (k : ℕ) → k ≡ bool_byte hit → seen_from s (Some r) ≡ map (key_in s) (keys_at s o) → Fair (length s) r.on → hit ≡ occurs (glyphs_of w) (seen_from s (Some r)) → Counting r.on (n + k)
    counting_next r hit k b e g f =
        let h : n + hits_on (seen_from s (Some r)) ≡ hits_on all = rw e v.same in
        let c : hits_on (seen_from s (Some r)) ≡ one hit + hits_on (map (key_in s) (keys_at s r.on)) = rw f (hits_cons (glyphs_of w) (key_in s r.key) (map (key_in s) (keys_at s r.on))) in
        record { same = omega (arith, b ∙ one_is hit); fair = g; short = v.short }

pub ruleset countings = (counting_start, counting_fair)
