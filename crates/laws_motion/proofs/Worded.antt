-- Words and two digits over the integers.
use Prim.Native.Nat.{ℕ, ◌+◌, ◌*◌, ◌/◌, ◌≤◌, ◌<◌}
use native.Mathlib.Omega.{arith}
use native.Mathlib.Nat.{mul-le-mul, mul-div-le, lt-mul-div-succ, le-div_iff_mul-le, div-lt_iff_lt-mul}
use mathlib.Core.Bool.{Bool, true, false}
use mathlib.Core.List.{List, [], ◌∷◌, map, append-nil}
use mathlib.Core.Logic.{inl, inr, ⊎_elim}
use mathlib.Core.Option.{Option, none, some}
use mathlib.Core.Path.{◌≡◌, refl, sym, ap, ap₂, ◌∙◌}
use lib.Dec.{ltb}
use lib.IntN.{ℤ, pos, neg_ℤ, ◌+ℤ◌, +ℤ_assoc, +ℤ_idr}
use Rattle.rules.specs.Bytes.{origin}
use Rattle.rules.specs.Act.{across, Act, glyph, by, just, word, pair}
use Rattle.rules.specs.Widths.{Widths, Font, width_of, advance}
use Rattle.rules.specs.State.{put, fits, plus, mounted_at, Env, set_gap, set_spot, Glyph, Item, glyph_of, Step, refused, went, before, and_then, on_page, act, run, recorded, Acts, no_acts, these, ready, byte_acts, word_acts, word_in, acts, perform}
use Rattle.rules.specs.Record.{shown}
use Rattle.laws.proofs.Cases.{on, no}
use Rattle.laws_motion.proofs.Steps.{is_refused, After, if_after, font_after, act_after, after_map, then_after}
use Rattle.laws_motion.proofs.Lookup.{width_says}
use Rattle.laws_motion.proofs.Moved.{by_place, by_in, by_not, clash}
use Rattle.laws_motion.specs.Motions.{sum, InLimit, Beyond, Nearest, Advances, Grows, h_at, h_after, SomeBeyond, glyph_h, glyph_v, WordMoved, WordRefused, Words}

-- ---- the advance

-- q is the quotient by 2 * k * m
module _ (w s k m q : ℕ) where
  below : 2 * k * m * q ≤ 2 * w * s + k * m → 2 * k * (m * q) ≤ 2 * w * s + k * m
  below h = omega arith

  above : 2 * w * s + k * m < 2 * k * m * (q + 1) → 2 * w * s < 2 * k * (m * q) + k * m
  above h = omega arith

  from_below : 2 * k * (m * q) ≤ 2 * w * s + k * m → q * (2 * k * m) ≤ 2 * w * s + k * m
  from_below h = omega arith

  from_above : 2 * w * s < 2 * k * (m * q) + k * m → 2 * w * s + k * m < (q + 1) * (2 * k * m)
  from_above h = omega arith

some_product : (k m : ℕ) → 1 ≤ k → 1 ≤ m → 0 < 2 * k * m
some_product k m h l = omega (arith, mul-le-mul h l)

nearest : (w s k m : ℕ) → 1 ≤ k → 1 ≤ m → Nearest w s k m (advance w s k m)
nearest w s k m h l =
    let n : ℕ = 2 * w * s + k * m in
    let d : ℕ = 2 * k * m in
    record {
      factor = _;
      multiple = refl;
      not_below = above w s k m (n / d) (lt-mul-div-succ n (some_product k m h l));
      not_above = below w s k m (n / d) (mul-div-le n d);
    }

no_other : (w s k m a : ℕ) → 1 ≤ k → 1 ≤ m → Nearest w s k m a → a ≡ advance w s k m
no_other w s k m a h l x =
    let n : ℕ = 2 * w * s + k * m in
    let d : ℕ = 2 * k * m in
    let p : ℕ = x.factor in
    let z : 0 < d = some_product k m h l in
    let f : p ≤ n / d = (le-div_iff_mul-le z).1 (from_below w s k m p (rw x.multiple at x.not_above)) in
    let g : n / d < p + 1 = (div-lt_iff_lt-mul z).1 (from_above w s k m p (rw x.multiple at x.not_below)) in
    x.multiple ∙ ap (λ (y : ℕ). m * y) (same_factor p (n / d) f g)
  where
    same_factor : (p q : ℕ) → p ≤ q → q < p + 1 → p ≡ q
    same_factor p q f g = omega arith

pub advances_hold : Advances
advances_hold = record { nearest = nearest; no_other = no_other }

-- ---- what a word did, and where its glyphs stand

-- behind a glyph: no gap, and h grown
abbrev pub grown : Env → ℕ → Env
grown d m = set_spot (set_gap d 0) (put across (plus d.spot.h m) d.spot)

module _ (fs : List Font) (name : List ℕ) (far : ℕ → ℕ) where
  -- the numbers by which h grows
  abbrev By : List ℕ → List ℤ → Type 0
  By [] [] = Unit {0}
  By [] (z ∷ zs) = ⊥
  By (b ∷ bs) [] = ⊥
  By (b ∷ bs) (z ∷ zs) = ((x : ℕ) × (width_of name b fs ≡ some x) × (z ≡ shown (far x))) × By bs zs

  record Gone (d : Env) (bs : List ℕ) (e : Env) (gs : List Glyph) : Type 0 where
    growth : List ℤ
    grows : By bs growth
    glyphs_h : map glyph_h gs ≡ h_at (shown d.spot.h) growth
    glyphs_v : map glyph_v gs ≡ map (λ z. shown d.spot.v) growth
    end_h : shown e.spot.h ≡ shown d.spot.h +ℤ sum growth
    end_v : shown e.spot.v ≡ shown d.spot.v

  -- a glyph of the byte b, then h grown by the number of its width x, then the rest of the word
  one_more : (d : Env) (b x : ℕ) (bs : List ℕ) (g : Glyph) (d' e : Env) (gs : List Glyph) → width_of name b fs ≡ some x → g.spot ≡ d.spot
      → shown d'.spot.h ≡ shown d.spot.h +ℤ shown (far x) → d'.spot.v ≡ d.spot.v → Gone d' bs e gs → Gone d (b ∷ bs) e (g ∷ gs)
  one_more d b x bs g d' e gs w s k v r = record {
    growth = shown (far x) ∷ r.growth;
    grows = ((x, w, refl), r.grows);
    glyphs_h = λ i. shown (s i).h ∷ (r.glyphs_h ∙ ap (λ (z : ℤ). h_at z r.growth) k) i;
    glyphs_v = λ i. shown (s i).v ∷ (r.glyphs_v ∙ ap (λ (y : ℕ). map (λ (z : ℤ). shown y) r.growth) v) i;
    end_h = r.end_h ∙ ap (λ (z : ℤ). z +ℤ sum r.growth) k ∙ +ℤ_assoc (shown d.spot.h) (shown (far x)) (sum r.growth);
    end_v = r.end_v ∙ ap shown v;
  }

  by_gone : (d : Env) (b x : ℕ) (bs : List ℕ) (ys : List Act) (g : Glyph) → width_of name b fs ≡ some x → g.spot ≡ d.spot → ((d' : Env) → After (λ e gs xs. Gone d' bs e gs) (run d' ys))
      → After (λ e gs xs. Gone d (b ∷ bs) e (g ∷ gs)) (run (set_gap d 0) (by across (far x) ∷ ys))
  unfolding run
  by_gone d b x bs ys g w s f =
      then_after (λ e gs xs. Gone d (b ∷ bs) e (g ∷ gs)) (act (set_gap d 0) (by across (far x))) (λ e. run e ys)
      (act_after _ (set_gap d 0) (by across (far x))
      (if_after _ (fits d.spot.h (far x)) (went (grown d (far x)) [] []) 10
      (λ k. after_map (λ e gs xs. Gone (grown d (far x)) bs e gs) (λ e gs xs. Gone d (b ∷ bs) e (g ∷ gs)) (run (grown d (far x)) ys)
      (λ e gs xs r. one_more d b x bs g (grown d (far x)) e gs w s (by_place d.spot.h (far x) k) refl r) (f (grown d (far x))))))

  byte_gone : (d : Env) (b x : ℕ) (bs : List ℕ) (ys : List Act) → width_of name b fs ≡ some x → ((d' : Env) → After (λ e gs xs. Gone d' bs e gs) (run d' ys))
      → After (λ e gs xs. Gone d (b ∷ bs) e gs) (run d (glyph (b ∷ []) ∷ by across (far x) ∷ ys))
  unfolding run
  byte_gone d b x bs ys w f =
      then_after (λ e gs xs. Gone d (b ∷ bs) e gs) (act d (glyph (b ∷ []))) (λ e. run e (by across (far x) ∷ ys))
      (act_after _ d (glyph (b ∷ [])) (font_after _ d (recorded d (b ∷ []) 0) d.font refl (λ p q. by_gone d b x bs ys (glyph_of d p (b ∷ []) 0) w refl f)))

  word_gone : (bs : List ℕ) (d : Env) → After (λ e gs xs. Gone d bs e gs) (perform d (word_acts fs name far bs))
  unfolding word_acts run
  word_gone [] d = record { growth = []; grows = tt; glyphs_h = refl; glyphs_v = refl; end_h = sym (+ℤ_idr (shown d.spot.h)); end_v = refl }
  word_gone (b ∷ bs) d = go (width_of name b fs) refl (word_acts fs name far bs) (λ d'. word_gone bs d')
    where
      go : (o : Option ℕ) → width_of name b fs ≡ o → (t : Acts) → ((d' : Env) → After (λ e gs xs. Gone d' bs e gs) (perform d' t)) → After (λ e gs xs. Gone d (b ∷ bs) e gs) (perform d (byte_acts b far o t))
      go none w t f = tt
      go (some x) w (no_acts n) f = tt
      go (some x) w (these ys) f = byte_gone d b x bs ys w f

-- ---- refusal 10 of a word

-- a word may begin: 7 and 8 are not against it
abbrev pub Ready : Env → Type 0
Ready d = (f : ℕ) × (d.font ≡ some f) × (on_page d ≡ true) × (ltb 0 d.size ≡ true)

-- a glyph is set, and h grows behind it unless that is beyond the limit
pub run_fits : (d : Env) (b m : ℕ) (ys : List Act) (r : Ready d) → fits d.spot.h m ≡ true
    → run d (glyph (b ∷ []) ∷ by across m ∷ ys) ≡ before (glyph_of d r.0 (b ∷ []) 0 ∷ []) [] (before [] [] (run (grown d m) ys))
unfolding run act
run_fits d b m ys r k = rw (r.2, r.1, r.3, r.2, k)

pub run-not : (d : Env) (b m : ℕ) (ys : List Act) → Ready d → fits d.spot.h m ≡ false → run d (glyph (b ∷ []) ∷ by across m ∷ ys) ≡ refused 10
unfolding run act
run-not d b m ys r k = rw (r.2, r.1, r.3, r.2, k)

before_ten : (gs : List Glyph) (xs : List Item) (x : Step) → before gs xs x ≡ refused 10 → x ≡ refused 10
before_ten gs xs (refused n) h = h
before_ten gs xs (went e gs' xs') h = no (sym (ap is_refused (sym h)))

-- both directions, of the acts ys and the numbers zs by which h grows
abbrev Exactly : List Act → List ℤ → Env → Type 0
Exactly ys zs d = (SomeBeyond (h_after (shown d.spot.h) zs) → run d ys ≡ refused 10) × (run d ys ≡ refused 10 → SomeBeyond (h_after (shown d.spot.h) zs))

none_exactly : (d : Env) → Exactly [] [] d
unfolding run
none_exactly d = ((λ o. absurd o), λ k. no (sym (ap is_refused (sym k))))

module _ (d : Env) (b m : ℕ) (ys : List Act) (zs : List ℤ) (r : Ready d) (f : Exactly ys zs (grown d m)) where
  -- where h fits, the rest decides
  on_exactly : fits d.spot.h m ≡ true → Exactly (glyph (b ∷ []) ∷ by across m ∷ ys) (shown m ∷ zs) d
  on_exactly k =
      let e : shown (plus d.spot.h m) ≡ shown d.spot.h +ℤ shown m = by_place d.spot.h m k in
      let l : InLimit (shown d.spot.h +ℤ shown m) = by_in d.spot.h m k in (
        ⊎_elim (λ o. absurd (clash (shown d.spot.h +ℤ shown m) l o)) (λ o. run_fits d b m ys r k ∙ rw (f.0 (rw e o))),
        λ q. inr (rw e at (f.1 (before_ten [] [] (run (grown d m) ys) (before_ten (glyph_of d r.0 (b ∷ []) 0 ∷ []) [] (before [] [] (run (grown d m) ys)) (sym (run_fits d b m ys r k) ∙ q))))),
      )

  -- else it is refused
  off_exactly : fits d.spot.h m ≡ false → Exactly (glyph (b ∷ []) ∷ by across m ∷ ys) (shown m ∷ zs) d
  off_exactly k = ((λ o. run-not d b m ys r k), λ q. inl (by_not d.spot.h m k))

  more_exactly : Exactly (glyph (b ∷ []) ∷ by across m ∷ ys) (shown m ∷ zs) d
  more_exactly = on (fits d.spot.h m) on_exactly off_exactly

module _ (fs : List Font) (name : List ℕ) (far : ℕ → ℕ) where
  abbrev Ten : List ℕ → Acts → Type 0
  Ten bs (no_acts n) = Unit {0}
  Ten bs (these ys) = (zs : List ℤ) × By fs name far bs zs × ((d : Env) → Ready d → Exactly ys zs d)

  word_ten : (bs : List ℕ) → Ten bs (word_acts fs name far bs)
  unfolding word_acts
  word_ten [] = ([], tt, λ d r. none_exactly d)
  word_ten (b ∷ bs) = go (width_of name b fs) refl (word_acts fs name far bs) (word_ten bs)
    where
      go : (o : Option ℕ) → width_of name b fs ≡ o → (t : Acts) → Ten bs t → Ten (b ∷ bs) (byte_acts b far o t)
      go none w t f = tt
      go (some x) w (no_acts n) f = tt
      go (some x) w (these ys) f = (shown (far x) ∷ f.0, ((x, w, refl), f.1), λ d r. more_exactly d b (far x) ys f.0 r (f.2 (grown d (far x)) r))

-- ---- words, as the statements have them

by_grows : (w : Widths) (e : Env) (f n : ℕ) (bs : List ℕ) (zs : List ℤ)
    → By w.fonts (mounted_at f e.mounts) (λ x. advance x e.size w.unitwidth e.quantum + n) bs zs → Grows w e f (shown n) bs zs
by_grows w e f n [] [] h = tt
by_grows w e f n [] (z ∷ zs) h = h
by_grows w e f n (b ∷ bs) [] h = h
by_grows w e f n (b ∷ bs) (z ∷ zs) h =
    ((h.0.0, width_says (mounted_at f e.mounts) b h.0.0 w.fonts h.0.1, h.0.2 ∙ +ℤ_assoc (pos (advance h.0.0 e.size w.unitwidth e.quantum)) (pos n) (neg_ℤ (pos origin))), by_grows w e f n bs zs h.1)

-- where a word or two digits may begin
ready_after : (P : Env → List Glyph → List Item → Type 0) (e : Env) (go : ℕ → Acts) (o : Option ℕ) → e.font ≡ o → ((f : ℕ) → e.font ≡ some f → After P (perform e (go f)))
    → After P (perform e (ready e go o))
ready_after P e go none k h = on (on_page e) (λ p. rw p tt) (λ p. rw p tt)
ready_after P e go (some f) k h = on (on_page e) (λ p. on (ltb 0 e.size) (λ s. rw (p, s) (h f k)) (λ s. rw (p, s) tt)) (λ p. rw p tt)

word_moved : (w : Widths) (e : Env) (n : ℕ) (bs : List ℕ) → After (λ d gs xs. WordMoved w e n bs d gs) (perform e (acts w e (word n bs)))
word_moved w e n bs =
    ready_after (λ d gs xs. WordMoved w e n bs d gs) e (word_in w e n bs) e.font refl
    (λ f k. after_map _ (λ d gs xs. WordMoved w e n bs d gs) (perform e (word_in w e n bs f)) (λ d gs xs g. told f k d gs g)
    (word_gone w.fonts (mounted_at f e.mounts) (λ x. advance x e.size w.unitwidth e.quantum + n) bs e))
  where
    told : (f : ℕ) → e.font ≡ some f → (d : Env) (gs : List Glyph)
        → Gone w.fonts (mounted_at f e.mounts) (λ x. advance x e.size w.unitwidth e.quantum + n) e bs d gs → WordMoved w e n bs d gs
    told f k d gs g = record {
      position = f;
      current = k;
      growth = g.growth;
      grows = by_grows w e f n bs g.growth g.grows;
      glyphs_h = g.glyphs_h;
      glyphs_v = g.glyphs_v;
      end_h = g.end_h;
      end_v = g.end_v;
    }

is_these : Acts → Bool
is_these (no_acts n) = false
is_these (these ys) = true

word_refused : (w : Widths) (e : Env) (n : ℕ) (bs : List ℕ) (ys : List Act) → acts w e (word n bs) ≡ these ys → WordRefused w e n bs
unfolding is_these
word_refused w e n bs ys q = go e.font refl q
  where
    far : ℕ → ℕ
    far x = advance x e.size w.unitwidth e.quantum + n

    told : (f : ℕ) → e.font ≡ some f → Ready e → word_in w e n bs f ≡ these ys → WordRefused w e n bs
    told f k r t =
        let z : Ten w.fonts (mounted_at f e.mounts) far bs (these ys) = rw t at (word_ten w.fonts (mounted_at f e.mounts) far bs) in
        record {
          position = f;
          current = k;
          growth = z.0;
          grows = by_grows w e f n bs z.0 z.1;
          given = λ o. rw q ((z.2 e r).0 o);
          only = λ o. (z.2 e r).1 (rw q at o);
        }

    go : (o : Option ℕ) → e.font ≡ o → ready e (word_in w e n bs) o ≡ these ys → WordRefused w e n bs
    go none k t = on (on_page e) (λ p. no (ap is_these (rw p at t))) (λ p. no (ap is_these (rw p at t)))
    go (some f) k t =
        on (on_page e)
        (λ p. on (ltb 0 e.size) (λ s. told f k (f, k, p, s) (rw (p, s) at t)) (λ s. no (ap is_these (rw (p, s) at t))))
        (λ p. no (ap is_these (rw p at t)))

abbrev pub moved_by : Env → ℕ → Env
moved_by e n = set_spot e (put across (plus e.spot.h n) e.spot)

-- two digits: h grows, then the glyph
pair_moved : (w : Widths) (e : Env) (n b : ℕ)
    → After (λ d gs xs. (map glyph_h gs ≡ (shown e.spot.h +ℤ shown n) ∷ []) × (map glyph_v gs ≡ shown e.spot.v ∷ []) × (shown d.spot.h ≡ shown e.spot.h +ℤ shown n) × (shown d.spot.v ≡ shown e.spot.v))
    (perform e (acts w e (pair n b)))
unfolding run
pair_moved w e n b =
    ready_after _ e (λ f. these (by across n ∷ glyph (b ∷ []) ∷ [])) e.font refl
    (λ f k. then_after _ (act e (by across n)) (λ d. run d (glyph (b ∷ []) ∷ []))
    (act_after _ e (by across n)
    (if_after _ (fits e.spot.h n) (went (moved_by e n) [] []) 10
    (λ j. let z : shown (plus e.spot.h n) ≡ shown e.spot.h +ℤ shown n = by_place e.spot.h n j in
    then_after _ (act (moved_by e n) (glyph (b ∷ []))) (λ d. run d [])
    (act_after _ (moved_by e n) (glyph (b ∷ [])) (font_after _ (moved_by e n) (recorded (moved_by e n) (b ∷ []) 0) e.font refl (λ p q. (ap (λ (y : ℤ). y ∷ []) z, refl, z, refl))))))))

-- 10 exactly where h would be beyond the limit, for two digits that may stand
pair_exactly : (e : Env) (n b : ℕ) → Ready e
    → (Beyond (shown e.spot.h +ℤ shown n) → run e (by across n ∷ glyph (b ∷ []) ∷ []) ≡ refused 10) × (run e (by across n ∷ glyph (b ∷ []) ∷ []) ≡ refused 10 → Beyond (shown e.spot.h +ℤ shown n))
unfolding run act
pair_exactly e n b r =
    on (fits e.spot.h n)
    (λ k. (
      (λ o. absurd (clash (shown e.spot.h +ℤ shown n) (by_in e.spot.h n k) o)),
      λ q. no (sym (ap is_refused (sym (rw (r.2, k, r.2, r.1, r.3) at q)))),
    ))
    (λ k. ((λ o. rw (r.2, k)), λ q. by_not e.spot.h n k))

pair_refused : (w : Widths) (e : Env) (n b : ℕ) (ys : List Act) → acts w e (pair n b) ≡ these ys
    → (Beyond (shown e.spot.h +ℤ shown n) → perform e (acts w e (pair n b)) ≡ refused 10) × (perform e (acts w e (pair n b)) ≡ refused 10 → Beyond (shown e.spot.h +ℤ shown n))
unfolding is_these
pair_refused w e n b ys q = go e.font refl q
  where
    go : (o : Option ℕ) → e.font ≡ o → ready e (λ f. these (by across n ∷ glyph (b ∷ []) ∷ [])) o ≡ these ys
        → (Beyond (shown e.spot.h +ℤ shown n) → perform e (ready e (λ f. these (by across n ∷ glyph (b ∷ []) ∷ [])) o) ≡ refused 10) × (perform e (ready e (λ f. these (by across n ∷ glyph (b ∷ []) ∷ [])) o) ≡ refused 10 → Beyond (shown e.spot.h +ℤ shown n))
    go none k t = on (on_page e) (λ p. no (ap is_these (rw p at t))) (λ p. no (ap is_these (rw p at t)))
    go (some f) k t =
        on (on_page e)
        (λ p. on (ltb 0 e.size) (λ s. rw (p, s) (pair_exactly e n b (f, k, p, s))) (λ s. no (ap is_these (rw (p, s) at t))))
        (λ p. no (ap is_these (rw p at t)))

-- a command of one act
single_again : (s : Step) → and_then s (λ d. run d []) ≡ s
unfolding run
single_again (refused n) = refl
single_again (went d gs xs) = ap₂ (went d) (append-nil gs) (append-nil xs)

single : (w : Widths) (e : Env) (a : Act) → perform e (acts w e (just a)) ≡ act e a
unfolding run
single w e a = single_again (act e a)

pub words_hold : Words
words_hold = record {
  single = single;
  t_number = refl;
  moved_on = λ w e e' gs xs n bs k. rw k at (word_moved w e n bs);
  refusal_10 = word_refused;
  two_digits = λ w e e' gs xs n b k. rw k at (pair_moved w e n b);
  two_digits_10 = pair_refused;
}
