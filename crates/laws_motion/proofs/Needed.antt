-- Refusals 7 to 10, each exactly for its reason.
use Rattle.std.specs.Prelude.{if◌then◌else◌}
use Prim.Native.Nat.{ℕ, suc, ◌+◌, ◌-◌, ◌<◌, ◌≤◌}
use native.Mathlib.Omega.{arith}
use mathlib.Core.Bool.{Bool, true, false}
use mathlib.Core.List.{List, [], ◌∷◌}
use mathlib.Core.Logic.{◌⊎◌, inl, inr, ⊎_elim}
use mathlib.Core.Option.{Option, none, some}
use mathlib.Core.Path.{◌≡◌, refl, sym, ap, ap₂, ◌∙◌}
use lib.Dec.{ltb, eqb}
use lib.IntN.{ℤ, pos, ◌+ℤ◌}
use borrow.Author.Tests.{ltb-true, ltb-false, eqb-true, eqb-false}
use Rattle.std.proofs.Math.Option.{some-injective, none-ne-some}
use Rattle.rules.specs.Bytes.{origin}
use Rattle.rules.specs.Act.{across, Act, glyph, index, to, by, page, font, size, colour, break, space, draw, device, resolution, init, file, mount, plain, raw, stop, Cmd, just, word, pair}
use Rattle.rules.specs.Drawing.{way_of}
use Rattle.rules.specs.Widths.{Widths, Font, width_of, advance}
use Rattle.rules.specs.State.{Env, get, fits, may_go, mounted_at, is_mounted, to_font, set_gap, Glyph, Item, glyph_of, Step, refused, went, before, in_body, on_page, due, with_font, recorded, indexed, effect, act, run, Acts, no_acts, these, ready, byte_acts, word_acts, word_in, acts, perform}
use Rattle.rules.specs.Record.{shown}
use Rattle.laws.proofs.Cases.{on, no, if_on, and_left, and_right}
use Rattle.laws_motion.proofs.Steps.{is_refused, After, if_after, font_after, act_after}
use Rattle.laws_motion.proofs.Held.{shown_pos}
use Rattle.laws_motion.proofs.Lookup.{width_says, said_width}
use Rattle.laws_motion.proofs.Moved.{by_in, by_not, clash, index_stays, refusal_10}
use Rattle.laws_motion.proofs.Worded.{Ready, grown, run_fits, run-not, moved_by, words_hold}
use Rattle.laws_motion.specs.Motions.{Says, Grows, AsWritten, Inside, WordRefused}
use Rattle.laws_motion.specs.Runs.{InLimits, CmdWritten}
use Rattle.laws_motion.specs.Needs.{in_prologue, phase_behind, Phases, on_page_only, NotDue, out_of_order, later, before_page, after_stop, NoFontAndSize, Unmounted, Lacks, SomeByte, NoWidthOf, NoWidth, TooFar, Against, not-due, lacks, no_width, too_far, Smallest, Reasons}

-- ---- 7: the rules' test

-- a test that says whether a command may stand here
abbrev Tells : Env → Cmd → Bool → Type 0
Tells e c t = (t ≡ true → NotDue e c → ⊥) × (t ≡ false → NotDue e c)

module _ (e : Env) (c : Cmd) where
  -- a command of the prologue, behind k others
  first-not : (k : ℕ) → in_prologue c ≡ suc k → on_page_only c ≡ false → k ≤ 2 → e.phase ≡ k → NotDue e c → ⊥
  first-not k p o l d (out_of_order h n) = n (p ∙ ap suc (sym d))
  first-not k p o l d (later h n) = omega arith
  first-not k p o l d (before_page h n) = no (sym o ∙ n)
  first-not k p o l d (after_stop h) = omega arith

  first_is : (k : ℕ) → in_prologue c ≡ suc k → (e.phase ≡ k → ⊥) → NotDue e c
  first_is k p d = on (ltb e.phase 3) (λ l. out_of_order (ltb-true e.phase 3 l) (λ q. d (omega arith))) (λ l. later (ltb-false e.phase 3 l) (omega arith))

  first : (k : ℕ) → in_prologue c ≡ suc k → on_page_only c ≡ false → k ≤ 2 → Tells e c (eqb e.phase k)
  first k p o l = ((λ t. first-not k p o l (eqb-true e.phase k t)), λ t. first_is k p (eqb-false e.phase k t))

  -- any other command: behind the prologue
  body-not : in_prologue c ≡ 0 → (on_page_only c ≡ true → e.ordinal ≡ 0 → ⊥) → e.phase ≡ 3 → NotDue e c → ⊥
  body-not p o d (out_of_order h n) = omega arith
  body-not p o d (later h n) = omega arith
  body-not p o d (before_page h n) = o n h
  body-not p o d (after_stop h) = omega arith

  body_is : in_prologue c ≡ 0 → (e.phase ≡ 3 → ⊥) → NotDue e c
  body_is p d = on (ltb e.phase 3) (λ l. out_of_order (ltb-true e.phase 3 l) (λ q. omega arith)) (λ l. after_stop (more e.phase (ltb-false e.phase 3 l) d))
    where
      more : (n : ℕ) → 3 ≤ n → (n ≡ 3 → ⊥) → 4 ≤ n
      more n l f = on (ltb 3 n) (λ k. omega (arith, ltb-true 3 n k)) (λ k. absurd (f (omega (arith, ltb-false 3 n k))))

  body : in_prologue c ≡ 0 → on_page_only c ≡ false → Tells e c (in_body e)
  body p o = ((λ t. body-not p (λ q. no (sym o ∙ q)) (eqb-true e.phase 3 t)), λ t. body_is p (eqb-false e.phase 3 t))

  -- and on a page
  paged_is : in_prologue c ≡ 0 → on_page_only c ≡ true → on_page e ≡ false → NotDue e c
  paged_is p o t =
      on (in_body e) (λ b. before_page (zero_is (ltb-false 0 e.ordinal (rw b at t))) o) (λ b. body_is p (eqb-false e.phase 3 b))
    where
      zero_is : e.ordinal ≤ 0 → e.ordinal ≡ 0
      zero_is l = omega arith

  paged_not : in_prologue c ≡ 0 → on_page e ≡ true → NotDue e c → ⊥
  paged_not p t =
      let l : 0 < e.ordinal = ltb-true 0 e.ordinal (and_right (in_body e) (ltb 0 e.ordinal) t) in
      body-not p (λ o q. omega arith) (eqb-true e.phase 3 (and_left (in_body e) (ltb 0 e.ordinal) t))

  paged : in_prologue c ≡ 0 → on_page_only c ≡ true → Tells e c (on_page e)
  paged p o = (paged_not p, paged_is p o)

due_tells : (e : Env) (a : Act) → Tells e (just a) (due e a)
due_tells e (glyph n) = paged e (just (glyph n)) refl refl
due_tells e (index n) = paged e (just (index n)) refl refl
due_tells e (to x n) = paged e (just (to x n)) refl refl
due_tells e (by x n) = paged e (just (by x n)) refl refl
due_tells e (page n) = body e (just (page n)) refl refl
due_tells e (font n) = body e (just (font n)) refl refl
due_tells e (size n) = body e (just (size n)) refl refl
due_tells e (colour c ns) = body e (just (colour c ns)) refl refl
due_tells e break = body e (just break) refl refl
due_tells e space = body e (just space) refl refl
due_tells e (draw s ns) = paged e (just (draw s ns)) refl refl
due_tells e (device n) = first e (just (device n)) 0 refl refl (omega arith)
due_tells e (resolution n h v) = first e (just (resolution n h v)) 1 refl refl (omega arith)
due_tells e init = first e (just init) 2 refl refl (omega arith)
due_tells e (file n) = body e (just (file n)) refl refl
due_tells e (mount n m) = body e (just (mount n m)) refl refl
due_tells e (plain c ns) = body e (just (plain c ns)) refl refl
due_tells e (raw t) = body e (just (raw t)) refl refl
due_tells e stop = body e (just stop) refl refl

-- ---- 8: what an act lacks

-- where an act that may stand here is refused, it is with 8, lacking L, or else with 10
abbrev Shape : Type 0 → Step → Type 0
Shape L (refused n) = ((n ≡ 8) × L) ⊎ ((n ≡ 10) × (L → ⊥))
Shape L (went d gs xs) = L → ⊥

nothing-missing : (e : Env) (f : ℕ) → e.font ≡ some f → ltb 0 e.size ≡ true → NoFontAndSize e → ⊥
nothing-missing e f k s (inl n) = none-ne-some f (sym n ∙ k)
nothing-missing e f k s (inr z) = omega (arith, ltb-true 0 e.size s)

no_size : (e : Env) → ltb 0 e.size ≡ false → e.size ≡ 0
no_size e s = omega (arith, ltb-false 0 e.size s)

font_shape : (e : Env) (go : ℕ → Step) (o : Option ℕ) → e.font ≡ o → ((f : ℕ) → (NoFontAndSize e → ⊥) → Shape (NoFontAndSize e) (go f)) → Shape (NoFontAndSize e) (with_font e go o)
font_shape e go none k h = inl (refl, inl k)
font_shape e go (some f) k h = if_on (Shape (NoFontAndSize e)) (ltb 0 e.size) (go f) (refused 8) (λ s. h f (nothing-missing e f k s)) (λ s. inl (refl, inr (no_size e s)))

index_shape : (L : Type 0) (e : Env) (n f : ℕ) → (L → ⊥) → Shape L (indexed e n f)
index_shape L e n f h = if_on (Shape L) (ltb n origin) (went (set_gap e 1) [] []) (recorded e [] (n - origin) f) (λ k. h) (λ k. h)

is_empty : (m : List ℕ) → is_mounted m ≡ false → m ≡ []
is_empty [] h = refl
is_empty (b ∷ m) h = no (sym h)

mounted_font : (e : Env) (n i : ℕ) → shown n ≡ pos i → Shape (Unmounted e n) (to_font e (n - origin))
mounted_font e n i h =
    if_on (Shape (Unmounted e n)) (is_mounted (mounted_at (n - origin) e.mounts)) _ (refused 8)
    (λ m u. no (sym (ap is_mounted (ap (λ (j : ℕ). mounted_at j e.mounts) (shown_pos n u.0 u.1).1 ∙ u.2)) ∙ m))
    (λ m. inl (refl, (n - origin, h ∙ ap pos (sym (shown_pos n i h).1), is_empty (mounted_at (n - origin) e.mounts) m)))

ten_shape : (t : Bool) (s : Step) → Shape ⊥ s → Shape ⊥ (if t then s else refused 10)
ten_shape true s h = h
ten_shape false s h = inr (refl, λ x. x)

shape : (e : Env) (a : Act) → InLimits a → Shape (Lacks e (just a)) (effect e a)
shape e (glyph n) l = font_shape e (recorded e n 0) e.font refl (λ f x. x)
shape e (index n) l = font_shape e (indexed e n) e.font refl (λ f x. index_shape _ e n f x)
shape e (to x n) l = λ y. y
shape e (by x n) l = ten_shape (fits (get x e.spot) n) _ (λ y. y)
shape e (page n) l = λ y. y
shape e (font n) l = mounted_font e n l.0 l.1
shape e (size n) l = λ y. y
shape e (colour c ns) l = λ y. y
shape e break l = λ y. y
shape e space l = λ y. y
shape e (draw s ns) l = ten_shape (may_go e.spot (way_of s ns)) _ (λ y. y)
shape e (device n) l = λ y. y
shape e (resolution n h v) l = λ y. y
shape e init l = λ y. y
shape e (file n) l = λ y. y
shape e (mount n m) l = λ y. y
shape e (plain c ns) l = λ y. y
shape e (raw t) l = λ y. y
shape e stop l = λ y. y

-- ---- the number of a command

-- what comes of a command is as the reasons have it
abbrev Verdict : Widths → Env → Cmd → Step → Type 0
Verdict w e c (refused k) = Smallest w e c k
Verdict w e c (went d gs xs) = (k : ℕ) → Against w e c k → ⊥

module _ (w : Widths) (e : Env) (c : Cmd) where
  none_below : (k : ℕ) → (7 < k → NotDue e c → ⊥) → (8 < k → Lacks e c → ⊥) → (9 < k → NoWidth w e c → ⊥) → (10 < k → TooFar w e c → ⊥) → (j : ℕ) → j < k → Against w e c j → ⊥
  none_below k a b f t _ l (not-due h) = a l h
  none_below k a b f t _ l (lacks h) = b l h
  none_below k a b f t _ l (no_width h) = f l h
  none_below k a b f t _ l (too_far h) = t l h

  seven : NotDue e c → Smallest w e c 7
  seven h = record { against = not-due h; no_smaller = none_below 7 (λ l. omega arith) (λ l. omega arith) (λ l. omega arith) (λ l. omega arith) }

  eight : (NotDue e c → ⊥) → Lacks e c → Smallest w e c 8
  eight a h = record { against = lacks h; no_smaller = none_below 8 (λ l. a) (λ l. omega arith) (λ l. omega arith) (λ l. omega arith) }

  nine : (NotDue e c → ⊥) → (Lacks e c → ⊥) → NoWidth w e c → Smallest w e c 9
  nine a b h = record { against = no_width h; no_smaller = none_below 9 (λ l. a) (λ l. b) (λ l. omega arith) (λ l. omega arith) }

  ten : (NotDue e c → ⊥) → (Lacks e c → ⊥) → (NoWidth w e c → ⊥) → TooFar w e c → Smallest w e c 10
  ten a b f h = record { against = too_far h; no_smaller = none_below 10 (λ l. a) (λ l. b) (λ l. f) (λ l. omega arith) }

  done : (NotDue e c → ⊥) → (Lacks e c → ⊥) → (NoWidth w e c → ⊥) → (TooFar w e c → ⊥) → (k : ℕ) → Against w e c k → ⊥
  done a b f t k h = none_below (suc k) (λ l. a) (λ l. b) (λ l. f) (λ l. t) k (omega arith) h

-- ---- an act

acted : (e : Env) (a : Act) → due e a ≡ true → act e a ≡ effect e a
unfolding act
acted e a d = rw d

not_acted : (e : Env) (a : Act) → due e a ≡ false → act e a ≡ refused 7
unfolding act
not_acted e a d = rw d

act_verdict : (w : Widths) (e : Env) (a : Act) → AsWritten a → InLimits a → Inside e → Verdict w e (just a) (act e a)
act_verdict w e a h l i = on (due e a) (λ d. rw (acted e a d) (told d (effect e a) (acted e a d) (shape e a l))) (λ d. rw (not_acted e a d) (seven w e (just a) ((due_tells e a).1 d)))
  where
    told : due e a ≡ true → (s : Step) → act e a ≡ s → Shape (Lacks e (just a)) s → Verdict w e (just a) s
    told d (refused n) q (inl x) = rw x.0 (eight w e (just a) ((due_tells e a).0 d) x.1)
    told d (refused n) q (inr x) = rw x.0 (ten w e (just a) ((due_tells e a).0 d) x.1 (λ y. y) (refusal_10.only e a h i (q ∙ ap refused x.0)))
    told d (went e' gs xs) q x = done w e (just a) ((due_tells e a).0 d) x (λ y. y) (λ o. no (sym (ap is_refused (sym (refusal_10.given e a h i d o) ∙ q))))

-- ---- a word

-- 10, or on in the same phase
abbrev Ends : ℕ → Step → Type 0
Ends p (refused n) = n ≡ 10
Ends p (went d gs xs) = d.phase ≡ p

before_ends : (p : ℕ) (gs : List Glyph) (xs : List Item) (s : Step) → Ends p s → Ends p (before gs xs s)
before_ends p gs xs (refused n) h = h
before_ends p gs xs (went d gs' xs') h = h

byte_ends : (d : Env) (b m : ℕ) (ys : List Act) → Ready d → Ends d.phase (run (grown d m) ys) → Ends d.phase (run d (glyph (b ∷ []) ∷ by across m ∷ ys))
byte_ends d b m ys r h = on (fits d.spot.h m) (λ k. rw (run_fits d b m ys r k) (before_ends d.phase (glyph_of d r.0 (b ∷ []) 0 ∷ []) [] (before [] [] (run (grown d m) ys)) (before_ends d.phase [] [] (run (grown d m) ys) h))) (λ k. rw (run-not d b m ys r k) refl)

module _ (fs : List Font) (name : List ℕ) (far : ℕ → ℕ) where
  abbrev Unsaid : ℕ → Type 0
  Unsaid b = (x : ℕ) → Says fs name b x → ⊥

  -- 9 where a byte has no width; else acts that end so
  abbrev Widthy : List ℕ → Acts → Type 0
  Widthy bs (no_acts n) = (n ≡ 9) × SomeByte Unsaid bs
  Widthy bs (these ys) = (SomeByte Unsaid bs → ⊥) × ((d : Env) → Ready d → Ends d.phase (run d ys))

  word_widthy : (bs : List ℕ) → Widthy bs (word_acts fs name far bs)
  unfolding word_acts run
  word_widthy [] = ((λ x. x), λ d r. refl)
  word_widthy (b ∷ bs) = go (width_of name b fs) refl (word_acts fs name far bs) (word_widthy bs)
    where
      go : (o : Option ℕ) → width_of name b fs ≡ o → (t : Acts) → Widthy bs t → Widthy (b ∷ bs) (byte_acts b far o t)
      go none w t f = (refl, inl (λ x s. none-ne-some x (sym w ∙ said_width name b x fs s)))
      go (some x) w (no_acts n) f = (f.0, inr f.1)
      go (some x) w (these ys) f = (⊎_elim (λ u. u x (width_says name b x fs w)) f.0, λ d r. byte_ends d b (far x) ys r (f.1 (grown d (far x)) r))

-- the numbers by which h grows are these and no others
grows_one : (w : Widths) (e : Env) (f : ℕ) (n : ℤ) (bs : List ℕ) (zs ys : List ℤ) → Grows w e f n bs zs → Grows w e f n bs ys → zs ≡ ys
grows_one w e f n [] [] [] g h = refl
grows_one w e f n [] [] (y ∷ ys) g h = absurd h
grows_one w e f n [] (z ∷ zs) ys g h = absurd g
grows_one w e f n (b ∷ bs) [] ys g h = absurd g
grows_one w e f n (b ∷ bs) (z ∷ zs) [] g h = absurd h
grows_one w e f n (b ∷ bs) (z ∷ zs) (y ∷ ys) g h =
    let name : List ℕ = mounted_at f e.mounts in
    let same_width : g.0.0 ≡ h.0.0 = some-injective g.0.0 h.0.0 (sym (said_width name b g.0.0 w.fonts g.0.1) ∙ said_width name b h.0.0 w.fonts h.0.1) in
    ap₂ (λ (x : ℤ) (l : List ℤ). x ∷ l) (g.0.2 ∙ ap (λ (x : ℕ). pos (advance x e.size w.unitwidth e.quantum) +ℤ n) same_width ∙ sym h.0.2) (grows_one w e f n bs zs ys g.1 h.1)

module _ (w : Widths) (e : Env) (n : ℕ) (bs : List ℕ) where
  abbrev far : ℕ → ℕ
  far x = advance x e.size w.unitwidth e.quantum + n

  -- where 7 and 8 are not against it
  module _ (f : ℕ) (k : e.font ≡ some f) (p : on_page e ≡ true) (s : ltb 0 e.size ≡ true) where
    word_due : NotDue e (word n bs) → ⊥
    word_due = paged_not e (word n bs) refl p

    word_has : NoFontAndSize e → ⊥
    word_has = nothing-missing e f k s

    word_far : (ys : List Act) → acts w e (word n bs) ≡ these ys → TooFar w e (word n bs) → run e ys ≡ refused 10
    word_far ys q t =
        let r : WordRefused w e n bs = words_hold.refusal_10 w e n bs ys q in
        let same_font : t.0 ≡ r.position = some-injective t.0 r.position (sym t.1 ∙ r.current) in
        let g : Grows w e r.position (shown n) bs t.2.0 = rw same_font at t.2.1 in
        let same_growth : t.2.0 ≡ r.growth = grows_one w e r.position (shown n) bs t.2.0 r.growth g r.grows in
        sym (ap (perform e) q) ∙ r.given (rw same_growth at t.2.2)

    word_not_far : (ys : List Act) → acts w e (word n bs) ≡ these ys → run e ys ≡ refused 10 → TooFar w e (word n bs)
    word_not_far ys q h =
        let r : WordRefused w e n bs = words_hold.refusal_10 w e n bs ys q in
        (r.position, r.current, (r.growth, r.grows, r.only (ap (perform e) q ∙ h)))

    some_width : (SomeByte (NoWidthOf w e f) bs → ⊥) → NoWidth w e (word n bs) → ⊥
    some_width h x = h (rw (some-injective x.0 f (sym x.1 ∙ k)) at x.2)

    word_run : (ys : List Act) → acts w e (word n bs) ≡ these ys → (NoWidth w e (word n bs) → ⊥) → (x : Step) → run e ys ≡ x → Ends e.phase x → Verdict w e (word n bs) x
    word_run ys q h (refused m) r z = rw z (ten w e (word n bs) word_due word_has h (word_not_far ys q (r ∙ ap refused z)))
    word_run ys q h (went d gs xs) r z = done w e (word n bs) word_due word_has h (λ t. no (sym (ap is_refused (sym (word_far ys q t) ∙ r))))

    word_told : (t : Acts) → acts w e (word n bs) ≡ t → Widthy w.fonts (mounted_at f e.mounts) far bs t → Verdict w e (word n bs) (perform e t)
    word_told (no_acts m) q x = rw x.0 (nine w e (word n bs) word_due word_has (f, k, x.1))
    word_told (these ys) q x = word_run ys q (some_width x.0) (run e ys) refl (x.1 e (f, k, p, s))

-- a word or two digits: 7, then 8, then what comes of it
module _ (w : Widths) (e : Env) (c : Cmd) (out : in_prologue c ≡ 0) (paper : on_page_only c ≡ true) (needs : NoFontAndSize e → Lacks e c) where
  ready_verdict : (go : ℕ → Acts) (o : Option ℕ) → e.font ≡ o
      → ((f : ℕ) → e.font ≡ some f → on_page e ≡ true → ltb 0 e.size ≡ true → ready e go o ≡ go f → Verdict w e c (perform e (go f)))
      → Verdict w e c (perform e (ready e go o))
  ready_verdict go none k h = on (on_page e) (λ p. rw p (eight w e c (paged_not e c out p) (needs (inl k)))) (λ p. rw p (seven w e c (paged_is e c out paper p)))
  ready_verdict go (some f) k h =
      on (on_page e)
      (λ p. on (ltb 0 e.size) (λ s. rw (p, s) (h f k p s (rw (p, s)))) (λ s. rw (p, s) (eight w e c (paged_not e c out p) (needs (inr (no_size e s))))))
      (λ p. rw p (seven w e c (paged_is e c out paper p)))

word_verdict : (w : Widths) (e : Env) (n : ℕ) (bs : List ℕ) → Verdict w e (word n bs) (perform e (acts w e (word n bs)))
word_verdict w e n bs =
    ready_verdict w e (word n bs) refl refl (λ x. x) (word_in w e n bs) e.font refl
    (λ f k p s q. word_told w e n bs f k p s (word_in w e n bs f) q (word_widthy w.fonts (mounted_at f e.mounts) (far w e n bs) bs))

-- ---- two digits

pair_stops : (e : Env) (n b : ℕ) → Ready e → fits e.spot.h n ≡ false → run e (by across n ∷ glyph (b ∷ []) ∷ []) ≡ refused 10
unfolding run act
pair_stops e n b r k = rw (r.2, k)

pair_goes : (e : Env) (n b : ℕ) (r : Ready e) → fits e.spot.h n ≡ true
    → run e (by across n ∷ glyph (b ∷ []) ∷ []) ≡ went (set_gap (moved_by e n) 0) (glyph_of (moved_by e n) r.0 (b ∷ []) 0 ∷ []) []
unfolding run act
pair_goes e n b r k = rw (r.2, k, r.2, r.1, r.3)

pair_run : (w : Widths) (e : Env) (n b : ℕ) → Ready e → Verdict w e (pair n b) (run e (by across n ∷ glyph (b ∷ []) ∷ []))
pair_run w e n b r =
    on (fits e.spot.h n)
    (λ k. rw (pair_goes e n b r k) (done w e (pair n b) due_here has (λ x. x) (λ t. clash (shown e.spot.h +ℤ shown n) (by_in e.spot.h n k) t)))
    (λ k. rw (pair_stops e n b r k) (ten w e (pair n b) due_here has (λ x. x) (by_not e.spot.h n k)))
  where
    due_here : NotDue e (pair n b) → ⊥
    due_here = paged_not e (pair n b) refl r.2

    has : NoFontAndSize e → ⊥
    has = nothing-missing e r.0 r.1 r.3

pair_verdict : (w : Widths) (e : Env) (n b : ℕ) → Verdict w e (pair n b) (perform e (acts w e (pair n b)))
pair_verdict w e n b =
    ready_verdict w e (pair n b) refl refl (λ x. x) (λ f. these (by across n ∷ glyph (b ∷ []) ∷ [])) e.font refl
    (λ f k p s q. pair_run w e n b (f, k, p, s))

-- ---- every command

verdict : (w : Widths) (e : Env) (c : Cmd) → CmdWritten c → Inside e → Verdict w e c (perform e (acts w e c))
verdict w e (just a) h i = rw (words_hold.single w e a) (act_verdict w e a h.0 h.1 i)
verdict w e (word n bs) h i = word_verdict w e n bs
verdict w e (pair n b) h i = pair_verdict w e n b

one_smallest : (w : Widths) (e : Env) (c : Cmd) (j k : ℕ) → Smallest w e c j → Smallest w e c k → j ≡ k
one_smallest w e c j k x y =
    on (ltb j k) (λ l. absurd (y.no_smaller j (ltb-true j k l) x.against))
    (λ l. on (ltb k j) (λ g. absurd (x.no_smaller k (ltb-true k j g) y.against)) (λ g. omega (arith, ltb-false j k l, ltb-false k j g)))

given_by : (w : Widths) (e : Env) (c : Cmd) (k : ℕ) (s : Step) → Verdict w e c s → Smallest w e c k → s ≡ refused k
given_by w e c k (refused j) v h = ap refused (one_smallest w e c j k v h)
given_by w e c k (went d gs xs) v h = absurd (v k h.against)

else_by : (w : Widths) (e : Env) (c : Cmd) (s : Step) → Verdict w e c s → ((k : ℕ) → Against w e c k → ⊥) → (d : Env) × (gs : List Glyph) × (xs : List Item) × (s ≡ went d gs xs)
else_by w e c (refused j) v h = absurd (h j v.against)
else_by w e c (went d gs xs) v h = (d, gs, xs, refl)

pub reasons_hold : Reasons
reasons_hold = record {
  given = λ w e c k h i x. given_by w e c k (perform e (acts w e c)) (verdict w e c h i) x;
  only = λ w e c k h i q. rw q at (verdict w e c h i);
  none_against = λ w e e' gs xs c h i q. rw q at (verdict w e c h i);
  else_done = λ w e c h i x. else_by w e c (perform e (acts w e c)) (verdict w e c h i) x;
}

-- ---- the phase

abbrev InPhase : ℕ → Env → List Glyph → List Item → Type 0
InPhase p d gs xs = d.phase ≡ p

act_phase : (e : Env) (a : Act) → After (InPhase (phase_behind (just a) e.phase)) (effect e a)
act_phase e (glyph n) = font_after (InPhase e.phase) e (recorded e n 0) e.font refl (λ f k. refl)
act_phase e (index n) = font_after (InPhase e.phase) e (indexed e n) e.font refl (λ f k. index_stays (InPhase e.phase) e n f (λ g gs. refl))
act_phase e (to x n) = refl
act_phase e (by x n) = if_after (InPhase e.phase) (fits (get x e.spot) n) _ 10 (λ k. refl)
act_phase e (page n) = refl
act_phase e (font n) = if_after (InPhase e.phase) (is_mounted (mounted_at (n - origin) e.mounts)) _ 8 (λ k. refl)
act_phase e (size n) = refl
act_phase e (colour c ns) = refl
act_phase e break = refl
act_phase e space = refl
act_phase e (draw s ns) = if_after (InPhase e.phase) (may_go e.spot (way_of s ns)) _ 10 (λ k. refl)
act_phase e (device n) = refl
act_phase e (resolution n h v) = refl
act_phase e init = refl
act_phase e (file n) = refl
act_phase e (mount n m) = refl
act_phase e (plain c ns) = refl
act_phase e (raw t) = refl
act_phase e stop = refl

ends_after : (p : ℕ) (s : Step) → Ends p s → After (InPhase p) s
ends_after p (refused n) h = tt
ends_after p (went d gs xs) h = h

ready_phase : (e : Env) (go : ℕ → Acts) (o : Option ℕ) → e.font ≡ o → ((f : ℕ) → Ready e → After (InPhase e.phase) (perform e (go f))) → After (InPhase e.phase) (perform e (ready e go o))
ready_phase e go none k h = on (on_page e) (λ p. rw p tt) (λ p. rw p tt)
ready_phase e go (some f) k h = on (on_page e) (λ p. on (ltb 0 e.size) (λ s. rw (p, s) (h f (f, k, p, s))) (λ s. rw (p, s) tt)) (λ p. rw p tt)

word_phase : (w : Widths) (e : Env) (n : ℕ) (bs : List ℕ) (f : ℕ) → Ready e → (t : Acts) → Widthy w.fonts (mounted_at f e.mounts) (far w e n bs) bs t → After (InPhase e.phase) (perform e t)
word_phase w e n bs f r (no_acts m) x = tt
word_phase w e n bs f r (these ys) x = ends_after e.phase (run e ys) (x.1 e r)

pair_phase : (e : Env) (n b : ℕ) → Ready e → After (InPhase e.phase) (run e (by across n ∷ glyph (b ∷ []) ∷ []))
pair_phase e n b r = on (fits e.spot.h n) (λ k. rw (pair_goes e n b r k) refl) (λ k. rw (pair_stops e n b r k) tt)

cmd_phase : (w : Widths) (e : Env) (c : Cmd) → After (InPhase (phase_behind c e.phase)) (perform e (acts w e c))
cmd_phase w e (just a) = rw (words_hold.single w e a) (act_after (InPhase (phase_behind (just a) e.phase)) e a (act_phase e a))
cmd_phase w e (word n bs) = ready_phase e (word_in w e n bs) e.font refl (λ f r. word_phase w e n bs f r (word_in w e n bs f) (word_widthy w.fonts (mounted_at f e.mounts) (far w e n bs) bs))
cmd_phase w e (pair n b) = ready_phase e (λ f. these (by across n ∷ glyph (b ∷ []) ∷ [])) e.font refl (λ f r. pair_phase e n b r)

pub phases_hold : Phases
phases_hold = record {
  starts = refl;
  goes_on = λ w e e' gs xs c q. rw q at (cmd_phase w e c);
}
