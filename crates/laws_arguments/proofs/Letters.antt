-- The letters of a command, and its arguments behind them.
use Prim.Native.Nat.{ℕ, ◌+◌, ◌*◌, ◌-◌, ◌≤◌}
use native.Mathlib.Omega.{arith}
use mathlib.Core.Bool.{true, false}
use mathlib.Core.List.{List, [], ◌∷◌, ◌++◌, map, append_assoc}
use mathlib.Core.Logic.{◌⊎◌, inl, inr}
use mathlib.Core.Option.{Option, none, some}
use mathlib.Core.Path.{◌≡◌, refl, sym, ap, subst, ◌∙◌}
use lib.Dec.{eqb}
use lib.ListN.{length, take, drop, take-append-drop, length-append}
use borrow.Author.Tests.{eqb-true, eqb-false}
use Rattle.rules.specs.Bytes.{is, is_space, is_white, is_not_white, is_digit, spacer, unspaced, string, Num, origin, moved, integers}
use Rattle.rules.specs.Act.{across, down, Scheme, Shape, colour_fill, Plain, pause, trailer, height, slant, underline, Act, glyph, index, to, by, page, font, size, colour, break, draw, device, init, file, mount, plain, stop, just, word, pair}
use Rattle.rules.specs.Letters.{Draft, fault, draft, with_one, ignoring, one_byte, named, number_named, with_dummy, second_digit, scheme_of, components, in_scheme, coloured}
use Rattle.rules.specs.Drawing.{line_ends, closed, shape_of, form_of, drawn, in_shape, drawing}
use Rattle.rules.specs.Controls.{alone, resolution_of, plain_count, plainly, raw_text, raw_length, rawly, control, control_word}
use Rattle.rules.specs.Scan.{letter}
use Rattle.laws.proofs.Cases.{no, on, if_both, if_on, Stops, all_span, length-span, drop-span}
use Rattle.laws_scan.specs.Texts.{NoWhite}
use Rattle.laws_scan.proofs.Fair.{counted}
use Rattle.laws_scan.proofs.Ignored.{spacer_of}
use Rattle.laws_arguments.specs.Arguments.{Argument, a_name, a_word, a_text, AllWithin, any_number, position, act_arguments, arguments_of, written_by, NoSpace, CommandLetters, one_letter, of_m, of_D, of_DF, of_x, TextIs, text_ends, text_byte, next_line}
use Rattle.laws_arguments.proofs.Places.{Begins, LaidAt, one_laid, integers_laid, no_white_of, white-behind}
use Rattle.laws_arguments.proofs.Stands.{NoText, Like, like_component, like_plain, From, nothing_from, ignoring_from, dummy_from, one_from, all_from, resolution_from, named_from, number_named_lem, drawn_from}

-- ---- a command: its letters, and its arguments

-- those that are not written are in their limits
pub record LaidOut (b : ℕ) (r : List ℕ) (all : List Argument) (ks : List ℕ) : Type 0 where
  pub letters : List ℕ
  pub arguments : List ℕ
  pub bytes : b ∷ r ≡ letters ++ arguments
  pub are_letters : CommandLetters letters arguments
  pub unwritten : List Argument
  pub stand_ins : List ℕ
  pub even : length unwritten ≡ length stand_ins
  pub in_limit : AllWithin unwritten
  pub written : List Argument
  pub places : List ℕ
  pub order : all ≡ unwritten ++ written
  pub in_order : ks ≡ stand_ins ++ places
  pub by_letter : written_by b all ≡ written
  pub texts : NoText written ⊎ (length written ≡ 1)
  pub end : ℕ
  pub rest : List ℕ
  pub laid : LaidAt (length letters) arguments written places end rest

-- there is no argument, or it is the one byte of `c`: nothing is outside a limit
abbrev pub Unlaid : ℕ → List Argument → Type 0
Unlaid b xs = (xs ≡ []) ⊎ ((b ≡ 99) × AllWithin xs)

pub unlaid_within : (b : ℕ) (xs : List Argument) → Unlaid b xs → AllWithin xs
unlaid_within b xs (inl e) = rw e tt
unlaid_within b xs (inr h) = h.1

abbrev pub DraftLaid : ℕ → List ℕ → Draft → Type 0
DraftLaid b r (fault n) = Unit {0}
DraftLaid b r (draft c ds ks a l t) = Unlaid b (arguments_of c ds) ⊎ LaidOut b r (arguments_of c ds) ks

closed_laid : (b : ℕ) (r : List ℕ) (x : Draft) → DraftLaid b r x → DraftLaid b r (closed x)
closed_laid b r (fault n) h = h
closed_laid b r (draft c ds ks a l t) h = if_both (DraftLaid b r) (line_ends t) (draft c ds ks a l t) (fault 5) h tt

laid_out : (b : ℕ) (r letters arguments : List ℕ) (us : List Argument) (vs : List ℕ) (k : ℕ) (x : Draft) → b ∷ r ≡ letters ++ arguments → CommandLetters letters arguments → length us ≡ length vs
    → AllWithin us → ((xs : List Argument) → written_by b (us ++ xs) ≡ xs) → k ≡ length letters → From k arguments us vs x → DraftLaid b r x
laid_out b r letters arguments us vs k (fault n) e g i u w far h = h
laid_out b r letters arguments us vs k (draft c ds ks a l t) e g i u w far h =
    inr (record {
      letters = letters;
      arguments = arguments;
      bytes = e;
      are_letters = g;
      unwritten = us;
      stand_ins = vs;
      even = i;
      in_limit = u;
      written = h.xs;
      places = h.js;
      order = h.order;
      in_order = h.places;
      by_letter = ap (written_by b) h.order ∙ w h.xs;
      texts = inl h.texts;
      end = l;
      rest = t;
      laid = subst (λ (j : ℕ). LaidAt j arguments h.xs h.js l t) far h.laid;
    })

-- ---- letters

-- the byte of a letter that is known is no whitespace
abbrev Known : {A : Type 0} → ℕ → Option A → Type 0
Known b none = Unit {0}
Known b (some x) = NoWhite (b ∷ [])

known : (n b : ℕ) → 33 ≤ n → eqb b n ≡ true → NoWhite (b ∷ [])
known n b h e = let q : b ≡ n = eqb-true b n e in (λ z. absurd (omega (arith, h, q, z)), λ z. absurd (omega (arith, h, q, z)), λ z. absurd (omega (arith, h, q, z)), tt)

scheme_known : (b : ℕ) → Known b (scheme_of b)
scheme_known b =
    let P : Option Scheme → Type 0 = Known b in
    if_on P (is "c" b) _ _ (known 99 b (omega arith)) (λ z.
    if_on P (is "d" b) _ _ (known 100 b (omega arith)) (λ z.
    if_on P (is "g" b) _ _ (known 103 b (omega arith)) (λ z.
    if_on P (is "k" b) _ _ (known 107 b (omega arith)) (λ z.
    if_on P (is "r" b) _ _ (known 114 b (omega arith)) (λ z. tt)))))

shape_known : (b : ℕ) → Known b (shape_of b)
shape_known b =
    let P : Option Shape → Type 0 = Known b in
    if_on P (is "l" b) _ _ (known 108 b (omega arith)) (λ z.
    if_on P (is "a" b) _ _ (known 97 b (omega arith)) (λ z.
    if_on P (is "c" b) _ _ (known 99 b (omega arith)) (λ z.
    if_on P (is "C" b) _ _ (known 67 b (omega arith)) (λ z.
    if_on P (is "e" b) _ _ (known 101 b (omega arith)) (λ z.
    if_on P (is "E" b) _ _ (known 69 b (omega arith)) (λ z.
    if_on P (is "p" b) _ _ (known 112 b (omega arith)) (λ z.
    if_on P (is "P" b) _ _ (known 80 b (omega arith)) (λ z.
    if_on P (is "~" b) _ _ (known 126 b (omega arith)) (λ z.
    if_on P (is "t" b) _ _ (known 116 b (omega arith)) (λ z.
    if_on P (is "f" b) _ _ (known 102 b (omega arith)) (λ z. tt)))))))))))

no_space_of : (t : List ℕ) → Stops is_space t → NoSpace t
no_space_of [] h = tt
no_space_of (b ∷ t) h = (λ z. no (sym h ∙ ap is_space z), λ z. no (sym h ∙ ap is_space z))

-- r is a spacer and then t
split : (r t : List ℕ) → unspaced r ≡ t → r ≡ take (spacer r) r ++ t
split r t e = sym (take-append-drop (spacer r) r) ∙ ap (λ (x : List ℕ). take (spacer r) r ++ x) e

-- the letter of a scheme, and its components
coloured_laid : (P : Draft → Type 0) (f : Scheme → List ℕ → Act) (k : ℕ) (r : List ℕ) → ((c : Scheme) (ns : List Num) → Like (act_arguments (f c (map moved ns))) ns) → P (fault 3)
    → ((c : ℕ) (t : List ℕ) (x : Draft) → r ≡ c ∷ t → NoWhite (c ∷ []) → From (k + 1) t [] [] x → P x) → P (coloured f k r)
coloured_laid P f k [] e n h = n
coloured_laid P f k (b ∷ r) e n h = go (scheme_of b) (scheme_known b)
  where
    go : (o : Option Scheme) → Known b o → P (in_scheme f (k + 1) r o)
    go none g = n
    go (some c) g = h b r (in_scheme f (k + 1) r (some c)) refl g (all_from (k + 1) r (f c) (integers (components c) (k + 1) r) (e c) (integers_laid (components c) (k + 1) r))

-- `m`
colour_laid : (r : List ℕ) → DraftLaid 109 r (coloured colour (1 + spacer r) (unspaced r))
colour_laid r =
    let s : List ℕ = take (spacer r) r in
    coloured_laid (DraftLaid 109 r) colour (1 + spacer r) (unspaced r) (λ c ns. like_component ns) tt (λ c t x e v h.
    laid_out 109 r (109 ∷ (s ++ (c ∷ []))) t [] [] (1 + spacer r + 1) x (ap (◌∷◌ 109) (split r (c ∷ t) e ∙ sym (append_assoc s (c ∷ []) t))) (of_m s c t (spacer_of s (all_span is_space r)) v)
    refl tt (λ xs. refl) (omega (arith, length-span is_space r, length-append s (c ∷ []))) h)

-- `D`
drawing_laid : (r : List ℕ) → DraftLaid 68 r (drawing (1 + spacer r) (unspaced r))
unfolding drawing
drawing_laid r = go (unspaced r) refl
  where
    s : List ℕ
    s = take (spacer r) r

    go : (w : List ℕ) → unspaced r ≡ w → DraftLaid 68 r (drawing (1 + spacer r) w)
    go [] e = tt
    go (b ∷ t) e =
        let s₂ : List ℕ = take (spacer t) t in
        if_on (DraftLaid 68 r) (is "F" b) _ _
        (λ f. coloured_laid (DraftLaid 68 r) (λ c. draw (colour_fill c)) (1 + spacer r + 1 + spacer t) (unspaced t) (λ c ns. like_component ns) tt (λ c v x d w h.
        let whole : r ≡ (s ++ (70 ∷ (s₂ ++ (c ∷ [])))) ++ v = split r (b ∷ t) e ∙ ap (λ (i : ℕ). s ++ (i ∷ t)) (eqb-true b 70 f) ∙ ap (λ (y : List ℕ). s ++ (70 ∷ y)) (split t (c ∷ v) d ∙ sym (append_assoc s₂ (c ∷ []) v))
        ∙ sym (append_assoc s (70 ∷ (s₂ ++ (c ∷ []))) v) in
        laid_out 68 r (68 ∷ (s ++ (70 ∷ (s₂ ++ (c ∷ []))))) v [] [] (1 + spacer r + 1 + spacer t + 1) x (ap (◌∷◌ 68) whole)
        (of_DF s s₂ c v (spacer_of s (all_span is_space r)) (spacer_of s₂ (all_span is_space t)) w) refl tt (λ xs. refl)
        (omega (arith, length-span is_space r, length-span is_space t, length-append s (70 ∷ (s₂ ++ (c ∷ []))), length-append s₂ (c ∷ []))) h))
        (λ f. shaped (λ z. no (sym f ∙ ap (is "F") z)) (shape_of b) (shape_known b))
      where
        shaped : (b ≡ 70 → ⊥) → (o : Option Shape) → Known b o → DraftLaid 68 r (in_shape (1 + spacer r + 1) t o)
        shaped f none g = tt
        shaped f (some x) g =
            laid_out 68 r (68 ∷ (s ++ (b ∷ []))) t [] [] (1 + spacer r + 1) (drawn x (1 + spacer r + 1) t (form_of x)) (ap (◌∷◌ 68) (split r (b ∷ t) e ∙ sym (append_assoc s (b ∷ []) t)))
            (of_D s b t (spacer_of s (all_span is_space r)) g f) refl tt (λ xs. refl) (omega (arith, length-span is_space r, length-append s (b ∷ []))) (drawn_from (1 + spacer r + 1) t x (form_of x))

-- ---- `x`

-- a text as its bytes say
text_is : (r : List ℕ) → TextIs (raw_text r) (take (raw_length r) r) (drop (raw_length r) r)
unfolding raw_text raw_length
text_is [] = text_ends [] tt
text_is (b ∷ []) = on (is "\n" b) (λ h. rw h (text_ends (b ∷ []) (eqb-true b 10 h))) (λ h. rw h (text_byte b [] [] [] (eqb-false b 10 h) (text_ends [] tt)))
text_is (b ∷ c ∷ r) =
    on (is "\n" b)
    (λ h. on (is "+" c)
    (λ g. rw (h, g, eqb-true b 10 h, eqb-true c 43 g) (next_line (raw_text r) (take (raw_length r) r) (drop (raw_length r) r) (text_is r)))
    (λ g. rw (h, g) (text_ends (b ∷ c ∷ r) (eqb-true b 10 h, eqb-false c 43 g))))
    (λ h. rw h (text_byte b (raw_text (c ∷ r)) (take (raw_length (c ∷ r)) (c ∷ r)) (drop (raw_length (c ∷ r)) (c ∷ r)) (eqb-false b 10 h) (text_is (c ∷ r))))

module _ (r letters arguments : List ℕ) (bytes : 120 ∷ r ≡ letters ++ arguments) (are_letters : CommandLetters letters arguments) (k : ℕ) (far : k ≡ length letters) where
  word_laid_out : (x : Draft) → From k arguments [] [] x → DraftLaid 120 r (closed x)
  word_laid_out x h = closed_laid 120 r x (laid_out 120 r letters arguments [] [] k x bytes are_letters refl tt (λ xs. refl) far h)

  name_laid : (f : List ℕ → Act) → ((n : List ℕ) → act_arguments (f n) ≡ a_name n ∷ []) → DraftLaid 120 r (closed (named (λ n. just (f n)) [] k arguments))
  name_laid f e = word_laid_out (named (λ n. just (f n)) [] k arguments) (named_from k arguments (λ n. just (f n)) a_name [] [] [] [] k arguments e (λ n w v h. h) (λ n h. h) tt (refl, refl))

  plain_laid : (c : Plain) → DraftLaid 120 r (closed (plainly c k arguments))
  plain_laid c = word_laid_out (plainly c k arguments) (all_from k arguments (plain c) (integers (plain_count c) k arguments) (like_plain c) (integers_laid (plain_count c) k arguments))

  alone_laid : (a : Act) → act_arguments a ≡ [] → DraftLaid 120 r (closed (alone a k arguments))
  alone_laid a e = closed_laid 120 r (alone a k arguments) (inl (inl (rw e)))

  text_laid : DraftLaid 120 r (rawly (k + spacer arguments) (unspaced arguments))
  text_laid =
      let s : List ℕ = take (spacer arguments) arguments in
      let t : List ℕ = unspaced arguments in
      let x : Argument = a_text (raw_text t) in
      let w : List ℕ = take (raw_length t) t in
      let v : List ℕ = drop (raw_length t) t in
      let whole : w ++ v ≡ t = take-append-drop (raw_length t) t in
      let b : Begins (length letters) arguments x (k + spacer arguments) (k + spacer arguments + length w) v = record {
        gap = s;
        text = w;
        bytes = split arguments (w ++ v) (sym whole);
        spaced = spacer_of s (all_span is_space arguments);
        written = (subst NoSpace (sym whole) (no_space_of t (drop-span is_space arguments)), text_is t);
        place = omega (arith, far, length-span is_space arguments);
        end = refl;
      } in
      inr (record {
        letters = letters;
        arguments = arguments;
        bytes = bytes;
        are_letters = are_letters;
        unwritten = [];
        stand_ins = [];
        even = refl;
        in_limit = tt;
        written = x ∷ [];
        places = (k + spacer arguments) ∷ [];
        order = refl;
        in_order = refl;
        by_letter = refl;
        texts = inr refl;
        end = k + spacer arguments + length w;
        rest = v;
        laid = one_laid (length letters) arguments x (k + spacer arguments) (k + spacer arguments + length w) v b;
      })

  control_laid : (b : ℕ) → DraftLaid 120 r (control b k arguments)
  unfolding control
  control_laid b =
      let P : Draft → Type 0 = DraftLaid 120 r in
      let mounted : Draft = number_named (λ n m. just (mount n m)) (integers 1 k arguments) in
      if_both P (is "T" b) _ _ (name_laid device (λ n. refl))
      (if_both P (is "r" b) _ _ (word_laid_out (resolution_of (integers 3 k arguments)) (resolution_from k arguments (integers 3 k arguments) (counted 3 k arguments) (integers_laid 3 k arguments)))
      (if_both P (is "i" b) _ _ (alone_laid init refl)
      (if_both P (is "F" b) _ _ (name_laid file (λ n. refl))
      (if_both P (is "f" b) _ _ (word_laid_out mounted (number_named_lem k arguments (λ n m. just (mount n m)) position a_name (integers 1 k arguments) (λ m n. refl) (λ m. refl) (λ n w v h. h) (λ n h. h) (counted 1 k arguments) (integers_laid 1 k arguments)))
      (if_both P (is "H" b) _ _ (plain_laid height)
      (if_both P (is "S" b) _ _ (plain_laid slant)
      (if_both P (is "p" b) _ _ (plain_laid pause)
      (if_both P (is "t" b) _ _ (plain_laid trailer)
      (if_both P (is "u" b) _ _ (plain_laid underline)
      (if_both P (is "s" b) _ _ (alone_laid stop refl)
      (if_both P (is "X" b) _ _ text_laid tt)))))))))))

word_laid : (r : List ℕ) → DraftLaid 120 r (control_word (1 + spacer r) (unspaced r))
word_laid r = go (unspaced r) refl
  where
    go : (w : List ℕ) → unspaced r ≡ w → DraftLaid 120 r (control_word (1 + spacer r) w)
    go [] e = tt
    go (b ∷ w) e =
        let s : List ℕ = take (spacer r) r in
        let v : List ℕ = b ∷ take (string w) w in
        let t : List ℕ = drop (string w) w in
        let whole : r ≡ (s ++ v) ++ t = split r (b ∷ w) e ∙ ap (λ (y : List ℕ). s ++ (b ∷ y)) (sym (take-append-drop (string w) w)) ∙ sym (append_assoc s v t) in
        if_on (DraftLaid 120 r) (is_white b) (fault 3) _ (λ z. tt) (λ z.
        control_laid r (120 ∷ (s ++ v)) t (ap (◌∷◌ 120) whole)
        (of_x s v t (spacer_of s (all_span is_space r)) (omega arith) (no_white_of v (rw z, all_span is_not_white w)) (white-behind t (drop-span is_not_white w)))
        (1 + spacer r + 1 + string w) (omega (arith, length-span is_space r, length-span is_not_white w, length-append s v)) b)

-- ---- all

-- a name of one byte is within its limit
byte_laid : (b k : ℕ) (r t : List ℕ) → b ≡ 99 → DraftLaid b r (one_byte (λ x. just (glyph (x ∷ []))) k t)
byte_laid b k r [] e = tt
byte_laid b k r (c ∷ t) e = if_both (DraftLaid b r) (is_white c) (fault 4) _ tt (inl (inr (e, (omega arith, tt))))

-- a pair has no argument with a limit
pair_laid : (b n k : ℕ) (r t : List ℕ) → DraftLaid b r (one_byte (pair n) k t)
pair_laid b n k r [] = tt
pair_laid b n k r (c ∷ t) = if_both (DraftLaid b r) (is_white c) (fault 4) _ tt (inl (inl refl))

digit_laid : (b k : ℕ) (r t : List ℕ) → DraftLaid b r (second_digit b k t)
digit_laid b k r [] = tt
digit_laid b k r (c ∷ t) = if_both (DraftLaid b r) (is_digit c) _ (fault 4) (pair_laid b (origin + ((b - 48) * 10 + (c - 48))) (k + 1 + spacer t) r (unspaced t)) tt

-- n is none of the letters that have more behind them
abbrev Single : ℕ → Type 0
Single n = (eqb n 109 ≡ false) × (eqb n 68 ≡ false) × (eqb n 120 ≡ false)

-- behind one letter, which is n
letter_laid_out : (n b : ℕ) (r : List ℕ) (us : List Argument) (vs : List ℕ) (x : Draft) → Single n → length us ≡ length vs → AllWithin us → ((xs : List Argument) → written_by n (us ++ xs) ≡ xs)
    → From 1 r us vs x → eqb b n ≡ true → DraftLaid b r x
letter_laid_out n b r us vs x s i u w h e =
    let one : CommandLetters (n ∷ []) r = one_letter n r (λ z. no (sym s.0 ∙ ap (λ (y : ℕ). eqb y 109) z)) (λ z. no (sym s.1 ∙ ap (λ (y : ℕ). eqb y 68) z)) (λ z. no (sym s.2 ∙ ap (λ (y : ℕ). eqb y 120) z)) in
    subst (λ (y : ℕ). DraftLaid y r x) (sym (eqb-true b n e)) (laid_out n r (n ∷ []) r us vs 1 x refl one i u w refl h)

pub letter_laid : (b : ℕ) (r : List ℕ) → DraftLaid b r (letter b r)
unfolding letter
letter_laid b r =
    let P : Draft → Type 0 = DraftLaid b r in
    let Whole : ℕ → Type 0 = λ n. (xs : List Argument) → written_by n xs ≡ xs in
    let all : (n : ℕ) (x : Draft) → Single n → Whole n → From 1 r [] [] x → eqb b n ≡ true → P x = λ n x s w h e. letter_laid_out n b r [] [] x s refl tt w h e in
    let one : (n : ℕ) (f : ℕ → Act) → Single n → Whole n → ((m : Num) → Like (act_arguments (f (moved m))) (m ∷ [])) → eqb b n ≡ true → P (with_one f (integers 1 1 r))
    = λ n f s w g e. all n (with_one f (integers 1 1 r)) s w (one_from 1 r f (integers 1 1 r) g (counted 1 1 r) (integers_laid 1 1 r)) e in
    let by_t : Draft = named (word origin) (1 ∷ []) 1 r in
    let by_u : Draft = number_named word (integers 1 1 r) in
    if_on P (is "c" b) _ _ (λ e. byte_laid b (1 + spacer r) r (unspaced r) (eqb-true b 99 e)) (λ z.
    if_on P (is "C" b) _ _ (all 67 (named (λ n. just (glyph n)) [] 1 r) (refl, refl, refl) (λ xs. refl)
    (named_from 1 r (λ n. just (glyph n)) a_name [] [] [] [] 1 r (λ n. refl) (λ n w v h. h) (λ n h. h) tt (refl, refl))) (λ z.
    if_on P (is "N" b) _ _ (one 78 index (refl, refl, refl) (λ xs. refl) (λ m. (refl, tt))) (λ z.
    if_on P (is "t" b) _ _ (letter_laid_out 116 b r (any_number origin ∷ []) (1 ∷ []) (with_dummy by_t) (refl, refl, refl) refl ((omega arith, omega arith), tt) (λ xs. refl)
    (dummy_from 1 r (any_number origin ∷ []) (1 ∷ []) by_t
    (named_from 1 r (word origin) a_word (any_number origin ∷ []) [] (1 ∷ []) [] 1 r (λ n. refl) (λ n w v h. h) (λ n h. h) tt (refl, refl)))) (λ z.
    if_on P (is "u" b) _ _ (all 117 (with_dummy by_u) (refl, refl, refl) (λ xs. refl) (dummy_from 1 r [] [] by_u
    (number_named_lem 1 r word any_number a_word (integers 1 1 r) (λ m n. refl) (λ m. refl) (λ n w v h. h) (λ n h. h) (counted 1 1 r) (integers_laid 1 1 r)))) (λ z.
    if_on P (is "H" b) _ _ (one 72 (to across) (refl, refl, refl) (λ xs. refl) (λ m. (refl, tt))) (λ z.
    if_on P (is "h" b) _ _ (one 104 (by across) (refl, refl, refl) (λ xs. refl) (λ m. (refl, tt))) (λ z.
    if_on P (is "V" b) _ _ (one 86 (to down) (refl, refl, refl) (λ xs. refl) (λ m. (refl, tt))) (λ z.
    if_on P (is "v" b) _ _ (one 118 (by down) (refl, refl, refl) (λ xs. refl) (λ m. (refl, tt))) (λ z.
    if_on P (is "p" b) _ _ (one 112 page (refl, refl, refl) (λ xs. refl) (λ m. (refl, tt))) (λ z.
    if_on P (is "f" b) _ _ (one 102 font (refl, refl, refl) (λ xs. refl) (λ m. (refl, tt))) (λ z.
    if_on P (is "s" b) _ _ (one 115 size (refl, refl, refl) (λ xs. refl) (λ m. (refl, tt))) (λ z.
    if_on P (is "m" b) _ _ (λ e. rw (eqb-true b 109 e) (colour_laid r)) (λ z.
    if_on P (is "n" b) _ _ (all 110 (ignoring (draft (just break) [] [] 0 1 r) (integers 2 1 r)) (refl, refl, refl) (λ xs. refl)
    (ignoring_from 1 r [] [] (just break) [] [] 0 1 r (integers 2 1 r) (nothing_from 1 r (just break) refl) (integers_laid 2 1 r))) (λ z.
    if_both P (is "w" b) _ _ (inl (inl refl))
    (if_on P (is "D" b) _ _ (λ e. rw (eqb-true b 68 e) (closed_laid 68 r (drawing (1 + spacer r) (unspaced r)) (drawing_laid r))) (λ z.
    if_on P (is "x" b) _ _ (λ e. rw (eqb-true b 120 e) (word_laid r)) (λ z.
    if_both P (is_digit b) _ _ (digit_laid b (1 + spacer r) r (unspaced r)) tt)))))))))))))))))
