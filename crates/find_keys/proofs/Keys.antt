-- The keys that the moves give are those that the rules read off the outline.
use Prim.Native.Nat.{ℕ, zero, suc, ◌+◌, ◌-◌, ◌<◌, ◌≤◌}
use native.Mathlib.Omega.{arith}
use mathlib.Core.List.{List, []}
use mathlib.Core.Path.{◌≡◌, refl, sym, ap, subst, ◌∙◌}
use lib.Dec.{ltb}
use lib.ListN.{length, drop, get_or}
use borrow.Author.Tests.{lt-ltb, le-ltb, ltb-true, ltb-false}
use Rattle.rules.specs.Bytes.{origin, is, is_white, one_line}
use Rattle.laws.proofs.Cases.{on, if_both, if_on}
use Rattle.laws_scan.proofs.Walk.{comment_in}
use Rattle.std.specs.Prelude.{Option, Some, None, Result, Ok, Err}
use Rattle.rules.specs.declared.Refusal.{Refusal}
use Rattle.scan_command.specs.declared.Command.{Command}
use Rattle.scan_command.specs.declared.Command.TheVariants as C
use Rattle.scan_command.specs.View.{command_at}
use Rattle.read_model.specs.Fits.{CommandIn, ScannedIn}
use Rattle.read_model.proofs.Fits.{command-fits}
use Rattle.find_outline.specs.declared.Word.{Word}
use Rattle.find_outline.specs.declared.Outline.{Outline}
use Rattle.find_outline.specs.declared.Moved.{Moved}
use Rattle.find_outline.specs.Move.{standing, word_move, command_move, scanned_move, move_in, move_of}
use Rattle.find_keys.specs.Keys.{keys_on, keys_for, into_word, moves_left, keys_at, WordIn, Fair}

-- ---- each move takes it on

-- in a word or not, with the equation
pub by_word {ℓ} : {X : Type ℓ} (x : Option Word) → ((w : Word) → x ≡ Some w → X) → (x ≡ None → X) → X
by_word (Some w) f g = f w refl
by_word None f g = g refl

-- where a move leads in a stream
pub record Onward (s : List ℕ) (o on : Outline) : Type 0 where
  pub fair : Fair (length s) on
  pub less : moves_left s on < moves_left s o

module _ (s : List ℕ) (o : Outline) (f : Fair (length s) o) (h : o.at < length s) where
  standing_on : (q g k : ℕ) → o.word ≡ None → o.at < q → q ≤ length s → k ≤ q → Onward s o (standing q g k)
  standing_on q g k e a b c = record {
    fair = record { within = b; most = f.most; pages = c; word = tt };
    less = let z : into_word o.word ≡ 1 = ap into_word e in omega arith;
  }

  word_on : (w : Word) → o.word ≡ Some w → Onward s o (word_move o w).on
  word_on w e =
      let i : WordIn (length s) o.at (Some w) = rw e at f.word in
      let z : into_word o.word ≡ 0 = ap into_word e in
      if_on (Onward s o) (ltb (o.at + 1) w.end) _ _
      (λ y.
      let l : o.at + 1 < w.end = ltb-true (o.at + 1) w.end y in
      record {
        fair = record { within = omega (arith, i); most = f.most; pages = omega (arith, f.pages); word = (l, i.1, i.2) };
        less = omega (arith, i);
      })
      (λ y.
      record {
        fair = record { within = i.2; most = f.most; pages = omega (arith, f.pages, i); word = tt };
        less = omega (arith, i);
      })

  command_on : o.word ≡ None → (c : Command) → CommandIn o.at (length s) c → Onward s o (command_move o c).on
  command_on w (C.Glyph p l q) i = standing_on q 0 o.ordinal w i.0.0 i.0.1 (omega (arith, i.0, f.pages))
  command_on w (C.Index k q) i = if_both (λ (m : Moved). Onward s o m.on) (ltb k origin) _ _ (standing_on q 1 o.ordinal w i.0.0 i.0.1 (omega (arith, i.0, f.pages))) (standing_on q 0 o.ordinal w i.0.0 i.0.1 (omega (arith, i.0, f.pages)))
  command_on w (C.Word t p r q) i = record {
    fair = record { within = omega (arith, i.0, i.3, i.4); most = f.most; pages = omega (arith, i.2, f.pages); word = (i.3, i.4, i.0.1) };
    less = let z : into_word o.word ≡ 1 = ap into_word w in omega (arith, i.2);
  }
  command_on w (C.Pair k p q) i = standing_on q 0 o.ordinal w i.0.0 i.0.1 (omega (arith, i.0, f.pages))
  command_on w (C.To x k q) i = standing_on q o.gap o.ordinal w i.0.0 i.0.1 (omega (arith, i.0, f.pages))
  command_on w (C.By x k q) i = standing_on q o.gap o.ordinal w i.0.0 i.0.1 (omega (arith, i.0, f.pages))
  command_on w (C.Page k q) i = standing_on q 1 (o.ordinal + 1) w i.0.0 i.0.1 (omega (arith, i.0, f.pages))
  command_on w (C.Font k q) i = standing_on q o.gap o.ordinal w i.0.0 i.0.1 (omega (arith, i.0, f.pages))
  command_on w (C.Size k q) i = standing_on q o.gap o.ordinal w i.0.0 i.0.1 (omega (arith, i.0, f.pages))
  command_on w (C.Colour x a b k d q) i = standing_on q o.gap o.ordinal w i.0 i.1 (omega (arith, i, f.pages))
  command_on w (C.Break q) i = standing_on q 1 o.ordinal w i.0 i.1 (omega (arith, i, f.pages))
  command_on w (C.Space q) i = standing_on q 1 o.ordinal w i.0 i.1 (omega (arith, i, f.pages))
  command_on w (C.Draw b x y k q) i = standing_on q o.gap o.ordinal w i.0.0 i.0.1 (omega (arith, i.0, f.pages))
  command_on w (C.Gray k q) i = standing_on q o.gap o.ordinal w i.0.0 i.0.1 (omega (arith, i.0, f.pages))
  command_on w (C.Fill x a b k d q) i = standing_on q o.gap o.ordinal w i.0 i.1 (omega (arith, i, f.pages))
  command_on w (C.Device p l q) i = standing_on q o.gap o.ordinal w i.0 i.1 (omega (arith, i, f.pages))
  command_on w (C.Resolution k q) i = standing_on q o.gap o.ordinal w i.0.0 i.0.1 (omega (arith, i.0, f.pages))
  command_on w (C.Init q) i = standing_on q o.gap o.ordinal w i.0 i.1 (omega (arith, i, f.pages))
  command_on w (C.File p l q) i = standing_on q o.gap o.ordinal w i.0 i.1 (omega (arith, i, f.pages))
  command_on w (C.Mount k p l q) i = standing_on q o.gap o.ordinal w i.0.0 i.0.1 (omega (arith, i.0, f.pages))
  command_on w (C.Plain b q) i = standing_on q o.gap o.ordinal w i.0 i.1 (omega (arith, i, f.pages))
  command_on w (C.Raw q) i = standing_on q o.gap o.ordinal w i.0 i.1 (omega (arith, i, f.pages))
  command_on w (C.Stop q) i = standing_on q o.gap o.ordinal w i.0 i.1 (omega (arith, i, f.pages))

  scanned_on : o.word ≡ None → (r : Result Command Refusal) → ScannedIn o.at (length s) r → Onward s o (scanned_move (length s) o r).on
  scanned_on w (Ok c) i = command_on w c i
  scanned_on w (Err r) i = standing_on (length s) o.gap o.ordinal w h (omega arith) (omega (arith, f.pages))

  -- what lies between two words
  between_on : o.word ≡ None → Onward s o (move_in s o None).on
  between_on w =
      let P : Moved → Type 0 = λ m. Onward s o m.on in
      if_both P (is_white (get_or s o.at 0)) _ _ (standing_on (o.at + 1) o.gap o.ordinal w (omega arith) (omega arith) (omega (arith, f.pages)))
      (if_both P (is "#" (get_or s o.at 0)) _ _ (standing_on (o.at + 1 + one_line (drop (o.at + 1) s)) o.gap o.ordinal w (omega arith) (comment_in s o.at h) (omega (arith, f.pages)))
      (scanned_on w (command_at s o.at) (command-fits s o.at h)))

  pub move_on : Onward s o (move_of s o).on
  unfolding move_of
  move_on =
      by_word o.word (λ w e. subst (λ (x : Option Word). Onward s o (move_in s o x).on) (sym e) (word_on w e))
      (λ e. subst (λ (x : Option Word). Onward s o (move_in s o x).on) (sym e) (between_on e))

-- ---- the keys do not depend on how many moves are allowed

pub keys_end : (f : ℕ) (s : List ℕ) (o : Outline) → length s ≤ o.at → keys_for f s o ≡ []
unfolding keys_for
keys_end zero s o h = refl
keys_end (suc f) s o h = rw (le-ltb o.at (length s) h)

pub keys_move : (f : ℕ) (s : List ℕ) (o : Outline) → o.at < length s → keys_for (suc f) s o ≡ keys_on (move_of s o) (keys_for f s (move_of s o).on)
unfolding keys_for
keys_move f s o h = rw (lt-ltb o.at (length s) h)

-- fuel enough
module _ (s : List ℕ) where
  abbrev Same : ℕ → ℕ → Outline → Type 0
  Same f g o = Fair (length s) o → moves_left s o ≤ f → moves_left s o ≤ g → keys_for f s o ≡ keys_for g s o

  keys_more : (f g : ℕ) (o : Outline) → ((p : Outline) → Same f g p) → Same (suc f) (suc g) o
  keys_more f g o more k a b =
      on (ltb o.at (length s))
      (λ z.
      let h : o.at < length s = ltb-true o.at (length s) z in
      let n : Onward s o (move_of s o).on = move_on s o k h in
      keys_move f s o h ∙ ap (keys_on (move_of s o)) (more (move_of s o).on n.fair (omega (arith, n.less)) (omega (arith, n.less))) ∙ sym (keys_move g s o h))
      (λ z. let h : length s ≤ o.at = ltb-false o.at (length s) z in keys_end (suc f) s o h ∙ sym (keys_end (suc g) s o h))

  none_left : (f g : ℕ) (o : Outline) → moves_left s o ≤ 0 → Same f g o
  none_left f g o h k a b = let l : length s ≤ o.at = omega arith in keys_end f s o l ∙ sym (keys_end g s o l)

  keys_enough : (f g : ℕ) (o : Outline) → Same f g o
  keys_enough zero g o k a b = none_left zero g o a k a b
  keys_enough (suc f) zero o k a b = none_left (suc f) zero o b k a b
  keys_enough (suc f) (suc g) o k a b = keys_more f g o (λ p. keys_enough f g p) k a b

  pub keys_step : (o : Outline) → Fair (length s) o → o.at < length s → keys_at s o ≡ keys_on (move_of s o) (keys_at s (move_of s o).on)
  keys_step o k h =
      let l : moves_left s (move_of s o).on < moves_left s o = (move_on s o k h).less in
      let e : moves_left s o ≡ suc (moves_left s o - 1) = omega arith in
      ap (λ (f : ℕ). keys_for f s o) e ∙ keys_move (moves_left s o - 1) s o h
      ∙ ap (keys_on (move_of s o)) (keys_enough (moves_left s o - 1) (moves_left s (move_of s o).on) (move_of s o).on (move_on s o k h).fair (omega arith) (omega arith))

  pub keys_over : (o : Outline) → length s ≤ o.at → keys_at s o ≡ []
  keys_over o h = keys_end (moves_left s o) s o h
