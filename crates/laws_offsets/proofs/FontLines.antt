-- Behind a sound width list a line `font=NAME` is right for a good name that is new, and for no other.
use Prim.Native.Nat.{ℕ}
use mathlib.Core.Bool.{Bool, true, not, ◌&&◌}
use mathlib.Core.List.{List, [], ◌∷◌, ◌++◌, append_assoc}
use mathlib.Core.Path.{◌≡◌, refl, ap}
use borrow.Author.Tests.{lt-ltb, ltb-true, ne_eqb}
use lib.Dec.{ltb}
use lib.ListN.{length}
use Rattle.rules.specs.Bytes.{bytes, same}
use Rattle.rules.specs.Widths.{behind, is_list_name, Font, Widths, block_due, right_line, is_new, line_says, unsound, sound, width_list}
use Rattle.laws.proofs.Cases.{on, no, and_left, and_right}
use Rattle.laws.proofs.Same.{same_eq, eq_same}
use Rattle.laws_find.proofs.Written.{listed_good, good_listed, OneLine, no_white_line}
use Rattle.laws_offsets.specs.Groups.{NoNewline}
use Rattle.laws_offsets.specs.Lists.{font_text, NewName, MayOpen, with_block, FontLines}
use Rattle.laws_offsets.proofs.Lines.{longer}
use Rattle.laws_offsets.proofs.Widths.{ReadTo, wrong_so, next_line, ends_so, list-claim}

-- ---- the rules' tests

new_true : (n : List ℕ) (fs : List Font) → NewName n fs → is_new n fs ≡ true
unfolding is_new
new_true n [] h = refl
new_true n (f ∷ fs) h = on (same f.name n) (λ e. absurd (h.0 (same_eq f.name n e))) (λ e. rw (e, new_true n fs h.1))

true_new : (n : List ℕ) (fs : List Font) → is_new n fs ≡ true → NewName n fs
unfolding is_new
true_new n [] h = tt
true_new n (f ∷ fs) h =
    let differs : Bool = not (same f.name n) in
    (λ e. no (rw (eq_same f.name n e) at (and_left differs (is_new n fs) h)), true_new n fs (and_right differs (is_new n fs) h))

test_open : (n : List ℕ) (fs : List Font) → (is_list_name n && (ltb (length fs) 32 && is_new n fs)) ≡ true → MayOpen n fs
test_open n fs h =
    let k : (ltb (length fs) 32 && is_new n fs) ≡ true = and_right (is_list_name n) (ltb (length fs) 32 && is_new n fs) h in
    record {
      good = listed_good n (and_left (is_list_name n) (ltb (length fs) 32 && is_new n fs) h);
      few = ltb-true (length fs) 32 (and_left (ltb (length fs) 32) (is_new n fs) k);
      new = true_new n fs (and_right (ltb (length fs) 32) (is_new n fs) k);
    }

-- ---- the line

pub one_line_lem : (n : List ℕ) → NoNewline n → OneLine n
one_line_lem [] h = tt
one_line_lem (b ∷ n) h = (ne_eqb b 10 h.0, one_line_lem n h.1)

font_one_line : (n : List ℕ) → OneLine n → OneLine (bytes "font=" ++ n)
font_one_line n h = (refl, (refl, (refl, (refl, (refl, h)))))

font_text_lem : (n m : List ℕ) → font_text n ++ m ≡ (bytes "font=" ++ n) ++ 10 ∷ m
font_text_lem n m = ap (λ (l : List ℕ). bytes "font=" ++ l) (append_assoc n (10 ∷ []) m)

module _ (list : List ℕ) (w : Widths) (n : List ℕ) (e : width_list list ≡ sound w) where
  read_to : ReadTo list w block_due
  read_to = rw e at (list-claim list)

  right : MayOpen n w.fonts → width_list (list ++ font_text n) ≡ sound (with_block n w)
  unfolding behind
  right h =
      let t : List ℕ = bytes "font=" ++ n in
      let says : line_says w t block_due ≡ right_line block_due (with_block n w) = rw (good_listed n h.good, lt-ltb (length w.fonts) 32 h.few, new_true n w.fonts h.new) in
      let z : ReadTo (longer list t) (with_block n w) block_due = next_line list w block_due read_to t block_due (with_block n w) (font_one_line n (no_white_line n h.good.no_white)) says in
      rw append_assoc at (ends_so (longer list t) (with_block n w) block_due z)

  wrong : (m : List ℕ) → NoNewline n → (MayOpen n w.fonts → ⊥) → width_list (list ++ (font_text n ++ m)) ≡ unsound (length list)
  unfolding behind
  wrong m k h =
      on (is_list_name n && (ltb (length w.fonts) 32 && is_new n w.fonts)) (λ y. absurd (h (test_open n w.fonts y)))
      (λ y. rw (font_text_lem n m) (wrong_so list w block_due read_to (bytes "font=" ++ n) m (font_one_line n (one_line_lem n k)) (rw y)))

pub font_lines : FontLines
font_lines = record { given = right; only = λ list w n m e. wrong list w n e m }
