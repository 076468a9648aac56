-- Refusal 2 points at the start of the width list's first wrong line, or at its end.
use Prim.Native.Nat.{ℕ, ◌+◌}
use mathlib.Core.Bool.{Bool, true, false}
use mathlib.Core.List.{List, [], ◌∷◌, ◌++◌, append-nil}
use mathlib.Core.Logic.{◌⊎◌, inl, inr}
use mathlib.Core.Path.{◌≡◌, refl, sym, ap, ◌∙◌}
use lib.ListN.{length}
use lib.Seq.{take-append_seam}
use Rattle.rules.specs.Bytes.{bytes, span, one_line}
use Rattle.rules.specs.Widths.{lines_from, behind, Widths, Due, unit_due, block_due, width_due, LineRead, wrong_line, right_line, line_says, WidthList, unsound, sound, list_ends, line_on, lines_say, width_list}
use Rattle.laws.proofs.Cases.{no}
use Rattle.laws_find.proofs.Written.{OneLine, line_front}
use Rattle.laws_offsets.specs.Lists.{LineStart, first_line, RightTo, WrongAt, unended, wrong_line_lem, missing, ListOffset}
use Rattle.laws_offsets.proofs.Lines.{Lines, no_line, open_line, one_more, lines, open_front, is_line, longer, longer_on, longer_length, longer_start, line_inside, line_taken, open_inside, open_end}

abbrev pub is_sound : WidthList → Bool
is_sound (unsound at) = false
is_sound (sound w) = true

abbrev no_widths : Widths
no_widths = record { unitwidth = 0; fonts = [] }

-- The lines of pre are right, and this is due behind them.
pub record ReadTo (pre : List ℕ) (w : Widths) (d : Due) : Type 0 where
  on : (n : ℕ) (m : List ℕ) → lines_say n no_widths unit_due (lines_from 0 (pre ++ m)) ≡ lines_say n w d (lines_from (length pre) m)
  pub start : (m : List ℕ) → LineStart (pre ++ m) (length pre)

module _ (pre : List ℕ) (w : Widths) (d : Due) (h : ReadTo pre w d) where
  -- a line of the text t that is right, and one that is wrong
  right_so : (n : ℕ) (t m : List ℕ) (d' : Due) (w' : Widths) → OneLine t → line_says w t d ≡ right_line d' w'
      → lines_say n no_widths unit_due (lines_from 0 (pre ++ (t ++ 10 ∷ m))) ≡ lines_say n w' d' (lines_from (length pre + length t + 1) m)
  unfolding lines_say
  right_so n t m d' w' k e = h.on n (t ++ 10 ∷ m) ∙ rw (line_front t (length pre) m k, e)

  pub wrong_so : (t m : List ℕ) → OneLine t → line_says w t d ≡ wrong_line → width_list (pre ++ (t ++ 10 ∷ m)) ≡ unsound (length pre)
  unfolding width_list lines_say
  wrong_so t m k e = h.on (length (pre ++ (t ++ 10 ∷ m))) (t ++ 10 ∷ m) ∙ rw (line_front t (length pre) m k, e)

  pub next_line : (t : List ℕ) (d' : Due) (w' : Widths) → OneLine t → line_says w t d ≡ right_line d' w' → ReadTo (longer pre t) w' d'
  next_line t d' w' k e = record {
    on = λ n m. rw (longer_on pre t m, right_so n t m d' w' k e, longer_length pre t);
    start = λ m. longer_start pre t m;
  }

  pub ends_so : width_list pre ≡ list_ends (length pre) w d
  unfolding width_list lines_from lines_say
  ends_so = rw append-nil at (h.on (length pre) [])

  right_to : (post : List ℕ) → RightTo (pre ++ post) (length pre)
  right_to post = rw (take-append_seam pre post) (go d ends_so)
    where
      go : (x : Due) → width_list pre ≡ list_ends (length pre) w x → ((v : Widths) × (width_list pre ≡ sound v)) ⊎ (width_list pre ≡ unsound (length pre))
      go unit_due e = inr e
      go block_due e = inl (w, e)
      go (width_due b) e = inr e

  empty-wrong : (x : Due) → line_says w [] x ≡ wrong_line
  unfolding behind
  empty-wrong unit_due = refl
  empty-wrong block_due = refl
  empty-wrong (width_due b) = refl

  -- the first line behind pre is wrong
  offset : (post : List ℕ) → WrongAt (pre ++ post) (length pre) → ListOffset (pre ++ post) (length pre)
  offset post e = record { line = h.start post; before = right_to post; first = λ m. rw (take-append_seam pre post) (wrong_so [] m tt (empty-wrong d)); here = e }

  open_offset : (b : ℕ) (t : List ℕ) → OneLine (b ∷ t) → ListOffset (pre ++ b ∷ t) (length pre)
  open_offset b t k = offset (b ∷ t) (unended (open_inside pre b t) (open_end pre b t k))

  wrong_offset : (t m : List ℕ) → OneLine t → line_says w t d ≡ wrong_line → ListOffset (pre ++ (t ++ 10 ∷ m)) (length pre)
  wrong_offset t m k e = offset (t ++ 10 ∷ m) (wrong_line_lem (line_inside pre t m k)
      (λ m'. rw (line_taken pre t m k, longer_on pre t m') (wrong_so t m' k e)))

  -- a line is missing: with one more it would be sound
  end_offset : (t : List ℕ) (v : Widths) → list_ends (length pre) w d ≡ unsound (length pre) → one_line t ≡ length t → line_says w t d ≡ right_line block_due v → ListOffset pre (length pre)
  unfolding width_list lines_from lines_say
  end_offset t v u l e =
      let x : WrongAt pre (length pre) = missing refl (λ x y. no (ap is_sound (sym (ends_so ∙ u) ∙ y))) t v l (rw (right_so (length (pre ++ (t ++ 10 ∷ []))) t [] block_due v (is_line t l) e)) in
      rw append-nil at (offset [] (rw append-nil x))

-- what is said of a list that is refused; of one that is not, that its lines are right and a block may follow
abbrev pub Claim : List ℕ → WidthList → Type 0
Claim list (unsound at) = ListOffset list at
Claim list (sound w) = ReadTo list w block_due

end_claim : (pre : List ℕ) (w : Widths) (d : Due) → ReadTo pre w d → Claim pre (list_ends (length pre) w d)
unfolding behind span
end_claim pre w unit_due h = end_offset pre w unit_due h (bytes "unitwidth=1") _ refl refl refl
end_claim pre w block_due h = h
end_claim pre w (width_due b) h = end_offset pre w (width_due b) h (bytes "width=0") _ refl refl refl

claims : {post : List ℕ} → Lines post → (pre : List ℕ) (w : Widths) (d : Due) → ReadTo pre w d → Claim (pre ++ post) (lines_say (length (pre ++ post)) w d (lines_from (length pre) post))
unfolding lines_say lines_from
claims no_line pre w d h = rw append-nil (end_claim pre w d h)
claims (open_line b t k) pre w d h = rw (open_front b t (length pre) k) (open_offset pre w d h b t k)
claims (one_more t r k more) pre w d h = rw (line_front t (length pre) r k) (go (line_says w t d) refl (λ d' w' g. claims more (longer pre t) w' d' g))
  where
    go : (x : LineRead) → line_says w t d ≡ x
        → ((d' : Due) (w' : Widths) → ReadTo (longer pre t) w' d' → Claim (longer pre t ++ r) (lines_say (length (longer pre t ++ r)) w' d' (lines_from (length (longer pre t)) r)))
        → Claim (pre ++ (t ++ 10 ∷ r)) (line_on (length pre) (λ d' w'. lines_say (length (pre ++ (t ++ 10 ∷ r))) w' d' (lines_from (length pre + length t + 1) r)) x)
    go wrong_line e f = wrong_offset pre w d h t r k e
    go (right_line d' w') e f = rw (longer_on pre t r, longer_length pre t) at (f d' w' (next_line pre w d h t d' w' k e))

pub list-claim : (list : List ℕ) → Claim list (width_list list)
unfolding width_list
list-claim list = claims (lines list) [] no_widths unit_due (record { on = λ n m. refl; start = λ m. first_line })
