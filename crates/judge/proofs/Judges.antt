-- The rewriter's first pass judges as the rules do; what each call asks, and what is answered, in the form in which `search` applies it.
use Rattle.std.specs.Prelude.{Result, Ok, Err}
use Prim.Native.Nat.{ℕ, ◌<◌, ◌≤◌, min}
use native.Mathlib.Omega.{arith}
use mathlib.Core.Bool.{true}
use mathlib.Core.List.{List}
use mathlib.Core.Logic.{◌⊎◌, inl, inr}
use mathlib.Core.Path.{◌≡◌, ◌∙◌}
use lib.Dec.{eqb}
use lib.ListN.{length}
use borrow.Author.Rules.{rules}
use borrow.Author.Tests.{ne_eqb, ltb-true, ltb-false}
use Rattle.rules.specs.declared.Judging.{Judging}
use Rattle.rules.specs.declared.Refusal.{Refusal}
use Rattle.rules.specs.Answers.{refusal, stream_most, is_over, length_of, judge}
use Rattle.rules.specs.Calls.{JudgeCall}
use Rattle.laws.proofs.Cases.{on}
use Rattle.read_model.proofs.Passes.{Refused}
use Rattle.respell_model.specs.declared.Writing.{Writing}
use Rattle.respell_twice.specs.Respell.{pass_at, Measured}
use Rattle.respell_twice.proofs.First.{text_of, Refuses, Accepts, first_says}
use Rattle.judge_answer.specs.Answer.{judge_answer_of}

-- ---- the answer

module _ (w : Writing) where
  accepted_is : (r e p len : ℕ) → w.state.refusal ≡ 0 → eqb w.state.env.phase 4 ≡ true → w.state.records ≡ r → w.state.entries ≡ e → w.state.env.ordinal ≡ p → w.mark.at ≡ len
      → judge_answer_of w ≡ Ok (record { records = r; entries = e; pages = p; spelling = len })
  accepted_is r e p len clear stopped count number pages at = rw (clear, stopped, count, number, pages, at)

  refused_is : (k j : ℕ) → Refused k j w.state → judge_answer_of w ≡ Err (refusal k j)
  refused_is k j (inl (r, z, i)) = rw (r, i, ne_eqb k 0 (λ x. omega arith))
  refused_is k j (inr (f, r, i, x)) = rw (r, x, i, f)

-- ---- the pass

-- it is counted up to one past the longest spelling
counted : (t : List ℕ) → min (length t) 16777217 ≡ length_of t
counted t =
    on (is_over stream_most t)
    (λ z. let l : 16777216 < length t = ltb-true stream_most (length t) z in rw z (omega arith))
    (λ z. let l : length t ≤ 16777216 = ltb-false stream_most (length t) z in rw z (omega arith))

module _ (s list : List ℕ) (w : Writing) (ws : List ℕ) where
  says : (m : Measured s list w ws) → Refuses s list (pass_at w ws m.left) ⊎ Accepts s list m.first m.scratch (pass_at w ws m.left) → judge_answer_of w ≡ judge s list
  unfolding judge
  says m (inl f) = refused_is w f.number f.offset f.refused ∙ rw f.answered
  says m (inr g) =
      accepted_is w (length g.rows) (length g.items) g.end.ordinal (length_of (text_of s g.on.widths)) g.clear g.stopped g.count g.number g.pages (g.measured ∙ counted (text_of s g.on.widths))
      ∙ rw (g.on.answered, g.on.list_is, g.said)

  pub judges : (r : Result Judging Refusal) → r ≡ judge_answer_of w → Measured s list w ws → JudgeCall s list r
  judges r e m = record { answer = e ∙ says m (first_says s list m.first m.scratch m.started m.buffer (pass_at w ws m.left) m.runs m.bytes) }

pub ruleset judging = (judges, rules)
