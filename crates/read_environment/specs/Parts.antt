-- What the helpers of the code answer.
use Rattle.std.specs.Prelude.{ℕ, Result}
use Rattle.rules.specs.declared.Refusal.{Refusal}
use Rattle.rules.specs.Answers.{asked, and_then}
use Rattle.read_model.specs.declared.Environment.{Environment}
use Rattle.read_model.specs.Environment.{on_page, is_set}

-- what a glyph's command at a place asks of the environment
abbrev pub lack_of : Environment → ℕ → Result Unit Refusal
lack_of e at = and_then (asked (on_page e) 7 at) (λ z. asked (is_set e) 8 at)
