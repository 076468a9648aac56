-- What is answered where the pass that measures ended at w. In the code's own steps.
use Rattle.std.specs.Prelude.{eqb, Result, Ok}
use Rattle.rules.specs.declared.Judging.{Judging}
use Rattle.rules.specs.declared.Refusal.{Refusal}
use Rattle.rules.specs.Answers.{asked, and_then}
use Rattle.respell_model.specs.declared.Writing.{Writing}

abbrev pub judge_answer_of : Writing → Result Judging Refusal
judge_answer_of w =
    and_then (asked (eqb w.state.refusal 0) w.state.refusal w.state.at) (λ x.
    and_then (asked (eqb w.state.env.phase 4) 11 w.state.at) (λ y.
    Ok (record { records = w.state.records; entries = w.state.entries; pages = w.state.env.ordinal; spelling = w.mark.at })))
