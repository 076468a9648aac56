-- The length of the buffer is answered by hand: a list of 4,194,304 is not to be computed.
use Rattle.std.proofs.Common.{◌≡◌, ◌∙◌, ℕ, List, length, replicate, ap, sym}
use Rattle.std.specs.Prelude.{Result}
use Rattle.std.proofs.lemmas.List.{length-replicate}
use Rattle.rules.specs.declared.Refusal.{Refusal}
use Rattle.rules.specs.Answers.{respell_into, respelling_of}
use Rattle.small_spelling.proofs.show.Goals as goal

-- the answer of a buffer of n bytes
of_room : (n : ℕ) (r : Result ℕ Refusal) (text s list : List ℕ) → length text ≡ n → r ≡ respelling_of (respell_into (length text) s list) → r ≡ respelling_of (respell_into n s list)
of_room n r text s list e is = is ∙ ap (λ (m : ℕ). respelling_of (respell_into m s list)) e

pub slice_bounds-show_in-end : goal.slice_bounds-show_in-end
slice_bounds-show_in-end g c = sym (length-replicate {A = ℕ} _ 0)

pub returns : goal.returns
returns g c =
    of_room 4194304 c.show_in.result.answer (replicate 4194304 0) c.args.s.now c.args.list.now (length-replicate {A = ℕ} 4194304 0) c.show_in.ensures.answer
