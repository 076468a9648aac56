use Rattle.std.proofs.Common.{◌≡◌, ◌+◌, ◌-◌}
use Rattle.read_model.specs.Words.{all_wide}
use Rattle.read_word.proofs.all_wide.Given as goal

-- what is still to be looked at
abbrev pub invariant-loop-i : goal.invariant-loop-i
invariant-loop-i l = all_wide l.fn.n l.s l.ws l.block l.fn.at ≡ all_wide (l.fn.at + l.fn.n - l.i) l.s l.ws l.block l.i
