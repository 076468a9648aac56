use Rattle.std.proofs.Common.{◌≡◌, ℕ}
use Rattle.read_pass.proofs.Known.{Known}
use Rattle.read_pass.proofs.pass.Given as goal

-- at most k turns are left; the reader keeps its stream
abbrev pub invariant-loop-st : goal.invariant-loop-st
invariant-loop-st l = record {
  stream : l.reader.stream.now ≡ l.s;
  known : (k : ℕ) × Known l.list l.s (record { state = l.fn.from; scratch = l.initial.ws; records = l.initial.records; entries = l.initial.entries }) k (record { state = l.st; scratch = l.ws; records = l.records; entries = l.entries });
}

abbrev pub decreases-loop-st : goal.decreases-loop-st
decreases-loop-st l = l.st.left
