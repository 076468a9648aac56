-- Behind a spacer a place is still in the stream, or at its end.
use Rattle.scan_lex.proofs.Runs.{run-within}

pub ruleset places = (run-within)
