use borrow.Author.Rules.{rules}
use Rattle.respell_bytes.proofs.Digits.{writing, counting}
use Rattle.respell_bytes.proofs.Sheet.put_decimal.Goals as goal

pub loop-m-init : goal.loop-m-init
loop-m-init c = search (rules, writing)

pub loop-m-preserved : goal.loop-m-preserved
loop-m-preserved c = search (rules, writing)

pub returns : goal.returns
returns c = search (rules, writing)

pub returns-then-self : goal.returns-then-self
returns-then-self c = search (rules, counting)
