use Rattle.std.proofs.Common.{◌∙◌, ◌+◌, ◌-◌, take, drop, rules, tests}
use Rattle.std.proofs.lemmas.Iterator.{YieldsList-from_slice}
use Rattle.std.proofs.lemmas.Iterator.Search.{any_from_yields_List}
use Rattle.families_table.proofs.Owners.{is_here, in_part}
use Rattle.families_table.proofs.among.Goals as goal

pub returns : goal.returns
returns c =
    let names = take (c.args.from + c.args.count - c.args.from) (drop c.args.from c.args.table.now.names) in
    any_from_yields_List (is_here c.args.fl.now c.args.name.now) _ _ c.any.result c.any.ensures.ran (YieldsList-from_slice names c.iter.ensures.rest)
    (λ x b q k. search (rules, tests))
    ∙ in_part c.args.fl.now c.args.table.now c.args.name.now c.args.from c.args.count (search rules)
