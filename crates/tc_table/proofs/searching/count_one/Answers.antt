use Rattle.std.proofs.Common.{◌∙◌, length, Option, sym, ap}
use Rattle.tc_model.specs.Rows.{Row}
use Rattle.tc_table.specs.Searching.{found_row}
use Rattle.tc_table.proofs.searching.count_one.Goals as goal

pub returns-in-Some-clause-found : goal.returns-in-Some-clause-found
returns-in-Some-clause-found c = c.count_row.ensures.found ∙ ap (λ (o : Option Row). length (found_row c.args.q.now c.args.key.now o)) (sym c.in-Some.is)

pub returns-in-None-clause-found : goal.returns-in-None-clause-found
returns-in-None-clause-found c = ap (λ (o : Option Row). length (found_row c.args.q.now c.args.key.now o)) (sym c.in-None.is)
