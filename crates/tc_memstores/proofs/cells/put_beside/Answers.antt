use Rattle.std.proofs.Common.{◌∙◌, ap, List, ℕ}
use Rattle.std.proofs.lemmas.Result.{on_err_weaker}
use Rattle.std.specs.FinMap.{insert}
use Rattle.tc_memstores.proofs.Overlaid.{ok_of_both, same_last, old_back}
use Rattle.tc_memstores.proofs.cells.put_beside.Goals as goal

pub returns-clause-key : goal.returns-clause-key
returns-clause-key c = ok_of_both c.put_over.result _ _ _
    (λ last is same. (same_last c.args.rows.now c.exchange.new.self c.put_over.new.rows c.in_ok-key.key _ c.args.value.now last c.in-Some.ensures.map same is.0 is.1).0)
    c.put_over.ensures.ok c.put_over.ensures.same

pub returns-clause-put : goal.returns-clause-put
returns-clause-put c = ok_of_both c.put_over.result _ _ _
    (λ last is same. (same_last c.args.rows.now c.exchange.new.self c.put_over.new.rows c.in_ok-key.key _ c.args.value.now last c.in-Some.ensures.map same is.0 is.1).1
    ∙ ap (λ (k : List ℕ). insert c.args.rows.now k c.args.value.now) c.in_ok-key.ensures)
    c.put_over.ensures.ok c.put_over.ensures.same

pub returns-clause-err : goal.returns-clause-err
returns-clause-err c = on_err_weaker c.put_over.result
    (λ back. old_back c.args.rows.now c.exchange.new.self c.put_over.new.rows c.in_ok-key.key _ c.in-Some.old c.exchange.result c.exchange.ensures.old c.in-Some.is c.in-Some.ensures.map back)
    c.put_over.ensures.err
