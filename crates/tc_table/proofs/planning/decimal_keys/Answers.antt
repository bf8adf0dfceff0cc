use Rattle.std.proofs.lemmas.Result.{IfOk-weaker}
use Rattle.tc_table.specs.Searching.{NamesKeys}
use Rattle.tc_table.proofs.Asking.{number_keys}
use Rattle.tc_table.proofs.planning.decimal_keys.Goals as goal

pub returns-in-Number-clause-named : goal.returns-in-Number-clause-named
returns-in-Number-clause-named g c =
    IfOk-weaker _ _ (λ ks. NamesKeys g.M.S.Space g.M.Multi c.args.cond.now c.args.span.now c.args.tree.now c.args.space.now ks) (λ ks value. number_keys g.M.S.Space g.M.Multi c.args.cond.now c.args.span.now c.in-Number.cut c.args.tree.now c.args.space.now ks c.in-Number.is value) c.keys_inside.ensures.value
