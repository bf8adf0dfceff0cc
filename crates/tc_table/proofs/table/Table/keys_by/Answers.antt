use Rattle.std.proofs.lemmas.Result.{IfOk-weaker}
use Rattle.tc_table.specs.Searching.{NamesAt}
use Rattle.tc_table.proofs.Asking.{names_as, ready_as}
use Rattle.tc_table.proofs.table.Table.keys_by.Goals as goal

pub keys_at-requires : goal.keys_at-requires
keys_at-requires g c = ready_as g.R.S.Space g.L.Multi g.D.Multi c.as_mut_slice.result.now c.args.self.now.sides.items c.args.space.now c.as_mut_slice.ensures.value c.requires

pub returns-clause-named : goal.returns-clause-named
returns-clause-named g c =
    IfOk-weaker _ _ (λ ks. NamesAt g.R.S.Space g.L.Multi g.D.Multi c.args.cond.now c.args.span.now c.args.place c.args.self.now.sides.items c.args.space.now ks)
    (λ ks named. names_as g.R.S.Space g.L.Multi g.D.Multi c.args.cond.now c.args.span.now c.args.place c.as_mut_slice.result.now c.args.self.now.sides.items c.args.space.now ks c.as_mut_slice.ensures.value named) c.keys_at.ensures.named
