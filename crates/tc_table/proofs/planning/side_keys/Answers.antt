use Rattle.std.proofs.Common.{refl}
use Rattle.std.proofs.lemmas.Result.{IfOk-weaker}
use Rattle.tc_table.specs.Searching.{NamesSide}
use Rattle.tc_table.proofs.Asking.{side_names, side_reads}
use Rattle.tc_table.proofs.Turning.{side_same}
use Rattle.tc_table.proofs.planning.side_keys.Goals as goal

pub returns-clause-named : goal.returns-clause-named
returns-clause-named g c =
    IfOk-weaker _ _ (λ ks. NamesSide g.S.Space g.L.Multi g.D.Multi c.args.cond.now c.args.span.now c.args.side.now c.args.space.now ks) (λ ks named. side_names g.S.Space g.L.Multi g.D.Multi c.args.cond.now c.args.span.now c.args.side.now c.args.space.now ks named) c.tree_keys.ensures.named

pub returns-clause-reads : goal.returns-clause-reads
returns-clause-reads g c = side_reads g.S.Space g.L.Multi g.D.Multi c.args.side.now _ c.args.space.now c.tree_keys.new.space refl c.tree_keys.ensures.stays c.tree_keys.ensures.reads

pub returns-clause-stays : goal.returns-clause-stays
returns-clause-stays g c = side_same g.S.Space g.L.Multi g.D.Multi c.args.side.now c.tree_keys.new.tree c.tree_keys.ensures.stays
