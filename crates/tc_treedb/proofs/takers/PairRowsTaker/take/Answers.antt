use Rattle.std.proofs.Common.{true, ◌∷◌, []}
use Rattle.std.proofs.lemmas.Result.{IfOk-weaker}
use Rattle.bt_slots.specs.Reads.{values_in}
use Rattle.tc_treedb.proofs.Takings.{values_end, values_then}
use Rattle.tc_treedb.proofs.takers.PairRowsTaker.take.Goals as goal

pub returns-then-not-branch-clause-taken : goal.returns-then-not-branch-clause-taken
returns-then-not-branch-clause-taken c = values_end c.args.item.now.key.now (c.args.item.now.first.now ∷ []) (values_in c.args.item.now.more c.args.item.now.further.now).0 _ _ (rw c.if-not-branch.true at c.in_ok-add_pair.ensures.added)

pub returns-clause-taken : goal.returns-clause-taken
returns-clause-taken c = IfOk-weaker _ _ _
    (λ more adds. values_then c.args.item.now.key.now (c.args.item.now.first.now ∷ []) (values_in c.args.item.now.more c.args.item.now.further.now).0 c.args.self.now c.add_pair.new.into c.add_further.new.into true more (rw c.if-not-branch.false at c.in_ok-add_pair.ensures.added) adds)
    c.add_further.ensures.added
