use Rattle.std.proofs.Common.{arith}
use Rattle.bt_tree.proofs.Issues.{counts_begin, counts_done, counts_end, counts_more, counts_ready, counts_there, peeks_refl, peeks_then}
use Rattle.bt_tree.proofs.tree.Tree.nodes_above.Goals as goal

pub returns-in_err-way-clause-peeks : goal.returns-in_err-way-clause-peeks
returns-in_err-way-clause-peeks g c = peeks_refl g.R.S.Space g.R.Records c.args.self.now _ c.args.space.now c.requires.sound

pub loop-id-init : goal.loop-id-init
loop-id-init g c = counts_begin g.R.S.Space g.R.Records c.args.self.now _ c.args.space.now c.args.added _ c.in_ok-way.ensures c.requires

pub has_no_room-requires-clause-ready : goal.has_no_room-requires-clause-ready
has_no_room-requires-clause-ready g c = counts_ready g.R.S.Space g.R.Records _ _ _ _ _ _ _ _ c.loop-id.invariant c.requires

pub has_no_room-requires-clause-there : goal.has_no_room-requires-clause-there
has_no_room-requires-clause-there g c = counts_there g.R.S.Space g.R.Records _ _ _ _ _ _ _ _ c.loop-id.invariant _ _ _ c.in-Some.ensures c.requires

pub returns-in_err-full-clause-peeks : goal.returns-in_err-full-clause-peeks
returns-in_err-full-clause-peeks g c = peeks_then g.R.S.Space g.R.Records _ _ _ _ _ _ c.loop-id.invariant.peeks c.has_no_room.ensures.peeks

pub returns-then-not-full-clause-come : goal.returns-then-not-full-clause-come
returns-then-not-full-clause-come g c = counts_done g.R.S.Space g.R.Records _ _ _ _ _ _ _ _ c.loop-id.invariant

pub returns-then-not-full-clause-peeks : goal.returns-then-not-full-clause-peeks
returns-then-not-full-clause-peeks g c = peeks_then g.R.S.Space g.R.Records _ _ _ _ _ _ c.loop-id.invariant.peeks c.has_no_room.ensures.peeks

pub loop-id-preserved : goal.loop-id-preserved
loop-id-preserved g c =
    counts_more g.R.S.Space g.R.Records _ _ _ _ _ _ _ _ c.loop-id.invariant _ _ _ c.in-Some.ensures _ _ c.has_no_room.ensures.peeks (c.in_ok-full.ensures.full c.if-not-full.false) (omega (arith, c.if-nodes-ge-PAGE_END.false))

pub returns-clause-come : goal.returns-clause-come
returns-clause-come g c = counts_end g.R.S.Space g.R.Records _ _ _ _ _ _ _ _ c.loop-id.invariant c.in_default.ensures.0
