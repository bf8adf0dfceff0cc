use Rattle.ty_ulog.proofs.Marking.{beyond_near, marked_near, marked_pushed}
use Rattle.ty_ulog.proofs.index.Index.add.Goals as goal

pub returns-then-is_near-clause-marked : goal.returns-then-is_near-clause-marked
returns-then-is_near-clause-marked c = marked_near _ _ _ (c.is_near.ensures.0 c.if-is_near.true)

pub returns-clause-marked : goal.returns-clause-marked
returns-clause-marked c = marked_pushed _ _ _ _ (beyond_near _ _ _ c.is_near.ensures.1 c.if-is_near.false) c.in_ok-push.ensures.ok
