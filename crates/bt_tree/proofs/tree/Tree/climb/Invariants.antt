use Rattle.std.proofs.Common.{length}
use Rattle.bt_tree.proofs.Climbings.{IsClimbing}
use Rattle.bt_tree.proofs.tree.Tree.climb.Given as goal

abbrev pub invariant-loop-id : goal.invariant-loop-id
invariant-loop-id g l = IsClimbing g.R.S.Space g.R.Records l.initial.self l.self l.initial.space l.space l.initial.more l.more

abbrev pub decreases-loop-id : goal.decreases-loop-id
decreases-loop-id g l = length l.self.path
