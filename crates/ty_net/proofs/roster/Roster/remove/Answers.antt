use Rattle.ty_net.proofs.Numbers.{still_below}
use Rattle.ty_net.proofs.roster.Roster.remove.Goals as goal

pub invariant_of-self : goal.invariant_of-self
invariant_of-self c = record { below = still_below _ _ _ _ c.drop_number.ensures c.args.self.now.below }
