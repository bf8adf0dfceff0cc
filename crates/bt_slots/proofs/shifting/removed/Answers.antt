use Rattle.std.proofs.Common.{sym, subst}
use Rattle.std.specs.List.{All}
use Rattle.bt_slots.specs.Changes.{MayShift}
use Rattle.bt_slots.proofs.Changes.{removed_behind}
use Rattle.bt_slots.proofs.shifting.removed.Goals as goal

pub shift_behind-requires-clause-may : goal.shift_behind-requires-clause-may
shift_behind-requires-clause-may c = subst (All (MayShift c.args.from c.args.to)) (sym (removed_behind c.args.starts.items _ c.args.index c.requires.inside c.remove.ensures.items)) c.requires.may
