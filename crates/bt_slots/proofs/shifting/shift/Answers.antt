use Rattle.std.proofs.Common.{rules, get_or}
use Rattle.std.proofs.lemmas.List.Edits.{map_over_more}
use Rattle.bt_slots.specs.Changes.{shifted}
use Rattle.bt_slots.proofs.shifting.shift.Goals as goal

pub loop-start-preserved : goal.loop-start-preserved
loop-start-preserved c = map_over_more (shifted c.args.from c.args.to) c.args.starts.now c.loop-start.start-items c.loop-start.start-index (get_or c.loop-start.start-items c.loop-start.start-index 0) (search rules) c.loop-start.invariant (search rules)
