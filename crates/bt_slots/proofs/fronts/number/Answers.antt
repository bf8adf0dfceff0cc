use Rattle.std.proofs.Common.{ap, sym}
use Rattle.bt_slots.specs.Reads.{or_none, number_in}
use Rattle.bt_slots.proofs.fronts.number.Goals as goal

pub returns-in-Ok : goal.returns-in-Ok
unfolding number_in
returns-in-Ok c = sym (ap or_none c.in-Ok.ensures)

pub returns-in-Err : goal.returns-in-Err
unfolding number_in
returns-in-Err c = sym (ap or_none c.in-Err.ensures)
