use Rattle.std.proofs.Common.{◌+◌}
use Rattle.tc_fixed.specs.Cells.{cell_at}
use Rattle.tc_fixed.proofs.Celled.{cell_long, front_of_cell}
use Rattle.tc_fixed.proofs.looking.look.Goals as goal

pub returns-clause-sees : goal.returns-clause-sees
returns-clause-sees g c = λ t.
    let now = g.S.Space.now c.args.space.now 0 in
    c.look_in.ensures.sees (cell_at c.args.width c.args.id now) (cell_long c.args.width c.args.id now c.requires.some (c.requires.cells.inside t))
    (front_of_cell c.args.width c.args.id _ _ _ now c.requires.cells.width_least (λ i. c.size_len-len.ensures.value i + 1) c.place-at.ensures.value (c.get.ensures.shows now (c.in_ok-fill.ensures.shows t (c.requires.shows t))))
