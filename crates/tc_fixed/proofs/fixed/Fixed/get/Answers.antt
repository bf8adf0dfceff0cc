use Rattle.std.proofs.Common.{◌∙◌, ap, sym}
use Rattle.std.specs.Prelude.{is_some}
use Rattle.std.specs.FinMap.{get}
use Rattle.tc_base.specs.Endian.{field}
use Rattle.tc_fixed.specs.Cells.{cell_at, size_len}
use Rattle.tc_fixed.proofs.Celled.{read_as, read_none}
use Rattle.tc_fixed.proofs.Tallied.{some_long}
use Rattle.tc_fixed.proofs.fixed.Fixed.get.Goals as goal

pub returns-in_default-clause-value : goal.returns-in_default-clause-value
returns-in_default-clause-value g c = λ m means. read_none (get m c.args.id) _ (sym c.in_default.is ∙ c.in_ok-long.ensures.held m means)

pub returns-clause-value : goal.returns-clause-value
returns-clause-value g c = λ m means.
    let f = c.args.self.now in
    let held = sym c.in-Some.is ∙ c.in_ok-long.ensures.held m means in
    let within = means.1.fills.map.within c.args.id (ap is_some (some_long c.in-Some.long (get m c.args.id) held).1) in
    read_as f.width c.in-Some.long (get m c.args.id) (cell_at f.width c.args.id (g.S.Space.now c.args.space.now 0)) _ (means.1.fills.map.cells c.args.id within.0 within.1) held
    (c.in_ok-read_value.ensures.bytes means.0 ∙ ap (λ l. field (size_len f.width) c.in-Some.long (cell_at f.width c.args.id l)) (c.held_at.ensures.reads.files means.0 0))
