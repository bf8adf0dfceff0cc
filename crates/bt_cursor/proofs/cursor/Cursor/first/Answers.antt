use Rattle.std.proofs.Common.{ap, ◌∙◌}
use Rattle.std.specs.Prelude.{is_some}
use Rattle.bt_cursor.specs.Places.{first_place}
use Rattle.bt_cursor.specs.declared.cursor.Cursor.{Cursor}
use Rattle.bt_cursor.proofs.Movings.{moves, to_first}
use Rattle.bt_cursor.proofs.cursor.Cursor.first.Goals as goal

pub returns-clause-moved : goal.returns-clause-moved
returns-clause-moved g c =
    moves g.R.S.Space g.R.Records g.O.Order g.met.O.Order.total g.met.O.Order.exact c.args.tree.now c.args.space.now first_place _ _ _ (to_first g.R.S.Space g.R.Records g.O.Order g.met.O.Order.total g.met.O.Order.exact c.args.tree.now c.args.space.now c.in_ok-end.end c.in_ok-end.ensures.value) (ap (λ (x : Cursor). x.at) c.stand.ensures.0 ∙ c.first_value.ensures) (c.stand.ensures.1 ∙ ap (λ p. is_some p) c.first_value.ensures)
