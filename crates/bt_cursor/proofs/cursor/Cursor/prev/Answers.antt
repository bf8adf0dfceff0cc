use Rattle.std.proofs.Common.{ap}
use Rattle.bt_cursor.specs.Places.{prev_place}
use Rattle.bt_cursor.specs.declared.cursor.Cursor.{Cursor}
use Rattle.bt_cursor.proofs.Movings.{moves}
use Rattle.bt_cursor.proofs.cursor.Cursor.prev.Goals as goal

pub returns-clause-moved : goal.returns-clause-moved
returns-clause-moved g c =
    moves g.R.S.Space g.R.Records g.O.Order g.met.O.Order.total g.met.O.Order.exact c.args.tree.now c.args.space.now (prev_place g.O.Order.cmp c.args.self.now.at) _ _ _ c.in_ok-prev.ensures.value (ap (λ (x : Cursor). x.at) c.stand.ensures.0) c.stand.ensures.1
