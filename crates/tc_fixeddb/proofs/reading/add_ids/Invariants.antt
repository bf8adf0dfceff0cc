use Rattle.std.proofs.Common.{take}
use Rattle.std.specs.Prelude.{map}
use Rattle.std.specs.Fmt.{decimal}
use Rattle.tc_engine.specs.Rows.{Adds, Extends, item_row}
use Rattle.tc_fixeddb.proofs.reading.add_ids.Given as goal

abbrev pub invariant-loop-id : goal.invariant-loop-id
invariant-loop-id l = record {
  rows : Adds l.fn.rows l.rows (map item_row (map (λ id. decimal id) (take l.id-index l.ids)));
  front : Extends l.fn.rows l.rows;
}
