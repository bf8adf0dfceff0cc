use Rattle.std.proofs.Common.{map, take}
use Rattle.tc_engine.specs.Rows.{Adds, Extends, item_row}
use Rattle.tc_model.specs.Rows.{texts_of}
use Rattle.tc_tabledb.proofs.reading.add_columns.Given as goal

abbrev pub invariant-loop-i : goal.invariant-loop-i
invariant-loop-i l = record {
  added : Adds l.fn.into l.into (map item_row (texts_of (take l.i l.row)));
  front : Extends l.fn.into l.into;
}
