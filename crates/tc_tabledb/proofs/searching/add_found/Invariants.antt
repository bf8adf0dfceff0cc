use Rattle.std.proofs.Common.{map, take}
use Rattle.std.specs.Prelude.{flat_map}
use Rattle.tc_engine.specs.Rows.{Adds, Extends, item_row}
use Rattle.tc_model.specs.Meaning.{reply_of}
use Rattle.tc_tabledb.proofs.searching.add_found.Given as goal

abbrev pub invariant-loop-i : goal.invariant-loop-i
invariant-loop-i l = record {
  added : Adds l.fn.into l.into (map item_row (flat_map reply_of (take l.i l.found)));
  front : Extends l.fn.into l.into;
}
