use Rattle.std.proofs.Common.{take}
use Rattle.std.specs.Prelude.{map}
use Rattle.tc_engine.specs.Rows.{Adds, Extends, item_row}
use Rattle.tc_hashdb.proofs.listing.add_texts.Given as goal

abbrev pub invariant-loop-text : goal.invariant-loop-text
invariant-loop-text l = record {
  rows : Adds l.fn.rows l.rows (map item_row (take l.text-index l.texts));
  front : Extends l.fn.rows l.rows;
}
