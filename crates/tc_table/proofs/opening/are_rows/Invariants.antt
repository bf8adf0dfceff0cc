use Rattle.std.proofs.Common.{take}
use Rattle.tc_base.specs.Maps.{Map}
use Rattle.tc_space.specs.Frames.{In, Keeps, Reads}
use Rattle.tc_space.specs.Stores.{IsReady}
use Rattle.td_index.specs.Checks.{StaysRows}
use Rattle.tc_table.proofs.Opened.{AreRowsAt}
use Rattle.tc_table.proofs.opening.are_rows.Given as goal

abbrev pub invariant-loop-i : goal.invariant-loop-i
invariant-loop-i g l = record {
  reads : Reads g.R.S.Space (In g.R.S.Space g.R.Records.file_of g.R.Records.holds) l.fn.rows l.rows l.fn.space l.space;
  keeps : Keeps g.R.S.Space l.fn.space l.space;
  ready : IsReady g.R.S.Space (In g.R.S.Space g.R.Records.file_of g.R.Records.holds) l.rows l.space;
  stays : StaysRows g.R.Records l.fn.rows l.rows;
  so_far : (m : Map) → In g.R.S.Space g.R.Records.file_of g.R.Records.holds l.fn.rows l.fn.space m → AreRowsAt m (take l.i l.row_keys);
}
