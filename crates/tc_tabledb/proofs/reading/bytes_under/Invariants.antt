use Rattle.std.proofs.Common.{◌≡◌, take}
use Rattle.tc_space.specs.Frames.{Keeps, Reads}
use Rattle.tc_space.specs.Stores.{IsReady}
use Rattle.tc_model.specs.Contents.{Rows}
use Rattle.tc_table.specs.Tables.{Holds, StaysTable}
use Rattle.tc_tabledb.specs.Reading.{sized_under}
use Rattle.tc_tabledb.proofs.reading.bytes_under.Given as goal

abbrev pub invariant-loop-i : goal.invariant-loop-i
invariant-loop-i g l = record {
  reads : Reads g.R.S.Space (Holds g.R.S.Space g.R.Records g.L.Multi g.D.Multi) l.fn.table l.table l.fn.space l.space;
  keeps : Keeps g.R.S.Space l.fn.space l.space;
  ready : IsReady g.R.S.Space (Holds g.R.S.Space g.R.Records g.L.Multi g.D.Multi) l.table l.space;
  stays : StaysTable g.R.Records g.L.Multi g.D.Multi l.fn.table l.table;
  so_far : (rows : Rows) → Holds g.R.S.Space g.R.Records g.L.Multi g.D.Multi l.fn.table l.fn.space rows → l.total ≡ sized_under rows (take l.i l.row_keys);
}
