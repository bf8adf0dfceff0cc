use Rattle.std.proofs.Common.{◌≡◌, ◌≤◌, ◌+◌, length, take}
use Rattle.tc_space.specs.Frames.{Keeps, Reads}
use Rattle.tc_space.specs.Stores.{IsReady, Ticks}
use Rattle.tc_model.specs.Contents.{Rows}
use Rattle.tc_table.specs.Searching.{found_under}
use Rattle.tc_table.specs.Tables.{Holds, StaysTable}
use Rattle.tc_table.proofs.table.Table.tally.Given as goal

abbrev pub invariant-loop-i : goal.invariant-loop-i
invariant-loop-i g l = record {
  reads : Reads g.R.S.Space (Holds g.R.S.Space g.R.Records g.L.Multi g.D.Multi) l.fn.self l.self l.fn.space l.space;
  keeps : Keeps g.R.S.Space l.fn.space l.space;
  ready : IsReady g.R.S.Space (Holds g.R.S.Space g.R.Records g.L.Multi g.D.Multi) l.self l.space;
  stays : StaysTable g.R.Records g.L.Multi g.D.Multi l.fn.self l.self;
  few : g.R.Records.gets l.self.rows ≤ g.R.Records.gets l.fn.self.rows + l.i;
  most : l.steps ≤ l.fn.steps + l.i;
  steps : Ticks (g.R.Records.gets l.fn.self.rows) (g.R.Records.gets l.self.rows) l.fn.steps l.steps;
  within : l.number ≤ l.i;
  so_far : (rows : Rows) → Holds g.R.S.Space g.R.Records g.L.Multi g.D.Multi l.fn.self l.fn.space rows → l.number ≡ length (found_under l.q rows (take l.i l.row_keys));
}
