use Rattle.std.proofs.Common.{◌≡◌, ◌≤◌, ◌*◌, ◌-◌, ◌^◌, take}
use Rattle.tc_space.specs.Frames.{In, Keeps, Reads}
use Rattle.tc_space.specs.Stores.{IsReady}
use Rattle.td_index.specs.Checks.{AreBoth, Both, StaysBoth, firsts_by}
use Rattle.td_index.proofs.Looking.{SoFar}
use Rattle.td_index.proofs.check.check_entries.Given as goal

abbrev pub invariant-loop-i : goal.invariant-loop-i
invariant-loop-i g l = record {
  reads : Reads g.R.S.Space (AreBoth g.R.S.Space g.R.Records g.M.Multi) (l.fn.rows, l.fn.tree) (l.rows, l.tree) l.fn.space l.space;
  keeps : Keeps g.R.S.Space l.fn.space l.space;
  stays : StaysBoth g.R.Records g.M.Multi (l.fn.rows, l.fn.tree) (l.rows, l.tree);
  few : l.found ≤ l.i * (2 ^ 64 - 1);
  so_far : (b : Both) → AreBoth g.R.S.Space g.R.Records g.M.Multi (l.fn.rows, l.fn.tree) l.fn.space b → SoFar (firsts_by (g.P.Picks.parts_of l.picks) b.0) (take l.i l.row_keys) b.1 l.found;
  rows_ready : IsReady g.R.S.Space (In g.R.S.Space g.R.Records.file_of g.R.Records.holds) l.rows l.space;
  tree_ready : IsReady g.R.S.Space (In g.R.S.Space g.M.Multi.file_of g.M.Multi.holds) l.tree l.space;
}
