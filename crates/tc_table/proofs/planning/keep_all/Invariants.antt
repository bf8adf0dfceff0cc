use Rattle.std.proofs.Common.{take}
use Rattle.tc_space.specs.Frames.{In, Keeps, Reads}
use Rattle.tc_space.specs.Lists.{StaysList}
use Rattle.tc_space.specs.Stores.{IsReady}
use Rattle.tc_table.specs.Searching.{AreLeft, OfRows}
use Rattle.tc_table.proofs.planning.keep_all.Given as goal

abbrev pub invariant-loop-i : goal.invariant-loop-i
invariant-loop-i g l = record {
  reads : Reads g.M.S.Space (In g.M.S.Space g.M.Multi.file_of g.M.Multi.holds) l.fn.tree l.tree l.fn.space l.space;
  keeps : Keeps g.M.S.Space l.fn.space l.space;
  ready : IsReady g.M.S.Space (In g.M.S.Space g.M.Multi.file_of g.M.Multi.holds) l.tree l.space;
  stays : StaysList g.M.Multi.file_of g.M.Multi.made g.M.Multi.lead l.fn.tree l.tree;
  so_far : OfRows g.M.S.Space g.M.Multi l.fn.tree l.fn.space (λ h. AreLeft (take l.i l.wanted) l.fn.first h l.found);
}
