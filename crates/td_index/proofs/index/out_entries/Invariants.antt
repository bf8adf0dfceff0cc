use Rattle.std.proofs.Common.{take}
use Rattle.tc_space.specs.Frames.{In, Keeps}
use Rattle.tc_space.specs.Lists.{StaysList}
use Rattle.tc_space.specs.Stores.{IsReady}
use Rattle.td_index.specs.Entries.{LosesAll}
use Rattle.td_index.proofs.index.out_entries.Given as goal

abbrev pub invariant-loop-i : goal.invariant-loop-i
invariant-loop-i g l = record {
  so_far : LosesAll g.M.S.Space g.M.Multi (take l.i l.parts) l.key l.fn.tree l.tree l.fn.space l.space;
  ready : IsReady g.M.S.Space (In g.M.S.Space g.M.Multi.file_of g.M.Multi.holds) l.tree l.space;
  keeps : Keeps g.M.S.Space l.fn.space l.space;
  stays : StaysList g.M.Multi.file_of g.M.Multi.made g.M.Multi.lead l.fn.tree l.tree;
}
