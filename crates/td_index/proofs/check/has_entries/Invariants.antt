use Rattle.std.proofs.Common.{List, take, true}
use Rattle.tc_base.specs.declared.seq.Pair.{Pair}
use Rattle.tc_space.specs.Frames.{In, Keeps, Reads}
use Rattle.tc_space.specs.Lists.{StaysList}
use Rattle.tc_space.specs.Stores.{IsReady}
use Rattle.td_index.specs.Checks.{AreHeld}
use Rattle.td_index.proofs.check.has_entries.Given as goal

abbrev pub invariant-loop-i : goal.invariant-loop-i
invariant-loop-i g l = record {
  reads : Reads g.M.S.Space (In g.M.S.Space g.M.Multi.file_of g.M.Multi.holds) l.fn.tree l.tree l.fn.space l.space;
  keeps : Keeps g.M.S.Space l.fn.space l.space;
  ready : IsReady g.M.S.Space (In g.M.S.Space g.M.Multi.file_of g.M.Multi.holds) l.tree l.space;
  stays : StaysList g.M.Multi.file_of g.M.Multi.made g.M.Multi.lead l.fn.tree l.tree;
  so_far : (ps : List Pair) → In g.M.S.Space g.M.Multi.file_of g.M.Multi.holds l.fn.tree l.fn.space ps → AreHeld (take l.i l.parts) l.key ps true;
}
