use Rattle.std.proofs.Common.{◌-◌, ◌≤◌}
use Rattle.tc_space.specs.Frames.{OnlyReads}
use Rattle.hf_survey.proofs.TwoPlaces.{Same}
use Rattle.hf_survey.proofs.judging.order_of_bytes.Given as goal

abbrev pub invariant-loop-done : goal.invariant-loop-done
invariant-loop-done g l = record {
  high : l.done ≤ l.long;
  reads : OnlyReads g.S.Space l.fn.space l.space;
  same : g.S.Space.tells → Same (g.S.Space.now l.fn.space l.file) l.a l.b l.long l.done;
}

abbrev pub decreases-loop-done : goal.decreases-loop-done
decreases-loop-done g l = l.long - l.done
