use Rattle.std.proofs.Common.{◌≤◌}
use Rattle.ty_base.specs.Holding.{Frame, Laid}
use Rattle.ty_rounds.specs.Books.{SameTerms}
use Rattle.ty_rounds.specs.Following.{FollowsTold}
use Rattle.ty_rounds.specs.Servers.{IsReadyAs, state}
use Rattle.tk_top.proofs.Running.{RunsLined}
use Rattle.tk_top.proofs.serving.serve.Given as goal

abbrev pub invariant-loop-done : goal.invariant-loop-done
invariant-loop-done g l = let w = g.W.Wire in let s = g.B.S.Space in let b = g.B.Storage in let k = g.E.Sink in let t = g.K.Clock in record {
  ready : IsReadyAs s w b.holds l.server l.space l.wire;
  same : SameTerms l.fn.server.logged l.server.logged;
  told : RunsLined s w k b.holds b.reopens l.fn.server.logged l.fn.server.base l.server.base l.fn.space l.space l.fn.wire l.wire (t.answers l.fn.clock) (t.answers l.clock) l.fn.err l.err (state l.server) l._done;
  laid : (y : Frame) → RunsLined s w k b.holds (Laid b.own b.layout y b.reopens) l.fn.server.logged l.fn.server.base l.server.base l.fn.space l.space l.fn.wire l.wire (t.answers l.fn.clock) (t.answers l.clock) l.fn.err l.err (state l.server) l._done;
  later_wire : w.faults l.fn.wire ≤ w.faults l.wire;
  follows : FollowsTold s l.fn.space l.space;
}
