use Rattle.std.proofs.Common.{◌≡◌, ◌≤◌, true}
use Rattle.tc_space.specs.Frames.{OnlyReads}
use Rattle.ty_rounds.specs.Holding.{Wired}
use Rattle.ty_rounds.specs.Ready.{Each, FewWaiting, KeepsLinks, StayFew}
use Rattle.ty_rounds.specs.Sending.{DeliversFront}
use Rattle.ty_rounds.specs.Spans.{IsSpan}
use Rattle.ty_rounds.proofs.sends.deliver_all.Given as goal

abbrev pub invariant-loop-i : goal.invariant-loop-i
invariant-loop-i g l = let wire = g.W.Wire in record {
  opened : wire.opened l.wire ≡ true;
  conns : wire.conns l.wire ≡ wire.conns l.fn.wire;
  given : wire.given l.wire ≡ wire.given l.fn.wire;
  wired : Wired (wire.conns l.wire) l.peers.items;
  told : DeliversFront g.S.Space wire l.fn.logged l.fn.space l.fn.wire l.wire l.fn.peers.items l.peers.items l.i;
  calm : IsSpan l.fn.span l.peers.items;
  waiting : Each FewWaiting l.peers.items;
  few : StayFew l.fn.peers.items l.peers.items;
  links : KeepsLinks l.fn.peers.items l.peers.items;
  reads : OnlyReads g.S.Space l.fn.space l.space;
  faults : wire.faults l.fn.wire ≤ wire.faults l.wire;
}
