use Rattle.std.proofs.Common.{◌≡◌, ◌≤◌, ◌-◌, ℕ, true}
use Rattle.tc_io.specs.Lines.{has}
use Rattle.ty_rounds.specs.Holding.{Wired}
use Rattle.ty_rounds.specs.Ready.{KeepsLinks, StayFew}
use Rattle.ty_rounds.specs.Closings.{ClosesFront}
use Rattle.ty_rounds.specs.Spans.{IsSpan}
use Rattle.ty_rounds.proofs.ClosingLaws.{FrontClear}
use Rattle.ty_rounds.proofs.closing.close_over.Given as goal

abbrev pub invariant-loop-i : goal.invariant-loop-i
invariant-loop-i g l = let wire = g.W.Wire in record {
  opened : wire.opened l.wire ≡ true;
  fewer : (c : ℕ) → has (wire.conns l.wire) c ≡ true → has (wire.conns l.fn.wire) c ≡ true;
  given : wire.given l.wire ≡ wire.given l.fn.wire;
  wired : Wired (wire.conns l.wire) l.peers.items;
  told : ClosesFront g.W.Wire l.fn.wire l.wire l.fn.peers.items l.peers.items l.i;
  clear : FrontClear l.peers.items l.i;
  calm : IsSpan l.span l.peers.items;
  few : StayFew l.fn.peers.items l.peers.items;
  links : KeepsLinks l.fn.peers.items l.peers.items;
  within : l.span.from ≤ l.i;
  faults : wire.faults l.fn.wire ≤ wire.faults l.wire;
}

abbrev pub decreases-loop-i : goal.decreases-loop-i
decreases-loop-i g l = l.span.to - l.i
