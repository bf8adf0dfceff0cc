use Rattle.std.proofs.Common.{◌≡◌, ◌≤◌, true, ◌∷◌, [], length}
use Rattle.ty_rounds.specs.Sending.{AnyBook}
use Rattle.ty_rounds.specs.Ready.{FewWaiting, StayFew}
use Rattle.ty_rounds.proofs.SendLaws.{DeliversSo}
use Rattle.ty_rounds.proofs.sends.offer.Given as goal

abbrev pub invariant-loop-wire : goal.invariant-loop-wire
invariant-loop-wire g l = let wire = g.W.Wire in record {
  opened : wire.opened l.wire ≡ true;
  conns : wire.conns l.wire ≡ wire.conns l.fn.wire;
  given : wire.given l.wire ≡ wire.given l.fn.wire;
  conn : l.p.conn ≡ l.fn.p.conn;
  role : l.p.role ≡ l.fn.p.role;
  told : DeliversSo AnyBook g.W.Wire l.fn.wire l.wire l.fn.p l.p;
  shorter : length l.p.session.waiting ≤ length l.fn.p.session.waiting;
  few : FewWaiting l.p;
  stay : StayFew (l.fn.p ∷ []) (l.p ∷ []);
  faults : wire.faults l.fn.wire ≤ wire.faults l.wire;
}

abbrev pub decreases-loop-wire : goal.decreases-loop-wire
decreases-loop-wire g l = length l.p.session.waiting
