use Rattle.std.proofs.Common.{◌≡◌, ◌≤◌, true, ◌∷◌, []}
use Rattle.tc_space.specs.Frames.{OnlyReads}
use Rattle.ty_rounds.specs.Peers.{is_fed}
use Rattle.ty_rounds.specs.Ready.{FewWaiting, StayFew}
use Rattle.ty_rounds.specs.Sending.{room_of}
use Rattle.ty_rounds.proofs.SendLaws.{FeedsSo}
use Rattle.ty_rounds.proofs.sends.offer_all.Given as goal

abbrev pub invariant-loop-log : goal.invariant-loop-log
invariant-loop-log g l = let wire = g.W.Wire in record {
  opened : wire.opened l.wire ≡ true;
  conns : wire.conns l.wire ≡ wire.conns l.fn.wire;
  given : wire.given l.wire ≡ wire.given l.fn.wire;
  conn : l.p.conn ≡ l.fn.p.conn;
  fed : is_fed l.p.role ≡ true;
  few : FewWaiting l.p;
  stay : StayFew (l.fn.p ∷ []) (l.p ∷ []);
  told : FeedsSo g.S.Space wire l.fn.logged l.fn.space l.fn.wire l.wire l.fn.p l.p;
  reads : OnlyReads g.S.Space l.fn.space l.space;
  faults : wire.faults l.fn.wire ≤ wire.faults l.wire;
}

abbrev pub decreases-loop-log : goal.decreases-loop-log
decreases-loop-log g l = room_of l.p.role
