use Rattle.std.proofs.Common.{◌≡◌, false, List, []}
use Rattle.tc_space.specs.Frames.{Keeps}
use Rattle.tc_model.specs.Contents.{Contents}
use Rattle.ty_base.specs.Holding.{Held, IsReady, Leaves}
use Rattle.ty_world.specs.World.{Client}
use Rattle.ty_rounds.specs.Books.{Book, settings_of}
use Rattle.ty_rounds.specs.Holding.{AllHold}
use Rattle.ty_rounds.specs.Peers.{numbers}
use Rattle.ty_rounds.specs.Ready.{Each, FewUnread, FewWaiting, KeepsLinks}
use Rattle.ty_rounds.specs.Serving.{Halfway}
use Rattle.ty_rounds.specs.Spans.{IsSpan}
use Rattle.ty_rounds.specs.Works.{IsFit, work}
use Rattle.ty_rounds.proofs.rounds.serve_all.Given as goal

abbrev pub invariant-loop-i : goal.invariant-loop-i
invariant-loop-i g l = let s = g.B.S.Space in let holds = g.B.Storage.holds in record {
  numbers : numbers l.peers.items ≡ numbers l.fn.peers.items;
  unread : Each FewUnread l.fn.peers.items → Each FewUnread l.peers.items;
  waiting : Each FewWaiting l.fn.peers.items → Each FewWaiting l.peers.items;
  calm : IsSpan l.fn.span l.peers.items;
  links : KeepsLinks l.fn.peers.items l.peers.items;
  fit : IsFit l.fn.logged (work l.batch);
  taken : (work l.batch).taken ≡ [];
  gap : (work l.batch).gap ≡ [];
  round : (c : Contents) → Held s holds l.fn.base l.fn.space c → (b : Book) (ks : List Client) → b.is ≡ settings_of l.fn.logged → AllHold b l.fn.peers.items ks → Halfway b (work l.batch) c (Held s holds l.base l.space) l.fn.walk l.walk l.peers.items l.i ks;
  ready : IsReady s holds l.base l.space;
  leaves : Leaves s g.B.Storage.own g.B.Storage.layout ((work l.batch).commits ≡ false) l.fn.space l.space;
  keeps : Keeps s l.fn.space l.space;
}
