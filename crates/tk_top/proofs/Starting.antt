-- A server with no connection.
use Rattle.std.proofs.Common.{◌≡◌, true, false, List, [], refl, sym, subst}
use Rattle.std.specs.Prelude.{Option, Some, None}
use Rattle.tc_base.specs.Files.{Files}
use Rattle.tc_io.specs.declared.wire.Wire as wire
use Rattle.tc_space.specs.declared.space.Space as space
use Rattle.tc_model.specs.Contents.{Contents}
use Rattle.ty_base.specs.Holding as holding
use Rattle.ty_rounds.specs.Holding.{AreApart}
use Rattle.ty_rounds.specs.Ready.{IsReady, LinksKnow}
use Rattle.ty_rounds.specs.declared.logging.Logged.{Logged}
use Rattle.ty_rounds.specs.declared.peer.Peer.{Peer}

none_know : (l : Option Logged) → LinksKnow l []
none_know None = refl
none_know (Some l) = (tt, ((λ e. refl), tt))

pub ready_at : {S B W : Type 0} (s : space.Ghosts S) (g : wire.Ghosts W) (holds : B → Files → Contents → Type 0) (b base : B) (a : S) (x : W) (l : Option Logged) (ps : List Peer) → base ≡ b → ps ≡ [] → g.opened x ≡ true → g.conns x ≡ [] → holding.IsReady s holds b a → s.touched a ≡ false → IsReady s g holds base a x l ps
ready_at {S} {B} {W} s g holds b base a x l ps same none opened conns ready untouched = subst (λ (qs : List Peer). IsReady s g holds base a x l qs) (sym none) (subst (λ (c : B). IsReady s g holds c a x l []) (sym same) (record {
  opened = opened;
  wired = record { same = conns; apart = subst AreApart (sym conns) tt };
  base_is = ready;
  untouched = untouched;
  none_over = refl;
  unread = tt;
  waiting = tt;
  calm = tt;
  links = none_know l;
  introduced = tt;
}))
