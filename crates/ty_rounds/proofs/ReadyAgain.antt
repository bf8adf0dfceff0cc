-- A turn that came to its end leaves a server that may make another.
use Rattle.std.proofs.Common.{◌≡◌, ℕ, Bool, true, false, List, sym, subst, ◌∙◌}
use Rattle.std.specs.Prelude.{Option, Ok}
use Rattle.tc_base.specs.Files.{Files}
use Rattle.tc_io.specs.declared.wire.Ev.{Ev}
use Rattle.tc_io.specs.declared.wire.Wire as wire
use Rattle.tc_space.specs.declared.space.Space as space
use Rattle.tc_model.specs.Contents.{Contents, Walk}
use Rattle.ty_base.specs.Holding as holding
use Rattle.ty_base.specs.Holding.{Layout}
use Rattle.ty_rounds.specs.Copying.{OnlyCopies}
use Rattle.ty_rounds.specs.Holding.{Wired}
use Rattle.ty_rounds.specs.Joining.{Joins}
use Rattle.ty_rounds.specs.Ready.{IsReady}
use Rattle.ty_rounds.specs.Serving.{Rounds}
use Rattle.ty_rounds.specs.Turns.{Dials, Finishes, Hears}
use Rattle.ty_rounds.specs.Works.{Work}
use Rattle.ty_rounds.specs.declared.logging.Logged.{Logged}
use Rattle.ty_rounds.specs.declared.peer.Peer.{Peer}

module _ {S B W : Type 0} (s : space.Ghosts S) (g : wire.Ghosts W) (own : ℕ → Type 0) (layout : Files → Layout) (holds : B → Files → Contents → Type 0) where
  -- its steps
  pub record Stepped (l l1 : Option Logged) (due : Bool) (o : Work) (b b1 b2 : B) (a a1 a2 ac a3 : S) (v x y z : W) (k k1 : Walk) (ps0 ps ps1 ps2 ps3 ps4 : List Peer) (ev : Ev) : Type 0 where
    pub was : IsReady s g holds b a v l ps0
    pub dials : Dials g l due v x ps0 ps
    pub hears : Hears g x y ps ps1 ev
    pub rounds : Rounds s own layout holds l o b b1 a a1 k k1 ps1 ps2
    pub kept : holding.IsReady s holds b2 a2
    pub untouched : s.touched a2 ≡ false
    pub copies : OnlyCopies s a2 ac
    pub joins : Joins o l l1 ps2 ps3
    pub finishes : Finishes s g l1 ac a3 y z (Ok tt) ps3 ps4
    pub opened : g.opened z ≡ true
    pub wired : Wired (g.conns z) ps4

  pub ready_again : (l l1 : Option Logged) (due : Bool) (o : Work) (b b1 b2 : B) (a a1 a2 ac a3 : S) (v x y z : W) (k k1 : Walk) (ps0 ps ps1 ps2 ps3 ps4 : List Peer) (ev : Ev) → Stepped l l1 due o b b1 b2 a a1 a2 ac a3 v x y z k k1 ps0 ps ps1 ps2 ps3 ps4 ev → IsReady s g holds b2 a3 z l1 ps4
  ready_again l l1 due o b b1 b2 a a1 a2 ac a3 v x y z k k1 ps0 ps ps1 ps2 ps3 ps4 ev f =
      let stay = f.dials.stay f.was.none_over in
      let heard = f.hears.few stay.0 (f.dials.introduced f.was.introduced) in
      let known = f.hears.links l (f.dials.links f.was.links) in
      let done = f.finishes.few in
      record {
        opened = f.opened;
        wired = f.wired;
        base_is = record { sound = f.finishes.reads.is_sound; held = λ t. let h = f.kept.held t in (h.0, subst (λ (files : Files). holds b2 files h.0) (λ i n. sym (f.finishes.reads.files t n ∙ f.copies.files t n) i) h.1) };
        untouched = f.finishes.reads.untouched ∙ f.copies.touched ∙ f.untouched;
        none_over = done.0;
        unread = done.1.unread (f.joins.few.unread (f.rounds.served.unread (heard.unread (stay.1.unread f.was.unread))));
        waiting = done.1.waiting (f.joins.few.waiting (f.rounds.served.waiting (heard.waiting (stay.1.waiting f.was.waiting))));
        calm = done.2;
        links = f.finishes.links.know l1 (f.joins.links (f.rounds.served.links known));
        introduced = f.finishes.links.introduced (f.joins.introduced (f.rounds.introduced known));
      }
