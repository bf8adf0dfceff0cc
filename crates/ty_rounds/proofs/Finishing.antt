-- Sends and closings, one behind the other.
use Rattle.std.proofs.Common.{◌≡◌, ℕ, true, false, List, [], ◌++◌, subst, sym, refl, ◌∙◌, Ok, Err}
use Rattle.std.specs.Prelude.{IsErr, OnOk, Option, Result}
use Rattle.std.proofs.lemmas.List.{append-nil}
use Rattle.tc_base.specs.declared.fault.Fault.{Fault}
use Rattle.tc_io.specs.Script.{Plays}
use Rattle.tc_io.specs.declared.wire.Wire.{Ghosts}
use Rattle.tc_space.specs.Frames.{OnlyReads}
use Rattle.tc_space.specs.declared.space.Space as space
use Rattle.ty_world.specs.World.{World, world_after, AllOf, ClosesOne, IsRested}
use Rattle.ty_rounds.specs.Books.{Book}
use Rattle.ty_rounds.specs.Holding.{AllHold, AllSettled, Same, book_of}
use Rattle.ty_rounds.specs.Ready as ready
use Rattle.ty_rounds.specs.Ready.{Each, IsCalm, KeepsLinks, StayFew}
use Rattle.ty_rounds.specs.Sending.{DeliversAll, NoneRestless}
use Rattle.ty_rounds.specs.Closings.{ClosesAll, NoneOver}
use Rattle.ty_rounds.specs.Turns.{Finished, Finishes}
use Rattle.ty_rounds.specs.declared.logging.Logged.{Logged}
use Rattle.ty_rounds.specs.declared.peer.Peer.{Peer}
use Rattle.ty_rounds.specs.declared.outcome.TurnErr.{TurnErr}
use Rattle.ty_rounds.proofs.Entries.{after_more, asked_more, came_more, same_then}
use Rattle.ty_rounds.proofs.Telling.{Adds-then, Plays-then}

pub same_book : (w v : World) → Same w v → book_of v ≡ book_of w
same_book w v s = λ i. record { is = s.is_same i; records = s.records i }

module _ {S W : Type 0} (s : space.Ghosts S) (g : Ghosts W) (l : Option Logged) (a a' : S) where
  -- the sends failed
  pub sends_only : (x y : W) (ps ps' : List Peer) (r ok : Result (Unit {0}) TurnErr) → IsErr ok → g.given y ≡ g.given x → OnlyReads s a a' → DeliversAll s g l a x y ps ps' r → Finishes s g l a a' x y ok ps ps'
  sends_only x y ps ps' r (Ok u) failed given reads d = absurd (let e : false ≡ true = failed in cc)
  sends_only x y ps ps' r (Err e) failed given reads d = record {
    entries = d.entries;
    told = d.told;
    plays = tt;
    calls = record { sends = d.entries; closings = []; parts = sym (append-nil d.entries); are_sends = d.calls; are_closings = tt };
    given = given;
    ends = λ w known held going fine. let n = d.ends w known held going fine in record { same = n.same; fine = n.fine; asked = n.asked; came = n.came; done = tt };
    reads = reads;
    few = tt;
    links = tt;
  }

  -- the closings behind the sends; how they ended is told apart
  abbrev Tail : Result (Unit {0}) Fault → Result (Unit {0}) TurnErr → List Peer → Type 0
  Tail r ok ps' = (b : Book) (v : World) → OnOk r (AllHold b ps' v.there × NoneRestless v.there × NoneOver v.there) → OnOk ok (AllHold b ps' v.there × IsRested v)

  -- what they leave
  record Left (x z : W) (ok : Result (Unit {0}) TurnErr) (ps ps' : List Peer) : Type 0 where
    reads : OnlyReads s a a'
    few : OnOk ok (ready.NoneOver ps' × StayFew ps ps' × Each IsCalm ps')
    links : OnOk ok (KeepsLinks ps ps')

  joined : (x y z : W) (ps mid ps' : List Peer) (r : Result (Unit {0}) Fault) (ok : Result (Unit {0}) TurnErr) (f : DeliversAll s g l a x y ps mid (Ok tt)) (c : ClosesAll g y z mid ps' r) → g.conns y ≡ g.conns x → g.given z ≡ g.given x → OnOk ok (Plays (g.plays x) (g.plays z) (f.entries ++ c.entries))
      → Tail r ok ps' → Left x z ok ps ps' → Finishes s g l a a' x z ok ps ps'
  joined x y z ps mid ps' r ok f c conns given plays tail left = record {
    entries = f.entries ++ c.entries;
    told = Adds-then (g.transcript x) (g.transcript y) (g.transcript z) f.entries c.entries f.told c.told;
    plays = plays;
    calls = record { sends = f.entries; closings = c.entries; parts = refl; are_sends = f.calls; are_closings = subst (λ (n : List ℕ). AllOf (ClosesOne n) c.entries) conns c.calls };
    given = given;
    ends = λ w known held going fine.
        let n = f.ends w known held going fine in
        let v = world_after f.entries w in
        let b = same_book w v n.same in
        let d = n.done in
        let m = c.ends v (subst (λ (z : Book). AllHold z mid v.there) (sym b) d.0) (subst (λ (z : Book). AllSettled z mid) (sym b) d.2) n.fine.1 d.1 in
        subst (λ (u : World). Finished ok ps' w u (f.entries ++ c.entries)) (sym (after_more f.entries c.entries w)) (record {
          same = same_then w v (world_after c.entries v) n.same m.same;
          fine = (m.there, m.past);
          asked = asked_more f.entries c.entries w n.asked m.asked;
          came = came_more f.entries c.entries w n.came m.came;
          done = subst (λ (z : Book). OnOk ok (AllHold z ps' (world_after c.entries v).there × IsRested (world_after c.entries v))) b (tail (book_of v) (world_after c.entries v) m.done);
        });
    reads = left.reads;
    few = left.few;
    links = left.links;
  }

  pub finished : (x y z : W) (ps mid ps' : List Peer) → DeliversAll s g l a x y ps mid (Ok tt) → ClosesAll g y z mid ps' (Ok tt) → g.conns y ≡ g.conns x → g.given y ≡ g.given x → g.given z ≡ g.given y → OnlyReads s a a' → ready.NoneOver ps' → StayFew ps ps' → Each IsCalm ps' → KeepsLinks ps ps'
      → Finishes s g l a a' x z (Ok tt) ps ps'
  finished x y z ps mid ps' f c conns first second reads over few calm links =
      joined x y z ps mid ps' (Ok tt) (Ok tt) f c conns (second ∙ first) (Plays-then (g.plays x) (g.plays y) (g.plays z) f.entries c.entries f.plays c.plays) (λ b v h. (h.0, (h.1, h.2))) (record { reads = reads; few = (over, few, calm); links = links })

  -- the closings failed
  pub finish_failed : (x y z : W) (ps mid ps' : List Peer) (r : Result (Unit {0}) Fault) (ok : Result (Unit {0}) TurnErr) → IsErr ok → DeliversAll s g l a x y ps mid (Ok tt) → ClosesAll g y z mid ps' r → g.conns y ≡ g.conns x → g.given y ≡ g.given x → g.given z ≡ g.given y → OnlyReads s a a'
      → Finishes s g l a a' x z ok ps ps'
  finish_failed x y z ps mid ps' r (Ok u) failed f c conns first second reads = absurd (let e : false ≡ true = failed in cc)
  finish_failed x y z ps mid ps' r (Err e) failed f c conns first second reads = joined x y z ps mid ps' r (Err e) f c conns (second ∙ first) tt (λ b v h. tt) (record { reads = reads; few = tt; links = tt })
