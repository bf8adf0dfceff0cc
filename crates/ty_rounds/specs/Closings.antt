-- What closings do.
use Rattle.std.specs.Prelude.{◌≡◌, ℕ, false, List, ◌++◌, length, OnOk, Result}
use Rattle.std.specs.List.{list_any}
use Rattle.tc_base.specs.declared.fault.Fault.{Fault}
use Rattle.tc_io.specs.Told.{Adds}
use Rattle.tc_io.specs.Script.{Plays}
use Rattle.tc_io.specs.declared.wire.Wire as wire
use Rattle.tc_io.specs.declared.wire.Entry.{Entry}
use Rattle.ty_world.specs.World.{Client, World, is_over, world_after, ClosesOne, AllOf, AllAsked, AllCame}
use Rattle.ty_rounds.specs.Holding.{AllHold, AllFine, AllSettled, Same, book_of}
use Rattle.ty_rounds.specs.Sending.{NoneRestless}
use Rattle.ty_rounds.specs.declared.peer.Peer.{Peer}

abbrev pub NoneOver : List Client → Type 0
NoneOver ks = list_any is_over ks ≡ false

-- a world in which the first connections were looked at, and those that are over were closed
pub record ClosedFront (ps' : List Peer) (count : ℕ) (w v : World) (es : List Entry) : Type 0 where
  pub front : List Peer
  pub back : List Peer
  pub stay : List Client
  pub rest : List Client
  pub peers_are : ps' ≡ front ++ back
  pub clients_are : v.there ≡ stay ++ rest
  pub at : length front ≡ count
  pub held : AllHold (book_of w) front stay
  pub left : AllHold (book_of w) back rest
  pub settled : AllSettled (book_of w) back
  pub none_over : NoneOver stay
  pub past : AllFine v.past
  pub same : Same w v
  pub asked : AllAsked w es
  pub came : AllCame w es
  pub rested : NoneRestless v.there

-- a world in which all that were over were closed
pub record ClosedAll (ok : Result (Unit {0}) Fault) (ps' : List Peer) (w v : World) (es : List Entry) : Type 0 where
  pub there : AllFine v.there
  pub past : AllFine v.past
  pub same : Same w v
  pub asked : AllAsked w es
  pub came : AllCame w es
  pub done : OnOk ok (AllHold (book_of w) ps' v.there × NoneRestless v.there × NoneOver v.there)

module _ {W : Type 0} (g : wire.Ghosts W) where
  pub record ClosesFront (x y : W) (ps ps' : List Peer) (count : ℕ) : Type 0 where
    pub entries : List Entry
    pub told : Adds (g.transcript x) (g.transcript y) entries
    pub plays : Plays (g.plays x) (g.plays y) entries
    pub calls : AllOf (ClosesOne (g.conns x)) entries
    pub ends : (w : World) → AllHold (book_of w) ps w.there → AllSettled (book_of w) ps → AllFine w.past → NoneRestless w.there → ClosedFront ps' count w (world_after entries w) entries

  pub record ClosesAll (x y : W) (ps ps' : List Peer) (ok : Result (Unit {0}) Fault) : Type 0 where
    pub entries : List Entry
    pub told : Adds (g.transcript x) (g.transcript y) entries
    pub plays : OnOk ok (Plays (g.plays x) (g.plays y) entries)
    pub calls : AllOf (ClosesOne (g.conns x)) entries
    pub ends : (w : World) → AllHold (book_of w) ps w.there → AllSettled (book_of w) ps → AllFine w.past → NoneRestless w.there → ClosedAll ok ps' w (world_after entries w) entries
