-- What a dial to the master does.
use Rattle.std.specs.Prelude.{◌≡◌, ◌≤◌, ℕ, Bool, true, false, List, [], ◌∷◌, ◌++◌, Option}
use Rattle.tc_base.specs.declared.request.Request.TheVariants.{Repl}
use Rattle.tc_io.specs.Told.{Adds}
use Rattle.tc_io.specs.declared.wire.Entry.{Entry}
use Rattle.tc_io.specs.declared.wire.Wire as wire
use Rattle.ty_wire.specs.Spelling.{spelling}
use Rattle.ty_world.specs.World.{World, AllAsked, AllCame, IsRested, world_after}
use Rattle.ty_core.specs.Queues.{Queue, queue}
use Rattle.ty_rounds.specs.Books.{IsBook, settings_of}
use Rattle.ty_rounds.specs.Holding.{AllHold, book_of, IsFine}
use Rattle.ty_rounds.specs.Peers.{has_link}
use Rattle.ty_rounds.specs.Turns.{AreFew, Call, Called, ToMaster, entries_of}
use Rattle.ty_rounds.specs.declared.logging.Logged.{Logged}
use Rattle.ty_rounds.specs.declared.outcome.TurnErr.{TurnErr}
use Rattle.ty_rounds.specs.declared.outcome.TurnErr.TheVariants.{Volume, Full, Wire, Memory}
use Rattle.ty_rounds.specs.declared.peer.Peer.{Peer}
use Rattle.ty_rounds.specs.declared.peer.Role.TheVariants as role

-- no link is open
abbrev pub MayDialWith : Logged → List Peer → Type 0
MayDialWith l ps = has_link ps ≡ false

-- the request for all records above a timestamp came behind what waits
abbrev pub AsksRecords : ℕ → ℕ → Queue → Queue → Type 0
AsksRecords above own old new = new ≡ queue old.unread (old.waiting ++ spelling (Repl above own))

-- the link under a number, with the last timestamp held: nothing came of it yet, and that request waits
pub record IsLinked (conn : ℕ) (l : Logged) (p : Peer) : Type 0 where
  pub conn_is : p.conn ≡ conn
  pub role_is : p.role ≡ role.Called (record { link = record { own = l.own; held = l.ulog.last; named = false; unread = [] }; broken = false })
  pub session_is : p.session ≡ queue [] (spelling (Repl l.ulog.last l.own))
  pub here : p.gone ≡ false
  pub goes_on : p.ended ≡ false
  pub is_link : p.extra ≡ false
  pub stirs_is : p.stirs ≡ true

-- it came behind the others
pub record AddsLink (conn : ℕ) (l : Logged) (ps ps' : List Peer) : Type 0 where
  pub link : Peer
  pub linked : IsLinked conn l link
  pub more : ps' ≡ ps ++ link ∷ []

-- a world behind a dial whose answer wasn't taken in
pub record DialledTo (w v : World) (es : List Entry) : Type 0 where
  pub same : Called w v
  pub asked : AllAsked w es
  pub came : AllCame w es
  pub fine : IsFine w → IsFine v

-- the dial wasn't made, or it was, rightly, and failed, or there was no memory to take its answer in
pub record DialFailed {W : Type 0} (g : wire.Ghosts W) (l : Option Logged) (due : Bool) (x y : W) (ps : List Peer) : Type 0 where
  pub calls : List Call
  pub few : AreFew calls
  pub to_master : ToMaster (settings_of l).master calls
  pub told : Adds (g.transcript x) (g.transcript y) (entries_of calls)
  pub ends : (w : World) → IsBook l (book_of w) w.log → w.due ≡ due → AllHold (book_of w) ps w.there → IsRested w → w.given ≤ g.given x → DialledTo w (world_after (entries_of calls) w) (entries_of calls)

abbrev pub DialErr : {W : Type 0} → wire.Ghosts W → Option Logged → Bool → W → W → List Peer → TurnErr → Type 0
DialErr g l due x y ps Volume = ⊥
DialErr g l due x y ps Full = ⊥
DialErr g l due x y ps Wire = DialFailed g l due x y ps
DialErr g l due x y ps Memory = DialFailed g l due x y ps
