-- The world as it is, of one as it was: each request placed is a piece, and each connection a client's.
use Rattle.std.specs.Prelude.{◌≡◌, ℕ, Bool, false, List, [], ◌∷◌, map}
use Rattle.tc_io.specs.declared.wire.Entry.{Entry}
use Rattle.tc_io.specs.declared.wire.Entry.TheVariants.{Open, Dial, Event, Send, Close}
use Rattle.ty_memc.specs.declared.text.Piece.TheVariants as piece
use Rattle.ty_memc.specs.Grammar.{begins_text}
use Rattle.ty_ulog.specs.declared.record.Record.{Record}
use Rattle.ty_world.specs.Clients.{Client, of_client}
use Rattle.ty_world.specs.Logs.{plain}
use Rattle.ty_world.specs.World.{World, Mark, Copied, AllAsked, happens, heard_by}
use Rattle.ty_world.specs.Before as before

abbrev pub client_of : before.Client → Client
client_of k = record {
  conn = k.conn;
  input = k.input;
  unread = k.unread;
  placed = map piece.Request k.placed;
  owed = k.owed;
  out = k.out;
  gone = k.gone;
  ended = k.ended;
  extra = k.extra;
  stopped = k.stopped;
  role = of_client;
}

abbrev pub clients_of : List before.Client → List Client
clients_of ks = map client_of ks

abbrev pub mark_as : before.Mark → Mark
mark_as m = record { contents = m.contents; log = m.log }

-- what the world had no word for: where no update log is kept its records and what the clock answers mean nothing
pub record Besides : Type 0 where
  pub records : List Record
  pub ticks : List ℕ
  pub copies : List Copied
  pub due : Bool

abbrev pub world_of : Besides → before.World → World
world_of x w = record {
  is = plain;
  contents = w.contents;
  walk = w.walk;
  log = w.log;
  records = x.records;
  ticks = x.ticks;
  marks = map mark_as w.marks;
  copies = x.copies;
  there = clients_of w.there;
  past = clients_of w.past;
  due = x.due;
  gaps = [];
  looked = 0;
  shut = w.shut;
  events = w.events;
  opens = w.opens;
  given = w.given;
}

abbrev pub SameWorld : World → before.World → Type 0
SameWorld w v = (x : Besides) × (w ≡ world_of x v)

-- ---- no client sent a text

abbrev pub NoTexts : List Client → Type 0
NoTexts [] = Unit {0}
NoTexts (k ∷ ks) = (begins_text k.unread ≡ false) × NoTexts ks

abbrev pub HearsNoTexts : World → Entry → Type 0
HearsNoTexts w (Open at) = Unit {0}
HearsNoTexts w (Dial host port answer) = Unit {0}
HearsNoTexts w (Event paused busy ev bytes) = NoTexts (heard_by w ev bytes)
HearsNoTexts w (Send c bytes answer) = Unit {0}
HearsNoTexts w (Close c) = Unit {0}

abbrev pub NeverTexts : World → List Entry → Type 0
NeverTexts w [] = Unit {0}
NeverTexts w (e ∷ es) = HearsNoTexts w e × NeverTexts (happens w e) es

-- it was asked rightly, and no client sent a text
pub record RunsPlainly (w : World) (es : List Entry) : Type 0 where
  pub asked : AllAsked w es
  pub plain : NeverTexts w es

-- nor is a text left where a call is made
abbrev pub LeavesNoTexts : World → List Entry → Type 0
LeavesNoTexts w [] = Unit {0}
LeavesNoTexts w (e ∷ es) = NoTexts w.there × LeavesNoTexts (happens w e) es
