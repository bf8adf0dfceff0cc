-- What stands at the front of what came of a connection.
use Rattle.std.specs.Prelude.{◌≡◌, ◌<◌, true, List, ℕ, length, Ok, Err, if◌then◌else◌}
use Rattle.tc_base.specs.Reading.{Front}
use Rattle.tc_base.specs.declared.fields.NotWhole.TheVariants as not_whole
use Rattle.ty_memc.specs.Grammar.{piece_at}
use Rattle.ty_ulog.specs.Records.{record_at}
use Rattle.ty_rounds.specs.declared.peer.Caller.{Caller}
use Rattle.ty_rounds.specs.declared.peer.Peer.{Peer}
use Rattle.ty_rounds.specs.declared.peer.Role.{Role}
use Rattle.ty_rounds.specs.declared.peer.Role.TheVariants.{Client, Fed, Called}
use Rattle.ty_rounds.specs.declared.peer.Sight.{Sight}
use Rattle.ty_rounds.specs.declared.peer.Sight.TheVariants.{Whole, Part, Bad}

abbrev pub seen : {A : Type 0} → Front A → Sight
seen (Ok x) = Whole
seen (Err not_whole.Part) = Part
seen (Err not_whole.Bad) = Bad

-- of the link: nothing before its id was read
abbrev pub sight_called : Caller → Sight
sight_called c = if c.link.named then seen (record_at c.link.unread) else Part

abbrev pub sight_of : Role → List ℕ → Sight
sight_of Client unread = seen (piece_at unread)
sight_of (Fed f) unread = Part
sight_of (Called c) unread = sight_called c

abbrev pub sight : Peer → Sight
sight p = sight_of p.role p.session.unread

-- a part of a record is short
abbrev pub ShortCalled : Sight → Caller → Type 0
ShortCalled Whole c = Unit {0}
ShortCalled Part c = c.link.named ≡ true → length c.link.unread < 33554457
ShortCalled Bad c = Unit {0}

-- so is one of a piece
abbrev pub ShortPart : Role → List ℕ → Type 0
ShortPart Client unread = length unread < 33554432
ShortPart (Fed f) unread = Unit {0}
ShortPart (Called c) unread = ShortCalled Part c

abbrev pub IsShort : Sight → Peer → Type 0
IsShort Whole p = Unit {0}
IsShort Part p = ShortPart p.role p.session.unread
IsShort Bad p = Unit {0}
