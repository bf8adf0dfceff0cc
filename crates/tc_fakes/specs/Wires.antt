-- What a wire in memory tells.
use Rattle.std.specs.Prelude.{◌≡◌, ◌⊎◌, ℕ, List, [], ◌∷◌, ◌++◌, length, drop, nat_eq, if◌then◌else◌, Option, Some, None}
use Rattle.tc_io.specs.declared.wire.Entry.{Entry}
use Rattle.tc_fakes.specs.declared.mem_wire.MemWire.{MemWire}
use Rattle.tc_fakes.specs.Counted.{one_more}
use Rattle.tc_io.specs.Lines as lines
use Rattle.tc_io.specs.Lines.{CanTake}
use Rattle.tc_io.specs.declared.wire.Sent.{Sent}
use Rattle.tc_fakes.specs.Answers.{answer_to}
use Rattle.tc_io.specs.Script as script
use Rattle.tc_io.specs.Script.{Script}
use Rattle.tc_io.specs.declared.wire.Ev.{Ev}
use Rattle.tc_io.specs.declared.wire.Dialled.{Dialled}

-- all that happened
abbrev pub told : MemWire → List Entry
told w = w.book.entries.items

abbrev pub conns_of : MemWire → List ℕ
conns_of w = w.conns.items

abbrev pub ended_of : MemWire → List ℕ
ended_of w = w.ended.items

abbrev pub given_of : MemWire → ℕ
given_of w = w.given

-- what it will still play, told while it takes all that it is offered
abbrev pub script_of : MemWire → Option Script
script_of w =
    if nat_eq (length w.answers.items) 0
    then Some (record { acts = drop w.act_at w.acts.items; dials = drop w.dial_at w.dials.items; lines = record { conns = w.conns.items; ended = w.ended.items; given = w.given } })
    else None

-- ---- a wire before a call and after it

-- the connections stay
abbrev pub Stay : MemWire → MemWire → Type 0
Stay old new = lines.Stay conns_of ended_of given_of old new

abbrev pub Hears : MemWire → MemWire → Ev → Type 0
Hears old new ev = lines.Hears conns_of ended_of given_of old new ev

abbrev pub Dials : MemWire → MemWire → Dialled → Type 0
Dials old new answer = lines.Dials conns_of ended_of given_of old new answer

abbrev pub Closes : MemWire → MemWire → ℕ → Type 0
Closes old new c = lines.Closes conns_of ended_of given_of old new c

-- this happened
abbrev pub Tells : MemWire → MemWire → Entry → Type 0
Tells old new entry = told new ≡ told old ++ entry ∷ []

-- a failed call added its entry exactly where it wasn't starved
abbrev pub TellsUnstarved : MemWire → MemWire → Entry → Type 0
TellsUnstarved old new entry =
    ((new.counts.starved ≡ one_more old.counts.starved) × (told new ≡ told old)) ⊎ ((new.counts.starved ≡ old.counts.starved) × Tells old new entry)

abbrev pub PlaysOne : MemWire → MemWire → Entry → Type 0
PlaysOne old new entry = script.PlaysOne script_of old new entry

-- what the next send takes of these bytes
abbrev pub Answers : MemWire → List ℕ → Sent → Type 0
Answers old offered sent = CanTake offered sent × (sent ≡ answer_to old.answers.items (one_more old.sends) (length offered))
