-- What a wire that plays a script will still do.
use Rattle.std.specs.Prelude.{◌≡◌, ℕ, Bool, List, [], ◌∷◌, Option, Some, None, length, not, nat_lt, ◌&&◌, if◌then◌else◌}
use Rattle.tc_io.specs.declared.wire.Ev.{Ev}
use Rattle.tc_io.specs.declared.wire.Ev.TheVariants as event
use Rattle.tc_io.specs.declared.wire.Dialled.{Dialled}
use Rattle.tc_io.specs.declared.wire.Dialled.TheVariants.{Conn, NotNow}
use Rattle.tc_io.specs.declared.wire.Sent.TheVariants.{Took}
use Rattle.tc_io.specs.declared.wire.Entry.{Entry}
use Rattle.tc_io.specs.declared.wire.Entry.TheVariants.{Open, Dial, Event, Send, Close}
use Rattle.tc_io.specs.declared.act.Act.{Act}
use Rattle.tc_io.specs.declared.act.Act.TheVariants.{Opened, Read, Ended, Quiet}
use Rattle.tc_io.specs.Lines.{has, without, open_after, ended_after, given_after, open_dialled, given_dialled}

-- the connections that are open, those of which no more input comes, and a number above all given
pub record Lines : Type 0 where
  pub conns : List ℕ
  pub ended : List ℕ
  pub given : ℕ

-- the events and the answers of dials that are left
pub record Script : Type 0 where
  pub acts : List Act
  pub dials : List Dialled
  pub lines : Lines

abbrev pub can_open : Lines → ℕ → Bool
can_open l c = not (nat_lt c l.given) && not (has l.conns c)

abbrev pub can_end : Lines → ℕ → Bool
can_end l c = has l.conns c && not (has l.ended c)

-- a read has 1 to 4096 bytes
abbrev pub is_read : List ℕ → Bool
is_read bytes = nat_lt 0 (length bytes) && not (nat_lt 4096 (length bytes))

abbrev pub can_read : Lines → ℕ → List ℕ → Bool
can_read l c bytes = can_end l c && is_read bytes

-- the next event with its bytes, and what is left; what can't come where it stands is skipped, and a read of a paused connection is kept back
abbrev pub next_act : List Act → Lines → List ℕ → Bool → Ev × List ℕ × List Act
next_act [] l paused busy = (if busy then event.Quiet else event.Shut, [], [])
next_act (Opened c ∷ acts) l paused busy = if can_open l c then (event.Opened c, [], acts) else next_act acts l paused busy
next_act (Read c bytes ∷ acts) l paused busy = if can_read l c bytes then (if has paused c then (event.Quiet, [], Read c bytes ∷ acts) else (event.Read c (length bytes), bytes, acts)) else next_act acts l paused busy
next_act (Ended c ∷ acts) l paused busy = if can_end l c then (event.Ended c, [], acts) else next_act acts l paused busy
next_act (Quiet ∷ acts) l paused busy = (event.Quiet, [], acts)

-- the next answer of a dial, and what is left; a number that was given already isn't given again
abbrev pub next_dial : List Dialled → Lines → Dialled × List Dialled
next_dial [] l = (NotNow, [])
next_dial (Conn c ∷ dials) l = if can_open l c then (Conn c, dials) else (NotNow, dials)
next_dial (NotNow ∷ dials) l = (NotNow, dials)

abbrev pub lines_after : Lines → Ev → Lines
lines_after l ev = record { conns = open_after l.conns ev; ended = ended_after l.ended ev; given = given_after l.given ev }

abbrev pub lines_dialled : Lines → Dialled → Lines
lines_dialled l answer = record { conns = open_dialled l.conns answer; ended = l.ended; given = given_dialled l.given answer }

abbrev pub lines_closed : Lines → ℕ → Lines
lines_closed l c = record { conns = without c l.conns; ended = without c l.ended; given = l.given }

-- the script behind an entry of the transcript
abbrev pub played : Script → Entry → Script
played s (Open at) = s
played s (Dial host port answer) = record { acts = s.acts; dials = (next_dial s.dials s.lines).1; lines = lines_dialled s.lines answer }
played s (Event paused busy ev bytes) = record { acts = (next_act s.acts s.lines paused busy).2; dials = s.dials; lines = lines_after s.lines ev }
played s (Send c bytes answer) = s
played s (Close c) = record { acts = s.acts; dials = s.dials; lines = lines_closed s.lines c }

-- the entry is as the script has it: this very event or answer came, and all bytes offered were taken
abbrev pub Agrees : Script → Entry → Type 0
Agrees s (Open at) = Unit {0}
Agrees s (Dial host port answer) = answer ≡ (next_dial s.dials s.lines).0
Agrees s (Event paused busy ev bytes) = (ev ≡ (next_act s.acts s.lines paused busy).0) × (bytes ≡ (next_act s.acts s.lines paused busy).1)
Agrees s (Send c bytes answer) = answer ≡ Took (length bytes)
Agrees s (Close c) = Unit {0}

abbrev pub plays_all : List Entry → Script → Script
plays_all [] s = s
plays_all (e ∷ es) s = plays_all es (played s e)

abbrev pub AllAgree : Script → List Entry → Type 0
AllAgree s [] = Unit {0}
AllAgree s (e ∷ es) = Agrees s e × AllAgree (played s e) es

-- where it is told what will be played, these entries were played, and this is left
abbrev pub Plays : Option Script → Option Script → List Entry → Type 0
Plays None now entries = Unit {0}
Plays (Some s) now entries = (now ≡ Some (plays_all entries s)) × AllAgree s entries

-- by what a wire tells of it, before a call and after it: this entry was played
abbrev pub PlaysOne : {W : Type 0} → (W → Option Script) → W → W → Entry → Type 0
PlaysOne plays old new entry = Plays (plays old) (plays new) (entry ∷ [])
