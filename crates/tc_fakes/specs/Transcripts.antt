-- What a transcript says of one connection.
use Rattle.std.specs.Prelude.{ℕ, Bool, false, List, [], take, nat_eq, if◌then◌else◌}
use Rattle.std.specs.List.{flat_map, list_any}
use Rattle.tc_io.specs.declared.wire.Ev.{Ev}
use Rattle.tc_io.specs.declared.wire.Ev.TheVariants as event
use Rattle.tc_io.specs.declared.wire.Dialled.{Dialled}
use Rattle.tc_io.specs.declared.wire.Dialled.TheVariants.{Conn, NotNow}
use Rattle.tc_io.specs.declared.wire.Sent.{Sent}
use Rattle.tc_io.specs.declared.wire.Sent.TheVariants.{Took, NotYet, Gone}
use Rattle.tc_io.specs.declared.wire.Entry.{Entry}
use Rattle.tc_io.specs.declared.wire.Entry.TheVariants.{Open, Dial, Event, Send, Close}

-- what a send took of the bytes that it was offered
abbrev pub taken : Sent → List ℕ → List ℕ
taken (Took n) bytes = take n bytes
taken NotYet bytes = []
taken Gone bytes = []

abbrev pub sent_by : ℕ → Entry → List ℕ
sent_by c (Open at) = []
sent_by c (Dial host port answer) = []
sent_by c (Event paused busy ev bytes) = []
sent_by c (Send d bytes answer) = if nat_eq d c then taken answer bytes else []
sent_by c (Close d) = []

-- all the bytes that the sends to it took
abbrev pub out_of : ℕ → List Entry → List ℕ
out_of c entries = flat_map (sent_by c) entries

abbrev pub opens : ℕ → Ev → Bool
opens c (event.Opened d) = nat_eq d c
opens c (event.Read d n) = false
opens c (event.Ended d) = false
opens c event.Quiet = false
opens c event.Shut = false

abbrev pub dials : ℕ → Dialled → Bool
dials c (Conn d) = nat_eq d c
dials c NotNow = false

abbrev pub gives : ℕ → Entry → Bool
gives c (Open at) = false
gives c (Dial host port answer) = dials c answer
gives c (Event paused busy ev bytes) = opens c ev
gives c (Send d bytes answer) = false
gives c (Close d) = false

-- it was opened or dialled
abbrev pub was_given : ℕ → List Entry → Bool
was_given c entries = list_any (gives c) entries
