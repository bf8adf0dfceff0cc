-- The entry of an event.
use Rattle.std.specs.Prelude.{ℕ, Bool, List, [], take}
use Rattle.tc_io.specs.declared.wire.Ev.{Ev}
use Rattle.tc_io.specs.declared.wire.Ev.TheVariants as event
use Rattle.tc_io.specs.declared.wire.Entry.{Entry}
use Rattle.tc_io.specs.declared.wire.Entry.TheVariants.{Event}

-- the bytes that it left in the buffer
abbrev pub bytes_of : Ev → List ℕ → List ℕ
bytes_of (event.Opened c) buffer = []
bytes_of (event.Read c n) buffer = take n buffer
bytes_of (event.Ended c) buffer = []
bytes_of event.Quiet buffer = []
bytes_of event.Shut buffer = []

-- it came where these were paused, and left this in the buffer
abbrev pub heard : List ℕ → Bool → Ev → List ℕ → Entry
heard paused busy ev buffer = Event paused busy ev (bytes_of ev buffer)
