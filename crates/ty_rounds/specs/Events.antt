-- An event that a server may take in.
use Rattle.std.specs.Prelude.{◌≡◌, ◌≤◌, false, List, nat_eq}
use Rattle.std.specs.List.{list_any}
use Rattle.tc_io.specs.declared.wire.Ev.{Ev}
use Rattle.tc_io.specs.declared.wire.Ev.TheVariants.{Opened, Read, Ended, Quiet, Shut}
use Rattle.ty_rounds.specs.Peers.{waiting_numbers}
use Rattle.ty_rounds.specs.declared.peer.Peer.{Peer}

-- a read comes of none that waits
abbrev pub MayHear : List Peer → Ev → Type 0
MayHear ps (Opened c) = Unit {0}
MayHear ps (Read c n) = (n ≤ 4096) × (list_any (nat_eq c) (waiting_numbers ps) ≡ false)
MayHear ps (Ended c) = Unit {0}
MayHear ps Quiet = Unit {0}
MayHear ps Shut = Unit {0}
