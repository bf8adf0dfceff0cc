-- The bytes that each connection took.
use Rattle.std.specs.Prelude.{ℕ, List, [], ◌∷◌, nat_eq, if◌then◌else◌}
use Rattle.tc_fakes.specs.declared.peers.Peer.{Peer}

abbrev pub bytes_to : ℕ → List Peer → List ℕ
bytes_to c [] = []
bytes_to c (p ∷ ps) = if nat_eq p.conn c then p.taken.items else bytes_to c ps
