-- What is told of the wire that was picked.
use Rattle.std.specs.Prelude.{◌≡◌, ℕ, Bool, false, List, [], ◌∷◌, if◌then◌else◌}
use Rattle.std.proofs.Common.{ap}
use Rattle.std.specs.declared.io.traits.Read as reads
use Rattle.std.specs.declared.io.traits.Write as writes
use Rattle.ty_net.specs.declared.net.NetWire.{NetWire}
use Rattle.ty_net.specs.declared.net.NetWire.TheVariants.{Pipe, Socket}

abbrev pub faults_of : {R I O : Type 0} {a : reads.Ghosts I} {b : writes.Ghosts O} → NetWire R I O a b → ℕ
faults_of (Pipe alloc rt wire) = wire.faults
faults_of (Socket wire) = wire.faults

abbrev pub opened_of : {R I O : Type 0} {a : reads.Ghosts I} {b : writes.Ghosts O} → NetWire R I O a b → Bool
opened_of (Pipe alloc rt wire) = wire.opened
opened_of (Socket wire) = wire.opened

abbrev pub conns_of : {R I O : Type 0} {a : reads.Ghosts I} {b : writes.Ghosts O} → NetWire R I O a b → List ℕ
conns_of (Pipe alloc rt wire) = if wire.is_open then 0 ∷ [] else []
conns_of (Socket wire) = wire.roster.conns.items

abbrev pub ended_of : {R I O : Type 0} {a : reads.Ghosts I} {b : writes.Ghosts O} → NetWire R I O a b → List ℕ
ended_of (Pipe alloc rt wire) = if wire.has_ended then 0 ∷ [] else []
ended_of (Socket wire) = wire.roster.ended.items

abbrev pub given_of : {R I O : Type 0} {a : reads.Ghosts I} {b : writes.Ghosts O} → NetWire R I O a b → ℕ
given_of (Pipe alloc rt wire) = if wire.started then 1 else 0
given_of (Socket wire) = wire.roster.given

pub none_of : {R I O : Type 0} {a : reads.Ghosts I} {b : writes.Ghosts O} → (w : NetWire R I O a b) → opened_of w ≡ false → conns_of w ≡ []
none_of (Pipe alloc rt wire) closed = ap (λ (b : Bool). let lines : List ℕ = if b then 0 ∷ [] else [] in lines) (wire.none_before closed)
none_of (Socket wire) closed = wire.none_before closed
