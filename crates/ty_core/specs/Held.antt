-- What holds of the fields of a connection's bytes.
use Rattle.std.specs.Prelude.{ℕ, List, Option}
use Rattle.ty_wire.specs.declared.reading.Front.{Front}
use Rattle.ty_memc.specs.declared.pieces.SeenPiece.{SeenPiece}
use Rattle.ty_core.specs.declared.large.Large.{Large}
use Rattle.ty_core.specs.Gathering.{IsSighted, MayGather, all_of}

pub record IsHeld (large : Option Large) (bytes : List ℕ) (front : Front) (seen : SeenPiece) : Type 0 where
  pub sighted : IsSighted (all_of large bytes) front seen
  pub gathers : MayGather large bytes
