-- The one updating request that bytes are.
use Rattle.std.specs.Prelude.{◌≡◌, ℕ, List, [], ◌∷◌, Ok, Err, Option, Some, None, if◌then◌else◌}
use Rattle.tc_base.specs.Reading.{Front}
use Rattle.tc_base.specs.declared.request.Request.{Request}
use Rattle.ty_wire.specs.Reading.{request_at}
use Rattle.ty_wire.specs.Spelling.{spelling, Fits}
use Rattle.ty_wire.specs.Updating.{IsUpdating as Changes, updates}

-- ---- the request in a record

abbrev pub alone : Request → List ℕ → Option Request
alone q [] = if updates q then Some q else None
alone q (b ∷ rest) = None

abbrev pub sole_update : Front Request → Option Request
sole_update (Ok x) = alone x.0 x.1
sole_update (Err e) = None

-- the one whole updating request that bytes are read as
unfoldable pub update_in : List ℕ → Option Request
update_in bytes = sole_update (request_at bytes)

-- they are one whole updating request
pub record IsUpdating (bytes : List ℕ) : Type 0 where
  pub request : Request
  pub fits : Fits request
  pub spells : bytes ≡ spelling request
  pub changes : Changes request
