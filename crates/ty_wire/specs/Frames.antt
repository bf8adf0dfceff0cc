-- The frames of a text of bytes: the whole requests at its front.
use Rattle.std.specs.Prelude.{◌≡◌, ℕ, List, ◌++◌, All}
use Rattle.std.specs.List.{flat_map}
use Rattle.tc_base.specs.declared.request.Request.{Request}
use Rattle.ty_wire.specs.Prefixes.{IsPrefix}
use Rattle.ty_wire.specs.Spelling.{spelling, Fits}

-- these requests stand at the front, one behind the other, and then the rest
pub record StandsAs (bytes : List ℕ) (requests : List Request) (rest : List ℕ) : Type 0 where
  pub parts : bytes ≡ flat_map spelling requests ++ rest
  pub fit : All Fits requests

-- no whole request stands at the front: behind the frames, it is all of them
abbrev pub HasNone : List ℕ → Type 0
HasNone rest = (r : Request) → Fits r → IsPrefix (spelling r) rest → ⊥
