-- The bytes at which texts are cut.
use Rattle.std.specs.Prelude.{ℕ, Bool, ◌==◌, ◌||◌, if◌then◌else◌}

-- at spaces and commas, or at zero bytes
abbrev pub cuts : Bool → ℕ → Bool
cuts blank b = if blank then b == 32 || b == 44 else b == 0
