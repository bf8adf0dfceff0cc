-- Keys listed, at most so many.
use Rattle.std.specs.Prelude.{ℕ, ◌<◌, Option, Some, None}

-- fewer than so many were found
abbrev pub HasRoom : Option ℕ → ℕ → Type 0
HasRoom None n = Unit {0}
HasRoom (Some most) n = n < most
