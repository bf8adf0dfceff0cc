-- Where tokens end.
use Rattle.std.specs.Prelude.{ℕ, Bool, ◌==◌, ◌||◌}

-- a space or a comma
abbrev pub is_blank : ℕ → Bool
is_blank b = b == 32 || b == 44
