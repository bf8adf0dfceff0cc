-- The answers of sends, as a list of them says.
use Rattle.std.specs.Prelude.{◌<◌, ◌≤◌, ℕ, List, [], ◌∷◌, min, max, nat_eq, if◌then◌else◌}
use Rattle.tc_io.specs.declared.wire.Sent.{Sent}
use Rattle.tc_io.specs.declared.wire.Sent.TheVariants.{Took, NotYet, Gone}

-- it takes at least one of so many bytes, and no more than those
abbrev pub bounded : ℕ → Sent → Sent
bounded offered (Took n) = Took (max (min n offered) 1)
bounded offered NotYet = NotYet
bounded offered Gone = Gone

-- the answer to the send of that number that is offered so many bytes: all are taken where the list has none
abbrev pub answer_to : List (ℕ × Sent) → ℕ → ℕ → Sent
answer_to [] number offered = Took offered
answer_to (a ∷ more) number offered = if nat_eq a.0 number then bounded offered a.1 else answer_to more number offered

-- what a send may take of so many bytes
abbrev pub MayTake : ℕ → Sent → Type 0
MayTake offered (Took n) = (0 < n) × (n ≤ offered)
MayTake offered NotYet = Unit {0}
MayTake offered Gone = Unit {0}
