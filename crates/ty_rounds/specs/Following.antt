-- What is left of a space's frame where copies may have been made.
use Rattle.tc_space.specs.Effects.{FollowsIn}
use Rattle.tc_space.specs.declared.space.Space.{Ghosts}

-- the count of faults hasn't fallen, and the limits and the names that the volume was given stay
abbrev pub FollowsTold : {S : Type 0} → Ghosts S → S → S → Type 0
FollowsTold s old new = FollowsIn s.faults s.limit (λ x. (s.names x).told) old new
