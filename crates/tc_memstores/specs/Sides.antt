-- Keys above a key, or below it; and what an out takes.
use Rattle.std.specs.Prelude.{ℕ, List, Bool, true, false}
use Rattle.std.specs.Ordering.{is_lt, is_gt}
use Rattle.std.specs.declared.cmp.Ordering.{Ordering}
use Rattle.tc_base.specs.declared.seq.Pair.{Pair}
use Rattle.tc_space.specs.Changes.{all_out, first_out}

abbrev pub is_wanted : Bool → Ordering → Bool
is_wanted true o = is_gt o
is_wanted false o = is_lt o

-- without all pairs of a key, or without the first
abbrev pub less : (List ℕ → List ℕ → Ordering) → Bool → List ℕ → List Pair → List Pair
less cmp true = all_out cmp
less cmp false = first_out cmp
