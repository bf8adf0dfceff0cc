-- What a range of an index gives.
use Rattle.std.specs.Prelude.{ℕ, ◌+◌, Bool, List, [], ◌∷◌, map, Option, Some, None}
use Rattle.tc_base.specs.declared.order.Side.{Side}
use Rattle.tc_base.specs.declared.seq.Pair.{Pair}
use Rattle.tc_space.specs.Changes.{inside}
use Rattle.td_index.specs.Entries.{one, parted}

abbrev pub second_of : Option (List ℕ × List ℕ) → List ℕ
second_of None = []
second_of (Some p) = p.1

-- the primary key in a tree's key
abbrev pub second : List ℕ → List ℕ
second x = second_of (parted x)

-- the primary keys of the pairs inside, in the tree's order
abbrev pub candidates : (List ℕ → Side) → List Pair → List (List ℕ)
candidates side ps = map (λ p. second p.key) (inside side ps)

-- how many parts pass a test
abbrev pub passing : (List ℕ → Bool) → List (List ℕ) → ℕ
passing test [] = 0
passing test (f ∷ fs) = one (test f) + passing test fs
