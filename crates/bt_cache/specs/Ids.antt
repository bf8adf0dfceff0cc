-- The ids of the pages that are held, the latest used first.
use Rattle.std.specs.Prelude.{ℕ, nat_eq, List, ◌∷◌, Bool, not, filter, take}
use Rattle.std.specs.List.{list_any}

-- whether an id is among them
abbrev pub has : ℕ → List ℕ → Bool
has id ids = list_any (nat_eq id) ids

-- without an id, the others in their order
abbrev pub without : ℕ → List ℕ → List ℕ
without id ids = filter (λ x. not (nat_eq id x)) ids

-- an id in front, of at most so many
abbrev pub used : ℕ → ℕ → List ℕ → List ℕ
used room id ids = take room (id ∷ without id ids)
