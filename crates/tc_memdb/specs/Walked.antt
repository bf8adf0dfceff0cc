-- Rows added one after the other, at most so many.
use Rattle.std.specs.Prelude.{◌≡◌, ℕ, ◌-◌, ◌==◌, Bool, true, false, List, [], ◌∷◌, ◌++◌, length, map, filter, flat_map, nat_eq, Option, Some, None}
use Rattle.std.specs.List.{AllByRecursion, starts_with}
use Rattle.std.specs.Ordering.{is_lt}
use Rattle.tc_base.specs.declared.seq.Pair.{Pair}
use Rattle.tc_base.specs.Lists.{pair}
use Rattle.tc_base.specs.Orders.{lexical}
use Rattle.tc_maps.specs.Entries.{Held, pairs_of}
use Rattle.tc_engine.specs.declared.rows.Rows.{Rows}
use Rattle.tc_engine.specs.Rows.{Adds, item_row}
use Rattle.tc_engine.specs.Changes.{first_of}

-- none is left to add
abbrev pub is_spent : Option ℕ → Bool
is_spent None = false
is_spent (Some n) = n == 0

-- what is left to add behind so many
abbrev pub lessened : Option ℕ → ℕ → Option ℕ
lessened None n = None
lessened (Some k) n = Some (k - n)

-- of what was walked over the first were added, as rows each
pub record Walked {A : Type 0} (rows_of : A → List (List ℕ)) (most : Option ℕ) (from : Rows) (walked : List A) (left : Option ℕ) (rows : Rows) : Type 0 where
  pub count : left ≡ lessened most (length walked)
  pub added : Adds from rows (flat_map rows_of (first_of most walked))

-- a row for the key and one for the value
abbrev pub pair_items : Pair → List (List ℕ)
pair_items p = item_row p.key ∷ item_row p.value ∷ []

abbrev pub key_items : List ℕ → List (List ℕ)
key_items key = item_row key ∷ []

abbrev pub is_before : Option (List ℕ) → List ℕ → Bool
is_before None key = true
is_before (Some to) key = is_lt (lexical key to)

-- behind a key that fails none passes
abbrev pub Falls : (List ℕ → Bool) → List (List ℕ) → Type 0
Falls test [] = Unit {0}
Falls test (key ∷ keys) = (test key ≡ false → AllByRecursion (λ k. test k ≡ false) keys) × Falls test keys

-- whatever was walked over, these values of a key come behind it
abbrev pub WalksOver : List ℕ → List (List ℕ) → Option ℕ → Option ℕ → Rows → Rows → Type 0
WalksOver key vs left after old new = (most : Option ℕ) (from : Rows) (ps : List Pair) → Walked pair_items most from ps left old → Walked pair_items most from (ps ++ map (pair key) vs) after new

-- rows for the first pairs before a key
abbrev pub rows_before : Option (List ℕ) → Option ℕ → List (List ℕ × Held) → List (List ℕ)
rows_before to most es = flat_map pair_items (first_of most (pairs_of (filter (λ e. is_before to e.0) es)))

-- rows for the first keys that begin with a prefix
abbrev pub rows_begun : List ℕ → Option ℕ → List (List ℕ) → List (List ℕ)
rows_begun prefix most keys = map item_row (first_of most (filter (λ k. starts_with nat_eq k prefix) keys))
