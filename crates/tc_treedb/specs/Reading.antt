-- What is read of the pairs of a tree.
use Rattle.std.specs.Prelude.{◌≡◌, ℕ, Bool, true, false, List, map, filter, nat_eq, Option, option_to_list, is_some}
use Rattle.std.specs.List.{starts_with}
use Rattle.std.specs.declared.cmp.Ordering.{Ordering}
use Rattle.tc_base.specs.Lists.{before, first, from_on, keys, pair, values}
use Rattle.tc_base.specs.declared.order.Order.{Ghosts as Orders}
use Rattle.tc_base.specs.declared.order.Side.{Side}
use Rattle.tc_base.specs.declared.order.Side.TheVariants.{Inside}
use Rattle.tc_base.specs.declared.seq.Pair.{Pair}
use Rattle.tc_space.specs.Frames.{Keeps, Reads}
use Rattle.tc_space.specs.Stores.{KeepsTight}
use Rattle.tc_space.specs.declared.records.Records.{Ghosts as Stores}
use Rattle.tc_space.specs.declared.space.Space.{Ghosts}
use Rattle.tc_model.specs.Meaning.{at_most}
use Rattle.tc_model.specs.Rows.{texts_of}
use Rattle.tc_model.specs.Stores.{bytes_of}
use Rattle.bt_cache.specs.Effects.{SameStore}
use Rattle.bt_tree.specs.declared.tree.Tree.{Tree}
use Rattle.bt_tree.specs.Meaning.{Means}
use Rattle.bt_tree.specs.Visits.{StaysTree}
use Rattle.tc_engine.specs.Rows.{Adds, IsItem, pair_rows}
use Rattle.tc_engine.specs.declared.rows.Rows.{Rows}

-- the bytes of pairs, the key with each value
abbrev pub bytes_in : List Pair → ℕ
bytes_in ps = bytes_of (texts_of ps)

-- the pairs of one key
abbrev pub pairs_of : List ℕ → List Pair → List Pair
pairs_of key ps = map (pair key) (values ps key)

-- the pairs from a key on and before another, at most so many
abbrev pub pairs_in : (List ℕ → List ℕ → Ordering) → List ℕ → Option (List ℕ) → Option ℕ → List Pair → List Pair
pairs_in cmp from to most ps = at_most most (before cmp to (from_on cmp from ps))

-- the keys that begin with a prefix
abbrev pub keys_beginning : List ℕ → List Pair → List (List ℕ)
keys_beginning prefix ps = filter (λ key. starts_with nat_eq key prefix) (keys ps)

-- all keys that begin with a prefix are inside
abbrev pub HasAllOf : List ℕ → (List ℕ → Side) → Type 0
HasAllOf prefix side = (key : List ℕ) → starts_with nat_eq key prefix ≡ true → side key ≡ Inside

-- the first value of a key was added as a row, alone or with the key, and this is whether there is one
abbrev pub AddsFirstOf : Bool → List ℕ → Bool → List Pair → Rows → Rows → Type 0
AddsFirstOf false key held ps old new = IsItem (first ps key) held old new
AddsFirstOf true key held ps old new = (held ≡ is_some (first ps key)) × Adds old new (pair_rows (map (pair key) (option_to_list (first ps key))))

module _ {S V O : Type 0} (s : Ghosts S) (R : Stores V S) (o : Orders O) where
  -- nothing is written, the pairs stay, and what was packed is so still
  pub record LooksAt (t u : Tree V O) (old new : S) : Type 0 where
    pub reads : Reads s (Means s R o) t u old new
    pub keeps : Keeps s old new
    pub made : SameStore R t.store u.store
    pub tight : KeepsTight R.tight t.store u.store
    pub stays : StaysTree t u

  -- whatever pairs a tree means, these rows of them were added
  abbrev pub AddsRows : (List Pair → List (List ℕ)) → Tree V O → S → Rows → Rows → Type 0
  AddsRows rows t space old new = (ps : List Pair) → Means s R o t space ps → Adds old new (rows ps)

  abbrev pub AnswersHeld : Bool → List ℕ → Bool → Tree V O → S → Rows → Rows → Type 0
  AnswersHeld with_key key held t space old new = (ps : List Pair) → Means s R o t space ps → AddsFirstOf with_key key held ps old new
