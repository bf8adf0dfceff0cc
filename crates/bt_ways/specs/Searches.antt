-- What a search in one page finds.
use Rattle.std.specs.Prelude.{◌≡◌, ℕ, zero, suc, ◌<◌, ◌≤◌, List, [], ◌∷◌, Bool, true, false, length}
use Rattle.std.specs.List.{slice_index_or}
use Rattle.bt_page.specs.declared.page.NodeEntry.{NodeEntry}
use Rattle.bt_page.specs.declared.page.Item.{Item}
use Rattle.bt_rows.specs.Orders.{Before}

-- so many entries of a node are not above a key, and the next one is
pub record IsRoute (before : Before) (entries : List NodeEntry) (key : List ℕ) (place : ℕ) : Type 0 where
  pub within : place ≤ length entries
  pub low : (i : ℕ) (d : NodeEntry) → i < place → before key (slice_index_or entries i d).key ≡ false
  pub high : (d : NodeEntry) → place < length entries → before key (slice_index_or entries place d).key ≡ true

-- the page behind so many entries, or the heir
abbrev pub child_at : ℕ → List NodeEntry → ℕ → ℕ
child_at heir entries zero = heir
child_at heir [] (suc i) = heir
child_at heir (e ∷ es) (suc i) = child_at e.child es i

-- so many items of a leaf are below a key, and the next one isn't
pub record IsPlace (before : Before) (items : List Item) (key : List ℕ) (place : ℕ) : Type 0 where
  pub low : (i : ℕ) (d : Item) → i < place → before (slice_index_or items i d).key key ≡ true
  pub high : (d : Item) → place < length items → before (slice_index_or items place d).key key ≡ false

-- so many items of a leaf are below a key, and whether the next one has it
pub record IsSpot (before : Before) (items : List Item) (key : List ℕ) (place : ℕ) (hit : Bool) : Type 0 where
  pub within : place ≤ length items
  pub low : (i : ℕ) (d : Item) → i < place → before (slice_index_or items i d).key key ≡ true
  pub inside : hit ≡ true → place < length items
  pub there : (d : Item) → hit ≡ true → (slice_index_or items place d).key ≡ key
  pub high : (d : Item) → hit ≡ false → place < length items → before key (slice_index_or items place d).key ≡ true
