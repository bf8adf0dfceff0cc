-- What a cursor's calls make of its place.
use Rattle.std.specs.Prelude.{◌≡◌, List, Bool, Option, is_some}
use Rattle.tc_base.specs.declared.order.Order.{Ghosts as Orders}
use Rattle.tc_base.specs.declared.seq.Pair.{Pair}
use Rattle.tc_space.specs.declared.records.Records.{Ghosts as Stores}
use Rattle.tc_space.specs.declared.space.Space.{Ghosts}
use Rattle.bt_tree.specs.declared.tree.Tree.{Tree}
use Rattle.bt_tree.specs.Meaning.{Means}
use Rattle.bt_cursor.specs.declared.cursor.Place.{Place}

module _ {S V O : Type 0} (s : Ghosts S) (R : Stores V S) (o : Orders O) where
  -- whatever pairs a tree means, the cursor stands there from here on, and this is whether that is anywhere
  abbrev pub MovesTo : (List Pair → Option Place) → Tree V O → S → Option Place → Bool → Type 0
  MovesTo f t space at there = (ps : List Pair) → Means s R o t space ps → (at ≡ f ps) × (there ≡ is_some (f ps))
