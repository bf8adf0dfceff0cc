-- What a cursor's calls make of the pairs, and of its place with them.
use Rattle.std.specs.Prelude.{◌≡◌, ℕ, List, Bool, true, false, Option, None, Some, Result, OnOk}
use Rattle.tc_base.specs.declared.order.Order.{Ghosts as Orders}
use Rattle.tc_base.specs.declared.seq.Pair.{Pair}
use Rattle.tc_space.specs.Frames.{Reads}
use Rattle.tc_space.specs.declared.errors.RecErr.{RecErr}
use Rattle.tc_space.specs.declared.records.Records.{Ghosts as Stores}
use Rattle.tc_space.specs.declared.space.Space.{Ghosts}
use Rattle.bt_tree.specs.declared.tree.Tree.{Tree}
use Rattle.bt_tree.specs.Meaning.{Means}
use Rattle.bt_tree.specs.Valuing.{ChangesPages, GivesFewIds, IsSetFull, SetsAt, valued}
use Rattle.bt_tree.specs.Visits.{StaysTree}
use Rattle.bt_cursor.specs.declared.cursor.Place.{Place}
use Rattle.bt_cursor.specs.Places.{place_from}

module _ {S V O : Type 0} (s : Ghosts S) (R : Stores V S) (o : Orders O) where
  -- the value at a place is another, or goes; from nowhere nothing is changed
  abbrev pub PutsAt : Option Place → Option (List ℕ) → Bool → Tree V O → Tree V O → S → S → Type 0
  PutsAt None value there t u old new = (there ≡ false) × Reads s (Means s R o) t u old new
  PutsAt (Some at) value there t u old new = SetsAt s R o at.key at.number value there t u old new

  -- a limit is reached where the value at a place is to be another, or to go; from nowhere none is
  abbrev pub FillsAt : Option Place → Option (List ℕ) → Tree V O → S → S → Type 0
  FillsAt None value t old new = ⊥
  FillsAt (Some at) value t old new = IsSetFull s R o at.key at.number value t old new

  -- what comes of pages, and of the ids that are given: what the tree's `set_at` says; from nowhere no number of the tree changes
  abbrev pub PagesAt : {T : Type 0} → Option Place → Option (List ℕ) → Result T RecErr → Tree V O → Tree V O → S → S → Type 0
  PagesAt None value result t u old new = StaysTree t u
  PagesAt (Some at) value result t u old new = GivesFewIds s 2 t.height 1 result t u new × OnOk result (ChangesPages s R o at.key at.number value t u old new)

  -- what is behind a pair that went
  abbrev pub IsPlaced : Option Place → Bool → Option Place → Tree V O → S → Type 0
  IsPlaced at false at' t old = at' ≡ at
  IsPlaced None true at' t old = ⊥
  IsPlaced (Some at) true at' t old = (ps : List Pair) → Means s R o t old ps → at' ≡ place_from o.cmp at (valued o.cmp at.key at.number None ps)

  -- it goes, and the cursor stands on the next one
  abbrev pub OutsAt : Option Place → Bool → Option Place → Tree V O → Tree V O → S → S → Type 0
  OutsAt at there at' t u old new = PutsAt at None there t u old new × IsPlaced at there at' t old

  -- so it is told by where the next one stands, or that there was none
  abbrev pub TakesAt : Option Place → Option (Option Place) → Tree V O → Tree V O → S → S → Type 0
  TakesAt at None t u old new = PutsAt at None false t u old new
  TakesAt at (Some at') t u old new = PutsAt at None true t u old new × IsPlaced at true at' t old
