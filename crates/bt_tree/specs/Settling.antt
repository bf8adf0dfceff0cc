-- What bringing a tree to its file leaves.
use Rattle.std.specs.Prelude.{◌≡◌, ◌≤◌, ℕ, List, Result}
use Rattle.tc_base.specs.declared.kind.Form.{Form}
use Rattle.tc_base.specs.declared.order.Order.{Ghosts as Orders}
use Rattle.tc_base.specs.declared.seq.Pair.{Pair}
use Rattle.tc_space.specs.Stores.{PacksIn, PacksMap, TightIn, TrimsIn}
use Rattle.tc_space.specs.declared.records.Records.{Ghosts as Stores}
use Rattle.tc_space.specs.declared.space.Space.{Ghosts}
use Rattle.bt_tree.specs.declared.tree.Tree.{Tree}
use Rattle.bt_tree.specs.Meaning.{HoldsIn, Means, file_in}
use Rattle.bt_tree.specs.Standing.{FileStands}
use Rattle.bt_tree.specs.Visits.{StaysTree}

-- whatever it answers, the numbers of the tree stay, and its store's file, type and numbers, with no more free in front of the first block
pub record StaysSettled {S V O : Type 0} (R : Stores V S) (t u : Tree V O) : Type 0 where
  pub file : R.file_of u.store ≡ R.file_of t.store
  pub sort : R.sort u.store ≡ R.sort t.store
  pub fixed : R.numbers u.store ≡ R.numbers t.store
  pub lead : R.lead u.store ≤ R.lead t.store
  pub stays : StaysTree t u

-- so it is of a packing, but for the form of the store's file
pub record StaysFormed {S V O T E : Type 0} (s : Ghosts S) (R : Stores V S) (form : Form) (result : Result T E) (t u : Tree V O) (new : S) : Type 0 where
  pub store : PacksMap s.flag R.file_of R.sort R.numbers R.region R.lead R.gets form result t.store u.store new
  pub stays : StaysTree t u

-- its store was packed from a file with these bytes in a form, over those
abbrev pub tight_in : {S V O : Type 0} → Stores V S → Tree V O → List ℕ → Form → List ℕ → Type 0
tight_in R t from form bytes = R.tight t.store from form bytes

module _ {S V O : Type 0} (s : Ghosts S) (R : Stores V S) (o : Orders O) where
  -- of whatever pairs were meant: the store was packed in that form from the bytes that its file had
  abbrev pub TightTree : Form → Tree V O → Tree V O → S → S → Type 0
  TightTree form t u old new = TightIn s (file_in R) (HoldsIn R o) (tight_in R) form t u old new

  -- the file stands for the pairs that were meant, under the numbers of the tree and in as many rows
  abbrev pub BringsPairs : Tree V O → S → S → Type 0
  BringsPairs t old new = (ps : List Pair) → Means s R o t old ps → FileStands R o (R.sort t.store) (R.numbers t.store) t.head t.height t.column (s.now new (file_in R t)) ps

  -- where the store was packed the file is, from the same bytes and in the same form; and no byte at its end holds nothing
  pub record BringsPacked (t : Tree V O) (old new : S) : Type 0 where
    pub packs : PacksIn s (file_in R) (HoldsIn R o) (tight_in R) R.packed t old new
    pub trims : TrimsIn s (file_in R) (HoldsIn R o) R.slack t old new
