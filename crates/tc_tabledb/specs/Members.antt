-- What the stores of a table are, where they stand on hash files: the members of its rows, and those of its indexes in the two orders.
use Rattle.std.specs.Prelude.{◌≡◌, ℕ, List, Bool, true, false}
use Rattle.tc_base.specs.declared.kind.Form.{Form}
use Rattle.tc_base.specs.declared.order.Order.{Ghosts as Orders}
use Rattle.tc_base.specs.declared.seq.Pair.{Pair}
use Rattle.tc_space.specs.Lists.{Made}
use Rattle.tc_space.specs.declared.multi.Multi as multi
use Rattle.tc_space.specs.declared.records.Records.{Ghosts as Stores}
use Rattle.tc_space.specs.declared.space.Space.{Ghosts}
use Rattle.bt_tree.specs.Clearing.{LacksBare}
use Rattle.bt_tree.specs.Meaning.{HoldsIn}
use Rattle.tc_btree.specs.Filling.{fills_list}
use Rattle.tc_btree.specs.Meaning.{ListStands, made_of}
use Rattle.tc_btree.specs.declared.btree.Btree.{Btree}
use Rattle.tc_hash.specs.declared.hash.Hash.{Hash}
use Rattle.tc_treedb.specs.Trees.{IsOrderOf, IsStore}

-- the members of a list are those of a tree in one order over a hash file
pub record IsTreeList {S O : Type 0} (s : Ghosts S) (R : Stores (Hash S) S) (o : Orders O) (decimal : Bool) (m : multi.Ghosts (Btree (Hash S) O) S O) : Type 0 where
  pub of : IsOrderOf decimal o
  pub file : (b : Btree (Hash S) O) → m.file_of b ≡ R.file_of b.tree.store
  pub into : (b : Btree (Hash S) O) (bytes : List ℕ) (ps : List Pair) → m.holds b bytes ps → HoldsIn R o b.tree bytes ps
  pub from : (b : Btree (Hash S) O) (bytes : List ℕ) (ps : List Pair) → HoldsIn R o b.tree bytes ps → m.holds b bytes ps
  pub made : (b : Btree (Hash S) O) → m.made b ≡ made_of R b
  pub lead : (b : Btree (Hash S) O) → m.lead b ≡ R.lead b.tree.store
  pub stands : (made : Made) (bytes : List ℕ) (ps : List Pair) → m.stands made bytes ps → ListStands R o made bytes ps
  pub fills : (b : Btree (Hash S) O) (old new : S) (ps qs : List Pair) → m.fills b old new ps qs → fills_list s R o b old new ps qs
  pub bare : (b : Btree (Hash S) O) (old new : S) → m.lacks_bare b old new → LacksBare s R b.tree old new
  pub tight : (b : Btree (Hash S) O) (from : List ℕ) (form : Form) (bytes : List ℕ) → m.tight b from form bytes → R.tight b.tree.store from form bytes
  pub packed : (from : List ℕ) (form : Form) (bytes : List ℕ) → m.packed from form bytes → R.packed from form bytes
  pub slack : (bytes : List ℕ) → m.slack bytes ≡ R.slack bytes

-- those of the rows, and of the indexes in either order
pub record AreTableStores {S OL OD : Type 0} (s : Ghosts S) (R : Stores (Hash S) S) (ol : Orders OL) (od : Orders OD) (l : multi.Ghosts (Btree (Hash S) OL) S OL) (d : multi.Ghosts (Btree (Hash S) OD) S OD) : Type 0 where
  pub store : IsStore s R
  pub lexical : IsTreeList s R ol false l
  pub decimal : IsTreeList s R od true d
