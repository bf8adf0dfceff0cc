-- A tree of one of the two orders over a hash file, by the members of both.
use Rattle.std.specs.Prelude.{◌≡◌, ℕ, Bool, List}
use Rattle.std.specs.Cmp.{IsTotalOrder}
use Rattle.std.proofs.lemmas.Map.Lookups.{CmpEqualImpliesEq}
use Rattle.tc_base.specs.Maps.{Map}
use Rattle.tc_base.specs.Orders.{order}
use Rattle.tc_base.specs.declared.kind.Form.{Form}
use Rattle.tc_base.specs.declared.order.Order.{Ghosts as Orders}
use Rattle.tc_base.specs.declared.seq.Pair.{Pair}
use Rattle.tc_space.specs.declared.records.Records.{Ghosts as Stores}
use Rattle.tc_space.specs.declared.space.Space.{Ghosts}
use Rattle.bt_tree.specs.declared.tree.Tree.{Tree}
use Rattle.tc_hash.specs.declared.hash.Hash.{Hash}
use Rattle.tc_hash.specs.Keeping.{LacksRecordOf, holds, lead_of, numbers_of}
use Rattle.tc_hash.specs.Ending.{slack_in}
use Rattle.tc_hash.specs.Packing.{IsFilledWith, LacksLarge}
use Rattle.tc_hash.specs.Repacking.{IsPackedFrom, WasPacked}
use Rattle.tc_hash.specs.Standing.{StandsAs}
use Rattle.tc_treedb.specs.Holding.{Held, HoldsKept, HoldsOver, code_of, tight_kept}
use Rattle.tc_treedb.specs.Kept.{head_kept, height_of, lead_kept, numbers_kept, records_kept}
use Rattle.tc_treedb.specs.declared.kept.Kept.{Kept}

-- the members of a store that are those of hash files
pub record IsStore {S : Type 0} (s : Ghosts S) (R : Stores (Hash S) S) : Type 0 where
  pub into : (h : Hash S) (bytes : List ℕ) (m : Map) → R.holds h bytes m → holds h bytes m
  pub from : (h : Hash S) (bytes : List ℕ) (m : Map) → holds h bytes m → R.holds h bytes m
  pub file : (h : Hash S) → R.file_of h ≡ h.body.file
  pub sort : (h : Hash S) → R.sort h ≡ h.body.head.kind
  pub lacks : (h : Hash S) (a b : S) (key value : List ℕ) → R.lacks h a b key value → LacksRecordOf s h a b key value
  pub large : (h : Hash S) (a b : S) → R.lacks_large h a b → LacksLarge s h a b
  pub numbers : (h : Hash S) → R.numbers h ≡ numbers_of h
  pub lead : (h : Hash S) → R.lead h ≡ lead_of h
  pub stands : (kind : ℕ) (numbers bytes : List ℕ) (m : Map) (region : List ℕ) → R.stands kind numbers bytes m region → StandsAs kind numbers bytes m region
  pub filled : (h : Hash S) (ps : List Pair) → R.filled h ps → IsFilledWith h ps
  pub tight : (h : Hash S) (from : List ℕ) (form : Form) (bytes : List ℕ) → R.tight h from form bytes → WasPacked h from form bytes
  pub packs : (h : Hash S) (from : List ℕ) (form : Form) (bytes : List ℕ) → WasPacked h from form bytes → R.tight h from form bytes
  pub packed : (from : List ℕ) (form : Form) (bytes : List ℕ) → R.packed from form bytes → IsPackedFrom from form bytes
  pub slack : (bytes : List ℕ) → R.slack bytes ≡ slack_in bytes

-- an order that a tree file may have
pub record IsOrderOf {O : Type 0} (decimal : Bool) (o : Orders O) : Type 0 where
  pub cmp : o.cmp ≡ order decimal
  pub code : o.CODE ≡ code_of decimal
  pub total : IsTotalOrder o.cmp
  pub exact : CmpEqualImpliesEq o.cmp

-- a tree of one order, as what is kept
pub record IsKind {S O : Type 0} (decimal : Bool) (wrap : Tree (Hash S) O → Kept S) : Type 0 where
  pub out : (t : Tree (Hash S) O) (bytes : List ℕ) (m : Held) → HoldsKept (wrap t) bytes m → (m.0 ≡ decimal) × HoldsOver decimal t bytes m.1
  pub back : (t : Tree (Hash S) O) (bytes : List ℕ) (m : Held) → (m.0 ≡ decimal) × HoldsOver decimal t bytes m.1 → HoldsKept (wrap t) bytes m
  pub records : (t : Tree (Hash S) O) (bytes : List ℕ) (m : Map) → records_kept (wrap t) bytes m → holds t.store bytes m
  pub numbers : (t : Tree (Hash S) O) → numbers_kept (wrap t) ≡ numbers_of t.store
  pub lead : (t : Tree (Hash S) O) → lead_kept (wrap t) ≡ lead_of t.store
  pub head : (t : Tree (Hash S) O) → head_kept (wrap t) ≡ t.head
  pub high : (t : Tree (Hash S) O) → height_of (wrap t) ≡ t.height
  pub tight : (t : Tree (Hash S) O) (from : List ℕ) (form : Form) (bytes : List ℕ) → tight_kept (wrap t) from form bytes → WasPacked t.store from form bytes
  pub packs : (t : Tree (Hash S) O) (from : List ℕ) (form : Form) (bytes : List ℕ) → WasPacked t.store from form bytes → tight_kept (wrap t) from form bytes

-- a tree in file 0 of a space
pub record IsTreeFile {S O : Type 0} (s : Ghosts S) (R : Stores (Hash S) S) (o : Orders O) (decimal : Bool) (wrap : Tree (Hash S) O → Kept S) : Type 0 where
  pub store : IsStore s R
  pub of : IsOrderOf decimal o
  pub kind : IsKind decimal wrap
