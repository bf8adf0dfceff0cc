-- What a tree that is open means. `Stores V S` are the members of its store, `Orders O` those of its order, each as one.
use Rattle.std.specs.Prelude.{◌≡◌, ℕ, List, Result, OnErr}
use Rattle.std.specs.FinMap.{get}
use Rattle.tc_base.specs.Maps.{Map}
use Rattle.tc_base.specs.declared.order.Order.{Ghosts as Orders}
use Rattle.tc_base.specs.declared.seq.Pair.{Pair}
use Rattle.tc_space.specs.Frames.{In, Refuses, Writes}
use Rattle.tc_space.specs.Stores.{IsReady, Only}
use Rattle.tc_space.specs.declared.records.Records.{Ghosts as Stores}
use Rattle.tc_space.specs.declared.space.Space.{Ghosts}
use Rattle.bt_rows.specs.Orders.{before_by}
use Rattle.bt_cache.specs.Held.{AreSame}
use Rattle.bt_tree.specs.declared.tree.Tree.{Tree}
use Rattle.bt_tree.specs.Trees.{HoldsPairs}

-- its file is the store's
abbrev pub file_in : {S V O : Type 0} → Stores V S → Tree V O → ℕ
file_in R t = R.file_of t.store

-- with these bytes in its file the store holds a map that stands for these pairs, under the order that the numbers tell, and each page in memory is the map's
pub record HoldsIn {S V O : Type 0} (R : Stores V S) (o : Orders O) (t : Tree V O) (bytes : List ℕ) (ps : List Pair) : Type 0 where
  pub records : Map
  pub store : R.holds t.store bytes records
  pub same : AreSame records t.cache.pages.entries
  pub order : t.head.order ≡ o.CODE
  pub is : HoldsPairs (before_by o.cmp) t.head t.height t.column (get records) ps

-- and so it is in a space
abbrev pub Means : {S V O : Type 0} → Ghosts S → Stores V S → Orders O → Tree V O → S → List Pair → Type 0
Means s R o t space ps = In s (file_in R) (HoldsIn R o) t space ps

-- pairs that it means
abbrev pub Meant : {S V O : Type 0} → Ghosts S → Stores V S → Orders O → Tree V O → S → Type 0
Meant s R o t space = (ps : List Pair) × Means s R o t space ps

module _ {S V O : Type 0} (s : Ghosts S) (R : Stores V S) (o : Orders O) where
  -- it may be called
  abbrev pub IsOpen : Tree V O → S → Type 0
  IsOpen t space = IsReady s (Means s R o) t space

  -- the pairs became others, in its own file
  abbrev pub Changes : (List Pair → List Pair) → Tree V O → Tree V O → S → S → Type 0
  Changes f t u old new = Writes s (Only (file_in R t)) (Means s R o) f t u old new

  -- where it was refused, the space may not be used any more, or nothing has changed
  abbrev pub RefusesPairs : {T E : Type 0} → Result T E → Tree V O → Tree V O → S → S → Type 0
  RefusesPairs result t u old new = OnErr result (Refuses s (Means s R o) t u old new)

  -- whatever pairs it means, this is what is answered of them
  abbrev pub AnswersPairs : {A : Type 0} → (List Pair → A) → Tree V O → S → A → Type 0
  AnswersPairs {A} f t space x = (ps : List Pair) → Means s R o t space ps → x ≡ f ps
