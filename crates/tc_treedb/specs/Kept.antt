-- What calls on a tree leave, whichever order it has.
use Rattle.std.specs.Prelude.{◌≡◌, ◌≤◌, ◌⊎◌, ℕ, ◌+◌, Bool, true, false, List, length, take, Option, Some, None, Result, IfOk, OnErr, OnOk}
use Rattle.std.specs.FinMap.{get}
use Rattle.tc_base.specs.Maps.{Map}
use Rattle.tc_base.specs.declared.kind.Form.{Form}
use Rattle.tc_base.specs.declared.kind.Form.TheVariants.{Large}
use Rattle.tc_base.specs.declared.seq.Pair.{Pair}
use Rattle.tc_space.specs.Frames.{Keeps, Others, Reads}
use Rattle.tc_space.specs.Stores.{KeepsTight, Only, in_form}
use Rattle.tc_space.specs.declared.space.Space.{Ghosts}
use Rattle.ty_base.specs.Holding.{IsTrimmed}
use Rattle.bt_page.specs.Keys.{key_of}
use Rattle.bt_rows.specs.Heads.{head_of}
use Rattle.bt_rows.specs.Pages.{IsGiven}
use Rattle.bt_rows.specs.declared.head.TreeHead.{TreeHead}
use Rattle.bt_tree.specs.Standing.{region_bytes}
use Rattle.hf_head.specs.Heads.{head_in}
use Rattle.tc_hash.specs.Keeping.{holds, lead_of, numbers_of}
use Rattle.tc_hash.specs.Repacking.{IsPackedFrom}
use Rattle.tc_treedb.specs.Filling.{FillsLists, LacksLargeLists}
use Rattle.tc_treedb.specs.Holding.{Held, HoldsKept, Means, StandsTree, tight_kept}
use Rattle.tc_treedb.specs.Layouts.{layout_in}
use Rattle.tc_treedb.specs.Reading.{bytes_in}
use Rattle.tc_treedb.specs.declared.kept.Kept.{Kept}
use Rattle.tc_treedb.specs.declared.kept.Kept.TheVariants.{Lexical, Decimal}

abbrev pub height_of : {S : Type 0} → Kept S → ℕ
height_of (Lexical t) = t.height
height_of (Decimal t) = t.height

-- this holds of whatever pairs it holds over any bytes
abbrev pub HoldsIts : {S : Type 0} → Kept S → (List Pair → Type 0) → Type 0
HoldsIts kept P = (bytes : List ℕ) (m : Held) → HoldsKept kept bytes m → P m.1

-- the numbers of the tree
abbrev pub head_kept : {S : Type 0} → Kept S → TreeHead
head_kept (Lexical t) = t.head
head_kept (Decimal t) = t.head

-- the numbers that the head of its file fixes
abbrev pub numbers_kept : {S : Type 0} → Kept S → List ℕ
numbers_kept (Lexical t) = numbers_of t.store
numbers_kept (Decimal t) = numbers_of t.store

-- how many whole units lie free in front of the first block of its file
abbrev pub lead_kept : {S : Type 0} → Kept S → ℕ
lead_kept (Lexical t) = lead_of t.store
lead_kept (Decimal t) = lead_of t.store

-- over these bytes its store holds this map
abbrev pub records_kept : {S : Type 0} → Kept S → List ℕ → Map → Type 0
records_kept (Lexical t) bytes m = holds t.store bytes m
records_kept (Decimal t) bytes m = holds t.store bytes m

-- ---- the numbers of a tree before a call and behind it, and its rows

-- this holds of them
abbrev pub OfTrees : {S : Type 0} → (TreeHead → TreeHead → ℕ → ℕ → Type 0) → Kept S → Kept S → Type 0
OfTrees P v v' = P (head_kept v) (head_kept v') (height_of v) (height_of v')

-- the order and both limits stay
pub record SameLimits (h k : TreeHead) : Type 0 where
  pub order : k.order ≡ h.order
  pub leaf : k.leaf_limit ≡ h.leaf_limit
  pub node : k.node_limit ≡ h.node_limit

-- all of them stay
pub record SameTree (h k : TreeHead) (rows rows' : ℕ) : Type 0 where
  pub head : k ≡ h
  pub high : rows' ≡ rows

-- no id is given, and the rows don't become more
pub record NoneMore (h k : TreeHead) (rows rows' : ℕ) : Type 0 where
  pub leaf_ids : k.leaf_ids ≡ h.leaf_ids
  pub node_ids : k.node_ids ≡ h.node_ids
  pub rows_most : rows' ≤ rows

-- ids and rows don't become fewer: two more leaves at most, as many nodes as there were rows, and one row
pub record FewMore (h k : TreeHead) (rows rows' : ℕ) : Type 0 where
  pub leaves_least : h.leaf_ids ≤ k.leaf_ids
  pub leaves_most : k.leaf_ids ≤ h.leaf_ids + 2
  pub nodes_least : h.node_ids ≤ k.node_ids
  pub nodes_most : k.node_ids ≤ h.node_ids + rows
  pub rows_least : rows ≤ rows'
  pub rows_most : rows' ≤ rows + 1

-- ---- what stays

-- the numbers of the file stay, and the limits of the tree; no more lies free in front of the first block than did
pub record KeepsHead {S : Type 0} (v v' : Kept S) : Type 0 where
  pub same : numbers_kept v' ≡ numbers_kept v
  pub lead : lead_kept v' ≤ lead_kept v
  pub limits : SameLimits (head_kept v) (head_kept v')

-- besides, so do all numbers of the tree, and its rows
pub record StaysKept {S : Type 0} (v v' : Kept S) : Type 0 where
  pub head : KeepsHead v v'
  pub same : OfTrees SameTree v v'

-- besides, no id is given, and no row comes
pub record LessKept {S : Type 0} (v v' : Kept S) : Type 0 where
  pub head : KeepsHead v v'
  pub ids : OfTrees NoneMore v v'

-- so it is but for the form
pub record FormsKept {S : Type 0} (form : Form) (v v' : Kept S) : Type 0 where
  pub numbers : numbers_kept v' ≡ in_form form (numbers_kept v)
  pub lead : lead_kept v' ≤ lead_kept v

-- the bytes are a tree file that stands for these pairs, and the region in its head tells these numbers of its tree and nothing else
pub record IsBroughtOf (h : TreeHead) (m : Held) (bytes : List ℕ) : Type 0 where
  pub stands : StandsTree bytes m
  pub numbers : head_of (head_in (take 256 bytes)).opaque ≡ h
  pub region : (head_in (take 256 bytes)).opaque ≡ region_bytes h

module _ {S : Type 0} (s : Ghosts S) where
  -- this is found in whatever is held
  abbrev pub Finds : {A E : Type 0} → Result A E → (Held → A) → Kept S → S → Type 0
  Finds result f kept space = IfOk result (λ x. (m : Held) → Means s kept space m → x ≡ f m)

  -- nothing is written, what is held stays, and what was packed is so still
  pub record LooksKept (v v' : Kept S) (old new : S) : Type 0 where
    pub reads : Reads s (Means s) v v' old new
    pub keeps : Keeps s old new
    pub stays : StaysKept v v'
    pub tight : KeepsTight tight_kept v v'

  -- each id that was given since is that of a record
  abbrev pub GivesRecords : Kept S → Kept S → S → Type 0
  GivesRecords v v' new = s.tells → (id : ℕ) → IsGiven (head_kept v') id → (IsGiven (head_kept v) id → ⊥) → (m : Map) → records_kept v' (s.now new 0) m → get m (key_of id) ≡ None → ⊥

  -- what one put leaves: few ids are given, each to a page; where it was refused none, or the space may not be used any more
  pub record GrowsKept {T E : Type 0} (result : Result T E) (v v' : Kept S) (new : S) : Type 0 where
    pub head : KeepsHead v v'
    pub ids : OfTrees FewMore v v'
    pub none : OnErr result ((s.flag new ≡ false) ⊎ OfTrees SameTree v v')
    pub pages : OnOk result (GivesRecords v v' new)

  -- the step was made in file 0, whose numbers stay, as the order does; or it fails, and nothing has changed
  pub record Makes (f : Held → Option (List Pair)) (done : Bool) (v v' : Kept S) (old new : S) : Type 0 where
    pub sound : s.sound new
    pub others : Others s (Only 0) old new
    pub numbers : KeepsHead v v'
    pub made : done ≡ true → (m : Held) → Means s v old m → (qs : List Pair) × (f m ≡ Some qs) × Means s v' new (m.0, qs)
    pub fails : done ≡ false → (m : Held) → Means s v old m → f m ≡ None
    pub same : done ≡ false → Reads s (Means s) v v' old new

  -- the bytes of all pairs were counted before, and they are so many behind the change
  abbrev pub CountsKept : (Held → List Pair) → Option ℕ → Kept S → S → ℕ → Type 0
  CountsKept f total kept old n = (k : ℕ) × (total ≡ Some k) × ((m : Held) → Means s kept old m → k ≡ bytes_in m.1 → n ≡ bytes_in (f m))

  -- a limit is reached, as the space stands, on the way from what is held to these pairs
  abbrev pub FillsTo : (Held → List Pair) → Kept S → S → S → Type 0
  FillsTo f kept old new = (m : Held) → Means s kept old m → FillsLists (s.limit new 0) (s.log_full new) (s.brought new) (s.now new 0) m.0 m.1 (f m)

  -- a packing had no room: the undo log is full, or what is held had none in the large form
  abbrev pub LacksFormed : Form → Kept S → S → S → Type 0
  LacksFormed form kept old new = (m : Held) → Means s kept old m → s.log_full new ⊎ ((form ≡ Large) × LacksLargeLists (s.limit new 0) (length (s.now new 0)) (s.brought new) (s.now old 0) m.0 m.1)

  -- file 0 stands for what is held, under the numbers of the tree
  abbrev pub BringsKept : Kept S → S → S → Type 0
  BringsKept kept old new = (m : Held) → Means s kept old m → IsBroughtOf (head_kept kept) m (s.now new 0)

  -- from which bytes it was packed, and in which form, from those in that form file 0 is packed now
  abbrev pub BringsTight : Kept S → S → S → Type 0
  BringsTight kept old new = (from : List ℕ) (form : Form) (m : Held) → tight_kept kept from form (s.now old 0) → Means s kept old m → IsPackedFrom from form (s.now new 0)

  -- it was packed in that form from the bytes that file 0 had
  abbrev pub PacksKept : Form → Kept S → Kept S → S → S → Type 0
  PacksKept form kept kept' old new = (m : Held) → Means s kept old m → tight_kept kept' (s.now old 0) form (s.now new 0)

  -- the numbers of file 0 stay, and it ends where its head says, in what holds something
  abbrev pub TrimsKept : Kept S → S → S → Type 0
  TrimsKept kept old new = (m : Held) → Means s kept old m → IsTrimmed (layout_in (s.now old 0)) (layout_in (s.now new 0))
