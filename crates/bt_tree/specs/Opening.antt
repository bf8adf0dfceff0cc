-- A tree that stands in a store, opened.
use Rattle.std.specs.Prelude.{◌≡◌, ◌⊎◌, ℕ, ◌+◌, ◌*◌, ◌≤◌, ◌<◌, List, Bool, false, Option, None, if◌then◌else◌}
use Rattle.std.specs.FinMap.{get, len}
use Rattle.tc_base.specs.Maps.{Map}
use Rattle.tc_base.specs.declared.kind.Rule.{Rule}
use Rattle.tc_base.specs.declared.order.Order.{Ghosts as Orders}
use Rattle.tc_base.specs.declared.seq.Pair.{Pair}
use Rattle.tc_space.specs.declared.errors.OpenErr.{OpenErr}
use Rattle.tc_space.specs.declared.errors.OpenErr.TheVariants.{Broken}
use Rattle.tc_space.specs.declared.records.Records.{Ghosts as Stores}
use Rattle.tc_space.specs.declared.space.Space.{Ghosts}
use Rattle.bt_rows.specs.declared.head.TreeHead.{TreeHead}
use Rattle.bt_rows.specs.Heads.{head_of}
use Rattle.bt_rows.specs.Orders.{before_by}
use Rattle.bt_rows.specs.Rules.{column as column_key}
use Rattle.bt_rows.specs.Standing.{TreeStands, tree_pairs}
use Rattle.bt_cache.specs.Effects.{SameStore}
use Rattle.bt_cache.specs.Held.{Holds}
use Rattle.bt_tree.specs.declared.tree.Tree.{Tree}
use Rattle.bt_check.specs.Verdicts.{Breaks}
use Rattle.bt_check.specs.Walks.{IsHigh}
use Rattle.bt_tree.specs.Meaning.{Means}
use Rattle.bt_tree.specs.Standing.{FileStands}

-- the order that a store's region tells is this one, or none
abbrev pub IsOrdered : {S V O : Type 0} → Stores V S → Orders O → V → Type 0
IsOrdered R o v = ((head_of (R.region v)).order ≡ o.CODE) ⊎ (1 < (head_of (R.region v)).order)

-- where it may stand beside the pages, this is the record `column` of whatever map a store holds
abbrev pub IsColumn : {S V : Type 0} → Ghosts S → Stores V S → Bool → V → S → Option (List ℕ) → Type 0
IsColumn s R index v space column = (m : Map) → Holds s R v space m → column ≡ (if index then get m column_key else None)

-- no rule is named
abbrev pub NamesNone : OpenErr → Type 0
NamesNone e = (g : ℕ) (rule : Rule) → e ≡ Broken g rule → ⊥

-- a map keeps all rules under a store's region, and the tree means the pairs that stand there, in as many rows, and tells the record `column`
pub record Opens {S V O : Type 0} (s : Ghosts S) (R : Stores V S) (o : Orders O) (h : TreeHead) (index : Bool) (t : Tree V O) (space : S) (m : Map) : Type 0 where
  pub stands : TreeStands (before_by o.cmp) h index (get m)
  pub means : Means s R o t space (tree_pairs stands)
  pub high : IsHigh stands.stand.pages h.root t.height
  pub column_is : t.column ≡ get m column_key

-- whatever map the store held, its tree is open, under the numbers of the region and in the store's file; each key was asked for twice at most, and `column` once more
pub record IsOpened {S V O : Type 0} (s : Ghosts S) (R : Stores V S) (o : Orders O) (index : Bool) (v : V) (t : Tree V O) (old new : S) : Type 0 where
  pub opens : (m : Map) → Holds s R v old m → Opens s R o (head_of (R.region v)) index t new m
  pub head_is : t.head ≡ head_of (R.region v)
  pub made : SameStore R v t.store
  pub asks : (m : Map) → Holds s R v old m → R.gets t.store ≤ R.gets v + 2 * len m + 1

-- a refusal that names a rule names the store's file and the first rule that doesn't hold of what it holds
abbrev pub BreaksIn : {S V O : Type 0} → Ghosts S → Stores V S → Orders O → Bool → V → S → OpenErr → Type 0
BreaksIn s R o index v space e = Breaks (before_by o.cmp) (head_of (R.region v)) index (R.file_of v) (Holds s R v space) e

-- ---- a file that was settled

-- a store holds the map of a file that stands for pairs, and has its type and region: it opened to that file
pub record IsFrom {S V O : Type 0} (s : Ghosts S) (R : Stores V S) {o : Orders O} {sort : ℕ} {fixed : List ℕ} {h : TreeHead} {height : ℕ} {column : Option (List ℕ)} {bytes : List ℕ} {ps : List Pair} (f : FileStands R o sort fixed h height column bytes ps) (v : V) (space : S) : Type 0 where
  pub held : Holds s R v space f.records
  pub sort_is : R.sort v ≡ sort
  pub region_is : R.region v ≡ f.region

-- where the record `column` isn't allowed there is none
abbrev pub IsAllowed : Bool → Option (List ℕ) → Type 0
IsAllowed index column = index ≡ false → column ≡ None

-- a tree that is opened in it means these pairs, tells that record and has as many rows
abbrev pub SettledOpens : {S V O : Type 0} → Ghosts S → Stores V S → Orders O → Type 0
SettledOpens {S} {V} {O} s R o =
    (sort : ℕ) (fixed : List ℕ) (h : TreeHead) (height : ℕ) (column : Option (List ℕ)) (bytes : List ℕ) (ps : List Pair) (f : FileStands R o sort fixed h height column bytes ps) (v : V) (t : Tree V O) (index : Bool) (old new : S) → IsFrom s R f v old
    → IsAllowed index column → IsOpened s R o index v t old new → Means s R o t new ps × (t.column ≡ column) × (t.height ≡ height)

-- and no rule is named
abbrev pub SettledKeepsRules : {S V O : Type 0} → Ghosts S → Stores V S → Orders O → Type 0
SettledKeepsRules {S} {V} s R o =
    (sort : ℕ) (fixed : List ℕ) (h : TreeHead) (height : ℕ) (column : Option (List ℕ)) (bytes : List ℕ) (ps : List Pair) (f : FileStands R o sort fixed h height column bytes ps) (v : V) (index : Bool) (old : S) (e : OpenErr) → IsFrom s R f v old
    → IsAllowed index column → BreaksIn s R o index v old e → NamesNone e
