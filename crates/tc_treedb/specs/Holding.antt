-- What the engine of a tree database holds, and what its files stand for.
use Rattle.std.specs.Prelude.{◌≡◌, ◌⊎◌, ℕ, ◌==◌, Bool, true, false, List, [], IfSome, None, if◌then◌else◌}
use Rattle.std.specs.FinMap.{get}
use Rattle.tc_base.specs.Files.{Files}
use Rattle.tc_base.specs.Maps.{Map}
use Rattle.tc_base.specs.Orders.{order}
use Rattle.tc_base.specs.declared.kind.Form.{Form}
use Rattle.tc_base.specs.declared.kind.Kind.{Kind}
use Rattle.tc_base.specs.declared.kind.Kind.TheVariants as kind
use Rattle.tc_base.specs.declared.kind.Rule.{Rule}
use Rattle.tc_base.specs.declared.seq.Pair.{Pair}
use Rattle.tc_space.specs.declared.space.Space.{Ghosts}
use Rattle.hf_tree.specs.Rules.{rule_l}
use Rattle.bt_cache.specs.Held.{AreSame}
use Rattle.bt_check.specs.Verdicts.{IsFirstBroken}
use Rattle.bt_rows.specs.Heads.{head_of}
use Rattle.bt_rows.specs.Orders.{before_by}
use Rattle.bt_rows.specs.Standing.{TreeStands, tree_pairs}
use Rattle.bt_tree.specs.Trees.{HoldsPairs as HoldsTree}
use Rattle.bt_tree.specs.declared.tree.Tree.{Tree}
use Rattle.tc_hash.specs.declared.hash.Hash.{Hash}
use Rattle.tc_hash.specs.Keeping.{holds}
use Rattle.tc_hash.specs.Opening.{IsBroken}
use Rattle.tc_hash.specs.Repacking.{WasPacked}
use Rattle.tc_hash.specs.Standing.{StandsWith}
use Rattle.tc_model.specs.Contents.{Contents, tree}
use Rattle.tc_treedb.specs.Reading.{bytes_in}
use Rattle.tc_treedb.specs.declared.holding.TreeEngine.{TreeEngine}
use Rattle.tc_treedb.specs.declared.kept.Kept.{Kept}
use Rattle.tc_treedb.specs.declared.kept.Kept.TheVariants.{Lexical, Decimal}

-- whether keys are ordered by their numbers, and the pairs in that order
abbrev pub Held : Type 0
Held = Bool × List Pair

-- the byte of an order, and the order of a byte: another than 0 and 1 is a broken rule in either
abbrev pub code_of : Bool → ℕ
code_of decimal = if decimal then 1 else 0

abbrev pub is_decimal : ℕ → Bool
is_decimal code = code == 1

-- ---- a tree that is open

-- over the bytes of file 0, a tree file without the record `column`, a tree holds these pairs in an order
pub record HoldsOver {S O : Type 0} (decimal : Bool) (t : Tree (Hash S) O) (bytes : List ℕ) (ps : List Pair) : Type 0 where
  pub file : t.store.body.file ≡ 0
  pub kind : t.store.body.head.kind ≡ 1
  pub column : t.column ≡ None
  pub records : Map
  pub store : holds t.store bytes records
  pub same : AreSame records t.cache.pages.entries
  pub code : t.head.order ≡ code_of decimal
  pub is : HoldsTree (before_by (order decimal)) t.head t.height None (get records) ps

abbrev pub HoldsKept : {S : Type 0} → Kept S → List ℕ → Held → Type 0
HoldsKept (Lexical t) bytes m = (m.0 ≡ false) × HoldsOver false t bytes m.1
HoldsKept (Decimal t) bytes m = (m.0 ≡ true) × HoldsOver true t bytes m.1

-- with the bytes that file 0 has now
abbrev pub Means : {S : Type 0} → Ghosts S → Kept S → S → Held → Type 0
Means s kept space m = s.tells × HoldsKept kept (s.now space 0) m

-- its hash file was packed in a form from one with the first bytes, and has the others
abbrev pub tight_kept : {S : Type 0} → Kept S → List ℕ → Form → List ℕ → Type 0
tight_kept (Lexical t) from form bytes = WasPacked t.store from form bytes
tight_kept (Decimal t) from form bytes = WasPacked t.store from form bytes

-- the contents are these pairs, and what was counted of them is so
pub record HoldsPairs {S : Type 0} (e : TreeEngine S) (files : Files) (c : Contents) : Type 0 where
  pub held : Held
  pub is : c ≡ tree false held.0 held.1
  pub holds_it : HoldsKept e.kept (files 0) held
  pub counted : IfSome e.total (λ n. n ≡ bytes_in held.1)

-- ---- a file

-- the bytes are a tree file that stands for these pairs, in the order that it tells
pub record StandsTree (bytes : List ℕ) (m : Held) : Type 0 where
  pub records : Map
  pub region : List ℕ
  pub file : StandsWith 1 bytes records region
  pub code : (head_of region).order ≡ code_of m.0
  pub stands : TreeStands (before_by (order m.0)) (head_of region) false (get records)
  pub are : m.1 ≡ tree_pairs stands

pub record IsFileOf (files : Files) (c : Contents) : Type 0 where
  pub held : Held
  pub is : c ≡ tree false held.0 held.1
  pub stands : StandsTree (files 0) held

-- an empty file stands for no data, in the order of bytes
abbrev pub Reopens : Files → Contents → Type 0
Reopens files c = ((files 0 ≡ []) × (c ≡ tree false false [])) ⊎ IsFileOf files c

-- ---- when it isn't opened

-- a hash file whose records break this rule of trees first
pub record BreaksTree (bytes : List ℕ) (rule : Rule) : Type 0 where
  pub records : Map
  pub region : List ℕ
  pub file : StandsWith 1 bytes records region
  pub broken : IsFirstBroken (before_by (order (is_decimal (head_of region).order))) (head_of region) false (get records) rule

-- the first rule that file 0 breaks, if it isn't empty: one of hash files, else one of trees
pub record BreaksRule (files : Files) (file : ℕ) (rule : Rule) : Type 0 where
  pub in_main : file ≡ 0
  pub some : files 0 ≡ [] → ⊥
  pub broken : IsBroken 1 (files 0) rule ⊎ BreaksTree (files 0) rule

-- no file is opened as another kind: its head would have to be another
abbrev pub BreaksAs : Kind → Files → ℕ → Rule → Type 0
BreaksAs kind.Tree files file rule = BreaksRule files file rule
BreaksAs _ files file rule = (file ≡ 0) × (rule ≡ rule_l 1)
