-- A file made anew, by its numbers.
use Rattle.std.specs.Prelude.{◌≡◌, ◌⊎◌, ℕ, ◌+◌, ◌<◌, ◌≤◌, false, List, [], length, take}
use Rattle.std.specs.FinMap.{empty}
use Rattle.std.proofs.Common.{inl, inr, ⊎_elim, subst}
use Rattle.tc_base.specs.Files.{Files}
use Rattle.tc_base.specs.Maps.{Map}
use Rattle.tc_space.specs.Changes.{out_of}
use Rattle.tc_space.specs.declared.space.Space.{Ghosts}
use Rattle.hf_block.specs.Written.{block_len}
use Rattle.hf_head.specs.declared.head.Head.{Head}
use Rattle.hf_head.specs.Heads.{head_in, is_large, sections, unit}
use Rattle.hf_record.specs.Fields.{HasFields}
use Rattle.hf_tree.specs.Links.{width}
use Rattle.bt_page.specs.Keys.{key_of}
use Rattle.bt_page.specs.Limits.{IsLimit}
use Rattle.bt_page.specs.Pages.{leaf_bytes}
use Rattle.bt_rows.specs.Heads.{head_of}
use Rattle.bt_tree.specs.Making.{lone_leaf}
use Rattle.bt_tree.specs.Numbers.{lone_head}
use Rattle.bt_tree.specs.Standing.{region_bytes}
use Rattle.tc_hash.specs.Creating.{HasNoRoom, IsNew, MayBe}
use Rattle.tc_hash.specs.Ending.{free_end}
use Rattle.tc_hash.specs.Keeping.{HasNoBlock}
use Rattle.tc_hash.specs.Standing.{lead_in, numbers_in}
use Rattle.tc_model.specs.Contents.{Contents, tree}
use Rattle.tc_treedb.specs.Holding.{code_of}
use Rattle.tc_treedb.specs.declared.shape.TreeShape.{TreeShape}

-- the numbers of a file that an opening makes
abbrev pub usual : TreeShape
usual = record { decimal = false; leaf_limit = 128; node_limit = 256; buckets = 32749; apow = 8; fpow = 10; large = false }

-- they are in their ranges
pub record MayHave (shape : TreeShape) : Type 0 where
  pub file : MayBe 1 shape.apow shape.fpow shape.buckets
  pub leaf : IsLimit shape.leaf_limit
  pub node : IsLimit shape.node_limit

-- a head without blocks has those of the file
abbrev pub IsNewIn : TreeShape → Head → Type 0
IsNewIn shape h = IsNew 1 shape.apow shape.fpow shape.buckets shape.large h

-- a head has them, nothing lies free in front of its first block, and its region tells those of a tree with no pairs and nothing else
pub record HasNumbers (shape : TreeShape) (h : Head) : Type 0 where
  pub kind_is : h.kind ≡ 1
  pub apow_is : h.apow ≡ shape.apow
  pub fpow_is : h.fpow ≡ shape.fpow
  pub buckets_is : h.buckets ≡ shape.buckets
  pub options_most : h.options ≤ 1
  pub form : is_large h ≡ shape.large
  pub code : (head_of h.opaque).order ≡ code_of shape.decimal
  pub leaf : (head_of h.opaque).leaf_limit ≡ shape.leaf_limit
  pub node : (head_of h.opaque).node_limit ≡ shape.node_limit
  pub lead : lead_in h ≡ 0
  pub region : h.opaque ≡ region_bytes (lone_head (code_of shape.decimal) shape.leaf_limit shape.node_limit)

-- and so does that of file 0, which ends where it says, in what holds something
pub record Shaped (shape : TreeShape) (files : Files) : Type 0 where
  pub numbers : HasNumbers shape (head_in (take 256 (files 0)))
  pub long : length (files 0) ≡ (head_in (take 256 (files 0))).size
  pub none_free : free_end (head_in (take 256 (files 0))) (files 0) ≡ 0

-- no data
abbrev pub anew : TreeShape → Contents
anew shape = tree false shape.decimal []

-- with these bytes a hash file with the numbers of this head has nothing in front of its first block but its sections, it holds no record, and no block is to be had for
-- that of the one leaf
pub record LacksLone (limit : ℕ) (bytes : List ℕ) (head : Head) : Type 0 where
  pub own : Head
  pub fields : HasFields own
  pub same : numbers_in own ≡ numbers_in head
  pub least : own.first < sections own + unit own
  pub held : Map
  pub kept : (held ≡ empty) ⊎ (held ≡ out_of (key_of 1) empty)
  pub none : HasNoBlock limit bytes own held (block_len (width own) (key_of 1) (leaf_bytes lone_leaf) (unit own))

-- the head, the buckets and the pool pass a limit of so many bytes, or what a head can name, or the undo log is full; or in the file that they are, as it was brought to
-- where it is kept, no block was to be had for the record of the one leaf
pub record LacksNew (limit : ℕ) (log_is_full brought : Type 0) (bytes : List ℕ) (shape : TreeShape) : Type 0 where
  pub head : Head
  pub new : IsNewIn shape head
  pub passes : HasNoRoom limit log_is_full head.first ⊎ (brought × LacksLone limit bytes head)

-- with the limit and the bytes of file 0 as the space stands
abbrev pub Lacks : {S : Type 0} → Ghosts S → S → TreeShape → Type 0
Lacks s space shape = LacksNew (s.limit space 0) (s.log_full space) (s.brought space) (s.now space 0) shape

-- in a file that the bytes were brought to
pub new_moved : (limit : ℕ) (log_is_full brought other : Type 0) (bytes shown : List ℕ) (shape : TreeShape) → (brought → other) → (brought → bytes ≡ shown) → LacksNew limit log_is_full brought bytes shape → LacksNew limit log_is_full other shown shape
new_moved limit log_is_full brought other bytes shown shape too same lacks = record {
  head = lacks.head;
  new = lacks.new;
  passes = ⊎_elim (λ none. inl none) (λ x. inr (too x.0, subst (λ (b : List ℕ). LacksLone limit b lacks.head) (same x.0) x.1)) lacks.passes;
}
