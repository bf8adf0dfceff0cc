-- A tree opened in a hash file, or made in one.
use Rattle.std.specs.Prelude.{◌≡◌, ◌≤◌, [], Bool, false}
use Rattle.std.specs.FinMap.{empty, get}
use Rattle.tc_base.specs.Maps.{Map}
use Rattle.tc_base.specs.Orders.{order}
use Rattle.tc_space.specs.Frames.{Others}
use Rattle.tc_space.specs.Stores.{Only}
use Rattle.tc_space.specs.declared.errors.OpenErr.{OpenErr}
use Rattle.tc_space.specs.declared.space.Space.{Ghosts}
use Rattle.bt_check.specs.Verdicts.{Breaks}
use Rattle.bt_rows.specs.Heads.{head_of}
use Rattle.bt_rows.specs.Orders.{Before, before_by}
use Rattle.bt_rows.specs.Standing.{TreeStands, tree_pairs}
use Rattle.bt_tree.specs.Numbers.{lone_head}
use Rattle.tc_hash.specs.declared.hash.Hash.{Hash}
use Rattle.tc_hash.specs.Creating.{new_bytes}
use Rattle.tc_hash.specs.Keeping.{holds, lead_of, numbers_of}
use Rattle.tc_treedb.specs.Holding.{Means, StandsTree, code_of, is_decimal}
use Rattle.tc_treedb.specs.Kept.{head_kept, lead_kept, numbers_kept}
use Rattle.tc_treedb.specs.Shapes.{IsNewIn, Shaped}
use Rattle.tc_treedb.specs.declared.kept.Kept.{Kept}
use Rattle.tc_treedb.specs.declared.shape.TreeShape.{TreeShape}

module _ {S : Type 0} (s : Ghosts S) where
  -- with the bytes that file 0 has now
  abbrev pub HoldsNow : Hash S → S → Map → Type 0
  HoldsNow hash space m = s.tells × holds hash (s.now space 0) m

  -- the space may be used, and a hash file of trees is open in file 0
  pub record CanOpenHash (hash : Hash S) (space : S) : Type 0 where
    pub sound : s.sound space
    pub file : hash.body.file ≡ 0
    pub kind : hash.body.head.kind ≡ 1
    pub held : s.tells → (m : Map) × holds hash (s.now space 0) m

  -- the order that the region tells; where it tells none, that of bytes
  abbrev pub told_decimal : Hash S → Bool
  told_decimal hash = is_decimal (head_of hash.region).order

  abbrev pub told_order : Hash S → Before
  told_order hash = before_by (order (told_decimal hash))

  -- a map that was held keeps all rules of a tree, and its pairs are held
  pub record OpensPairs (hash : Hash S) (kept : Kept S) (new : S) (m : Map) : Type 0 where
    pub stands : TreeStands (told_order hash) (head_of hash.region) false (get m)
    pub means : Means s kept new (told_decimal hash, tree_pairs stands)

  -- its tree has the numbers that the region tells, and so it is of whatever was held
  pub record OpensKept (hash : Hash S) (old new : S) (kept : Kept S) : Type 0 where
    pub head : head_kept kept ≡ head_of hash.region
    pub opens : (m : Map) → HoldsNow hash old m → OpensPairs hash kept new m

  -- a rule that is named is the first of trees that what is held breaks
  abbrev pub BreaksTree : Hash S → S → OpenErr → Type 0
  BreaksTree hash space e = Breaks (told_order hash) (head_of hash.region) false 0 (HoldsNow hash space) e

  -- ---- made anew

  -- the space may be used, and a hash file of trees without records is open in file 0, as it was made with the numbers of a shape
  pub record HoldsNewHash (shape : TreeShape) (hash : Hash S) (space : S) : Type 0 where
    pub sound : s.sound space
    pub file : hash.body.file ≡ 0
    pub new : IsNewIn shape hash.body.head
    pub held : s.tells → holds hash (s.now space 0) empty
    pub made : s.tells → s.now space 0 ≡ new_bytes hash.body.head

  -- no pairs are held in the order of a shape, in a tree of one leaf and of such limits, in a file with the numbers of that hash file
  pub record IsNewKept (shape : TreeShape) (hash : Hash S) (old new : S) (kept : Kept S) : Type 0 where
    pub sound : s.sound new
    pub others : Others s (Only 0) old new
    pub means : s.tells → Means s kept new (shape.decimal, [])
    pub numbers : numbers_kept kept ≡ numbers_of hash
    pub lead : lead_kept kept ≤ lead_of hash
    pub head : head_kept kept ≡ lone_head (code_of shape.decimal) shape.leaf_limit shape.node_limit

  -- besides, the file stands for them, and tells the numbers of the shape
  pub record IsSettledNew (shape : TreeShape) (old new : S) (kept : Kept S) : Type 0 where
    pub sound : s.sound new
    pub others : Others s (Only 0) old new
    pub means : s.tells → Means s kept new (shape.decimal, [])
    pub stands : s.tells → StandsTree (s.now new 0) (shape.decimal, [])
    pub shaped : s.tells → Shaped shape (s.now new)
