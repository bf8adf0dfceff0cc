-- What an inspection tells of a tree file.
use Rattle.std.specs.Prelude.{◌≡◌, ℕ, Bool, List, [], ◌++◌, ◌∷◌, codes, take, if◌then◌else◌}
use Rattle.tc_base.specs.Files.{Files}
use Rattle.hf_head.specs.declared.head.Head.{Head}
use Rattle.hf_head.specs.Heads.{head_in, is_large, unit}
use Rattle.bt_rows.specs.declared.head.TreeHead.{TreeHead}
use Rattle.bt_rows.specs.Heads.{head_of}
use Rattle.tc_engine.specs.Lines.{line}
use Rattle.tc_treedb.specs.Filling.{HasTree}
use Rattle.tc_treedb.specs.Holding.{Held, StandsTree}

-- the large form is told
abbrev pub form_line : Bool → List ℕ
form_line large = if large then codes "option: large" ++ 10 ∷ [] else []

-- the numbers of the hash file
abbrev pub head_lines : Head → List ℕ
head_lines h = line (codes "bucket number: ") h.buckets ++ (line (codes "alignment: ") (unit h) ++ (line (codes "free pool power: ") h.fpow ++ (line (codes "file size: ") h.size ++ line (codes "first record: ") h.first)))

-- those of its tree
abbrev pub tree_lines : TreeHead → ℕ → List ℕ
tree_lines t height = line (codes "leaf limit: ") t.leaf_limit ++ (line (codes "node limit: ") t.node_limit ++ line (codes "height: ") height)

abbrev pub lines_of : Head → ℕ → List ℕ
lines_of h height = head_lines h ++ (tree_lines (head_of h.opaque) height ++ form_line (is_large h))

-- the bytes are a tree file that stands for some pairs, whose pages hold them in so many rows, and these are its lines, as its head says
pub record IsTold (bytes text : List ℕ) : Type 0 where
  pub held : Held
  pub stands : StandsTree bytes held
  pub numbers : TreeHead
  pub rows : ℕ
  pub tree : HasTree held.0 held.1 numbers rows bytes
  pub are : text ≡ lines_of (head_in (take 256 bytes)) rows

abbrev pub Lines : Files → List ℕ → Type 0
Lines files text = IsTold (files 0) text
