-- What a hash file holds.
use Rattle.std.specs.Prelude.{◌≡◌, ℕ, ◌^◌, ◌≤◌, List, Option}
use Rattle.std.specs.FinMap.{get}
use Rattle.tc_base.specs.Maps.{Map}
use Rattle.hf_head.specs.declared.head.Head.{Head}
use Rattle.hf_head.specs.Heads.{unit}
use Rattle.hf_block.specs.Pieces.{Piece}
use Rattle.hf_layout.specs.Frees.{Frees, none}
use Rattle.hf_layout.specs.Layout.{record_at, HaveWidth, LaidOut}
use Rattle.hf_pool.specs.Pools.{frees as frees_in}
use Rattle.hf_tree.specs.declared.parent.Found.{Found}
use Rattle.hf_tree.specs.declared.parent.Parent.TheVariants.{Bucket}
use Rattle.hf_tree.specs.Keys.{Key, bucket_of}
use Rattle.hf_tree.specs.Trees.{seek}
use Rattle.hf_tree.specs.Links.{links_of, width}
use Rattle.hf_tree.specs.Standing.{IsMapOf, AllHang}
use Rattle.hf_record.specs.declared.body.Body.{Body}

-- up to an end the blocks are the pool's and the records', all records hang from the buckets at these places, and they are this map
pub record IsHeld (h : Head) (end : ℕ) (ps : List Piece) (frees : Frees) (places : Key → Option ℕ) (m : Map) (bytes : List ℕ) : Type 0 where
  pub laid : LaidOut (unit h) h.first end ps frees none bytes
  pub widths : HaveWidth (width h) h.first ps
  pub hang : AllHang (links_of h ps bytes) (record_at h.first ps) h.buckets places
  pub map : IsMapOf (record_at h.first ps) (get m)

-- so it is, with some blocks and places
pub record HasMap (h : Head) (end : ℕ) (frees : Frees) (m : Map) (bytes : List ℕ) : Type 0 where
  pub pieces : List Piece
  pub places : Key → Option ℕ
  pub is : IsHeld h end pieces frees places m bytes
  pub short : end ≤ 2 ^ 40

-- with the head, the end and the free blocks that are held in memory
abbrev pub Has : Body → List ℕ → Map → Type 0
Has b bytes m = HasMap b.head b.pool.size (frees_in b.pool) m bytes

-- the search for a key ends so, whatever the blocks and trees are taken to be
pub record IsSearched (h : Head) (key : Key) (f : Found) (bytes : List ℕ) : Type 0 where
  pub ends : (end : ℕ) (ps : List Piece) (frees : Frees) (places : Key → Option ℕ) (m : Map) (w : IsHeld h end ps frees places m bytes) → seek (Bucket (bucket_of h.buckets key)) (w.hang.holds.trees (bucket_of h.buckets key)) key ≡ f
