-- A file holds one map.
use Rattle.std.proofs.Common.{◌≡◌, ◌∙◌, ℕ, List, sym, ap}
use Rattle.tc_base.specs.Maps.{Map}
use Rattle.tc_space.specs.declared.space.Space.{Ghosts}
use Rattle.hf_head.specs.declared.head.Head.{Head}
use Rattle.hf_head.specs.Heads.{unit}
use Rattle.hf_pool.specs.Pools.{frees}
use Rattle.hf_layout.specs.Frees.{Frees}
use Rattle.hf_tree.specs.Links.{HasBlocks, links_of}
use Rattle.hf_record.specs.Holding.{HasMap}
use Rattle.tc_hash.specs.Keeping.{HoldsOne}
use Rattle.tc_hash.proofs.Keyed.{map_of, map_same, single}
use Rattle.tc_hash.proofs.Unique.{one_blocks}

module _ (h : Head) (end : ℕ) (own : Frees) (bytes : List ℕ) where
  -- it is that of its blocks
  by_blocks : (m : Map) (z : HasMap h end own m bytes) → m ≡ map_of z.pieces
  by_blocks m z = map_same (unit h) h.first z.pieces m z.is.laid.filled.whole (single (links_of h z.pieces bytes) h.first z.pieces h.buckets z.places z.is.hang) z.is.map

  blocks : (m : Map) (z : HasMap h end own m bytes) → HasBlocks h end z.pieces bytes
  blocks m z = record { on = z.is.laid.on; within = z.is.laid.within; filled = z.is.laid.filled; widths = z.is.widths }

  pub one_of : (m n : Map) → HasMap h end own m bytes → HasMap h end own n bytes → m ≡ n
  one_of m n p q = by_blocks m p ∙ ap map_of (one_blocks h end p.pieces q.pieces bytes (blocks m p) (blocks n q)) ∙ sym (by_blocks n q)

pub one_map : {S : Type 0} (s : Ghosts S) → HoldsOne s
one_map s h a m n x y = one_of h.body.head h.body.pool.size (frees h.body.pool) (s.now a h.body.file) m n x.1.map.has y.1.map.has
