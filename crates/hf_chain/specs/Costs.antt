-- What a search costs.
use Rattle.std.specs.Prelude.{◌⊎◌, ℕ, ◌+◌, ◌-◌, ◌*◌, ◌^◌, ◌≤◌, length, List, Option}
use Rattle.tc_space.specs.declared.space.Space.{Ghosts}
use Rattle.hf_head.specs.declared.head.Head.{Head}
use Rattle.hf_block.specs.Pieces.{Piece}
use Rattle.hf_tree.specs.declared.parent.Parent.{Parent}
use Rattle.hf_tree.specs.Keys.{Key, bucket_of}
use Rattle.hf_tree.specs.Links.{HasBlocks, view_of}
use Rattle.hf_tree.specs.Trees.{Tree, nodes}
use Rattle.hf_tree.specs.Views.{Hangs}
use Rattle.hf_chain.specs.Chains.{InTree, IsHere, around}

-- the bytes that a step of a search for a key of so many bytes reads at most: an entry, or the front of a record and its key
abbrev pub step_most : ℕ → ℕ
step_most key = 96 + key

-- a counter of steps rose, and no more bytes were read than so many for each step, up to where the counter stops
pub record Paid (each steps steps' read read' : ℕ) : Type 0 where
  pub rises : steps ≤ steps'
  pub enough : (read' + each * steps ≤ read + each * steps') ⊎ (2 ^ 64 - 1 ≤ steps')

-- no more steps than so many, and no more bytes
pub record Within (most each steps steps' read read' : ℕ) : Type 0 where
  pub few : steps' ≤ steps + most
  pub short : read' ≤ read + most * each

-- ---- of a space

module _ {S : Type 0} (s : Ghosts S) where
  -- each step, and the bytes that a space was asked for
  abbrev pub PaidBy : ℕ → ℕ → ℕ → S → S → Type 0
  PaidBy each steps steps' old new = Paid each steps steps' (s.bytes_read old) (s.bytes_read new)

  abbrev pub WithinBy : ℕ → ℕ → ℕ → ℕ → S → S → Type 0
  WithinBy most each steps steps' old new = Within most each steps steps' (s.bytes_read old) (s.bytes_read new)

  -- the search for a key: one step more than records hang in its bucket
  abbrev pub CostsSearch : Head → List ℕ → ℕ → ℕ → ℕ → S → S → Type 0
  CostsSearch h key file steps steps' old new =
      (end : ℕ) (pieces : List Piece) (t : Tree) → InTree h end pieces (s.now old file) (bucket_of h.buckets key) t → WithinBy (1 + nodes t) (step_most (length key)) steps steps' old new

  -- a walk down whatever tree hangs at a place
  abbrev pub CostsWalk : Head → ℕ → ℕ → ℕ → ℕ → S → S → Type 0
  CostsWalk h at file steps steps' old new = (end : ℕ) (pieces : List Piece) (t : Tree) → HasBlocks h end pieces (s.now old file) → Hangs (view_of h pieces (s.now old file)) at t → WithinBy (nodes t) 40 steps steps' old new

  -- a record taken out: no more than as many heads as records hang in its bucket
  abbrev pub CostsOut : Head → ℕ → Parent → ℕ → ℕ → ℕ → S → S → Type 0
  CostsOut h at from file steps steps' old new =
      (end : ℕ) (pieces : List Piece) (places : Key → Option ℕ) (key : Key) → HasBlocks h end pieces (s.now old file) → (w : IsHere (view_of h pieces (s.now old file)) h.buckets places key at from)
      → WithinBy (around (view_of h pieces (s.now old file)) h.buckets places key at from w) 40 steps steps' old new
