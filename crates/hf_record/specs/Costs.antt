-- What calls write, and what they read.
use Rattle.std.specs.Prelude.{◌≡◌, ℕ, ◌≤◌, ◌==◌, List, ◌∷◌, length, filter, take}
use Rattle.std.specs.FinMap.{keys}
use Rattle.tc_base.specs.Maps.{Map}
use Rattle.tc_space.specs.Frames.{Others}
use Rattle.tc_space.specs.Stores.{Only}
use Rattle.tc_space.specs.declared.space.Space.{Ghosts}
use Rattle.hf_head.specs.declared.head.Head.{Head}
use Rattle.hf_pool.specs.Pools.{Notes}
use Rattle.hf_tree.specs.Keys.{bucket_of}
use Rattle.hf_chain.specs.Differs.{Ranges, DifferIn, section_in, total}
use Rattle.hf_record.specs.declared.body.Body.{Body}

-- outside some ranges, of so many bytes in all, each byte is as before
pub record FewDiffer (most : ℕ) (old new : List ℕ) : Type 0 where
  pub ranges : Ranges
  pub few : total ranges ≤ most
  pub differ : DifferIn ranges old new

-- outside some bytes at a place, and ranges of so many bytes in all, each byte is as before
pub record FewBeside (place size most : ℕ) (old new : List ℕ) : Type 0 where
  pub ranges : Ranges
  pub few : total ranges ≤ most
  pub differ : DifferIn ((place, size) ∷ ranges) old new

-- one file was written, so many bytes of it at most
pub record Edits {S : Type 0} (s : Ghosts S) (file most : ℕ) (old new : S) : Type 0 where
  pub others : Others s (Only file) old new
  pub few : s.tells → FewDiffer most (s.now old file) (s.now new file)

-- the head stands there as before, and so does what stands between the bucket array and the first block
pub record LeavesFront (h : Head) (old new : List ℕ) : Type 0 where
  pub head : take 256 new ≡ take 256 old
  pub behind_array : section_in h new ≡ section_in h old

-- records were changed, and no more than so many bytes of their file: not its head nor its pool section. A change of free blocks is noted
pub record Spares {S : Type 0} (s : Ghosts S) (most : ℕ) (old new : Body) (before after : S) : Type 0 where
  pub edits : Edits s old.file most before after
  pub front : s.tells → LeavesFront old.head (s.now before old.file) (s.now after old.file)
  pub notes : Notes old.pool new.pool

-- how many keys of a map are in a bucket
abbrev pub in_bucket : ℕ → ℕ → Map → ℕ
in_bucket buckets b m = length (filter (λ k. bucket_of buckets k == b) (keys m))
