-- What is held in memory, brought to the file.
use Rattle.std.specs.Prelude.{◌≡◌, ℕ, List, length, take, false, Option, Some, None, IsSome}
use Rattle.tc_base.specs.Files.{wrote}
use Rattle.tc_base.specs.Maps.{Map}
use Rattle.tc_space.specs.Frames.{Others}
use Rattle.tc_space.specs.Stores.{Only}
use Rattle.tc_space.specs.declared.space.Space.{Ghosts}
use Rattle.hf_head.specs.declared.head.Head.{Head}
use Rattle.hf_head.specs.Heads.{head_in, sections, spelled}
use Rattle.hf_block.specs.Walks.{between}
use Rattle.hf_layout.specs.Frees.{Frees}
use Rattle.hf_pool.specs.Pools.{frees as frees_in}
use Rattle.hf_pool.specs.Trims.{Trimmed}
use Rattle.hf_tree.specs.Links.{array}
use Rattle.tc_hash.specs.declared.hash.Hash.{Hash}
use Rattle.tc_hash.specs.Holding.{Holds, HoldsMap}
use Rattle.tc_hash.specs.Keeping.{holds}
use Rattle.tc_hash.specs.Standing.{StandsWith}

-- with other bytes at a place, or as it is
abbrev pub patched : ℕ → Option (List ℕ) → List ℕ → List ℕ
patched at None bytes = bytes
patched at (Some section) bytes = wrote at section bytes

-- the head of the file as it is to be
abbrev pub head_now : Head → ℕ → ℕ → List ℕ → Head
head_now h records size region = record h { records = records; size = size; opaque = region }

-- what was held is held, the file stands for it, and its head is exactly this one, with the numbers that are held
pub record Brought (h : Head) (end : ℕ) (frees : Frees) (records : ℕ) (region : List ℕ) (m : Map) (bytes : List ℕ) : Type 0 where
  pub holds : Holds h end frees records m bytes
  pub stands : StandsWith h.kind bytes m region
  pub head : head_in (take 256 bytes) ≡ head_now h records end region
  pub spells : take 256 bytes ≡ spelled (head_now h records end region)

-- with what a hash file that is held open has in memory
abbrev pub IsBrought : {S : Type 0} → Hash S → Map → List ℕ → Type 0
IsBrought h m bytes = Brought h.body.head h.body.pool.size (frees_in h.body.pool) h.records h.region m bytes

-- nothing was changed but the head, the section and the length
pub record ChangesFront (h : Head) (size : ℕ) (old new : List ℕ) : Type 0 where
  pub long : length new ≡ size
  pub entries : array h new ≡ array h old
  pub gap : between (sections h) h.first new ≡ between (sections h) h.first old
  pub blocks : between h.first size new ≡ between h.first size old

-- free blocks at the end were dropped in memory, and over the same bytes the same map is held
pub record DropsEnd {S : Type 0} (v v' : Hash S) : Type 0 where
  pub same : (m : Map) (bytes : List ℕ) → HoldsMap v bytes m → HoldsMap v' bytes m
  pub dropped : Trimmed (frees_in v.body.pool) (frees_in v'.body.pool) v.body.pool.size v'.body.pool.size

-- what is held in memory was brought to the file, and other files stay; what stands in front of the blocks is known from then on, and that its section lists
-- the free blocks
pub record Settles {S : Type 0} (s : Ghosts S) (v v' : Hash S) (old new : S) : Type 0 where
  pub sound : s.sound new
  pub others : Others s (Only v.body.file) old new
  pub brought : s.tells → (m : Map) → holds v (s.now old v.body.file) m → IsBrought v' m (s.now new v.body.file)
  pub held : s.tells → (m : Map) → holds v (s.now old v.body.file) m → holds v' (s.now new v.body.file) m
  pub front : s.tells → ChangesFront v.body.head v'.body.pool.size (s.now old v.body.file) (s.now new v.body.file)
  pub known : IsSome v'.front
  pub noted : v'.body.pool.changed ≡ false
