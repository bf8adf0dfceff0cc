-- What is known in memory of the bytes in front of a file's blocks.
use Rattle.std.specs.Prelude.{◌≡◌, ℕ, ◌≤◌, List, length, take, false, Option, None, Some}
use Rattle.hf_head.specs.declared.head.Head.{Head}
use Rattle.hf_pool.specs.declared.pool.Pool.{Pool}
use Rattle.hf_pool.specs.Pools.{frees}
use Rattle.tc_hash.specs.declared.front.Front.{Front}
use Rattle.tc_hash.specs.Sections.{IsSectionOf, filled, section_len, section_of}

-- these are the head, and the section up to a place from which on it has zeros
pub record IsFront (h : Head) (f : Front) (bytes : List ℕ) : Type 0 where
  pub head : take 256 bytes ≡ f.head
  pub few : length f.section ≤ section_len h
  pub section : section_of h bytes ≡ filled (section_len h) f.section

-- so it is, where they are known
abbrev pub ShowsFront : Head → Option Front → List ℕ → Type 0
ShowsFront h None bytes = Unit {0}
ShowsFront h (Some f) bytes = IsFront h f bytes

-- where no change of free blocks is noted, the section is that of the free blocks
abbrev pub ShowsFrees : Head → Pool → List ℕ → Type 0
ShowsFrees h pool bytes = pool.changed ≡ false → IsSectionOf h pool.unit (frees pool) (section_of h bytes)
