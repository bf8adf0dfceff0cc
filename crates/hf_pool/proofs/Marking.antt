-- Heads of free blocks.
use Rattle.std.proofs.Common.{◌≡◌, ℕ, ◌+◌, ◌≤◌, List, [], ◌∷◌, ◌++◌, length, take, drop, arith, length-append, length-take, length-drop}
use Rattle.tc_base.specs.Endian.{le_bytes}
use Rattle.tc_base.specs.Files.{wrote}
use Rattle.hf_block.specs.Heads.{free_head}

pub head_is : (size : ℕ) (bytes : List ℕ) → bytes ≡ wrote 1 (le_bytes 4 size) (0xB0 ∷ 0 ∷ 0 ∷ 0 ∷ 0 ∷ []) → bytes ≡ free_head size
unfolding wrote le_bytes free_head
head_is size bytes e = e

pub wrote_longer : (at : ℕ) (new old : List ℕ) → at ≤ length old → length old ≤ length (wrote at new old)
unfolding wrote
wrote_longer at new old h =
    omega (arith, length-append (take at old ++ new) (drop (at + length new) old), length-append (take at old) new, length-take at old, length-drop (at + length new) old)
