-- Heads of free blocks written into the bytes of a file.
use Rattle.std.specs.Prelude.{ℕ, ◌+◌, ◌-◌, ◌==◌, List, if◌then◌else◌}
use Rattle.tc_base.specs.Files.{wrote}
use Rattle.hf_block.specs.Heads.{free_head}

-- the bytes with a free block's head at a place
abbrev pub marked : ℕ → ℕ → List ℕ → List ℕ
marked place size bytes = wrote place (free_head size) bytes

-- a free block parted: what is left over behind the front has a head
abbrev pub parted : ℕ → ℕ → ℕ → List ℕ → List ℕ
parted place size found bytes = if found == size then bytes else marked (place + size) (found - size) bytes
