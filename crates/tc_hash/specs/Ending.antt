-- How many bytes hold nothing at the end of a file.
use Rattle.std.specs.Prelude.{ℕ, zero, suc, List, [], ◌∷◌, ◌+◌, ◌-◌, Option, Some, None, Ok, Err, drop, if◌then◌else◌, length, take}
use Rattle.tc_base.specs.Reading.{Front}
use Rattle.hf_head.specs.declared.head.Head.{Head}
use Rattle.hf_head.specs.Heads.{head_in}
use Rattle.hf_block.specs.declared.block.Block.{Block}
use Rattle.hf_block.specs.Fronts.{block_front}
use Rattle.hf_block.specs.Walks.{between, is_free_block, total}
use Rattle.hf_tree.specs.Links.{width}

-- the head of the block at the front of bytes, where one stands there
abbrev pub block_in : Front Block → Option Block
block_in (Ok x) = Some x.0
block_in (Err e) = None

abbrev pub next_block : ℕ → List ℕ → Option Block
next_block wide [] = None
next_block wide (b ∷ bytes) = block_in (block_front wide (b ∷ bytes))

-- how many bytes are free up to the end of a block, where so many are in front of it: behind a record none
abbrev pub free_up_to : ℕ → Option Block → ℕ
free_up_to run None = run
free_up_to run (Some b) = if is_free_block b then run + total b else 0

-- the bytes behind it
abbrev pub behind : Option Block → List ℕ → List ℕ
behind None bytes = bytes
behind (Some b) bytes = drop (total b) bytes

-- how many bytes are free at the end of blocks, of which there are at most so many, with chains of that many bytes, where so many are free in front of them
abbrev pub free_at_end : ℕ → ℕ → ℕ → List ℕ → ℕ
free_at_end zero wide run bytes = run
free_at_end (suc most) wide run bytes = free_at_end most wide (free_up_to run (next_block wide bytes)) (behind (next_block wide bytes) bytes)

-- the bytes of the free blocks behind the last record of a file, up to the size that its head says; behind the place of the first block, where it has no record
abbrev pub free_end : Head → List ℕ → ℕ
free_end h bytes = free_at_end (h.size - h.first) (width h) 0 (between h.first h.size bytes)

-- by its head, how many bytes hold nothing at the end of a file: those behind the file size that it says, and free blocks in front of that
abbrev pub slack_by : Head → List ℕ → ℕ
slack_by h bytes = (length bytes - h.size) + free_end h bytes

abbrev pub slack_in : List ℕ → ℕ
slack_in [] = 0
slack_in (b ∷ bytes) = slack_by (head_in (take 256 (b ∷ bytes))) (b ∷ bytes)
