-- The head of the block at the front of bytes, read from left to right.
use Rattle.std.specs.Prelude.{ℕ, ◌+◌, ◌*◌, List, length, Ok, Err, ◌==◌, if◌then◌else◌}
use Rattle.tc_base.specs.declared.fields.NotWhole.TheVariants.{Bad}
use Rattle.tc_base.specs.Reading.{Front, ◌>>=◌, byte_at, both, mapped}
use Rattle.tc_base.specs.Endian.{le_front}
use Rattle.tc_base.specs.Vnum.{vnum, vnum_front}
use Rattle.hf_block.specs.declared.block.Block.{Block}
use Rattle.hf_block.specs.declared.block.Block.TheVariants.{Rec, Free}

abbrev pub Fields : Type 0
Fields = ℕ × (ℕ × (ℕ × (ℕ × (ℕ × ℕ))))

abbrev pub rec_of : ℕ → Fields → Block
rec_of wide f = Rec f.0 f.1.0 f.1.1.0 f.1.1.1.0 f.1.1.1.1.0 f.1.1.1.1.1 (4 + 2 * wide + length (vnum f.1.1.1.1.0) + length (vnum f.1.1.1.1.1))

abbrev pub fields_front : ℕ → List ℕ → Front Fields
fields_front wide = both (le_front 1) (both (le_front wide) (both (le_front wide) (both (le_front 2) (both vnum_front vnum_front))))

unfoldable pub rec_front : ℕ → List ℕ → Front Block
rec_front wide bytes = mapped (rec_of wide) (fields_front wide) bytes

-- a size of 0 is none
abbrev pub sized : ℕ → List ℕ → Front Block
sized size rest = if size == 0 then Err Bad else Ok (Free size, rest)

unfoldable pub free_front : List ℕ → Front Block
free_front bytes = le_front 4 bytes >>= λ size. sized size.0 size.1

abbrev pub kind_front : ℕ → ℕ → List ℕ → Front Block
kind_front wide tag rest = if tag == 0xC8 then rec_front wide rest else (if tag == 0xB0 then free_front rest else Err Bad)

unfoldable pub block_front : ℕ → List ℕ → Front Block
block_front wide bytes = byte_at bytes >>= λ tag. kind_front wide tag.0 tag.1
