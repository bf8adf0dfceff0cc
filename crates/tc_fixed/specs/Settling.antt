-- The head of the file as it is to be.
use Rattle.std.specs.Prelude.{ℕ, List, take}
use Rattle.tc_base.specs.Files.{wrote}
use Rattle.hf_head.specs.declared.fixed.FixedHead.{FixedHead}
use Rattle.hf_head.specs.FixedHeads.{fixed_spelled}
use Rattle.tc_fixed.specs.declared.fixed.Fixed.{Fixed}
use Rattle.tc_fixed.specs.declared.tally.Tally.{Tally}
use Rattle.tc_fixed.specs.Cells.{blank, end_of, place, spelled, with_cell}

abbrev pub head_of : ℕ → ℕ → Tally → FixedHead
head_of width limit t = record { records = t.records; size = end_of width t.greatest; width = width; limit = limit; least = t.least; greatest = t.greatest }

-- that of a file without ids
abbrev pub new_head : ℕ → ℕ → FixedHead
new_head width limit = record { records = 0; size = 256; width = width; limit = limit; least = 0; greatest = 0 }

-- ---- the bytes of a file, behind what is written

module _ {S : Type 0} (f : Fixed S) where
  -- a settled file: its head, the cells up to the greatest id, and nothing behind them
  abbrev pub settled : List ℕ → List ℕ
  settled bytes = take (end_of f.width f.tally.greatest) (wrote 0 (fixed_spelled (head_of f.width f.limit f.tally)) bytes)

  -- the whole cell of an id, with zeros behind the value and in the cells between the last one and it
  abbrev pub with_value : ℕ → List ℕ → List ℕ → List ℕ
  with_value id value bytes = with_cell f.width f.tally.greatest id (spelled f.width value) bytes

  -- zeros in the whole cell of an id
  abbrev pub without_value : ℕ → List ℕ → List ℕ
  without_value id bytes = wrote (place f.width id) (blank f.width) bytes
