-- The numbers in the opaque region. Each has the least byte first.
use Rattle.std.specs.Prelude.{ℕ, List, slice_index}
use Rattle.tc_base.specs.Endian.{le_number, field}
use Rattle.bt_rows.specs.declared.head.TreeHead.{TreeHead}

abbrev pub number_at : ℕ → ℕ → List ℕ → ℕ
number_at at width opaque = le_number (field at width opaque)

abbrev pub head_of : List ℕ → TreeHead
head_of opaque = record {
  order = slice_index opaque 0;
  leaf_limit = number_at 8 4 opaque;
  node_limit = number_at 12 4 opaque;
  root = number_at 16 8 opaque;
  first = number_at 24 8 opaque;
  last = number_at 32 8 opaque;
  leaf_ids = number_at 40 8 opaque;
  node_ids = number_at 48 8 opaque;
  pairs = number_at 56 8 opaque;
}
