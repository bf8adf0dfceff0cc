-- The free blocks of an index.
use Rattle.std.specs.Ordering.{nat_cmp}
use Rattle.std.specs.BTreeMap as tree
use Rattle.hf_layout.specs.Frees.{Frees}
use Rattle.hf_pool.specs.declared.index.Index.{Index}

abbrev pub found_in : Index → Frees
found_in index = λ q. tree.get nat_cmp index.by_place q
