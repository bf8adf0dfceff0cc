use Rattle.std.proofs.Common.{◌≡◌, fold}
use Rattle.tc_model.specs.Stores.{clear}
use Rattle.tc_memdb.specs.Holding.{contents_of}
use Rattle.tc_memdb.proofs.data.Data.clear_each.Given as goal

abbrev pub invariant-loop-key : goal.invariant-loop-key
invariant-loop-key l = contents_of l.self ≡ fold clear (contents_of l.fn.self) l.yielded
