use Rattle.std.proofs.Common.{◌≡◌, ◌+◌, drop}
use Rattle.tc_model.specs.Stores.{bytes_of}
use Rattle.tc_model.specs.Rows.{texts_of}
use Rattle.tc_plain.proofs.reads.bytes_of_pairs.Given as goal

abbrev pub invariant-loop-pair : goal.invariant-loop-pair
invariant-loop-pair l = l.total + bytes_of (texts_of (drop l.pair-index l.pairs)) ≡ bytes_of (texts_of l.pairs)
