use Rattle.std.proofs.Common.{◌≡◌, ◌++◌, drop}
use Rattle.tc_model.specs.Rows.{texts_of}
use Rattle.tc_plain.proofs.rows.texts_of.Given as goal

abbrev pub invariant-loop-pair : goal.invariant-loop-pair
invariant-loop-pair l = l.found ++ texts_of (drop l.pair-index l.pairs) ≡ texts_of l.pairs
