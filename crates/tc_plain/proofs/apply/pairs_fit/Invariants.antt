use Rattle.std.proofs.Common.{◌≡◌, ◌+◌, drop}
use Rattle.tc_plain.proofs.Fitting.{pairs_size}
use Rattle.tc_plain.proofs.apply.pairs_fit.Given as goal

abbrev pub invariant-loop-pair : goal.invariant-loop-pair
invariant-loop-pair l = pairs_size l.pairs + l.room ≡ 67108859 + pairs_size (drop l.pair-index l.pairs)
