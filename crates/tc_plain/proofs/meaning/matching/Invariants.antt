use Rattle.std.proofs.Common.{◌≡◌, ◌++◌}
use Rattle.std.specs.Prelude.{filter}
use Rattle.tc_model.specs.Search.{holds}
use Rattle.tc_plain.proofs.meaning.matching.Given as goal

abbrev pub invariant-loop-key : goal.invariant-loop-key
invariant-loop-key l = l.found ++ filter (holds l.q) l.key-iterator ≡ filter (holds l.q) l.initial.key-iterator
