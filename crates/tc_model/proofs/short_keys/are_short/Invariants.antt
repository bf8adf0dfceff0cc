use Rattle.std.proofs.Common.{◌≡◌, drop}
use Rattle.tc_model.specs.Meaning.{are_short}
use Rattle.tc_model.proofs.short_keys.are_short.Given as goal

abbrev pub invariant-loop-key : goal.invariant-loop-key
invariant-loop-key l = are_short l.keys ≡ are_short (drop l.key-index l.keys)
