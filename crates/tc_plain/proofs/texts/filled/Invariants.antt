use Rattle.std.proofs.Common.{◌≡◌, ◌++◌, drop}
use Rattle.std.specs.Prelude.{filter}
use Rattle.tc_model.specs.Texts.{not_empty}
use Rattle.tc_plain.proofs.texts.filled.Given as goal

abbrev pub invariant-loop-text : goal.invariant-loop-text
invariant-loop-text l = l.found ++ filter not_empty (drop l.text-index l.texts) ≡ filter not_empty l.texts
