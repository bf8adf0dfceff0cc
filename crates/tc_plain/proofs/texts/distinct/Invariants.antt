use Rattle.std.proofs.Common.{◌≡◌, drop, []}
use Rattle.std.specs.Prelude.{fold}
use Rattle.tc_model.specs.Texts.{with_text}
use Rattle.tc_plain.proofs.texts.distinct.Given as goal

abbrev pub invariant-loop-text : goal.invariant-loop-text
invariant-loop-text l = fold with_text l.found (drop l.text-index l.texts) ≡ fold with_text [] l.texts
