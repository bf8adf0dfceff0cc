use Rattle.std.proofs.Common.{◌∙◌, refl, ap}
use Rattle.std.specs.List.{fold}
use Rattle.std.proofs.lemmas.List.{take_all}
use Rattle.tc_base.specs.Hashes.{front_step}
use Rattle.hf_survey.proofs.Pieced.{front_byte}
use Rattle.hf_survey.proofs.hashing.front_on.Goals as goal

pub loop-i-init : goal.loop-i-init
loop-i-init c = refl

pub loop-i-preserved : goal.loop-i-preserved
loop-i-preserved c = front_byte c.args.bytes.now c.args.hash c.loop-i.i c.loop-i.front c.from.result c.loop-i-test.true c.loop-i.invariant c.from.ensures

pub returns : goal.returns
returns c = c.loop-i.invariant ∙ ap (fold front_step c.args.hash) (take_all c.loop-i.i c.args.bytes.now c.loop-i-test.false)
