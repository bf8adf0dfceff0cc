use Rattle.std.proofs.Common.{◌∙◌, ◌-◌, length, sym, ap, arith}
use Rattle.std.proofs.lemmas.List.{drop_all}
use Rattle.tc_base.specs.Hashes.{back_hash}
use Rattle.tc_base.proofs.Hashing.{back-nil, back_more}
use Rattle.tc_base.proofs.hashes.second_hash.Goals as goal

pub loop-i-init : goal.loop-i-init
loop-i-init c = sym (ap back_hash (drop_all (length c.args.key.now - 0) c.args.key.now (omega arith)) ∙ back-nil)

pub loop-i-preserved : goal.loop-i-preserved
loop-i-preserved c = back_more c.args.key.now c.loop-i.i c.loop-i.hash c.from.result c.loop-i-test.true c.loop-i.invariant c.from.ensures
