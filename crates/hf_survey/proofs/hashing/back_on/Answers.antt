use Rattle.std.proofs.Common.{◌≡◌, ◌∙◌, ◌-◌, ℕ, length, drop, sym, ap, arith}
use Rattle.std.proofs.lemmas.List.{drop_all}
use Rattle.hf_survey.specs.Hashing.{back_from}
use Rattle.hf_survey.proofs.Pieced.{back_byte, back_end}
use Rattle.hf_survey.proofs.hashing.back_on.Goals as goal

pub loop-i-init : goal.loop-i-init
loop-i-init c = sym (ap (back_from c.args.hash) (drop_all (length c.args.bytes.now - 0) c.args.bytes.now (omega arith)) ∙ back_end c.args.hash)

pub loop-i-preserved : goal.loop-i-preserved
loop-i-preserved c = back_byte c.args.bytes.now c.args.hash c.loop-i.i c.loop-i.back c.from.result c.loop-i-test.true c.loop-i.invariant c.from.ensures

pub returns : goal.returns
returns c =
    let whole : length c.args.bytes.now - c.loop-i.i ≡ 0 = omega (arith, c.loop-i-test.false) in
    c.loop-i.invariant ∙ ap (λ (n : ℕ). back_from c.args.hash (drop n c.args.bytes.now)) whole
