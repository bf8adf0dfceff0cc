use Rattle.std.proofs.Common.{◌≡◌, ◌-◌, ◌<◌, ◌++◌, length, suc, arith, sym, subst, true, false}
use Rattle.hf_survey.specs.Reaching.{IsItem}
use Rattle.hf_survey.proofs.Batches.{stay_refl, stay_more}
use Rattle.hf_survey.proofs.Steps.{unmarked_out, get_of}
use Rattle.hf_survey.proofs.reaching.add.Goals as goal

pub returns-then-marks-i-clause-marked : goal.returns-then-marks-i-clause-marked
returns-then-marks-i-clause-marked c = stay_refl c.args.items.now c.args.marks.now

pub returns-then-marks-i-clause-twice : goal.returns-then-marks-i-clause-twice
returns-then-marks-i-clause-twice c = λ is before m.
    let n : suc (c.args.item.number - 1) ≡ c.args.item.number = omega (arith, c.requires.number.0) in
    let low : c.args.item.number - 1 < length c.args.marks.now = omega (arith, c.requires.number.0, c.requires.number.1) in
    subst (λ z. IsItem (before ++ c.args.items.now) z) n ((m.same (c.args.item.number - 1) low).0 (get_of c.args.marks.now (c.args.item.number - 1) true low c.if-marks-i.true))

pub returns-clause-marked : goal.returns-clause-marked
returns-clause-marked c =
    let low : c.args.item.number - 1 < length c.args.marks.now = omega (arith, c.requires.number.0, c.requires.number.1) in
    stay_more c.args.items.now c.push.new.self c.args.marks.now (c.args.item.number - 1) c.args.item c.in_ok-push.ensures.ok (omega (arith, c.requires.number.0)) low (get_of c.args.marks.now (c.args.item.number - 1) false low c.if-marks-i.false) c.requires.above c.requires.below

pub returns-clause-fresh : goal.returns-clause-fresh
returns-clause-fresh c = λ is.
    let low : c.args.item.number - 1 < length c.args.marks.now = omega (arith, c.requires.number.0, c.requires.number.1) in
    let n : suc (c.args.item.number - 1) ≡ c.args.item.number = omega (arith, c.requires.number.0) in
    (c.in_ok-push.ensures.ok, λ before m w. unmarked_out (before ++ c.args.items.now) c.args.marks.now (c.args.item.number - 1) m low (get_of c.args.marks.now (c.args.item.number - 1) false low c.if-marks-i.false) (subst (λ z. IsItem (before ++ c.args.items.now) z) (sym n) w))
