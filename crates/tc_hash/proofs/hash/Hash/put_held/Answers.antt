use Rattle.std.proofs.Common.{◌≡◌, ◌∙◌, ◌+◌, sym, subst, arith, length, Some}
use Rattle.hf_chain.proofs.Paying.{paid_none}
use Rattle.hf_chain.specs.Costs.{Paid, step_most}
use Rattle.hf_record.proofs.Paying.{paid_within}
use Rattle.tc_hash.specs.declared.put.Put.TheVariants as put
use Rattle.tc_hash.specs.Putting.{joined_to}
use Rattle.std.specs.FinMap.{get}
use Rattle.tc_base.specs.declared.kind.Mode.{Mode}
use Rattle.tc_base.specs.declared.kind.Mode.TheVariants.{Cat, Keep, Over}
use Rattle.tc_hash.proofs.Answered.{joined_long, keeps_held, lacks_held, not_fitting, over_long, past_held, stores_held, was_len}
use Rattle.tc_hash.specs.Keeping.{GivesValue, LacksBlock}
use Rattle.tc_reach.proofs.Handed.{err_handed}
use Rattle.tc_hash.proofs.hash.Hash.put_held.Goals as goal

pub returns-in-Keep-clause-put : goal.returns-in-Keep-clause-put
returns-in-Keep-clause-put g c = keeps_held g.S.Space c.args.mode c.args.key.now c.args.value.now c.args.most c.args.self.now c.args.self.now c.args.space.now c.args.space.now c.args.place.now c.requires.found c.requires.ready.sound c.in-Keep.is

pub returns-in_ok-replace-in-Over-clause-put : goal.returns-in_ok-replace-in-Over-clause-put
returns-in_ok-replace-in-Over-clause-put g c = stores_held g.S.Space c.args.mode c.args.key.now c.args.value.now c.args.most c.args.self.now c.replace.new.self c.args.space.now c.replace.new.space c.args.place.now c.requires.found c.requires.ready.sound (λ keep. let e : Keep ≡ Over = sym keep ∙ c.in-Over.is in cc) (λ m w. omega (arith, over_long c.args.mode (get m c.args.key.now) c.args.value.now c.in-Over.is, c.if-value-most.false)) (subst (λ (x : Mode). GivesValue g.S.Space x c.args.key.now c.args.value.now 34 c.args.self.now c.replace.new.self c.args.space.now c.replace.new.space) (sym c.in-Over.is) c.in_ok-replace-in-Over.ensures.put)

pub returns-in_err-replace-in-Over-clause-full : goal.returns-in_err-replace-in-Over-clause-full
returns-in_err-replace-in-Over-clause-full g c = λ full. lacks_held g.S.Space c.args.mode c.args.key.now c.args.value.now c.args.most c.args.self.now c.replace.new.self c.args.space.now c.replace.new.space c.args.place.now c.requires.found (λ keep. let e : Keep ≡ Over = sym keep ∙ c.in-Over.is in cc) (λ m w. omega (arith, over_long c.args.mode (get m c.args.key.now) c.args.value.now c.in-Over.is, c.if-value-most.false)) (subst (λ (x : Mode). LacksBlock g.S.Space x c.args.key.now c.args.value.now c.args.self.now c.args.space.now c.replace.new.space) (sym c.in-Over.is) (c.in_err-replace-in-Over.ensures.full (err_handed c.from_residual.result c.in_err-replace-in-Over.field-0.0 _ c.from_residual.ensures.1 full)))

pub returns-in_err-join-in-Cat-clause-full : goal.returns-in_err-join-in-Cat-clause-full
returns-in_err-join-in-Cat-clause-full g c = λ full. lacks_held g.S.Space c.args.mode c.args.key.now c.args.value.now c.args.most c.args.self.now c.join.new.self c.args.space.now c.join.new.space c.args.place.now c.requires.found (λ keep. let e : Keep ≡ Cat = sym keep ∙ c.in-Cat.is in cc) (λ m w. omega (arith, joined_long c.args.mode c.args.place.now.rec.value (get m c.args.key.now) c.args.value.now c.in-Cat.is (was_len g.S.Space c.args.mode c.args.key.now c.args.value.now c.args.most c.args.self.now c.args.self.now c.args.space.now c.args.space.now c.args.place.now c.requires.found c.requires.ready.sound m w), c.fits.ensures.0 c.if-not-fits.false)) (subst (λ (x : Mode). LacksBlock g.S.Space x c.args.key.now c.args.value.now c.args.self.now c.args.space.now c.join.new.space) (sym c.in-Cat.is) (c.in_err-join-in-Cat.ensures.full (err_handed c.from_residual-in_err-join-in-Cat.result c.in_err-join-in-Cat.field-0.0 _ c.from_residual-in_err-join-in-Cat.ensures.1 full)))

pub returns-then-not-fits-clause-put : goal.returns-then-not-fits-clause-put
returns-then-not-fits-clause-put g c = past_held g.S.Space c.args.mode c.args.key.now c.args.value.now c.args.most c.args.self.now c.args.self.now c.args.space.now c.args.space.now c.args.place.now c.requires.found c.requires.ready.sound (λ keep. let e : Keep ≡ Cat = sym keep ∙ c.in-Cat.is in cc) (λ m w. omega (arith, joined_long c.args.mode c.args.place.now.rec.value (get m c.args.key.now) c.args.value.now c.in-Cat.is (was_len g.S.Space c.args.mode c.args.key.now c.args.value.now c.args.most c.args.self.now c.args.self.now c.args.space.now c.args.space.now c.args.place.now c.requires.found c.requires.ready.sound m w), not_fitting c.fits.result _ c.args.most c.if-not-fits.true c.fits.ensures))

pub returns-in_ok-join-in-Cat-clause-put : goal.returns-in_ok-join-in-Cat-clause-put
returns-in_ok-join-in-Cat-clause-put g c = stores_held g.S.Space c.args.mode c.args.key.now c.args.value.now c.args.most c.args.self.now c.join.new.self c.args.space.now c.join.new.space c.args.place.now c.requires.found c.requires.ready.sound (λ keep. let e : Keep ≡ Cat = sym keep ∙ c.in-Cat.is in cc) (λ m w. omega (arith, joined_long c.args.mode c.args.place.now.rec.value (get m c.args.key.now) c.args.value.now c.in-Cat.is (was_len g.S.Space c.args.mode c.args.key.now c.args.value.now c.args.most c.args.self.now c.args.self.now c.args.space.now c.args.space.now c.args.place.now c.requires.found c.requires.ready.sound m w), c.fits.ensures.0 c.if-not-fits.false)) (subst (λ (x : Mode). GivesValue g.S.Space x c.args.key.now c.args.value.now 34 c.args.self.now c.join.new.self c.args.space.now c.join.new.space) (sym c.in-Cat.is) c.in_ok-join-in-Cat.ensures.put)

pub returns-in-Keep-clause-paid : goal.returns-in-Keep-clause-paid
returns-in-Keep-clause-paid g c = paid_none _ _ _ _ (omega arith)

pub returns-then-value-most-clause-paid : goal.returns-then-value-most-clause-paid
returns-then-value-most-clause-paid g c = paid_none _ _ _ _ (omega arith)

pub returns-then-not-fits-clause-paid : goal.returns-then-not-fits-clause-paid
returns-then-not-fits-clause-paid g c = paid_none _ _ _ _ (omega arith)

pub returns-in_ok-replace-in-Over-clause-paid : goal.returns-in_ok-replace-in-Over-clause-paid
returns-in_ok-replace-in-Over-clause-paid g c = paid_within _ _ _ _ _ _ c.replace.ensures.paid

pub returns-in_ok-join-in-Cat-clause-paid : goal.returns-in_ok-join-in-Cat-clause-paid
returns-in_ok-join-in-Cat-clause-paid g c = subst (λ (mode : Mode). Paid (step_most (length c.args.key.now)) c.args.steps.now c.join.new.steps (g.S.Space.bytes_read c.args.space.now + joined_to mode (put.Stored (Some c.args.place.now.rec.value))) (g.S.Space.bytes_read c.join.new.space)) (sym c.in-Cat.is) c.join.ensures.paid
