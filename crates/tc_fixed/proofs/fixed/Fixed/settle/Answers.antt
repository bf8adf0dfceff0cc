use Rattle.std.proofs.Common.{◌∙◌, take, ap, subst}
use Rattle.tc_base.specs.Files.{wrote}
use Rattle.tc_space.specs.Effects.{Changes}
use Rattle.hf_head.specs.declared.fixed.FixedHead.{FixedHead}
use Rattle.hf_head.specs.FixedHeads.{fixed_spelled, SpellsFixed}
use Rattle.tc_fixed.proofs.Changed.{settle_front, settle_holds, stands_of}
use Rattle.tc_fixed.proofs.fixed.Fixed.settle.Goals as goal

pub returns-clause-settled : goal.returns-clause-settled
returns-clause-settled g c = record {
  sound = c.in_ok-write_head.ensures.outcome.ok;
  means = λ m means.
      let f = c.args.self.now in (
        means.0,
        settle_holds f.width f.limit f.tally m (fixed_spelled c.head_now.result) (g.S.Space.now c.args.space.now 0) (g.S.Space.now c.write_head.new.space 0) means.1 c.in_ok-write_head.ensures.spells.1
            ((c.in_ok-write_head.ensures.wrote means.0).here ∙ ap (λ (h : FixedHead). take h.size (wrote 0 (fixed_spelled c.head_now.result) (g.S.Space.now c.args.space.now 0))) c.head_now.ensures),
      );
  others = record { same = λ t g other. (c.in_ok-write_head.ensures.wrote t).others g other };
}

pub returns-clause-stands : goal.returns-clause-stands
returns-clause-stands g c = λ m means.
    let f = c.args.self.now in
    let old = g.S.Space.now c.args.space.now 0 in
    let new = g.S.Space.now c.write_head.new.space 0 in
    let is = (c.in_ok-write_head.ensures.wrote means.0).here ∙ ap (λ (h : FixedHead). take h.size (wrote 0 (fixed_spelled c.head_now.result) old)) c.head_now.ensures in
    let holds = settle_holds f.width f.limit f.tally m (fixed_spelled c.head_now.result) old new means.1 c.in_ok-write_head.ensures.spells.1 is in
    stands_of f.width f.limit f.tally m new holds
    (settle_front f.width f.limit f.tally m (fixed_spelled c.head_now.result) old new means.1 c.in_ok-write_head.ensures.spells.1 is ∙ ap (λ (h : FixedHead). fixed_spelled h) c.head_now.ensures)
    (subst (λ (h : FixedHead). SpellsFixed h (fixed_spelled h)) c.head_now.ensures c.in_ok-write_head.ensures.spells.0)

pub returns-clause-wrote : goal.returns-clause-wrote
returns-clause-wrote g c = λ t. subst (λ (h : FixedHead). Changes g.S.Space.now 0 (take h.size (wrote 0 (fixed_spelled h) (g.S.Space.now c.args.space.now 0))) c.args.space.now c.write_head.new.space) c.head_now.ensures (c.in_ok-write_head.ensures.wrote t)
