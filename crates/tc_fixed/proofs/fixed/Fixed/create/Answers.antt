use Rattle.std.proofs.Common.{◌∙◌, ap, length, subst, sym}
use Rattle.hf_head.specs.declared.fixed.FixedHead.{FixedHead}
use Rattle.hf_head.specs.FixedHeads.{fixed_spelled, SpellsFixed}
use Rattle.tc_fixed.proofs.Changed.{create_head, create_holds, create_made, create_stands}
use Rattle.tc_fixed.proofs.fixed.Fixed.create.Goals as goal

pub returns-clause-created : goal.returns-clause-created
returns-clause-created g c = (
  c.in_ok-write_at.ensures.outcome.ok,
  record { same = λ t n other. (c.in_ok-write_at.ensures.wrote t).others n other },
  λ t. (
    t,
    create_holds c.args.width c.args.limit c.none-tally.result c.spelling.result (g.S.Space.now c.args.space.now 0) (g.S.Space.now c.write_at.new.space 0)
        (c.requires.may.width_least, c.requires.may.width_most, c.requires.may.limit_least, c.requires.may.limit_most) c.none-tally.ensures.greatest c.none-tally.ensures.counts (c.requires.may.empty t) (c.in_ok-write_at.ensures.wrote t).here
        (c.spelling.ensures.bytes ∙ ap (λ (h : FixedHead). fixed_spelled h) c.head_now-head.ensures) (ap (λ (h : FixedHead). length (fixed_spelled h)) (sym c.head_now-head.ensures) ∙ c.spelling.ensures.long),
  ),
)

pub returns-clause-stands : goal.returns-clause-stands
returns-clause-stands g c = λ t. create_stands c.args.width c.args.limit c.none-tally.result c.spelling.result (g.S.Space.now c.args.space.now 0) (g.S.Space.now c.write_at.new.space 0)
    (c.requires.may.width_least, c.requires.may.width_most, c.requires.may.limit_least, c.requires.may.limit_most) c.none-tally.ensures.greatest c.none-tally.ensures.counts (c.requires.may.empty t) (c.in_ok-write_at.ensures.wrote t).here
    (c.spelling.ensures.bytes ∙ ap (λ (h : FixedHead). fixed_spelled h) c.head_now-head.ensures) (ap (λ (h : FixedHead). length (fixed_spelled h)) (sym c.head_now-head.ensures) ∙ c.spelling.ensures.long)
    (subst (λ (h : FixedHead). SpellsFixed h (fixed_spelled h)) c.head_now-head.ensures c.spelling.ensures.spells)

pub returns-clause-head : goal.returns-clause-head
returns-clause-head g c = λ t. create_head c.args.width c.args.limit c.none-tally.result c.spelling.result (g.S.Space.now c.args.space.now 0) (g.S.Space.now c.write_at.new.space 0)
    (c.requires.may.width_least, c.requires.may.width_most, c.requires.may.limit_least, c.requires.may.limit_most) c.none-tally.ensures.greatest c.none-tally.ensures.counts (c.requires.may.empty t) (c.in_ok-write_at.ensures.wrote t).here
    (c.spelling.ensures.bytes ∙ ap (λ (h : FixedHead). fixed_spelled h) c.head_now-head.ensures) (ap (λ (h : FixedHead). length (fixed_spelled h)) (sym c.head_now-head.ensures) ∙ c.spelling.ensures.long)
    (subst (λ (h : FixedHead). SpellsFixed h (fixed_spelled h)) c.head_now-head.ensures c.spelling.ensures.spells) c.none-tally.ensures.none.0 c.none-tally.ensures.none.1

pub returns-clause-made : goal.returns-clause-made
returns-clause-made g c = λ t. create_made c.args.width c.args.limit c.none-tally.result c.spelling.result (g.S.Space.now c.args.space.now 0) (g.S.Space.now c.write_at.new.space 0)
    (c.requires.may.width_least, c.requires.may.width_most, c.requires.may.limit_least, c.requires.may.limit_most) c.none-tally.ensures.greatest c.none-tally.ensures.counts (c.requires.may.empty t) (c.in_ok-write_at.ensures.wrote t).here
    (c.spelling.ensures.bytes ∙ ap (λ (h : FixedHead). fixed_spelled h) c.head_now-head.ensures) (ap (λ (h : FixedHead). length (fixed_spelled h)) (sym c.head_now-head.ensures) ∙ c.spelling.ensures.long)
    c.none-tally.ensures.none.0 c.none-tally.ensures.none.1
