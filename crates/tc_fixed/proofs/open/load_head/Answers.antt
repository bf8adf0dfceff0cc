use Rattle.std.proofs.Common.{◌∙◌, ℕ, List, arith, subst, sym}
use Rattle.tc_base.specs.declared.kind.Rule.{Rule}
use Rattle.hf_head.specs.FixedHeads.{SpellsFixed}
use Rattle.tc_fixed.specs.Opening.{IsBroken, no_head, too_short}
use Rattle.tc_fixed.proofs.Opened.{names_rule}
use Rattle.tc_fixed.proofs.open.load_head.Goals as goal

pub returns-then-len-lt256-clause-broken : goal.returns-then-len-lt256-clause-broken
returns-then-len-lt256-clause-broken g c = λ f rule e.
    names_rule 1 f rule (λ (r : Rule). g.S.Space.tells → IsBroken (g.S.Space.now c.args.space.now 0) r) (λ t. no_head (λ h has. omega (arith, has.long, c.len-len.ensures t, c.if-len-lt256.true))) (sym c.broken.ensures ∙ e)

pub returns-then-len-head-clause-broken : goal.returns-then-len-head-clause-broken
returns-then-len-head-clause-broken g c = λ f rule e.
    let h = c.in-Some.head in
    names_rule 2 f rule (λ (r : Rule). g.S.Space.tells → IsBroken (g.S.Space.now c.args.space.now 0) r)
    (λ t. too_short h (record { long = omega (arith, c.len-len.ensures t, c.if-len-lt256.false); numbers = c.in-Some.ensures.some.0; spells = subst (λ (l : List ℕ). SpellsFixed h l) (c.in_ok-read_into.ensures.bytes t) c.in-Some.ensures.some.1 })
    (λ long. omega (arith, long, c.len-len.ensures t, c.if-len-head.true)))
    (sym c.broken-then-len-head.ensures ∙ e)

pub returns-in_default-clause-broken : goal.returns-in_default-clause-broken
returns-in_default-clause-broken g c = λ f rule e.
    names_rule 1 f rule (λ (r : Rule). g.S.Space.tells → IsBroken (g.S.Space.now c.args.space.now 0) r)
    (λ t. no_head (λ h has. c.in_default.ensures.none h has.numbers (subst (λ (l : List ℕ). SpellsFixed h l) (sym (c.in_ok-read_into.ensures.bytes t)) has.spells)))
    (sym c.broken-in_default.ensures ∙ e)
