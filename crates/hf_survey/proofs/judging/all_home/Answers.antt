use Rattle.std.proofs.Common.{◌∙◌, ⊎_elim, arith, sym, ap, subst}
use Rattle.std.specs.Prelude.{slice_get}
use Rattle.hf_survey.specs.declared.reaching.Item.{Item}
use Rattle.hf_survey.specs.Reaching.{IsHomeBy}
use Rattle.hf_survey.proofs.Lists.{same_item, get_low}
use Rattle.hf_survey.proofs.Halving.{below_or}
use Rattle.hf_survey.proofs.Keyed.{not_both}
use Rattle.hf_survey.proofs.judging.all_home.Goals as goal

pub loop-k-init : goal.loop-k-init
loop-k-init c = λ k x low. absurd (omega (arith, low))

pub is_home-requires : goal.is_home-requires
is_home-requires c = let l = c.requires.low c.loop-k.k c.at.result.now c.at.ensures in record { low = (l.0, l.1) }

pub loop-k-preserved : goal.loop-k-preserved
loop-k-preserved c = λ k x low at. ⊎_elim (λ less. c.loop-k.invariant k x less at)
    (λ same. let s = same_item (slice_get c.args.items.now k) x c.at.result.now at (ap (slice_get c.args.items.now) same ∙ c.at.ensures) in
    subst (λ (z : Item). IsHomeBy c.args.facts.now z) (sym s) (c.is_home.ensures.0 c.if-not-is_home.false))
    (below_or c.loop-k.k k low)

pub returns-then-not-is_home-clause-no : goal.returns-then-not-is_home-clause-no
returns-then-not-is_home-clause-no c = λ is. (c.loop-k.k, c.at.result.now, c.at.ensures, λ home. not_both c.is_home.result c.if-not-is_home.true (c.is_home.ensures.1 home))

pub returns-clause-yes : goal.returns-clause-yes
returns-clause-yes c = λ is k x at. c.loop-k.invariant k x (let l = get_low c.args.items.now k x at in omega (arith, l)) at
