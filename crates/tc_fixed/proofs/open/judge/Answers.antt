use Rattle.std.proofs.Common.{◌∙◌, arith, sym}
use Rattle.tc_base.specs.declared.kind.Rule.{Rule}
use Rattle.tc_fixed.specs.Opening.{IsBroken}
use Rattle.tc_fixed.proofs.Opened.{bad_greatest, bad_least, bad_number, names_file, names_rule}
use Rattle.tc_fixed.proofs.open.judge.Goals as goal

pub returns-then-head-tally-clause-broken : goal.returns-then-head-tally-clause-broken
returns-then-head-tally-clause-broken c = λ bytes head long counted f rule e.
    names_rule 4 f rule (λ (r : Rule). Unit {0} → IsBroken bytes r) (λ u. bad_number c.args.head.now c.args.tally.now bytes head long counted (λ same. omega (arith, c.if-head-tally.true, same))) (sym c.broken.ensures ∙ e)

pub returns-then-head-tally-2-clause-broken : goal.returns-then-head-tally-2-clause-broken
returns-then-head-tally-2-clause-broken c = λ bytes head long counted f rule e.
    names_rule 5 f rule (λ (r : Rule). Unit {0} → IsBroken bytes r) (λ u. bad_least c.args.head.now c.args.tally.now bytes head long counted (omega (arith, c.if-head-tally.false)) (λ same. omega (arith, c.if-head-tally-2.true, same))) (sym c.broken-then-head-tally-2.ensures ∙ e)

pub returns-then-head-tally-3-clause-broken : goal.returns-then-head-tally-3-clause-broken
returns-then-head-tally-3-clause-broken c = λ bytes head long counted f rule e.
    names_rule 5 f rule (λ (r : Rule). Unit {0} → IsBroken bytes r) (λ u. bad_greatest c.args.head.now c.args.tally.now bytes head long counted (omega (arith, c.if-head-tally.false)) (λ same. omega (arith, c.if-head-tally-3.true, same))) (sym c.broken-then-head-tally-3.ensures ∙ e)

pub returns-then-head-tally-clause-file : goal.returns-then-head-tally-clause-file
returns-then-head-tally-clause-file c = names_file 4 c.broken.result c.broken.ensures

pub returns-then-head-tally-2-clause-file : goal.returns-then-head-tally-2-clause-file
returns-then-head-tally-2-clause-file c = names_file 5 c.broken-then-head-tally-2.result c.broken-then-head-tally-2.ensures

pub returns-then-head-tally-3-clause-file : goal.returns-then-head-tally-3-clause-file
returns-then-head-tally-3-clause-file c = names_file 5 c.broken-then-head-tally-3.result c.broken-then-head-tally-3.ensures
