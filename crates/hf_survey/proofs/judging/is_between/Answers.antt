use Rattle.std.proofs.Common.{◌-◌}
use Rattle.std.specs.declared.cmp.Ordering.TheVariants.{Less}
use Rattle.hf_survey.proofs.Lists.{if_ok}
use Rattle.hf_survey.proofs.Keyed.{between_one, between_is, fact_at_file, true_at_file, compares_at_file, compares_at_now}
use Rattle.hf_survey.proofs.judging.is_between.Goals as goal

pub compares-requires-clause-this : goal.compares-requires-clause-this
compares-requires-clause-this g c = λ t. c.requires.all t (c.args.item.now.number - 1) c.at.result.now c.at.ensures

pub compares-requires-2-clause-this : goal.compares-requires-2-clause-this
compares-requires-2-clause-this g c = λ t. fact_at_file c.args.head.now c.at.result.now (g.S.Space.now c.compares.new.space c.args.file) (g.S.Space.now c.args.space.now c.args.file) (c.compares.ensures.reads.files t c.args.file) (c.requires.all t (c.args.item.now.number - 1) c.at.result.now c.at.ensures)

pub compares-requires-2-clause-all : goal.compares-requires-2-clause-all
compares-requires-2-clause-all g c = λ t. true_at_file c.args.head.now c.args.facts.now (g.S.Space.now c.compares.new.space c.args.file) (g.S.Space.now c.args.space.now c.args.file) (c.compares.ensures.reads.files t c.args.file) (c.requires.all t)

pub returns-clause-yes : goal.returns-clause-yes
returns-clause-yes g c = if_ok c.compares-2.result (λ is yes e t.
    between_one c.args.facts.now c.args.item.now c.at.result.now (g.S.Space.now c.args.space.now c.args.file) c.at.ensures (c.in_ok-compares.ensures.yes c.if-not-branch.false t)
    (compares_at_file c.args.facts.now c.at.result.now c.args.item.now.below Less (g.S.Space.now c.compares.new.space c.args.file) (g.S.Space.now c.args.space.now c.args.file) (c.compares.ensures.reads.files t c.args.file) (yes e t))) c.compares-2.ensures.yes

pub returns-clause-no : goal.returns-clause-no
returns-clause-no g c = if_ok c.compares-2.result (λ is no e t all. no e t (compares_at_now c.args.facts.now c.at.result.now c.args.item.now.below Less (g.S.Space.now c.compares.new.space c.args.file) (g.S.Space.now c.args.space.now c.args.file) (c.compares.ensures.reads.files t c.args.file) (between_is c.args.facts.now c.args.item.now c.at.result.now (g.S.Space.now c.args.space.now c.args.file) c.requires.low.0 c.at.ensures all).1)) c.compares-2.ensures.no

pub returns-then-not-branch-clause-no : goal.returns-then-not-branch-clause-no
returns-then-not-branch-clause-no g c = λ is t all. c.in_ok-compares.ensures.no c.if-not-branch.true t (between_is c.args.facts.now c.args.item.now c.at.result.now (g.S.Space.now c.args.space.now c.args.file) c.requires.low.0 c.at.ensures all).0
