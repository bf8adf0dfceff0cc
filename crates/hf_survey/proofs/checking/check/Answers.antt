use Rattle.std.proofs.Common.{subst}
use Rattle.std.proofs.lemmas.Result.{on_ok_weaker}
use Rattle.tc_base.specs.declared.kind.Rule.{Rule}
use Rattle.hf_survey.specs.Holding.{Breaks}
use Rattle.hf_survey.proofs.Named.{fits}
use Rattle.hf_survey.proofs.Judged.{same_rule, some_of, none_of, facts_inside, link_broken_at, judged_hold, judged_broken}
use Rattle.hf_survey.proofs.checking.check.Goals as goal

pub reach-requires : goal.reach-requires
reach-requires g c = record {
  surveyed = record {
    sound = c.requires.sound;
    data_file = c.requires.file;
    buckets = record { valid = c.requires.head; inside = λ t. facts_inside c.args.head.now (g.S.Space.now c.args.space.now c.args.file) c.args.facts.now (c.requires.facts t) };
    read = c.requires.facts;
  };
}

pub returns-clause-hold : goal.returns-clause-hold
returns-clause-hold g c = on_ok_weaker c.conclude.result (λ hold t ps a.
    let w = some_of c.in_ok-verdict.field-0 c.in-Some.verdict _ c.in-Some.is c.in_ok-verdict.ensures.some in
    let all = w.all t ps a in
    let fit = fits c.args.head.now ps (g.S.Space.now c.args.space.now c.args.file) c.args.facts.now c.requires.head a all.names in
    judged_hold c.args.head.now ps (g.S.Space.now c.args.space.now c.args.file) c.args.facts.now w.items c.requires.head a fit all.whole w.low g.S.Space.tells c.in-Some.verdict w.judged t hold.0 hold.1) c.conclude.ensures.hold

pub returns-clause-broken : goal.returns-clause-broken
returns-clause-broken g c = λ rule is t ps a.
    let w = some_of c.in_ok-verdict.field-0 c.in-Some.verdict _ c.in-Some.is c.in_ok-verdict.ensures.some in
    let all = w.all t ps a in
    let fit = fits c.args.head.now ps (g.S.Space.now c.args.space.now c.args.file) c.args.facts.now c.requires.head a all.names in
    judged_broken c.args.head.now ps (g.S.Space.now c.args.space.now c.args.file) c.args.facts.now w.items c.requires.head a fit all.whole w.low g.S.Space.tells c.in-Some.verdict w.judged t rule (c.conclude.ensures.broken rule is)

pub returns-in_default-clause-broken : goal.returns-in_default-clause-broken
returns-in_default-clause-broken g c = λ rule is t ps a. subst (λ (r : Rule). Breaks c.args.head.now ps (g.S.Space.now c.args.space.now c.args.file) r) (same_rule c.in_ok-rule.rule rule is)
    (link_broken_at c.args.head.now c.args.facts.now c.in_ok-rule.rule (g.S.Space.now c.reach.new.space c.args.file) (g.S.Space.now c.args.space.now c.args.file) (c.reach.ensures.reads.files t c.args.file) (c.in_ok-rule.ensures.broken t) ps a
    (none_of c.in_ok-verdict.field-0 _ c.in_default.is c.in_ok-verdict.ensures.none t ps a))
