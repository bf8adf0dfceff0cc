use Rattle.tc_space.specs.Frames.{only_reads_refl}
use Rattle.hf_survey.proofs.Findings.{found_stray, found_mixed, found_in_order}
use Rattle.hf_survey.proofs.judging.judge_all.Goals as goal

pub returns-then-not-all_home-clause-judged : goal.returns-then-not-all_home-clause-judged
returns-then-not-all_home-clause-judged g c =
    let n = c.all_home.ensures.no c.if-not-all_home.true in
    found_stray g.S.Space.tells c.args.facts.now c.args.items.now (g.S.Space.now c.args.space.now c.args.file) n.0 n.1 n.2 n.3

pub returns-then-branch-clause-judged : goal.returns-then-branch-clause-judged
returns-then-branch-clause-judged g c = found_in_order g.S.Space.tells c.args.facts.now c.args.items.now (g.S.Space.now c.args.space.now c.args.file) (c.all_home.ensures.yes c.if-not-all_home.false) (c.in_ok-all_between.ensures.yes c.if-branch.true)

pub returns-clause-judged : goal.returns-clause-judged
returns-clause-judged g c = found_mixed g.S.Space.tells c.args.facts.now c.args.items.now (g.S.Space.now c.args.space.now c.args.file) (c.all_home.ensures.yes c.if-not-all_home.false) (c.in_ok-all_between.ensures.no c.if-branch.false)

pub returns-then-not-all_home-clause-reads : goal.returns-then-not-all_home-clause-reads
returns-then-not-all_home-clause-reads g c = only_reads_refl g.S.Space c.args.space.now c.requires.sound
