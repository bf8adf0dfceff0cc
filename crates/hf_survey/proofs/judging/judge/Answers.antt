use Rattle.std.proofs.Common.{length, subst}
use Rattle.tc_space.specs.Frames.{only_reads_refl}
use Rattle.hf_survey.specs.declared.judging.Verdict.{Verdict}
use Rattle.hf_survey.specs.Orders.{Judged}
use Rattle.hf_survey.proofs.Findings.{after_mixed, after_order, after_stray, stray_after}
use Rattle.hf_survey.proofs.Lists.{if_ok}
use Rattle.hf_survey.proofs.judging.judge.Goals as goal

pub returns-in-InOrder-clause-judged : goal.returns-in-InOrder-clause-judged
returns-in-InOrder-clause-judged g c = if_ok c.judge_all.result (λ found j others before. after_order g.S.Space.tells c.args.facts.now others c.args.items.now (g.S.Space.now c.args.space.now c.args.file) found j
    (subst (λ (v : Verdict). Judged g.S.Space.tells c.args.facts.now others (length others) (g.S.Space.now c.args.space.now c.args.file) v) c.in-InOrder.is before)) c.judge_all.ensures.judged

pub returns-in-Stray-clause-judged : goal.returns-in-Stray-clause-judged
returns-in-Stray-clause-judged g c = λ others before. after_stray g.S.Space.tells c.args.facts.now others c.args.items.now (g.S.Space.now c.args.space.now c.args.file)
    (subst (λ (v : Verdict). Judged g.S.Space.tells c.args.facts.now others (length others) (g.S.Space.now c.args.space.now c.args.file) v) c.in-Stray.is before)

pub returns-then-all_home-clause-judged : goal.returns-then-all_home-clause-judged
returns-then-all_home-clause-judged g c = λ others before. after_mixed g.S.Space.tells c.args.facts.now others c.args.items.now (g.S.Space.now c.args.space.now c.args.file) (c.all_home.ensures.yes c.if-all_home.true)
    (subst (λ (v : Verdict). Judged g.S.Space.tells c.args.facts.now others (length others) (g.S.Space.now c.args.space.now c.args.file) v) c.in-Mixed.is before)

pub returns-else-all_home-clause-judged : goal.returns-else-all_home-clause-judged
returns-else-all_home-clause-judged g c = λ others before. stray_after g.S.Space.tells c.args.facts.now others c.args.items.now (g.S.Space.now c.args.space.now c.args.file) (c.all_home.ensures.no c.if-all_home.false)

pub returns-in-Stray-clause-reads : goal.returns-in-Stray-clause-reads
returns-in-Stray-clause-reads g c = only_reads_refl g.S.Space c.args.space.now c.requires.sound

pub returns-then-all_home-clause-reads : goal.returns-then-all_home-clause-reads
returns-then-all_home-clause-reads g c = only_reads_refl g.S.Space c.args.space.now c.requires.sound

pub returns-else-all_home-clause-reads : goal.returns-else-all_home-clause-reads
returns-else-all_home-clause-reads g c = only_reads_refl g.S.Space c.args.space.now c.requires.sound
