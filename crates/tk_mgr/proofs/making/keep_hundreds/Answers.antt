use Rattle.std.proofs.Common.{◌+◌, ◌*◌, rules, arith}
use Rattle.tc_space.specs.Frames.{follows_refl, follows_then}
use Rattle.ty_base.specs.Holding.{Laid}
use Rattle.tk_mgr.proofs.Hundreds.{hundred_more, hundreds_none, hundreds_within}
use Rattle.tk_mgr.proofs.Secured.{secures_as, secures_none, secures_then}
use Rattle.tk_mgr.specs.Managing.{task_less}
use Rattle.tk_mgr.specs.declared.task.Task.TheVariants.{Drill}
use Rattle.tk_mgr.proofs.Steps.{fills_within}
use Rattle.tk_mgr.proofs.making.keep_hundreds.Goals as goal

pub loop-done-init : goal.loop-done-init
loop-done-init g c = record {
  secures = secures_none g.B.S.Space g.B.Storage.holds g.B.Storage.reopens _ _ _ c.requires.may;
  moments = λ seed m st. hundreds_none g.B.S.Space g.B.Storage.reopens _ seed m;
  laid = λ l seed m st. st;
  moved = λ l seed m st. hundreds_none g.B.S.Space (Laid g.B.Storage.own g.B.Storage.layout l g.B.Storage.reopens) _ seed m;
  follows = follows_refl g.B.S.Space _;
}

pub loop-done-preserved : goal.loop-done-preserved
loop-done-preserved g c = let i = c.loop-done.invariant in record {
  secures = secures_then g.B.S.Space g.B.Storage.holds g.B.Storage.reopens (100 * c.loop-done._done) 100 _ _ _ _ _ _ _ _ _ _ (omega arith) i.secures c.in_ok-keep_some.ensures.secures;
  moments = λ seed m st. let there = i.secures.each seed m st in
      hundred_more g.B.S.Space g.B.Storage.reopens g.B.Storage.holds seed c.loop-done._done c.loop-done.run c.loop-done.base c.args.space.now c.loop-done.space c.keep_some.new.space m (omega arith) (λ t. g.met.B.S.Space.clean c.loop-done.space t i.secures.may.sound i.secures.may.untouched) there (i.moments seed m st) (c.keep_some.ensures.moments seed m there);
  laid = λ l seed m st. c.in_ok-keep_some.ensures.laid l seed m (i.laid l seed m st);
  moved = λ l seed m st. let there = i.laid l seed m st in
      hundred_more g.B.S.Space (Laid g.B.Storage.own g.B.Storage.layout l g.B.Storage.reopens) g.B.Storage.holds seed c.loop-done._done c.loop-done.run c.loop-done.base c.args.space.now c.loop-done.space c.keep_some.new.space m (omega arith) (λ t. g.met.B.S.Space.clean c.loop-done.space t i.secures.may.sound i.secures.may.untouched) there (i.moved l seed m st) (c.keep_some.ensures.moved l seed m there);
  follows = follows_then g.B.S.Space _ _ _ i.follows c.keep_some.ensures.follows;
}

pub returns-clause-secures : goal.returns-clause-secures
returns-clause-secures g c = secures_as g.B.S.Space g.B.Storage.holds g.B.Storage.reopens (100 * c.loop-done._done) _ _ _ _ _ _ _ (omega arith) c.loop-done.invariant.secures

pub returns-clause-moments : goal.returns-clause-moments
returns-clause-moments g c = λ seed m st. hundreds_within g.B.S.Space g.B.Storage.reopens _ _ seed c.loop-done._done _ m (omega arith) (c.loop-done.invariant.moments seed m st)

pub returns-in_err-keep_some-clause-moments : goal.returns-in_err-keep_some-clause-moments
returns-in_err-keep_some-clause-moments g c = λ seed m st. let i = c.loop-done.invariant in let there = i.secures.each seed m st in
    hundreds_within g.B.S.Space g.B.Storage.reopens c.args.space.now c.keep_some.new.space seed (c.loop-done._done + 1) c.args.most m (omega arith)
    (hundred_more g.B.S.Space g.B.Storage.reopens g.B.Storage.holds seed c.loop-done._done c.loop-done.run c.loop-done.base c.args.space.now c.loop-done.space c.keep_some.new.space m (omega arith) (λ t. g.met.B.S.Space.clean c.loop-done.space t i.secures.may.sound i.secures.may.untouched) there (i.moments seed m st) (c.keep_some.ensures.moments seed m there))

pub returns-in_err-keep_some-clause-full : goal.returns-in_err-keep_some-clause-full
returns-in_err-keep_some-clause-full g c = λ is seed m st. let i = c.loop-done.invariant in
    let e = g.met.B.Storage.since_more c.args.space.now c.loop-done.space c.keep_some.new.space (i.moments seed m st).leaves.later in
    fills_within (g.B.S.Space.log_full c.keep_some.new.space) (g.B.Storage.fills_since c.args.space.now c.keep_some.new.space) (g.B.Storage.lacks_large c.args.space.now c.keep_some.new.space) seed (c.loop-done.run.made + 100) _ _ (omega arith)
    (task_less (g.B.S.Space.log_full c.keep_some.new.space) (g.B.Storage.fills_since c.loop-done.space c.keep_some.new.space) (g.B.Storage.fills_since c.args.space.now c.keep_some.new.space) (g.B.Storage.lacks_large c.loop-done.space c.keep_some.new.space) (g.B.Storage.lacks_large c.args.space.now c.keep_some.new.space) (Drill seed (c.loop-done.run.made + 100)) m.contents e.fills (λ packs. absurd cc) (c.in_err-keep_some.ensures.full (search (rules, is)) seed m (i.secures.each seed m st)))

-- ---- laid out like what was there

pub returns-clause-laid : goal.returns-clause-laid
returns-clause-laid g c = c.loop-done.invariant.laid

pub returns-clause-moved : goal.returns-clause-moved
returns-clause-moved g c = λ l seed m st. hundreds_within g.B.S.Space (Laid g.B.Storage.own g.B.Storage.layout l g.B.Storage.reopens) _ _ seed c.loop-done._done _ m (omega arith) (c.loop-done.invariant.moved l seed m st)

pub returns-in_err-keep_some-clause-moved : goal.returns-in_err-keep_some-clause-moved
returns-in_err-keep_some-clause-moved g c = λ l seed m st. let i = c.loop-done.invariant in let there = i.laid l seed m st in
    hundreds_within g.B.S.Space (Laid g.B.Storage.own g.B.Storage.layout l g.B.Storage.reopens) c.args.space.now c.keep_some.new.space seed (c.loop-done._done + 1) c.args.most m (omega arith)
    (hundred_more g.B.S.Space (Laid g.B.Storage.own g.B.Storage.layout l g.B.Storage.reopens) g.B.Storage.holds seed c.loop-done._done c.loop-done.run c.loop-done.base c.args.space.now c.loop-done.space c.keep_some.new.space m (omega arith) (λ t. g.met.B.S.Space.clean c.loop-done.space t i.secures.may.sound i.secures.may.untouched) there (i.moved l seed m st) (c.keep_some.ensures.moved l seed m there))
