use Rattle.std.proofs.Common.{◌+◌, rules, arith}
use Rattle.tc_space.specs.Frames.{keeps_refl, keeps_then}
use Rattle.ty_base.specs.Holding.{leaves_nothing, leaves_on}
use Rattle.tk_mgr.specs.Managing.{task_less}
use Rattle.tk_mgr.specs.declared.task.Task.TheVariants.{Drill}
use Rattle.tk_mgr.proofs.Steps.{fills_within, makes_as, makes_none, makes_then}
use Rattle.tk_mgr.proofs.making.make_some.Goals as goal

pub loop-done-init : goal.loop-done-init
loop-done-init g c = record { makes = makes_none g.B.S.Space g.B.Storage.holds _ _ _ c.requires.ready; leaves = leaves_nothing g.B.S.Space g.B.Storage.own g.B.Storage.layout ⊥ _ c.requires.ready.sound; keeps = keeps_refl g.B.S.Space _ }

pub loop-done-preserved : goal.loop-done-preserved
loop-done-preserved g c = record {
  makes = makes_then g.B.S.Space g.B.Storage.holds c.loop-done._done 1 _ _ _ _ _ _ _ _ _ c.loop-done.invariant.makes c.in_ok-make_one.ensures.makes;
  leaves = leaves_on g.B.S.Space g.B.Storage.own g.B.Storage.layout _ _ _ c.loop-done.invariant.leaves c.in_ok-make_one.ensures.leaves;
  keeps = keeps_then g.B.S.Space _ _ _ c.loop-done.invariant.keeps c.make_one.ensures.keeps;
}

pub returns-clause-makes : goal.returns-clause-makes
returns-clause-makes g c = makes_as g.B.S.Space g.B.Storage.holds c.loop-done._done _ _ _ _ _ _ _ (omega arith) c.loop-done.invariant.makes

pub returns-in_err-make_one-clause-full : goal.returns-in_err-make_one-clause-full
returns-in_err-make_one-clause-full g c = λ is seed m h.
    let e = g.met.B.Storage.since_more c.args.space.now c.loop-done.space c.make_one.new.space (c.loop-done.invariant.keeps.steady h.has.held.0).past.later in
    fills_within (g.B.S.Space.log_full c.make_one.new.space) (g.B.Storage.fills_since c.args.space.now c.make_one.new.space) (g.B.Storage.lacks_large c.args.space.now c.make_one.new.space) seed (c.loop-done.run.made + 1) _ _ (omega arith)
    (task_less (g.B.S.Space.log_full c.make_one.new.space) (g.B.Storage.fills_since c.loop-done.space c.make_one.new.space) (g.B.Storage.fills_since c.args.space.now c.make_one.new.space) (g.B.Storage.lacks_large c.loop-done.space c.make_one.new.space) (g.B.Storage.lacks_large c.args.space.now c.make_one.new.space) (Drill seed (c.loop-done.run.made + 1)) m.contents e.fills (λ packs. absurd cc) (c.in_err-make_one.ensures.full (search (rules, is)) seed m (c.loop-done.invariant.makes.each seed m h)))
