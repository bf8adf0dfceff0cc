use Rattle.tc_fakes.proofs.Pushed.{replay_fits, replay_next}
use Rattle.tc_fakes.proofs.copied.Copied.disk.Goals as goal

pub replay-requires : goal.replay-requires
replay-requires c = replay_fits _ _ c.deref-one-items.ensures.value c.loop-one.one-index c.one-item.result c.args.label.now _ c.loop-one-test.true c.one-item.is c.loop-one.invariant.calls (c.args.self.now.fit c.args.label.now)

pub loop-one-preserved : goal.loop-one-preserved
loop-one-preserved c = record { calls = replay_next _ _ c.deref-one-items.ensures.value c.loop-one.one-index c.one-item.result c.args.label.now _ c.loop-one-test.true c.one-item.is c.loop-one.invariant.calls _ c.in_ok-replay.ensures.same c.in_ok-replay.ensures.other }
