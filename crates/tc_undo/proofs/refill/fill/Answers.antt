use Rattle.std.proofs.Common.{arith}
use Rattle.ud_state.proofs.Runs.{filled_refl, filled_then, fills_refl, fills_then}
use Rattle.tc_undo.proofs.Volumes.{stays_refl, stays_then}
use Rattle.tc_undo.proofs.refill.fill.Goals as goal

pub loop-place-init : goal.loop-place-init
loop-place-init g c = record { low = omega arith; high = c.requires.order; quiet = λ t. fills_refl _ _ _; filled = λ t. filled_refl _ _ _; end = c.requires.end; stays = stays_refl g.V.Volume c.args.vol.now c.requires.bound }

pub returns-in_err-fill_some-clause-quiet : goal.returns-in_err-fill_some-clause-quiet
returns-in_err-fill_some-clause-quiet g c = λ t.
    fills_then _ (g.V.Volume.calls c.loop-place.vol) (g.V.Volume.calls c.fill_some.new.vol) c.args.file c.args.from c.loop-place.place (c.loop-place.invariant.quiet t) (c.loop-place.invariant.filled t) (c.fill_some.ensures.quiet t)

pub loop-place-preserved : goal.loop-place-preserved
loop-place-preserved g c = record {
  low = omega arith;
  high = grind arith;
  quiet = λ t. fills_then _ (g.V.Volume.calls c.loop-place.vol) (g.V.Volume.calls c.fill_some.new.vol) c.args.file c.args.from c.loop-place.place (c.loop-place.invariant.quiet t) (c.loop-place.invariant.filled t) (c.fill_some.ensures.quiet t);
  filled = λ t. filled_then _ (g.V.Volume.calls c.loop-place.vol) (g.V.Volume.calls c.fill_some.new.vol) c.args.file c.args.from c.loop-place.place _ c.loop-place.invariant.low (omega arith) (c.loop-place.invariant.filled t) (c.in_ok-fill_some.ensures.filled t);
  end = c.in_ok-fill_some.ensures.end;
  stays = stays_then g.V.Volume c.args.vol.now c.loop-place.vol c.fill_some.new.vol c.loop-place.invariant.stays c.fill_some.ensures.stays;
}
