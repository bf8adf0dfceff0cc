use Rattle.std.proofs.Common.{◌≡◌, ◌+◌, ◌-◌, ◌≤◌, arith, ap, subst}
use Rattle.ud_state.proofs.Runs.{log_only_refl, log_only_then}
use Rattle.tc_undo.specs.Ahead.{Waits, ahead}
use Rattle.tc_undo.specs.Room.{needs}
use Rattle.tc_undo.proofs.Guarding.{grows_less, grows_none, grows_then}
use Rattle.tc_undo.proofs.Needs.{needs_step}
use Rattle.tc_undo.proofs.Volumes.{stays_quiet_refl, stays_quiet_then}
use Rattle.tc_undo.proofs.changes.log_range.Goals as goal

pub loop-place-init : goal.loop-place-init
loop-place-init g c = record {
  low = omega arith;
  high = omega arith;
  quiet = stays_quiet_refl g.V.Volume c.args.vol.now c.requires.bound;
  logs = λ t. record { logging = c.requires.logging t; end_is = (c.requires.waits t).end_is; only = log_only_refl _ };
  grows = λ t. grows_none _ _ _ _ _ (omega arith);
  waits = c.requires.waits;
  room = c.requires.may.room;
  spent = omega arith;
}

pub loop-place-preserved : goal.loop-place-preserved
loop-place-preserved g c = record {
  low = omega arith;
  high = grind arith;
  quiet = stays_quiet_then g.V.Volume c.args.vol.now c.loop-place.vol c.log_old.new.vol c.loop-place.invariant.quiet c.log_old.ensures.quiet;
  logs = λ t.
      let l = c.in_ok-log_old.ensures.logs t in
      record {
        logging = l.logging;
        end_is = omega (arith, l.end_is);
        only = log_only_then _ (ahead (g.V.Volume.calls c.loop-place.vol) c.loop-place.waiting) (ahead (g.V.Volume.calls c.log_old.new.vol) c.log_old.new.waiting) (c.loop-place.invariant.logs t).only l.only;
      };
  waits = λ t.
      let end : c.loop-place.size + 20 + c.min-n.result ≡ c.loop-place.size + (20 + c.min-n.result) = omega arith in
      subst (λ k. Waits (g.V.Volume.calls c.log_old.new.vol) c.log_old.new.waiting k) end (c.in_ok-log_old.ensures.waits t);
  room =
      let left : c.args.stop - (c.loop-place.place + c.min-n.result) ≡ c.args.stop - c.loop-place.place - c.min-n.result = omega arith in
      let step : 20 + c.min-n.result + needs (c.args.stop - c.loop-place.place - c.min-n.result) ≤ needs (c.args.stop - c.loop-place.place) = needs_step (c.args.stop - c.loop-place.place) c.min-n.result c.min-n.ensures (omega (arith, c.loop-place-test.true)) in
      omega (arith, c.loop-place.invariant.room, step, ap needs left);
  grows = λ t. grows_then (ahead (g.V.Volume.calls c.args.vol.now) c.args.waiting.now) (ahead (g.V.Volume.calls c.loop-place.vol) c.loop-place.waiting) (ahead (g.V.Volume.calls c.log_old.new.vol) c.log_old.new.waiting) _ _ c.args.at c.loop-place.place (c.loop-place.place + c.min-n.result) (c.loop-place.invariant.grows t) (c.in_ok-log_old.ensures.grows t);
  spent =
      let left : c.args.stop - (c.loop-place.place + c.min-n.result) ≡ c.args.stop - c.loop-place.place - c.min-n.result = omega arith in
      let step : 20 + c.min-n.result + needs (c.args.stop - c.loop-place.place - c.min-n.result) ≤ needs (c.args.stop - c.loop-place.place) = needs_step (c.args.stop - c.loop-place.place) c.min-n.result c.min-n.ensures (omega (arith, c.loop-place-test.true)) in
      omega (arith, c.loop-place.invariant.spent, step, ap needs left);
}

pub returns-clause-grows : goal.returns-clause-grows
returns-clause-grows g c = λ t. grows_less _ (ahead (g.V.Volume.calls c.loop-place.vol) c.loop-place.waiting) _ _ _ c.loop-place.place c.args.stop c.loop-place-test.false (c.loop-place.invariant.grows t)
