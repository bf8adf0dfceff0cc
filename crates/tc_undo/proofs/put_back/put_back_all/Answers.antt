use Rattle.std.proofs.Common.{◌<◌, ℕ, arith, sym, subst}
use Rattle.ud_state.specs.Recovery.{CanPutBack}
use Rattle.tc_io.specs.Images.{Calls}
use Rattle.ud_state.specs.Since.{quiet_refl, quiet_then}
use Rattle.ud_state.proofs.PuttingBack.{Restores, restores_start, restores_end, here, here_can, front, rest, log_parts, ends_there, inside_now, back_made, back_quiet, back_lost}
use Rattle.tc_undo.specs.Found.{IsEntryAt}
use Rattle.tc_undo.proofs.Volumes.{stays_refl, stays_then}
use Rattle.tc_undo.proofs.put_back.put_back_all.Goals as goal

entry_at : (start cs : Calls) (at end : ℕ) (can : CanPutBack start end) (r : Restores start cs at) (more : 152 < at) → IsEntryAt cs at (here start cs at end can r more).last (front start cs at end can r more) (rest start cs at end can r more)
entry_at start cs at end can r more = record {
  log = log_parts start cs at end can r more;
  there = ends_there start cs at end can r more;
  formed = (here_can start cs at end can r more).formed;
  fits = (here_can start cs at end can r more).fits;
  inside = omega (arith, inside_now start cs at end can r more);
}

pub loop-at-init : goal.loop-at-init
loop-at-init g c = record { quiet = λ t files lens r. quiet_refl _; restores = λ t. restores_start _ _ (c.requires.can t); stays = stays_refl g.V.Volume c.args.vol.now c.requires.bound }

pub put_back_one-requires-clause-ends : goal.put_back_one-requires-clause-ends
put_back_one-requires-clause-ends g c = λ t. record { e = _; front = _; rest = _; is = entry_at _ _ _ c.args.end (c.requires.can t) (c.loop-at.invariant.restores t) c.loop-at-test.true }

pub returns-in_err-at-clause-quiet : goal.returns-in_err-at-clause-quiet
returns-in_err-at-clause-quiet g c = λ t files lens rep.
    let old = g.V.Volume.calls c.args.vol.now in
    let cs = g.V.Volume.calls c.loop-at.vol in
    let new = g.V.Volume.calls c.put_back_one.new.vol in
    let r = c.loop-at.invariant.restores t in
    let lost = (c.in_err-at.ensures.lost t).lost _ _ _ (entry_at old cs c.loop-at.at c.args.end (c.requires.can t) r c.loop-at-test.true) in
    quiet_then old cs new (c.loop-at.invariant.quiet t files lens rep) (back_lost old cs c.loop-at.at c.args.end (c.requires.can t) r c.loop-at-test.true new (g.met.V.Volume.now_is_image c.loop-at.vol t) (g.met.V.Volume.now_is_image c.put_back_one.new.vol t) files lens rep lost)

pub loop-at-preserved : goal.loop-at-preserved
loop-at-preserved g c = record {
  quiet = λ t files lens rep.
      let old = g.V.Volume.calls c.args.vol.now in
      let cs = g.V.Volume.calls c.loop-at.vol in
      let new = g.V.Volume.calls c.put_back_one.new.vol in
      let r = c.loop-at.invariant.restores t in
      let put = (c.in_ok-at.ensures.put t).made _ _ _ (entry_at old cs c.loop-at.at c.args.end (c.requires.can t) r c.loop-at-test.true) in
      quiet_then old cs new (c.loop-at.invariant.quiet t files lens rep) (back_quiet old cs c.loop-at.at c.args.end (c.requires.can t) r c.loop-at-test.true new (g.met.V.Volume.now_is_image c.loop-at.vol t) (g.met.V.Volume.now_is_image c.put_back_one.new.vol t) files lens rep put.0);
  restores = λ t.
      let old = g.V.Volume.calls c.args.vol.now in
      let cs = g.V.Volume.calls c.loop-at.vol in
      let new = g.V.Volume.calls c.put_back_one.new.vol in
      let r = c.loop-at.invariant.restores t in
      let put = (c.in_ok-at.ensures.put t).made _ _ _ (entry_at old cs c.loop-at.at c.args.end (c.requires.can t) r c.loop-at-test.true) in
      subst (λ k. Restores old new k) (sym put.1) (back_made old cs c.loop-at.at c.args.end (c.requires.can t) r c.loop-at-test.true new put.0);
  stays = stays_then g.V.Volume c.args.vol.now c.loop-at.vol c.put_back_one.new.vol c.loop-at.invariant.stays c.put_back_one.ensures.stays;
}

pub returns-clause-restored : goal.returns-clause-restored
returns-clause-restored g c = λ t. restores_end _ _ c.loop-at.at (c.loop-at.invariant.restores t) (omega arith)
