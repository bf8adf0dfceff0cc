use Rattle.std.proofs.Common.{◌≡◌, ◌<◌, ◌∙◌, ap, sym, subst, arith, ⊎_elim, false, get_or}
use Rattle.std.proofs.lemmas.Bool.{cases_lt}
use Rattle.ud_log.specs.Undo.{place_of}
use Rattle.ud_log.proofs.Logs.{place_one, place_low}
use Rattle.ud_state.specs.State.{Durable}
use Rattle.ud_state.specs.Since.{quiet_refl, quiet_then, quiet_calm}
use Rattle.ud_state.proofs.Runs.{sync_only_refl, sync_only_then}
use Rattle.tc_undo.proofs.Volumes.{stays_refl, stays_then}
use Rattle.tc_undo.proofs.syncs.sync_marked.Goals as goal

pub loop-i-init : goal.loop-i-init
loop-i-init g c = record { quiet = λ t calm. quiet_refl _; synced = λ t. sync_only_refl _; grows = λ t. omega arith; there = λ t f isd low. absurd (omega (arith, low)); stays = stays_refl g.V.Volume c.args.vol.now c.requires }

pub returns-in_err-sync_if-clause-quiet : goal.returns-in_err-sync_if-clause-quiet
returns-in_err-sync_if-clause-quiet g c = λ t calm.
    let so_far = c.loop-i.invariant.quiet t calm in
    quiet_then _ (g.V.Volume.calls c.loop-i.vol) (g.V.Volume.calls c.sync_if.new.vol) so_far (c.sync_if.ensures.quiet t (quiet_calm _ _ calm so_far))

pub loop-i-preserved : goal.loop-i-preserved
loop-i-preserved g c =
    let low : c.loop-i.i < 18 = omega arith in
    record {
      quiet = λ t calm.
          let so_far = c.loop-i.invariant.quiet t calm in
          quiet_then _ (g.V.Volume.calls c.loop-i.vol) (g.V.Volume.calls c.sync_if.new.vol) so_far (c.sync_if.ensures.quiet t (quiet_calm _ _ calm so_far));
      synced = λ t. sync_only_then _ (g.V.Volume.calls c.loop-i.vol) (g.V.Volume.calls c.sync_if.new.vol) (c.loop-i.invariant.synced t) (c.in_ok-sync_if.ensures.synced t);
      grows = λ t. omega (arith, c.loop-i.invariant.grows t, c.in_ok-sync_if.ensures.grows t);
      there = λ t f isd low unmarked. ⊎_elim
          (λ before. (c.in_ok-sync_if.ensures.synced t).durable f isd (c.loop-i.invariant.there t f isd before unmarked))
          (λ here.
          let same : c.file_at.result ≡ f = place_one c.file_at.result f c.file_at.ensures.is_data isd (omega (arith, c.file_at.ensures.place, here, low)) in
          let at : place_of f ≡ c.loop-i.i = omega (arith, here, low) in
          subst (λ h. Durable (g.V.Volume.calls c.sync_if.new.vol) h) same
          (c.in_ok-sync_if.ensures.there t (λ not. subst (λ h. Durable (g.V.Volume.calls c.loop-i.vol) h) (sym same) ((c.loop-i.invariant.synced t).durable f isd (unmarked (ap (λ k. get_or c.args.marked.now k false) at ∙ not))))))
          (cases_lt (place_of f) c.loop-i.i);
      stays = stays_then g.V.Volume c.args.vol.now c.loop-i.vol c.sync_if.new.vol c.loop-i.invariant.stays c.sync_if.ensures.stays;
    }

pub returns-clause-there : goal.returns-clause-there
returns-clause-there g c = λ t f isd unmarked. c.loop-i.invariant.there t f isd (omega (arith, place_low f isd)) unmarked

pub returns-clause-grows : goal.returns-clause-grows
returns-clause-grows g c = λ t. c.loop-i.invariant.grows t
