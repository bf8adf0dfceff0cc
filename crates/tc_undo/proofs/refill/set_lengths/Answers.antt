use Rattle.std.proofs.Common.{◌≡◌, ◌∙◌, ap, subst, refl, arith, ⊎_elim, get_or}
use Rattle.std.proofs.lemmas.Bool.{cases_lt}
use Rattle.tc_base.specs.Files.{resized}
use Rattle.tc_io.specs.Images.{reads, now}
use Rattle.ud_log.specs.Undo.{place_of}
use Rattle.ud_log.proofs.Logs.{place_one, place_low}
use Rattle.ud_state.specs.Since.{quiet_refl, quiet_then}
use Rattle.ud_state.proofs.Runs.{durable_of, not_log}
use Rattle.tc_undo.proofs.Volumes.{stays_refl, stays_then}
use Rattle.tc_undo.proofs.refill.set_lengths.Goals as goal

pub loop-i-init : goal.loop-i-init
loop-i-init g c = record { quiet = λ t files es r d. quiet_refl _; replay = λ t files es r d. r; reads = λ t f isd low. absurd (omega (arith, low)); others = λ t f isd le. refl; log = λ t. refl; stays = stays_refl g.V.Volume c.args.vol.now c.requires }

pub returns-in_err-set_length-clause-quiet : goal.returns-in_err-set_length-clause-quiet
returns-in_err-set_length-clause-quiet g c = λ t files es r d.
    let f = c.file_at.result in
    let isd = c.file_at.ensures.is_data in
    let so_far = c.loop-i.invariant.quiet t files es r d in
    let there = durable_of _ (g.V.Volume.calls c.loop-i.vol) f (c.loop-i.invariant.others t f isd (omega (arith, c.file_at.ensures.place))) (d f isd) in
    let ends = r.lengths f isd ∙ ap (λ k. get_or c.args.lens.now k 0) c.file_at.ensures.place in
    quiet_then _ (g.V.Volume.calls c.loop-i.vol) (g.V.Volume.calls c.set_length.new.vol) so_far ((c.set_length.ensures.quiet t).quiet files c.args.lens.now es (c.loop-i.invariant.replay t files es r d) there ends)

pub loop-i-preserved : goal.loop-i-preserved
loop-i-preserved g c = record {
  quiet = λ t files es r d.
      let f = c.file_at.result in
      let isd = c.file_at.ensures.is_data in
      let so_far = c.loop-i.invariant.quiet t files es r d in
      let there = durable_of _ (g.V.Volume.calls c.loop-i.vol) f (c.loop-i.invariant.others t f isd (omega (arith, c.file_at.ensures.place))) (d f isd) in
      let ends = r.lengths f isd ∙ ap (λ k. get_or c.args.lens.now k 0) c.file_at.ensures.place in
      quiet_then _ (g.V.Volume.calls c.loop-i.vol) (g.V.Volume.calls c.set_length.new.vol) so_far ((c.set_length.ensures.quiet t).quiet files c.args.lens.now es (c.loop-i.invariant.replay t files es r d) there ends);
  replay = λ t files es r d.
      let f = c.file_at.result in
      let isd = c.file_at.ensures.is_data in
      let there = durable_of _ (g.V.Volume.calls c.loop-i.vol) f (c.loop-i.invariant.others t f isd (omega (arith, c.file_at.ensures.place))) (d f isd) in
      let ends = r.lengths f isd ∙ ap (λ k. get_or c.args.lens.now k 0) c.file_at.ensures.place in
      (c.in_ok-set_length.ensures.resized t).replay files c.args.lens.now es (c.loop-i.invariant.replay t files es r d) there ends;
  reads = λ t f isd low. ⊎_elim
      (λ before.
      let apart : c.file_at.result ≡ f → ⊥ = λ same. absurd (omega (arith, before, c.file_at.ensures.place, ap place_of same)) in
      ap reads ((c.in_ok-set_length.ensures.resized t).others f apart) ∙ c.loop-i.invariant.reads t f isd before)
      (λ here.
      let same : c.file_at.result ≡ f = place_one c.file_at.result f c.file_at.ensures.is_data isd (omega (arith, c.file_at.ensures.place, here, low)) in
      let at : c.loop-i.i ≡ place_of f = omega (arith, here, low) in
      let old = ap reads (c.loop-i.invariant.others t f isd here) in
      subst (λ h. now (g.V.Volume.calls c.set_length.new.vol) h ≡ resized (get_or c.args.lens.now c.loop-i.i 0) (now (g.V.Volume.calls c.loop-i.vol) h)) same (c.in_ok-set_length.ensures.resized t).reads
      ∙ (λ j. resized (get_or c.args.lens.now (at j) 0) (old j)))
      (cases_lt (place_of f) c.loop-i.i);
  others = λ t f isd le.
      let apart : c.file_at.result ≡ f → ⊥ = λ same. absurd (omega (arith, le, c.file_at.ensures.place, ap place_of same)) in
      (c.in_ok-set_length.ensures.resized t).others f apart ∙ c.loop-i.invariant.others t f isd (omega (arith, le));
  log = λ t. (c.in_ok-set_length.ensures.resized t).others 1 (not_log c.file_at.result c.file_at.ensures.is_data) ∙ c.loop-i.invariant.log t;
  stays = stays_then g.V.Volume c.args.vol.now c.loop-i.vol c.set_length.new.vol c.loop-i.invariant.stays c.set_length.ensures.stays;
}

pub returns-clause-reads : goal.returns-clause-reads
returns-clause-reads g c = λ t f isd. c.loop-i.invariant.reads t f isd (omega (arith, place_low f isd))
