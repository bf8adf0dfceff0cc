use Rattle.std.proofs.Common.{◌≡◌, ◌⊎◌, Some, Option, arith, refl}
use Rattle.tc_base.specs.Files.{Files}
use Rattle.tc_io.specs.Images.{now as reads_now}
use Rattle.ud_log.specs.Undo.{data_of, recovered}
use Rattle.ud_state.proofs.Ends.{idle_now}
use Rattle.ud_state.proofs.Valid.{valid_idle}
use Rattle.tc_undo.proofs.Steadiness.{leaves_of, past_of}
use Rattle.tc_undo.proofs.undo.UndoSpace.commit.Goals as goal

pub returns-then-not-self-clause-kept : goal.returns-then-not-self-clause-kept
returns-then-not-self-clause-kept g c = λ t. valid_idle _ _ _ _ _ c.if-not-self.true (c.requires.1.valid t)

pub returns-in-Ok-clause-kept : goal.returns-in-Ok-clause-kept
returns-in-Ok-clause-kept g c = λ t. idle_now _ _ (c.in-Ok.ensures.idle t)

pub returns-in-Ok-clause-moments : goal.returns-in-Ok-clause-moments
returns-in-Ok-clause-moments g c = λ t.
    let old = g.V.Volume.calls c.args.self.now.vol in
    leaves_of (λ s. g.V.Volume.calls s.vol) c.args.self.now _ (λ (o : Option Files). (o ≡ recovered (reads_now old)) ⊎ (o ≡ Some (data_of (reads_now old)))) (c.finish.ensures.moments t)

pub returns-in-Err-clause-moments : goal.returns-in-Err-clause-moments
returns-in-Err-clause-moments g c = λ t.
    let old = g.V.Volume.calls c.args.self.now.vol in
    leaves_of (λ s. g.V.Volume.calls s.vol) c.args.self.now _ (λ (o : Option Files). (o ≡ recovered (reads_now old)) ⊎ (o ≡ Some (data_of (reads_now old)))) (c.finish.ensures.moments t)

pub returns-then-not-self-clause-past : goal.returns-then-not-self-clause-past
returns-then-not-self-clause-past g c = λ t. record { later = omega arith; same = λ u le. refl }

pub returns-in-Ok-clause-past : goal.returns-in-Ok-clause-past
returns-in-Ok-clause-past g c = λ t. past_of (λ s. g.V.Volume.calls s.vol) _ c.args.self.now _ (c.finish.ensures.moments t)

pub returns-in-Err-clause-past : goal.returns-in-Err-clause-past
returns-in-Err-clause-past g c = λ t. past_of (λ s. g.V.Volume.calls s.vol) _ c.args.self.now _ (c.finish.ensures.moments t)
