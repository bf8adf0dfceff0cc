use Rattle.std.proofs.Common.{◌++◌, ◌∙◌, ℕ, List, length, ap, refl}
use Rattle.tc_reach.proofs.Handed.{err_handed}
use Rattle.ty_ulog.proofs.Noting.{end_lacks, gathers_written}
use Rattle.ty_ulog.proofs.log.Ulog.flush.Goals as goal

pub returns-in_err-write_end-clause-full : goal.returns-in_err-write_end-clause-full
returns-in_err-write_end-clause-full g c = λ e. (
  λ none. let yes = c.is_empty.ensures.1 none in absurd cc,
  end_lacks g.S.Space c.args.space.now _ c.len-end.result _ _ c.len-end.ensures (ap (λ (l : List ℕ). length l) c.as_slice.ensures)
      (c.in_err-write_end.ensures.full (err_handed c.from_residual.result c.in_err-write_end.field-0.0 _ c.from_residual.ensures.1 e)),
)

pub returns-clause-gathers : goal.returns-clause-gathers
returns-clause-gathers g c = λ own ticks asked u a h.
    gathers_written g.S.Space own ticks asked u c.args.self.now _ a c.args.space.now _ c.args.batch.now _ h refl c.len-end.result c.len-end.ensures c.in-Ok.ensures.marked
    (λ t. c.in_ok-write_end.ensures.wrote t ∙ ap (λ (l : List ℕ). g.S.Space.now c.args.space.now 2 ++ l) c.as_slice.ensures) c.in_ok-write_end.ensures.others c.in_ok-write_end.ensures.frame c.in_ok-write_end.ensures.outcome.ok c.clear.ensures refl
