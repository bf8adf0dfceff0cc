use Rattle.std.proofs.Common.{ℕ, inl, refl, sym, subst, length}
use Rattle.tc_reach.proofs.Handed.{err_handed}
use Rattle.tc_space.specs.Ranges.{Passes}
use Rattle.tc_fixed.specs.Holding.{HasNoRoom}
use Rattle.tc_fixed.proofs.Celled.{ends_at}
use Rattle.tc_fixed.proofs.Filled.{cell_inside}
use Rattle.tc_fixed.proofs.putting.write_cell.Goals as goal

pub write_at-requires-clause-reaches : goal.write_at-requires-clause-reaches
write_at-requires-clause-reaches g c = record {
  file = inl refl;
  inside = λ t. cell_inside c.args.width c.args.last c.args.id c.place-at.result c.place.result (g.S.Space.now c.args.space.now 0) _ c.requires.id.0 c.place-at.ensures.value c.place.ensures.value (c.requires.cells.inside t) (c.in_ok-clear_up_to.ensures.wrote t).here;
}

pub returns-in_err-write_at-clause-full : goal.returns-in_err-write_at-clause-full
returns-in_err-write_at-clause-full g c = λ e. (
  c.in_err-write_at.ensures.outcome.err,
  λ t.
      let s = c.write_at.new.space in
      let full = c.in_err-write_at.ensures.full (err_handed c.from_residual-in_err-write_at.result c.in_err-write_at.field-0.0 _ c.from_residual-in_err-write_at.ensures.1 e) in
      subst (λ (n : ℕ). HasNoRoom (g.S.Space.limit s 0) (g.S.Space.log_full s) n) (ends_at c.args.width c.args.id c.place-at.result (length c.args.bytes.now) c.requires.id.0 c.place-at.ensures.value c.requires.cell)
      (subst (λ (limit : ℕ → ℕ). Passes (limit 0) (g.S.Space.log_full s) c.place-at.result (length c.args.bytes.now)) (sym c.in_err-write_at.ensures.writes.keeps.same_limit) full),
)
