use Rattle.std.proofs.Common.{sym, subst}
use Rattle.tc_space.specs.declared.errors.RecErr.TheVariants.{Full}
use Rattle.tc_model.specs.Arrays.{greatest, id_of}
use Rattle.tc_fixed.specs.Cells.{end_of}
use Rattle.tc_fixed.specs.Holding.{HasNoRoom, max_id_of, width_of}
use Rattle.tc_fixeddb.specs.Changing.{set_at}
use Rattle.ty_base.proofs.Refusals.{cause_is, same_refusal}
use Rattle.tc_fixeddb.proofs.Stored.{named_full}
use Rattle.tc_fixeddb.proofs.holding.FixedEngine.set_named.Goals as goal

pub returns-in-Err-clause-full : goal.returns-in-Err-clause-full
returns-in-Err-clause-full g c = λ full m means.
    subst (λ b. HasNoRoom (g.S.Space.limit b 0) (g.S.Space.log_full b) (end_of (width_of c.args.self.now.fixed) (greatest (set_at (width_of c.args.self.now.fixed) m (id_of (max_id_of c.args.self.now.fixed) m c.args.key.now) c.args.value.now))))
    (sym (c.give_up.ensures.full (cause_is c.in-Err.e Full full)))
    (named_full g.S.Space _ _ _ c.args.key.now c.in-Some.id c.args.value.now c.in-Some.ensures.names (c.in-Err.ensures.full (same_refusal c.in-Err.e Full full)).1 m means)
