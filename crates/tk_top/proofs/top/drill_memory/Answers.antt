use Rattle.std.proofs.Common.{⊎_elim, refl, sym, subst, arith}
use Rattle.tc_io.specs.Causes.{Rose}
use Rattle.tc_memdb.specs.Engines.{contents_in}
use Rattle.ty_answers.specs.Engines.{engine_of}
use Rattle.tk_top.specs.declared.ends.End.{End}
use Rattle.tk_top.specs.Top.{DrillsMemory, no_keys}
use Rattle.tk_top.proofs.Memory.{drilled_memory}
use Rattle.tk_top.proofs.top.drill_memory.Goals as goal

pub manage-requires : goal.manage-requires
manage-requires g c = record { may = record { sound = c.new-space.ensures.sound; untouched = c.new-space.ensures.touched; stands = λ t. (contents_in (engine_of c.database-base.result), refl, tt) } }

pub returns : goal.returns
returns g c = subst (λ (end : End). DrillsMemory g.O.Sink end c.args.memory c.args.seed c.args.count c.args.out.now c.manage.new.out) (sym c.end_of-end.ensures)
    (drilled_memory _ g.O.Sink _ _ _ c.manage.result _ _ _ c.args.out.now c.manage.new.out c.args.memory c.args.seed c.args.count
    (record { has = record { held = (tt, c.database-base.ensures); log = refl }; stand = tt })
    (λ is. let r : Rose 0 0 = c.manage.ensures.accounts.cause is in omega (arith, r))
    (λ is. ⊎_elim (λ x. x.1) (λ x. ⊎_elim (λ log. log) (λ large. large.1) x) (c.manage.ensures.full is (no_keys c.args.memory) (record { has = record { held = (tt, c.database-base.ensures); log = refl }; stand = tt })).by)
    c.manage.ensures.accounts.cause_sink c.manage.ensures.managed)
