use Rattle.std.proofs.Common.{◌≡◌, rules, refl, ap, Bool, false, to_z, of_z, w32}
use Rattle.std.specs.Prelude.{◌||◌}
use Rattle.tc_base.specs.declared.request.Request.TheVariants.{FwmKeys, Misc}
use Rattle.tc_base.specs.declared.request.Reply.TheVariants.{Fail, FailMisc}
use Rattle.tc_model.specs.Apply.{called}
use Rattle.tc_model.specs.Misc.{updates_call}
use Rattle.ty_answers.specs.Requests.{got_keys}
use Rattle.ty_answers.proofs.Dispatch.{arm, copy_arm, full_arm, full_packing, packing_arm}
use Rattle.ty_answers.proofs.Making.{if_ok, on_ok}
use Rattle.ty_answers.proofs.database.serve.Goals as goal

pub returns-in-FwmKeys-clause-steps : goal.returns-in-FwmKeys-clause-steps
returns-in-FwmKeys-clause-steps g c =
    let same : to_z w32 (of_z w32 c.in-FwmKeys.maximum) ≡ c.in-FwmKeys.maximum = search rules in
    if_ok _ (λ done n. arm g.E.S.Space g.E.Storage.own g.E.Storage.layout g.E.Storage.holds c.args.request (FwmKeys c.in-FwmKeys.prefix c.in-FwmKeys.maximum) (got_keys c.in-FwmKeys.prefix c.in-FwmKeys.maximum) Fail false done _ _ _ _ _ _ _ c.in-FwmKeys.is refl (λ m. refl) refl refl n) (rw same at c.fwmkeys.ensures.answers)

pub returns-in-Misc-clause-steps : goal.returns-in-Misc-clause-steps
returns-in-Misc-clause-steps g c = if_ok _ (λ done n. arm g.E.S.Space g.E.Storage.own g.E.Storage.layout g.E.Storage.holds c.args.request (Misc c.in-Misc.name c.in-Misc.options c.in-Misc.args) (called c.in-Misc.name c.in-Misc.options c.in-Misc.args) FailMisc (updates_call c.in-Misc.name c.in-Misc.args) done _ _ _ _ _ _ _ c.in-Misc.is refl (λ m. refl) refl refl n) c.call.ensures.answers

pub returns-in-Optimize-clause-tight : goal.returns-in-Optimize-clause-tight
returns-in-Optimize-clause-tight g c = on_ok c.optimize.result (λ tight is. tight) c.optimize.ensures.tight

pub returns-in-Optimize-clause-steps : goal.returns-in-Optimize-clause-steps
returns-in-Optimize-clause-steps g c = if_ok _ (λ done n. packing_arm g.E.S.Space g.E.Storage.own g.E.Storage.layout g.E.Storage.holds c.args.request _ done _ _ _ _ _ _ _ c.in-Optimize.is n) c.optimize.ensures.answers

pub returns-in-Optimize-clause-full : goal.returns-in-Optimize-clause-full
returns-in-Optimize-clause-full g c = λ full. full_packing g.E.S.Space g.E.Storage.holds g.E.Storage.fills c.args.request _ c.args.engine.now _ _ c.args.walk.now c.in-Optimize.is (λ t d e. g.met.E.Storage.log_fills c.args.engine.now c.args.space.now c.optimize.new.space d e (c.optimize.ensures.full full t))

pub returns-in-Misc-clause-full : goal.returns-in-Misc-clause-full
returns-in-Misc-clause-full g c = λ full. full_arm g.E.S.Space g.E.Storage.holds g.E.Storage.fills c.args.request (Misc c.in-Misc.name c.in-Misc.options c.in-Misc.args) (called c.in-Misc.name c.in-Misc.options c.in-Misc.args) c.args.engine.now _ _ c.args.walk.now c.in-Misc.is refl
    (ap (λ (b : Bool). b || false) (c.call.ensures.writes full)) refl (λ m. refl) (c.call.ensures.full full)

pub returns-in-Copy-clause-steps : goal.returns-in-Copy-clause-steps
returns-in-Copy-clause-steps g c = if_ok _ (λ done n. copy_arm g.E.S.Space g.E.Storage.own g.E.Storage.layout g.E.Storage.holds c.args.request c.in-Copy.path c.kind.result done c.args.engine.now c.args.space.now c.args.walk.now c.args.reply.now _ c.in-Copy.is c.requires.ready.sound (λ m h. c.kind.ensures (g.E.S.Space.now c.args.space.now) m h.1) n) c.copy.ensures.said
