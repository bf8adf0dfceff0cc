use Rattle.std.proofs.Common.{refl}
use Rattle.tc_memdb.specs.Engines.{contents_in}
use Rattle.ty_answers.specs.Engines.{engine_of}
use Rattle.tk_top.specs.Top.{no_keys}
use Rattle.tk_top.proofs.Memory.{memory_run, no_volume, none_filled, serving_caused, serving_is, wire_fault}
use Rattle.tk_top.proofs.top.serve_memory.Goals as goal

pub serve_base-requires-clause-ready : goal.serve_base-requires-clause-ready
serve_base-requires-clause-ready g c = record { sound = c.new-space.ensures.sound; held = λ t. (contents_in (engine_of c.database.result), refl) }

pub returns-clause-served : goal.returns-clause-served
returns-clause-served g c =
    memory_run g.W.Wire _ _ c.serve_base.result c.args.memory c.args.at.now c.args.turns _ _ c.args.wire.now c.serve_base.new.wire _ c.serve_base.ensures.told
    (serving_is c.serve_base.result c.serve_base.ensures.ends (no_volume c.serve_base.result _ _ c.serve_base.ensures.accounted.caused) (λ full. none_filled (λ d e x. x) (c.serve_base.ensures.full full) (no_keys c.args.memory) (record { has = record { held = (tt, c.database.ensures); log = refl }; stand = tt })))
    (record { has = record { held = (tt, c.database.ensures); log = refl }; stand = tt })
    _ _ c.serve_base.ensures.accounted.caused

pub returns-clause-caused : goal.returns-clause-caused
returns-clause-caused g c = λ count count'. serving_caused c.serve_base.result count count' _ _
    (serving_is c.serve_base.result c.serve_base.ensures.ends (no_volume c.serve_base.result _ _ c.serve_base.ensures.accounted.caused) (λ full. none_filled (λ d e x. x) (c.serve_base.ensures.full full) (no_keys c.args.memory) (record { has = record { held = (tt, c.database.ensures); log = refl }; stand = tt })))
    (wire_fault c.serve_base.result _ _ _ _ c.serve_base.ensures.accounted.caused)
