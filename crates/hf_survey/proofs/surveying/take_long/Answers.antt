use Rattle.std.proofs.Common.{ap, ℕ, ◌≤◌, List, length, refl, arith}
use Rattle.hf_block.specs.Walks.{between, is_free_block}
use Rattle.hf_block.proofs.Listing.{between_long}
use Rattle.hf_survey.specs.declared.surveying.Survey.{Survey}
use Rattle.hf_survey.proofs.Surveyed.{passed_free, passed_held, read, record_there, stand_free, stand_held}
use Rattle.hf_survey.proofs.surveying.take_long.Goals as goal

pub fact_behind-requires-clause-there : goal.fact_behind-requires-clause-there
fact_behind-requires-clause-there g c = λ t.
    let f : List ℕ = g.S.Space.now c.args.space.now c.args.file in
    let l = between_long c.args.place c.args.head.now.size f (omega (arith, c.requires.within.0)) (c.requires.within.1 t) in
    let w = read c.args.head.now c.args.place c.args.size c.args.block.now (between c.args.place c.args.head.now.size f) (c.requires.next t) (omega (arith, l, c.requires.within.0)) c.args.found.now c.args.found.now (ap is_free_block c.in_default.ensures.some) in
    record { r = w.r; has = record_there c.args.head.now w.r c.args.place c.args.head.now.size f w.has }

pub returns-in_default-clause-stand : goal.returns-in_default-clause-stand
returns-in_default-clause-stand g c = λ is s. stand_held c.args.head.now c.args.place c.args.size c.args.found.now (record { facts = c.push.new.self; frees = c.args.found.now.frees }) refl is s

pub returns-in_default-clause-passed : goal.returns-in_default-clause-passed
returns-in_default-clause-passed g c = λ t.
    let f : List ℕ = g.S.Space.now c.args.space.now c.args.file in
    let bytes : List ℕ = between c.args.place c.args.head.now.size f in
    let new : Survey = record { facts = c.push.new.self; frees = c.args.found.now.frees } in
    let l = between_long c.args.place c.args.head.now.size f (omega (arith, c.requires.within.0)) (c.requires.within.1 t) in
    let le : c.args.size ≤ length bytes = omega (arith, l, c.requires.within.0) in
    let w = read c.args.head.now c.args.place c.args.size c.args.block.now bytes (c.requires.next t) le c.args.found.now new (ap is_free_block c.in_default.ensures.some) in
    passed_held c.args.head.now c.args.place c.args.size c.args.block.now bytes (c.requires.next t) le c.args.found.now new w c.in_ok-fact.fact (c.in_ok-fact.ensures.fact t w.r (record_there c.args.head.now w.r c.args.place c.args.head.now.size f w.has)) c.in_ok-push.ensures.ok refl

pub returns-clause-stand : goal.returns-clause-stand
returns-clause-stand g c = λ is s. stand_free c.args.head.now c.args.place c.args.size c.args.found.now (record { facts = c.args.found.now.facts; frees = c.push-2.new.self }) c.in_ok-push-2.ensures.ok is s

pub returns-clause-passed : goal.returns-clause-passed
returns-clause-passed g c = λ t.
    let f : List ℕ = g.S.Space.now c.args.space.now c.args.file in
    let l = between_long c.args.place c.args.head.now.size f (omega (arith, c.requires.within.0)) (c.requires.within.1 t) in
    passed_free c.args.head.now c.args.place c.args.size c.args.block.now (between c.args.place c.args.head.now.size f) (c.requires.next t) (omega (arith, l, c.requires.within.0)) c.args.found.now (record { facts = c.args.found.now.facts; frees = c.push-2.new.self }) c.in-None.ensures.none refl c.in_ok-push-2.ensures.ok
