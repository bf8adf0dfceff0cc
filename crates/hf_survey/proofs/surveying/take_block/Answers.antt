use Rattle.std.proofs.Common.{ap, refl}
use Rattle.hf_block.specs.Walks.{is_free_block}
use Rattle.hf_survey.specs.declared.surveying.Survey.{Survey}
use Rattle.hf_chain.proofs.Fronts.{head_is, in_bounds}
use Rattle.hf_survey.proofs.Surveyed.{key_near, passed_free, passed_held, read, stand_free, stand_held}
use Rattle.hf_survey.proofs.surveying.take_block.Goals as goal

pub returns-in_default-clause-added : goal.returns-in_default-clause-added
returns-in_default-clause-added c = λ is.
    let old : Survey = c.args.found.now in
    let new : Survey = record { facts = old.facts; frees = c.push.new.self } in
    record {
      stand = stand_free c.args.head.now c.args.place c.args.size old new c.in_ok-push.ensures.ok;
      passed = λ bytes part next le. passed_free c.args.head.now c.args.place c.args.size c.args.block.now bytes next le old new c.in_default.ensures.none refl c.in_ok-push.ensures.ok;
    }

pub returns-clause-added : goal.returns-clause-added
returns-clause-added c = λ is.
    let old : Survey = c.args.found.now in
    let new : Survey = record { facts = c.push-2.new.self; frees = old.frees } in
    record {
      stand = stand_held c.args.head.now c.args.place c.args.size old new refl;
      passed = λ bytes part next le.
          let s = c.in-Some.ensures.some in
          let w = read c.args.head.now c.args.place c.args.size c.args.block.now bytes next le old new (ap is_free_block s) in
          let head = head_is c.in-Some.rec c.args.block.now w.r s w.head in
          let k = c.in-Some-key_of.ensures in
          let key = key_near c.args.head.now w.r c.in-Some.rec c.args.front.now bytes c.in-Some-key_of.key.now w.has head part k.0 k.1 in
          passed_held c.args.head.now c.args.place c.args.size c.args.block.now bytes next le old new w c.fact_in-fact.result (c.fact_in-fact.ensures w.r head key (in_bounds c.args.head.now w.r 0 bytes w.has)) c.in_ok-push-2.ensures.ok refl;
    }
