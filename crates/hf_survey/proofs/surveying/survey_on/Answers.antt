use Rattle.std.proofs.Common.{ℕ, List, arith}
use Rattle.hf_block.specs.Walks.{between}
use Rattle.hf_block.proofs.Broken.{broken_on}
use Rattle.hf_block.proofs.Listing.{between_long}
use Rattle.hf_survey.proofs.Lists.{if_ok}
use Rattle.hf_survey.proofs.Surveyed.{front_is, went_after, went_on}
use Rattle.hf_survey.proofs.surveying.survey_on.Goals as goal

pub returns-then-next-at-clause-on : goal.returns-then-next-at-clause-on
returns-then-next-at-clause-on g c =
    let f : List ℕ = g.S.Space.now c.args.space.now c.args.file in
    let on = c.in_ok-next.ensures.on in
    went_on g.S.Space.tells c.args.head.now c.args.at c.in_ok-next.next f c.args.found.now c.survey_chunk.new.found c.if-next-at.true on.1 on.2 (λ t.
    let l = between_long c.args.at c.args.head.now.size f (omega (arith, c.requires.within.0)) (c.requires.within.1 t) in
    c.in_ok-next.ensures.passed (between c.args.at c.args.head.now.size f) (front_is c.args.at c.args.head.now.size c.min-count.result f c.get.result.now (omega (arith, c.min-count.ensures, c.requires.within.0)) c.get.ensures.long (c.get.ensures.shows f (c.in_ok-fill.ensures.shows t (c.requires.looks.shows t)))) l)

pub returns-clause-on : goal.returns-clause-on
returns-clause-on g c =
    let f : List ℕ = g.S.Space.now c.args.space.now c.args.file in
    let on = c.in_ok-next.ensures.on in
    if_ok c.survey_one.result (λ next x. went_after g.S.Space.tells c.args.head.now c.args.at c.in_ok-next.next next f (g.S.Space.now c.fill.new.space c.args.file) c.args.found.now c.survey_chunk.new.found c.survey_one.new.found (omega (arith, c.if-next-at.false, on.0)) (λ t. c.fill.ensures.reads.files t c.args.file) on.2 (λ t.
    let l = between_long c.args.at c.args.head.now.size f (omega (arith, c.requires.within.0)) (c.requires.within.1 t) in
    c.in_ok-next.ensures.passed (between c.args.at c.args.head.now.size f) (front_is c.args.at c.args.head.now.size c.min-count.result f c.get.result.now (omega (arith, c.min-count.ensures, c.requires.within.0)) c.get.ensures.long (c.get.ensures.shows f (c.in_ok-fill.ensures.shows t (c.requires.looks.shows t)))) l) x) c.survey_one.ensures.on

pub returns-in_err-next-clause-broken : goal.returns-in_err-next-clause-broken
returns-in_err-next-clause-broken g c = broken_on c.from_residual-in_err-next.result c.in_err-next.field-0.0 _ c.from_residual-in_err-next.ensures.1 (λ rule same.
    record {
      rule_is = c.in_err-next.ensures.rule rule same;
      none = λ t ps filled.
          let f : List ℕ = g.S.Space.now c.args.space.now c.args.file in
          let l = between_long c.args.at c.args.head.now.size f (omega (arith, c.requires.within.0)) (c.requires.within.1 t) in
          c.in_err-next.ensures.broken rule same (between c.args.at c.args.head.now.size f) (front_is c.args.at c.args.head.now.size c.min-count.result f c.get.result.now (omega (arith, c.min-count.ensures, c.requires.within.0)) c.get.ensures.long (c.get.ensures.shows f (c.in_ok-fill.ensures.shows t (c.requires.looks.shows t)))) l ps filled;
    })
