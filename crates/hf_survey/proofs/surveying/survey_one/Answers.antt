use Rattle.std.proofs.Common.{ℕ, List, sym, subst, arith}
use Rattle.hf_head.specs.Heads.{unit}
use Rattle.hf_block.specs.Walks.{HasNext, between}
use Rattle.hf_block.proofs.Listing.{between_long}
use Rattle.hf_tree.specs.Links.{width}
use Rattle.hf_survey.proofs.Judged.{same_rule}
use Rattle.hf_survey.proofs.Surveyed.{filled_of, front_is, next_of, unit_least}
use Rattle.hf_survey.proofs.surveying.survey_one.Goals as goal

pub next_block-requires-clause-unit : goal.next_block-requires-clause-unit
next_block-requires-clause-unit g c = unit_least c.args.head.now c.unit.result c.requires.head c.unit.ensures

pub returns-in_default-clause-broken : goal.returns-in_default-clause-broken
returns-in_default-clause-broken g c = λ rule e. record {
  rule_is = sym (same_rule (record { letter = 76; number = 3 }) rule e);
  none = λ t ps filled.
      let f : List ℕ = g.S.Space.now c.args.space.now c.args.file in
      let l = between_long c.args.at c.args.head.now.size f (omega (arith, c.requires.within.0)) (c.requires.within.1 t) in
      let front = front_is c.args.at c.args.head.now.size c.min-count.result f c.get-front.result.now (omega (arith, c.min-count.ensures, c.requires.within.0)) c.get-front.ensures.long (c.get-front.ensures.shows f (c.in_ok-fill.ensures.shows t (c.requires.looks.shows t))) in
      c.in_default.ensures.none (between c.args.at c.args.head.now.size f) front (omega (arith, l)) ps (filled_of c.args.head.now c.unit.result c.is_large.result (between c.args.at c.args.head.now.size f) ps c.unit.ensures c.is_large.ensures filled);
}

pub take_long-requires-clause-next : goal.take_long-requires-clause-next
take_long-requires-clause-next g c = λ t.
    let f : List ℕ = g.S.Space.now c.args.space.now c.args.file in
    let l = between_long c.args.at c.args.head.now.size f (omega (arith, c.requires.within.0)) (c.requires.within.1 t) in
    let front = front_is c.args.at c.args.head.now.size c.min-count.result f c.get-front.result.now (omega (arith, c.min-count.ensures, c.requires.within.0)) c.get-front.ensures.long (c.get-front.ensures.shows f (c.in_ok-fill.ensures.shows t (c.requires.looks.shows t))) in
    let n = next_of c.args.head.now c.unit.result c.in-Some.size c.is_large.result c.in-Some.block (between c.args.at c.args.head.now.size f) c.unit.ensures c.is_large.ensures (c.in-Some.ensures.next (between c.args.at c.args.head.now.size f) front (omega (arith, l))) in
    subst (λ (x : List ℕ). HasNext (width c.args.head.now) (unit c.args.head.now) c.in-Some.size c.in-Some.block (between c.args.at c.args.head.now.size x)) (sym (c.fill.ensures.reads.files t c.args.file)) n
