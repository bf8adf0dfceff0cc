use Rattle.std.proofs.Common.{◌≡◌, ◌∙◌, ℕ, List, [], refl, sym, ap, subst, arith}
use Rattle.tc_space.specs.Frames.{only_reads_refl, only_reads_then}
use Rattle.hf_block.specs.Walks.{between}
use Rattle.hf_block.proofs.Broken.{broken_on}
use Rattle.hf_block.proofs.Listing.{between_on}
use Rattle.hf_head.specs.Heads.{unit}
use Rattle.hf_block.specs.Pieces.{IsFilled}
use Rattle.hf_tree.specs.Links.{width}
use Rattle.hf_survey.specs.Surveys.{Passed}
use Rattle.hf_survey.proofs.Surveyed.{all_passed, passed_start, passed_then, stand_none}
use Rattle.hf_survey.proofs.surveying.survey_blocks.Goals as goal

pub loop-at-init : goal.loop-at-init
loop-at-init g c = record {
  reads = only_reads_refl g.S.Space c.args.space.now c.requires.sound;
  looks = record { sound = c.requires.sound; data_file = c.requires.file; shows = λ t. c.new-window.ensures (g.S.Space.now c.args.space.now c.args.file) };
  low = omega arith;
  high = c.requires.head.numbers.size_least;
  stand = stand_none c.args.head.now c.in_ok-found.found c.requires.head c.in_ok-found.ensures.1;
  passed = λ t. passed_start c.args.head.now c.args.head.now.first (between c.args.head.now.first c.args.head.now.size (g.S.Space.now c.args.space.now c.args.file)) c.in_ok-found.found c.in_ok-found.ensures.0 c.in_ok-found.ensures.1;
}

pub loop-at-preserved : goal.loop-at-preserved
loop-at-preserved g c =
    let v = c.loop-at.invariant in
    let on = c.in_ok-at.ensures.on in
    record {
      reads = only_reads_then g.S.Space c.args.space.now c.loop-at.space c.survey_on.new.space v.reads c.survey_on.ensures.reads;
      looks = c.in_ok-at.ensures.looks;
      low = omega (arith, v.low, on.on);
      high = on.within;
      stand = on.stand v.stand;
      passed = λ t.
          let f : List ℕ = g.S.Space.now c.args.space.now c.args.file in
          let rest = ap (λ (l : List ℕ). between c.loop-at.at c.args.head.now.size l) (v.reads.files t c.args.file) ∙ between_on c.args.head.now.first c.loop-at.at c.args.head.now.size f v.low v.high in
          passed_then c.args.head.now c.args.head.now.first c.loop-at.at c.in_ok-at.at (between c.args.head.now.first c.args.head.now.size f) (record { facts = []; frees = [] }) c.loop-at.found c.survey_on.new.found (v.passed t)
          (subst (λ (l : List ℕ). Passed c.args.head.now c.loop-at.at c.in_ok-at.at l c.loop-at.found c.survey_on.new.found) rest (on.passed t));
    }

pub returns-in_err-at-clause-broken : goal.returns-in_err-at-clause-broken
returns-in_err-at-clause-broken g c = broken_on c.from_residual-in_err-at.result c.in_err-at.field-0.0 _ c.from_residual-in_err-at.ensures.1 (λ rule e.
    let v = c.loop-at.invariant in
    let b = c.in_err-at.ensures.broken rule e in
    record {
      rule_is = b.rule_is;
      none = λ t ps filled.
          let f : List ℕ = g.S.Space.now c.args.space.now c.args.file in
          let rest = ap (λ (l : List ℕ). between c.loop-at.at c.args.head.now.size l) (v.reads.files t c.args.file) ∙ between_on c.args.head.now.first c.loop-at.at c.args.head.now.size f v.low v.high in
          let q = (v.passed t).rest ps filled in
          b.none t q.0 (subst (λ (l : List ℕ). IsFilled (width c.args.head.now) (unit c.args.head.now) l q.0) (sym rest) q.1);
    })

pub returns-clause-found : goal.returns-clause-found
returns-clause-found g c = λ t.
    let v = c.loop-at.invariant in
    let end : c.loop-at.at ≡ c.args.head.now.size = omega (arith, c.loop-at-test.false, v.high) in
    let f : List ℕ = g.S.Space.now c.args.space.now c.args.file in
    all_passed c.args.head.now f (record { facts = []; frees = [] }) c.loop-at.found c.requires.head (c.requires.inside t) refl refl (subst (λ (n : ℕ). Passed c.args.head.now c.args.head.now.first n (between c.args.head.now.first c.args.head.now.size f) (record { facts = []; frees = [] }) c.loop-at.found) end (v.passed t))
