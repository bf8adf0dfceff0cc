use Rattle.std.proofs.Common.{◌≡◌, ◌∙◌, ◌+◌, ◌-◌, ℕ, List, take, drop, length, refl, sym, ap, arith}
use Rattle.tc_space.specs.Frames.{only_reads_refl, only_reads_then}
use Rattle.tc_reach.specs.Windows.{Shows}
use Rattle.hf_survey.specs.Hashing.{back_from}
use Rattle.hf_survey.proofs.Pieced.{back_all, back_end, back_piece, looks_at_on}
use Rattle.hf_survey.proofs.Viewing.{looks_on}
use Rattle.hf_survey.proofs.facts.back_behind.Goals as goal

pub loop-left-init : goal.loop-left-init
loop-left-init g c = record {
  reads = only_reads_refl g.S.Space c.args.space.now c.requires.looks.looks.sound;
  looks = c.requires.looks;
  within = omega arith;
  hash = λ t. let none : c.args.long - c.args.long ≡ 0 = omega arith in sym (ap (λ (n : ℕ). back_from 751 (take n (drop (c.args.start + c.args.long) (g.S.Space.now c.args.space.now c.args.file)))) none ∙ back_end 751);
}

pub fill-requires-clause-inside : goal.fill-requires-clause-inside
fill-requires-clause-inside g c = λ t. let v = c.loop-left.invariant in omega (arith, v.looks.inside t, v.within, c.saturating_add-at.ensures, c.min-count.ensures)

pub loop-left-preserved : goal.loop-left-preserved
loop-left-preserved g c =
    let v = c.loop-left.invariant in
    let now = g.S.Space.now c.loop-left.space c.args.file in
    let left = c.loop-left.left - c.min-count.result in
    let shows : g.S.Space.tells → Shows c.fill.new.self now = λ t. c.in_ok-fill.ensures.shows t (v.looks.looks.shows t) in
    record {
      reads = only_reads_then g.S.Space c.args.space.now c.loop-left.space c.fill.new.space v.reads c.fill.ensures.reads;
      looks = looks_at_on g.S.Space c.args.file c.args.start c.args.long c.loop-left.space c.fill.new.space c.loop-left.window c.fill.new.self v.looks c.fill.ensures.reads (looks_on g.S.Space c.args.file c.loop-left.space c.fill.new.space c.fill.new.self c.fill.ensures.reads v.looks.looks.data_file shows);
      within = omega (arith, v.within);
      hash = λ t.
          let e = v.reads.files t c.args.file in
          let at : c.saturating_add-at.result ≡ c.args.start + left = omega (arith, v.looks.inside t, v.looks.small t, v.within, c.saturating_add-at.ensures) in
          c.back_on-hash.ensures
          ∙ back_piece (g.S.Space.now c.args.space.now c.args.file) 751 c.args.start c.args.long left c.loop-left.left c.min-count.result c.loop-left.hash c.saturating_add-at.result c.get.result.now (omega (arith, c.min-count.ensures)) v.within (v.hash t) at
          (c.get.ensures.shows now (shows t) ∙ ap (λ (l : List ℕ). take c.min-count.result (drop c.saturating_add-at.result l)) e);
    }

pub returns-clause-hash : goal.returns-clause-hash
returns-clause-hash g c = λ t.
    let v = c.loop-left.invariant in
    let f = g.S.Space.now c.args.space.now c.args.file in
    let none : c.loop-left.left ≡ 0 = omega (arith, c.loop-left-test.false) in
    let start : c.args.start + c.loop-left.left ≡ c.args.start = omega (arith, none) in
    let long : c.args.long - c.loop-left.left ≡ c.args.long = omega (arith, none) in
    v.hash t ∙ (λ i. back_from 751 (take (long i) (drop (start i) f))) ∙ back_all (take c.args.long (drop c.args.start f))
