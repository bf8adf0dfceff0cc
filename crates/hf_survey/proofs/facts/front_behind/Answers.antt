use Rattle.std.proofs.Common.{◌≡◌, ◌∙◌, ◌+◌, ℕ, List, take, drop, length, refl, sym, ap, arith}
use Rattle.std.specs.List.{fold}
use Rattle.tc_space.specs.Frames.{only_reads_refl, only_reads_then}
use Rattle.tc_base.specs.Hashes.{front_step}
use Rattle.tc_base.proofs.Hashing.{front_is}
use Rattle.tc_reach.specs.Windows.{Shows}
use Rattle.hf_survey.proofs.Pieced.{front_piece, looks_at_on}
use Rattle.hf_survey.proofs.Viewing.{looks_on}
use Rattle.hf_survey.proofs.facts.front_behind.Goals as goal

pub loop-done-init : goal.loop-done-init
loop-done-init g c = record { reads = only_reads_refl g.S.Space c.args.space.now c.requires.looks.looks.sound; looks = c.requires.looks; within = omega arith; hash = λ t. refl }

pub fill-requires-clause-inside : goal.fill-requires-clause-inside
fill-requires-clause-inside g c = λ t. let v = c.loop-done.invariant in omega (arith, v.looks.inside t, c.saturating_add-at.ensures, c.min-count.ensures, c.loop-done-test.true)

pub loop-done-preserved : goal.loop-done-preserved
loop-done-preserved g c =
    let v = c.loop-done.invariant in
    let now = g.S.Space.now c.loop-done.space c.args.file in
    let shows : g.S.Space.tells → Shows c.fill.new.self now = λ t. c.in_ok-fill.ensures.shows t (v.looks.looks.shows t) in
    record {
      reads = only_reads_then g.S.Space c.args.space.now c.loop-done.space c.fill.new.space v.reads c.fill.ensures.reads;
      looks = looks_at_on g.S.Space c.args.file c.args.start c.args.long c.loop-done.space c.fill.new.space c.loop-done.window c.fill.new.self v.looks c.fill.ensures.reads (looks_on g.S.Space c.args.file c.loop-done.space c.fill.new.space c.fill.new.self c.fill.ensures.reads v.looks.looks.data_file shows);
      within = omega (arith, c.min-count.ensures, c.loop-done-test.true);
      hash = λ t.
          let e = v.reads.files t c.args.file in
          let at : c.saturating_add-at.result ≡ c.args.start + c.loop-done.done = omega (arith, v.looks.inside t, v.looks.small t, c.saturating_add-at.ensures, c.loop-done-test.true) in
          c.front_on-hash.ensures
          ∙ front_piece (g.S.Space.now c.args.space.now c.args.file) 19780211 c.args.start c.loop-done.done c.min-count.result c.saturating_add-at.result c.loop-done.hash c.get.result.now (v.hash t) at
          (c.get.ensures.shows now (shows t) ∙ ap (λ (l : List ℕ). take c.min-count.result (drop c.saturating_add-at.result l)) e);
    }

pub returns-clause-hash : goal.returns-clause-hash
returns-clause-hash g c = λ t.
    let v = c.loop-done.invariant in
    let f = g.S.Space.now c.args.space.now c.args.file in
    let end : c.loop-done.done ≡ c.args.long = omega (arith, v.within, c.loop-done-test.false) in
    v.hash t ∙ ap (λ (n : ℕ). fold front_step 19780211 (take n (drop c.args.start f))) end ∙ sym (front_is (take c.args.long (drop c.args.start f)))
