use Rattle.std.proofs.Common.{◌≡◌, ◌∙◌, ◌%◌, ℕ, List, min, take, drop, length, sym, ap, arith, length-drop}
use Rattle.std.proofs.lemmas.List.{length-take-le, take-take}
use Rattle.hf_tree.specs.Keys.{bucket_of}
use Rattle.tc_base.specs.Hashes.{back_hash, front_hash}
use Rattle.hf_survey.specs.Facts.{front_of}
use Rattle.hf_survey.proofs.Pieced.{front_taken}
use Rattle.hf_survey.proofs.Viewing.{looks_on}
use Rattle.hf_survey.proofs.facts.marks_behind.Goals as goal

pub fill-requires-clause-inside : goal.fill-requires-clause-inside
fill-requires-clause-inside g c = λ t. omega (arith, c.in_ok-back.ensures.looks.inside t, c.min-count.ensures)

pub returns-clause-marks : goal.returns-clause-marks
unfolding bucket_of
returns-clause-marks g c = λ t.
    let f = g.S.Space.now c.args.space.now c.args.file in
    let first = c.front_behind.ensures.reads.files t c.args.file in
    let second = c.back_behind.ensures.reads.files t c.args.file ∙ first in
    let key : List ℕ = take c.args.long (drop c.args.start f) in
    let whole : length key ≡ c.args.long = length-take-le c.args.long (drop c.args.start f) (omega (arith, length-drop c.args.start f, c.requires.looks.inside t)) in
    let read = c.get.ensures.shows (g.S.Space.now c.back_behind.new.space c.args.file) (c.in_ok-fill.ensures.shows t (c.in_ok-back.ensures.looks.looks.shows t)) ∙ ap (λ (l : List ℕ). take c.min-count.result (drop c.args.start l)) second in
    let few : take c.min-count.result (drop c.args.start f) ≡ take c.min-count.result key = sym (take-take c.min-count.result c.args.long (drop c.args.start f) (omega (arith, c.min-count.ensures))) in
    λ i. record {
      bucket = (ap (λ (h : ℕ). h % c.args.buckets) (c.in_ok-hash.ensures.hash t)) i;
      second = (ap (λ (h : ℕ). h % 256) (c.in_ok-back.ensures.hash t ∙ ap (λ (l : List ℕ). back_hash (take c.args.long (drop c.args.start l))) first)) i;
      front = (c.front_in.ensures ∙ ap front_of (read ∙ few) ∙ front_taken key c.min-count.result (omega (arith, whole, c.min-count.ensures))) i;
    }

pub returns-clause-looks : goal.returns-clause-looks
returns-clause-looks g c = looks_on g.S.Space c.args.file c.back_behind.new.space c.fill.new.space c.fill.new.self c.fill.ensures.reads c.in_ok-back.ensures.looks.looks.data_file (λ t. c.in_ok-fill.ensures.shows t (c.in_ok-back.ensures.looks.looks.shows t))
