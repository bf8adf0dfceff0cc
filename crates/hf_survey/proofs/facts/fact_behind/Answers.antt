use Rattle.std.proofs.Common.{◌≡◌, ◌∙◌, ◌+◌, ℕ, List, length, take, drop, arith, sym, ap}
use Rattle.hf_head.specs.Heads.{unit}
use Rattle.hf_tree.proofs.Fields.{at_inside}
use Rattle.hf_chain.specs.declared.heads.RecHead.{RecHead}
use Rattle.hf_chain.specs.Heads.{head_size}
use Rattle.hf_survey.specs.Facts.{marks_of}
use Rattle.hf_survey.proofs.Viewing.{looks_on}
use Rattle.hf_chain.proofs.Fronts.{in_bounds, key_at, key_inside}
use Rattle.hf_survey.proofs.facts.fact_behind.Goals as goal

pub head_at-requires-clause-inside : goal.head_at-requires-clause-inside
head_at-requires-clause-inside g c = λ t. let w = c.requires.there t in omega (arith, at_inside (unit c.args.head.now) w.r c.args.place (g.S.Space.now c.args.space.now c.args.file) w.has.is)

pub marks_behind-requires-clause-looks : goal.marks_behind-requires-clause-looks
marks_behind-requires-clause-looks g c = record {
  looks = looks_on g.S.Space c.args.file c.args.space.now c.head_at.new.space c.head_at.new.window c.head_at.ensures.reads c.requires.looks.data_file (λ t. c.in_ok-rec.ensures.shows t);
  inside = λ t.
      let w = c.requires.there t in
      let head = c.in_ok-rec.ensures.head t w.r w.has in
      omega (arith, key_inside (unit c.args.head.now) w.r c.args.place (g.S.Space.now c.args.space.now c.args.file) w.has.is, ap (λ (x : RecHead). x.head) head, ap (λ (x : RecHead). x.key) head, c.saturating_add-start.ensures, ap length (c.head_at.ensures.reads.files t c.args.file));
  small = λ t. omega (arith, c.head_at.ensures.long t, ap length (c.head_at.ensures.reads.files t c.args.file));
}

pub returns-clause-fact : goal.returns-clause-fact
returns-clause-fact g c = λ t r has.
    let f : List ℕ = g.S.Space.now c.args.space.now c.args.file in
    let e = c.head_at.ensures.reads.files t c.args.file in
    let head = c.in_ok-rec.ensures.head t r has in
    let inside = key_inside (unit c.args.head.now) r c.args.place f has.is in
    let start : c.saturating_add-start.result ≡ c.args.place + head_size r = omega (arith, c.saturating_add-start.ensures, ap (λ (x : RecHead). x.head) head, inside, c.head_at.ensures.long t) in
    let marks = c.in_ok-marks.ensures.marks t ∙ ap (marks_of c.args.head.now.buckets) ((λ i. take (head i).key (drop (start i) (e i))) ∙ key_at (unit c.args.head.now) r c.args.place f has.is) in
    c.fact_with.ensures r head marks (in_bounds c.args.head.now r c.args.place f has)
