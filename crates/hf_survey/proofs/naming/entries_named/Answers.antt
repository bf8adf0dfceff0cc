use Rattle.std.proofs.Common.{◌≡◌, ◌∙◌, ⊎_elim, arith, sym, ap, subst}
use Rattle.tc_space.specs.Frames.{only_reads_refl, only_reads_then}
use Rattle.hf_survey.specs.Facts.{Names, entry_place}
use Rattle.hf_survey.proofs.Viewing.{buckets_at}
use Rattle.hf_survey.proofs.Named.{names_at}
use Rattle.hf_survey.proofs.Halving.{below_or}
use Rattle.hf_survey.proofs.naming.entries_named.Goals as goal

pub loop-bucket-init : goal.loop-bucket-init
loop-bucket-init g c = record {
  reads = only_reads_refl g.S.Space c.args.space.now c.requires.looks.sound;
  looks = c.requires.looks;
  yes = λ t b low. absurd (omega (arith, low));
}

pub entry-requires-clause-buckets : goal.entry-requires-clause-buckets
entry-requires-clause-buckets g c = buckets_at g.S.Space c.args.head.now c.args.file c.args.space.now c.loop-bucket.space c.loop-bucket.invariant.reads c.requires.buckets

pub loop-bucket-preserved : goal.loop-bucket-preserved
loop-bucket-preserved g c = record {
  reads = only_reads_then g.S.Space c.args.space.now c.loop-bucket.space c.entry.new.space c.loop-bucket.invariant.reads c.entry.ensures.reads;
  looks = c.in_ok-place.ensures.looks;
  yes = λ t b low. ⊎_elim (λ less. c.loop-bucket.invariant.yes t b less)
      (λ same. let e : c.in_ok-place.place ≡ entry_place c.args.head.now b (g.S.Space.now c.args.space.now c.args.file) = c.in_ok-place.ensures.place t ∙ (λ i. entry_place c.args.head.now (sym same i) (c.loop-bucket.invariant.reads.files t c.args.file i)) in
      subst (λ z. Names c.args.facts.now z) e (names_at c.args.facts.now c.in-Some.field-0 c.in_ok-place.place c.in-Some.ensures.some.0 c.in-Some.ensures.some.1))
      (below_or c.loop-bucket.bucket b low);
}

pub returns-in-None-clause-no : goal.returns-in-None-clause-no
returns-in-None-clause-no g c = λ is t rises. (
  c.loop-bucket.bucket,
  omega arith,
  λ names. (let e : c.in_ok-place.place ≡ entry_place c.args.head.now c.loop-bucket.bucket (g.S.Space.now c.args.space.now c.args.file) = c.in_ok-place.ensures.place t ∙ ap (entry_place c.args.head.now c.loop-bucket.bucket) (c.loop-bucket.invariant.reads.files t c.args.file) in
      c.in-None.ensures.none rises (subst (λ z. Names c.args.facts.now z) (sym e) names)),
)
