use Rattle.std.proofs.Common.{rules, ◌∙◌, Bool, false, length, arith, sym, ap, subst}
use Rattle.std.proofs.lemmas.List.{length-replicate}
use Rattle.tc_space.specs.Frames.{only_reads_refl, only_reads_then}
use Rattle.hf_survey.specs.Trees.{WereFollowed}
use Rattle.hf_survey.proofs.Batched.{followed_none, followed_more, followed_stop, judged_all, marked_before, not_all}
use Rattle.hf_survey.proofs.Batches.{low_of}
use Rattle.hf_survey.proofs.Findings.{judged_at}
use Rattle.hf_survey.proofs.Keyed.{true_at_file}
use Rattle.hf_survey.proofs.Named.{are_true}
use Rattle.hf_survey.proofs.Rows.{entries_at}
use Rattle.hf_survey.proofs.Viewing.{buckets_at, looks_on}
use Rattle.hf_survey.proofs.reaching.reach_buckets.Goals as goal

pub loop-first-init : goal.loop-first-init
loop-first-init g c = record {
  reads = only_reads_refl g.S.Space c.args.space.now c.requires.surveyed.sound;
  looks = record { sound = c.requires.surveyed.sound; data_file = c.requires.surveyed.data_file; shows = λ t. c.new-window.ensures (g.S.Space.now c.args.space.now c.args.file) };
  most = omega arith;
  long = ap length c.requires.unset ∙ length-replicate {A = Bool} (length c.args.facts.now) false;
  followed = followed_none g.S.Space.tells c.args.head.now c.requires.surveyed.buckets.valid (g.S.Space.now c.args.space.now c.args.file) c.args.facts.now c.args.marks.now c.requires.unset;
}

pub entries-requires-clause-buckets : goal.entries-requires-clause-buckets
entries-requires-clause-buckets g c = buckets_at g.S.Space c.args.head.now c.args.file c.args.space.now c.loop-first.space c.loop-first.invariant.reads c.requires.surveyed.buckets

pub reach_some-requires-clause-marked : goal.reach_some-requires-clause-marked
reach_some-requires-clause-marked g c = marked_before g.S.Space.tells c.args.head.now c.requires.surveyed.buckets.valid (g.S.Space.now c.args.space.now c.args.file) c.args.facts.now c.loop-first.first c.loop-first.marks c.loop-first.verdict c.loop-first.invariant.followed c.emptied-items.result c.emptied-items.ensures

pub judge-requires-clause-low : goal.judge-requires-clause-low
judge-requires-clause-low g c =
    let on = c.in_ok-reach_some.ensures.reached c.if-not-branch.false in
    let w = c.loop-first.invariant.followed in
    low_of w.items c.reach_some.new.items c.reach_some.new.marks (length c.args.facts.now) (omega (arith, c.loop-first.invariant.long, c.reach_some.auto.marks)) (on.marked w.items w.marked)

pub judge-requires-clause-all : goal.judge-requires-clause-all
judge-requires-clause-all g c = λ t.
    let q = c.requires.surveyed.read t in
    true_at_file c.args.head.now c.args.facts.now (g.S.Space.now c.entries.new.space c.args.file) (g.S.Space.now c.args.space.now c.args.file) (c.entries.ensures.reads.files t c.args.file ∙ c.loop-first.invariant.reads.files t c.args.file)
    (are_true c.args.head.now q.pieces (g.S.Space.now c.args.space.now c.args.file) c.args.facts.now c.requires.surveyed.buckets.valid q.is)

pub loop-first-preserved : goal.loop-first-preserved
loop-first-preserved g c = record {
  reads = only_reads_then g.S.Space c.args.space.now c.entries.new.space c.judge.new.space (only_reads_then g.S.Space c.args.space.now c.loop-first.space c.entries.new.space c.loop-first.invariant.reads c.entries.ensures.reads) c.judge.ensures.reads;
  looks = looks_on g.S.Space c.args.file c.entries.new.space c.judge.new.space c.entries.new.window c.judge.ensures.reads c.requires.surveyed.data_file (λ t. (c.in_ok-entries.ensures.looks).shows t);
  most = omega arith;
  long = omega (arith, c.loop-first.invariant.long, c.reach_some.auto.marks);
  followed =
      let same = λ (t : g.S.Space.tells). c.entries.ensures.reads.files t c.args.file ∙ c.loop-first.invariant.reads.files t c.args.file in
      subst (λ n. WereFollowed g.S.Space.tells c.args.head.now (g.S.Space.now c.args.space.now c.args.file) c.args.facts.now n c.reach_some.new.marks c.in_ok-verdict.verdict) (search rules)
      (followed_more g.S.Space.tells c.args.head.now c.requires.surveyed.buckets.valid (g.S.Space.now c.args.space.now c.args.file) c.args.facts.now c.loop-first.first c.loop-first.marks c.loop-first.verdict c.loop-first.invariant.followed c.entries.new.places (search rules)
      (λ t. entries_at c.args.head.now c.loop-first.first c.entries.new.places (g.S.Space.now c.loop-first.space c.args.file) (g.S.Space.now c.args.space.now c.args.file) (c.loop-first.invariant.reads.files t c.args.file) (c.in_ok-entries.ensures.places t))
      c.reach_some.new.items c.reach_some.new.marks c.in_ok-verdict.verdict (c.in_ok-reach_some.ensures.reached c.if-not-branch.false)
      (λ others j. judged_at g.S.Space.tells c.args.facts.now _ _ (g.S.Space.now c.entries.new.space c.args.file) (g.S.Space.now c.args.space.now c.args.file) c.in_ok-verdict.verdict same
      (c.in_ok-verdict.ensures.judged others (judged_at g.S.Space.tells c.args.facts.now others (length others) (g.S.Space.now c.args.space.now c.args.file) (g.S.Space.now c.entries.new.space c.args.file) c.loop-first.verdict (λ t. sym (same t)) j))));
}

pub returns-in_err-verdict-clause-reads : goal.returns-in_err-verdict-clause-reads
returns-in_err-verdict-clause-reads g c = only_reads_then g.S.Space c.args.space.now c.entries.new.space c.judge.new.space (only_reads_then g.S.Space c.args.space.now c.loop-first.space c.entries.new.space c.loop-first.invariant.reads c.entries.ensures.reads) c.judge.ensures.reads

pub returns-then-not-branch-clause-none : goal.returns-then-not-branch-clause-none
returns-then-not-branch-clause-none g c = followed_stop g.S.Space.tells c.args.head.now c.requires.surveyed.buckets.valid (g.S.Space.now c.args.space.now c.args.file) c.args.facts.now c.loop-first.first c.loop-first.marks c.loop-first.verdict c.loop-first.invariant.followed c.entries.new.places (search rules)
    (λ t. entries_at c.args.head.now c.loop-first.first c.entries.new.places (g.S.Space.now c.loop-first.space c.args.file) (g.S.Space.now c.args.space.now c.args.file) (c.loop-first.invariant.reads.files t c.args.file) (c.in_ok-entries.ensures.places t))
    (c.in_ok-reach_some.ensures.stops c.if-not-branch.true)

pub returns-then-all_marked-clause-some : goal.returns-then-all_marked-clause-some
returns-then-all_marked-clause-some g c = judged_all g.S.Space.tells c.args.head.now c.requires.surveyed.buckets.valid (g.S.Space.now c.args.space.now c.args.file) c.args.facts.now c.loop-first.marks c.loop-first.verdict c.loop-first.invariant.long
    (subst (λ n. WereFollowed g.S.Space.tells c.args.head.now (g.S.Space.now c.args.space.now c.args.file) c.args.facts.now n c.loop-first.marks c.loop-first.verdict) (omega (arith, c.loop-first.invariant.most)) c.loop-first.invariant.followed)
    (c.all_marked.ensures.yes c.if-all_marked.true)

pub returns-clause-none : goal.returns-clause-none
returns-clause-none g c =
    let out = c.all_marked.ensures.no c.if-all_marked.false in
    not_all g.S.Space.tells c.args.head.now c.requires.surveyed.buckets.valid (g.S.Space.now c.args.space.now c.args.file) c.args.facts.now c.loop-first.marks c.loop-first.verdict c.loop-first.invariant.long
    (subst (λ n. WereFollowed g.S.Space.tells c.args.head.now (g.S.Space.now c.args.space.now c.args.file) c.args.facts.now n c.loop-first.marks c.loop-first.verdict) (omega (arith, c.loop-first.invariant.most)) c.loop-first.invariant.followed)
    out.0 out.1 out.2
