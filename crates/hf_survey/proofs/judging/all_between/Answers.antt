use Rattle.std.proofs.Common.{◌∙◌, ⊎_elim, arith, sym, ap, subst}
use Rattle.std.specs.Prelude.{slice_get}
use Rattle.tc_space.specs.Frames.{only_reads_refl, only_reads_then}
use Rattle.hf_survey.specs.declared.reaching.Item.{Item}
use Rattle.hf_survey.specs.Orders.{IsBetweenBy}
use Rattle.hf_survey.proofs.Lists.{same_item, get_low}
use Rattle.hf_survey.proofs.Halving.{below_or}
use Rattle.hf_survey.proofs.Keyed.{true_at_file, between_at_file, between_at_now}
use Rattle.hf_survey.proofs.judging.all_between.Goals as goal

pub loop-k-init : goal.loop-k-init
loop-k-init g c = record {
  reads = only_reads_refl g.S.Space c.args.space.now c.requires.sound;
  yes = λ t k x low. absurd (omega (arith, low));
}

pub is_between-requires-clause-low : goal.is_between-requires-clause-low
is_between-requires-clause-low g c = c.requires.low c.loop-k.k c.at.result.now c.at.ensures

pub is_between-requires-clause-all : goal.is_between-requires-clause-all
is_between-requires-clause-all g c = λ t. true_at_file c.args.head.now c.args.facts.now (g.S.Space.now c.loop-k.space c.args.file) (g.S.Space.now c.args.space.now c.args.file) (c.loop-k.invariant.reads.files t c.args.file) (c.requires.all t)

pub loop-k-preserved : goal.loop-k-preserved
loop-k-preserved g c = record {
  reads = only_reads_then g.S.Space c.args.space.now c.loop-k.space c.is_between.new.space c.loop-k.invariant.reads c.is_between.ensures.reads;
  yes = λ t k x low at. ⊎_elim (λ less. c.loop-k.invariant.yes t k x less at)
      (λ same. let s = same_item (slice_get c.args.items.now k) x c.at.result.now at (ap (slice_get c.args.items.now) same ∙ c.at.ensures) in
      subst (λ (z : Item). IsBetweenBy c.args.facts.now z (g.S.Space.now c.args.space.now c.args.file)) (sym s) (between_at_file c.args.facts.now c.at.result.now (g.S.Space.now c.loop-k.space c.args.file) (g.S.Space.now c.args.space.now c.args.file) (c.loop-k.invariant.reads.files t c.args.file) (c.in_ok-is_between.ensures.yes c.if-not-branch.false t)))
      (below_or c.loop-k.k k low);
}

pub returns-then-not-branch-clause-no : goal.returns-then-not-branch-clause-no
returns-then-not-branch-clause-no g c = λ is t. (c.loop-k.k, c.at.result.now, c.at.ensures, λ all. c.in_ok-is_between.ensures.no c.if-not-branch.true t (between_at_now c.args.facts.now c.at.result.now (g.S.Space.now c.loop-k.space c.args.file) (g.S.Space.now c.args.space.now c.args.file) (c.loop-k.invariant.reads.files t c.args.file) all))

pub returns-clause-yes : goal.returns-clause-yes
returns-clause-yes g c = λ is t k x at. c.loop-k.invariant.yes t k x (let l = get_low c.args.items.now k x at in omega (arith, l)) at
