use Rattle.std.proofs.Common.{◌≡◌, subst, ◌∙◌, ◌≤◌, ◌<◌, ◌^◌, ℕ, List, refl, sym, ap, arith}
use Rattle.tc_space.specs.Frames.{keeps_refl, keeps_then, reads_refl, reads_then}
use Rattle.tc_space.specs.Stores.{ready_reads}
use Rattle.tc_model.specs.Arrays.{greatest}
use Rattle.tc_fixed.specs.Holding.{Means}
use Rattle.tc_fixed.specs.Listing.{first_of}
use Rattle.tc_fixeddb.proofs.Beginning.{begun_none, begun_more, begun_all, greatest_small}
use Rattle.tc_fixeddb.proofs.Fronts.{range_first, range_next, range_wide}
use Rattle.tc_fixeddb.proofs.Joining.{first_none}
use Rattle.tc_fixeddb.proofs.prefixes.ids_beginning.Goals as goal

pub loop-from-init : goal.loop-from-init
loop-from-init g c = record {
  range = range_first c.args.n;
  found = λ m means. c.new-found.ensures.items ∙ (first_none c.args.most ∙ ap (λ (l : List ℕ). first_of c.args.most l) (sym (begun_none c.args.n m c.requires.n.0 c.requires.n.1)));
  reads = reads_refl g.S.Space (Means g.S.Space) c.args.fixed.now c.args.space.now c.requires.ready.sound;
  keeps = keeps_refl g.S.Space c.args.space.now;
  shape = record { width = refl; limit = refl };
}

pub add_range-requires : goal.add_range-requires
add_range-requires g c = record { ready = ready_reads g.S.Space (Means g.S.Space) _ _ _ _ c.loop-from.invariant.reads c.requires.ready }

pub overflow_mul-to : goal.overflow_mul-to
overflow_mul-to g c =
    let wide = range_wide c.args.n c.loop-from.from c.loop-from.to c.requires.n.0 c.loop-from.invariant.range in
    record { fits = omega (arith, wide.most, c.loop-from-test.true, c.greatest-greatest.ensures.allowed, greatest_small c.args.fixed.now) }

pub loop-from-smaller : goal.loop-from-smaller
loop-from-smaller g c =
    let wide = range_wide c.args.n c.loop-from.from c.loop-from.to c.requires.n.0 c.loop-from.invariant.range in
    omega (arith, wide.some, c.loop-from-test.true)

pub loop-from-preserved : goal.loop-from-preserved
loop-from-preserved g c =
    let v = c.loop-from.invariant in
    let small : c.loop-from.from ≤ 2 ^ 40 = omega (arith, c.loop-from-test.true, c.greatest-greatest.ensures.allowed, greatest_small c.args.fixed.now) in
    record {
      range = range_next c.args.n c.loop-from.from c.loop-from.to v.range;
      found = λ m means. subst (λ (l : List ℕ). c.add_range.new.into.items ≡ first_of c.args.most l) (sym (begun_more c.args.n m c.loop-from.from c.loop-from.to c.requires.n.0 v.range small)) (c.in_ok-add_range.ensures.listed m (v.reads.means m means) _ (v.found m means));
      reads = reads_then g.S.Space (Means g.S.Space) _ _ _ _ _ _ v.reads c.add_range.ensures.reads;
      keeps = keeps_then g.S.Space _ _ _ v.keeps c.add_range.ensures.keeps;
      shape = record { width = c.add_range.ensures.shape.width ∙ v.shape.width; limit = c.add_range.ensures.shape.limit ∙ v.shape.limit };
    }

pub returns-clause-value : goal.returns-clause-value
returns-clause-value g c = λ m means.
    let past : greatest m < c.loop-from.from = omega (arith, c.loop-from-test.false, c.greatest-greatest.ensures.value _ m means.1) in
    c.loop-from.invariant.found m means ∙ ap (λ (l : List ℕ). first_of c.args.most l) (begun_all c.args.n m c.loop-from.from past)
