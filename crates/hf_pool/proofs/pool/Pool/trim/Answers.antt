use Rattle.std.proofs.Common.{◌≡◌, ℕ, true, false, refl, arith}
use Rattle.std.specs.BTreeMap as tree
use Rattle.std.specs.Ordering.{nat_cmp}
use Rattle.hf_pool.specs.Pools.{notes_refl}
use Rattle.hf_pool.specs.Trims.{row_end}
use Rattle.hf_pool.proofs.Indexing.{none_behind, gone_more, kept_more, row_more}
use Rattle.hf_pool.proofs.Aligned.{multiples_less, within_cut}
use Rattle.hf_pool.proofs.Laying.{trimmed}
use Rattle.hf_pool.proofs.pool.Pool.trim.Goals as goal

true_is_not : true ≡ false → ⊥
true_is_not e = cc

pub loop-place-init : goal.loop-place-init
loop-place-init c = record {
  lower = omega arith;
  notes = notes_refl c.args.self.now;
  exact = λ e. refl;
  kept = λ q h. refl;
  gone = none_behind (λ q. tree.get nat_cmp c.args.self.now.index.by_place q) c.args.self.now.size c.args.self.now.within;
  row = row_end c.args.self.now.size;
}

pub loop-place-preserved : goal.loop-place-preserved
loop-place-preserved c =
    let v = c.loop-place.invariant in
    let b = c.in-Some.ensures.some in
    let w = c.loop-place.self.within c.in-Some.place b.0 b.1 in
    let now = λ (q : ℕ). tree.get nat_cmp c.loop-place.self.index.by_place q in
    let first = λ (q : ℕ). tree.get nat_cmp c.args.self.now.index.by_place q in
    let less = λ (q : ℕ). tree.get nat_cmp c.remove.new.self.by_place q in
    record {
      lower = omega (arith, b.2, v.lower);
      notes = record { unit = v.notes.unit; kept = λ no. absurd (true_is_not no); same = λ no q. absurd (true_is_not no) };
      exact = λ e. absurd (omega (arith, e, b.2, w.0, v.lower));
      kept = kept_more first now less c.in-Some.place c.loop-place.self.size (omega (arith, b.2)) v.kept c.remove.ensures;
      gone = gone_more now less c.in-Some.place b.0 c.loop-place.self.size c.loop-place.self.index.apart b.1 b.2 v.gone c.remove.ensures;
      row = row_more first now c.in-Some.place b.0 c.loop-place.self.size c.args.self.now.size w.0 b.1 b.2 v.kept v.row;
    }

pub returns-clause-laid : goal.returns-clause-laid
returns-clause-laid c = λ first pieces lent bytes laid.
    let v = c.loop-place.invariant in
    trimmed c.args.self.now.unit first c.args.self.now.size c.loop-place.self.size pieces (λ (q : ℕ). tree.get nat_cmp c.args.self.now.index.by_place q) (λ (q : ℕ). tree.get nat_cmp c.loop-place.self.index.by_place q) lent bytes laid v.lower v.kept v.gone v.row

pub invariant_of-self-clause-multiples : goal.invariant_of-self-clause-multiples
invariant_of-self-clause-multiples c = multiples_less _ _ _ _ c.loop-place.self.multiples c.remove.ensures

pub invariant_of-self-clause-aligned : goal.invariant_of-self-clause-aligned
invariant_of-self-clause-aligned c = let b = c.in-Some.ensures.some in (c.loop-place.self.multiples c.in-Some.place b.0 b.1).0

pub invariant_of-self-clause-within : goal.invariant_of-self-clause-within
invariant_of-self-clause-within c =
    let b = c.in-Some.ensures.some in
    within_cut c.in-Some.place b.0 c.loop-place.self.size _ _ c.loop-place.self.within c.loop-place.self.index.apart b.1 b.2 c.remove.ensures
