use Rattle.std.proofs.Common.{◌≡◌, ◌+◌, length, subst, arith}
use Rattle.tc_maps.specs.Entries.{all_of}
use Rattle.tc_maps.proofs.Counting.{Counts, sized, counts_start, counts_more, counts_step, counts_end, counts_all}
use Rattle.tc_maps.proofs.totals.Totals.less_all.Goals as goal

pub loop-place-init : goal.loop-place-init
loop-place-init c = counts_start _ _ _ _ c.requires.pairs c.requires.bytes

pub less-left-requires-clause-pairs : goal.less-left-requires-clause-pairs
less-left-requires-clause-pairs c = (counts_more _ _ _ _ _ _ _ c.in-Some.value.now c.loop-place.invariant c.in-Some.ensures).0

pub less-left-requires-clause-bytes : goal.less-left-requires-clause-bytes
less-left-requires-clause-bytes c =
    let m = counts_more (all_of c.args.values.now) c.loop-place.place c.args.key c.args.self.pairs c.loop-place.left.pairs c.args.self.bytes c.loop-place.left.bytes c.in-Some.value.now c.loop-place.invariant c.in-Some.ensures in
    omega (arith, m.1, c.len.ensures)

pub loop-place-preserved : goal.loop-place-preserved
loop-place-preserved c = counts_step _ _ _ _ _ _ _ _ _ c.in-Some.value.now c.loop-place.invariant c.in-Some.ensures c.less-left.ensures.pairs (omega (arith, c.less-left.ensures.bytes, c.len.ensures))

pub returns-in_default-clause-pairs : goal.returns-in_default-clause-pairs
returns-in_default-clause-pairs c = (counts_end _ _ _ _ _ _ _ c.loop-place.invariant c.in_default.ensures).0

pub returns-in_default-clause-bytes : goal.returns-in_default-clause-bytes
returns-in_default-clause-bytes c = (counts_end _ _ _ _ _ _ _ c.loop-place.invariant c.in_default.ensures).1

done : (c : goal.After-loop-place) → (c.loop-place.left.pairs + length (all_of c.args.values.now) ≡ c.args.self.pairs) × (c.loop-place.left.bytes + sized c.args.key (all_of c.args.values.now) ≡ c.args.self.bytes)
done c =
    let end : c.loop-place.place ≡ c.args.self.pairs = omega arith in
    counts_all _ _ _ _ _ _ (subst (λ p. Counts (all_of c.args.values.now) p c.args.key c.args.self.pairs c.loop-place.left.pairs c.args.self.bytes c.loop-place.left.bytes) end c.loop-place.invariant) c.requires.pairs

pub returns-clause-pairs : goal.returns-clause-pairs
returns-clause-pairs c = (done c).0

pub returns-clause-bytes : goal.returns-clause-bytes
returns-clause-bytes c = (done c).1
