use Rattle.std.proofs.Common.{ℕ, List, [], sym, subst}
use Rattle.hf_pool.specs.Pools.{frees}
use Rattle.tc_hash.specs.Sections.{IsEnd, IsPair, IsNoPair}
use Rattle.tc_hash.proofs.Reading.{listing_none, listing_more, listing_bad}
use Rattle.tc_hash.proofs.section.is_list.Goals as goal

pub loop-place-init : goal.loop-place-init
loop-place-init c = listing_none c.args.pool.now.unit (frees c.args.pool.now) c.args.section.now

pub loop-place-preserved : goal.loop-place-preserved
loop-place-preserved c =
    let pair = subst (λ (bytes : List ℕ). IsPair c.args.pool.now.unit (frees c.args.pool.now) c.loop-place.place bytes c.in-Some.next c.in-Some.len) c.behind-in-loop-place.ensures c.in-Some.ensures.some in
    listing_more c.args.pool.now.unit c.args.pool.now.size (frees c.args.pool.now) c.args.section.now c.loop-place.at c.loop-place.place c.in-Some.next c.in-Some.len c.args.pool.now.some c.requires.size c.args.pool.now.within c.in-Some.ensures.low pair c.loop-place.invariant

pub returns-in_default-clause-other : goal.returns-in_default-clause-other
returns-in_default-clause-other c = λ _ all.
    listing_bad c.args.pool.now.unit (frees c.args.pool.now) c.args.section.now c.loop-place.at c.loop-place.place
    (λ end. c.is_end.ensures.other c.loop-place-test.true (subst (λ (bytes : List ℕ). IsEnd bytes) (sym c.behind.ensures) end))
    (subst (λ (bytes : List ℕ). IsNoPair c.args.pool.now.unit (frees c.args.pool.now) c.loop-place.place bytes) c.behind-in-loop-place.ensures c.in_default.ensures.none) c.loop-place.invariant all

pub returns-clause-list : goal.returns-clause-list
returns-clause-list c = λ _. c.loop-place.invariant.to [] (subst (λ (bytes : List ℕ). IsEnd bytes) c.behind.ensures (c.is_end.ensures.end c.loop-place-test.false))
