use Rattle.std.proofs.Common.{ap}
use Rattle.std.specs.BTreeMap as tree
use Rattle.std.specs.Option.{is_some}
use Rattle.std.specs.Ordering.{nat_cmp}
use Rattle.std.proofs.lemmas.Bool.{leb-true}
use Rattle.hf_pool.proofs.Indexing.{meets_last, not_less, cmp_less}
use Rattle.hf_pool.proofs.index.Index.meets_none.Goals as goal

pub returns-then-last-place-clause-apart : goal.returns-then-last-place-clause-apart
returns-then-last-place-clause-apart c = λ fits.
    let r = c.range.ensures.in_range tt in
    let last = r.3 (c.in-Some.last.now, c.in-Some.found.now) c.next_back.new.self c.in-Some.ensures.steps in
    meets_last (λ q. tree.get nat_cmp c.args.self.now.by_place q) c.in-Some.last.now c.in-Some.found.now c.args.place c.args.size c.args.self.now.apart last.1 c.if-last-place.true (leb-true _ _ fits)
    (λ q t there low. not_less c.in-Some.last.now q (r.4 (c.in-Some.last.now, c.in-Some.found.now) c.next_back.new.self c.in-Some.ensures.steps q (tt, cmp_less q _ low) (ap is_some there)))
