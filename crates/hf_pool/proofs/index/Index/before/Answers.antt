use Rattle.std.proofs.Common.{ap}
use Rattle.std.specs.BTreeMap as tree
use Rattle.std.specs.Option.{is_some}
use Rattle.std.specs.Ordering.{nat_cmp}
use Rattle.hf_pool.proofs.Indexing.{before_none, less_of, not_less, cmp_less}
use Rattle.hf_pool.proofs.index.Index.before.Goals as goal

pub returns-in_default-clause-none : goal.returns-in_default-clause-none
returns-in_default-clause-none c =
    let r = c.range.ensures.in_range tt in
    let last = r.3 (c.in-Some.place.now, c.in-Some.size.now) c.next_back.new.self c.in-Some.ensures.steps in
    before_none (λ q. tree.get nat_cmp c.args.self.now.by_place q) c.in-Some.place.now c.in-Some.size.now c.args.end c.args.self.now.apart last.1 (less_of _ _ last.0.1) c.if-size-end.false
    (λ q t there low. not_less c.in-Some.place.now q (r.4 (c.in-Some.place.now, c.in-Some.size.now) c.next_back.new.self c.in-Some.ensures.steps q (tt, cmp_less q c.args.end low) (ap is_some there)))
