use Rattle.std.specs.BTreeSet as set
use Rattle.hf_pool.specs.Orders.{pair_cmp}
use Rattle.hf_pool.proofs.Indexing.{least_some, least_none}
use Rattle.hf_pool.proofs.index.Index.least.Goals as goal

pub returns-in-Some-clause-some : goal.returns-in-Some-clause-some
returns-in-Some-clause-some c =
    let r = c.range.ensures.in_range tt in
    let first = rw c.in-Some.ensures.steps at r.1 in
    least_some (λ q. set.contains pair_cmp c.args.self.now.by_size q) _ c.args.size c.in-Some.field-0.now.0 c.in-Some.field-0.now.1 c.args.self.now.both first.0.0 first.1
    (λ q from here. rw c.in-Some.ensures.steps at (r.2 q (from, tt) here))

pub returns-in-None-clause-none : goal.returns-in-None-clause-none
returns-in-None-clause-none c =
    let r = c.range.ensures.in_range tt in
    least_none (λ q. set.contains pair_cmp c.args.self.now.by_size q) _ c.args.size c.args.self.now.both (λ q from. r.5 c.in-None.ensures.steps.0 q (from, tt))
