use Rattle.std.proofs.Common.{ℕ, List, ap}
use Rattle.std.specs.Map.{lookup}
use Rattle.std.specs.BTreeMap.{is_at}
use Rattle.std.specs.Ordering.{nat_cmp}
use Rattle.hf_pool.proofs.Indexing.{both_with, both_back, apart_with, apart_same, now_with}
use Rattle.hf_pool.proofs.index.Index.insert.Goals as goal

pub invariant_of-self-in-Ok-insert : goal.invariant_of-self-in-Ok-insert
invariant_of-self-in-Ok-insert c =
    let after = now_with _ _ c.args.place c.args.size c.in-Ok-insert.ensures.updates.0 in
    record {
      both = both_with _ _ _ _ c.args.size c.args.place c.args.self.now.both c.requires.absent c.in-Ok.ensures.updates.0 after;
      apart = apart_with _ _ c.args.place c.args.size c.requires.some c.args.self.now.apart c.requires.apart after;
    }

pub invariant_of-self-in_default-insert : goal.invariant_of-self-in_default-insert
invariant_of-self-in_default-insert c =
    let same = λ (q : ℕ). ap (λ (es : List (ℕ × ℕ)). lookup (is_at (nat_cmp q)) es) c.in_default-insert.ensures.err in
    record {
      both = both_back _ _ _ _ _ c.args.size c.args.place c.args.self.now.both c.requires.absent c.in-Ok.ensures.updates.0 c.remove.ensures.updates.0 same;
      apart = apart_same _ _ c.args.self.now.apart same;
    }
