use Rattle.hf_pool.proofs.Indexing.{both_without, apart_without, now_without}
use Rattle.hf_pool.proofs.index.Index.remove.Goals as goal

pub invariant_of-self : goal.invariant_of-self
invariant_of-self c =
    let after = now_without _ _ c.args.place c.remove-2.ensures.updates.0 in
    record {
      both = both_without _ _ _ _ c.args.size c.args.place c.args.self.now.both c.requires c.remove.ensures.updates.0 after;
      apart = apart_without _ _ c.args.place c.args.self.now.apart after;
    }
