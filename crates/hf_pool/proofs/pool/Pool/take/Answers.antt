use Rattle.std.proofs.Common.{◌∙◌, ℕ, ◌≡◌, List, inl, refl, rules, sym, arith}
use Rattle.tc_space.specs.Frames.{others_refl}
use Rattle.hf_pool.specs.Pools.{frees}
use Rattle.hf_pool.proofs.Aligned.{within_longer}
use Rattle.hf_pool.proofs.Building.{sum_aligned}
use Rattle.hf_pool.proofs.Laying.{parted_front, parted_whole}
use Rattle.hf_pool.proofs.Lending.{lends_behind, lends_block}
use Rattle.hf_pool.proofs.pool.Pool.take.Goals as goal

pub invariant_of-self-clause-aligned : goal.invariant_of-self-clause-aligned
invariant_of-self-clause-aligned g c = sum_aligned c.args.self.now.unit c.args.self.now.size c.args.size c.args.self.now.aligned c.requires.may.aligned

pub returns-in_default-clause-file : goal.returns-in_default-clause-file
returns-in_default-clause-file g c = record {
  aligned = c.args.self.now.aligned;
  others = others_refl g.S.Space (λ h. h ≡ c.args.file) c.args.space.now;
  bytes = search rules;
  lends = λ t. lends_behind c.args.most c.args.self.now.unit c.args.self.now.size (frees c.args.self.now) _ c.args.size (g.S.Space.now c.args.space.now c.args.file) c.in_default.ensures.none (λ q. refl);
}

pub returns-in_ok-mark-clause-file : goal.returns-in_ok-mark-clause-file
returns-in_ok-mark-clause-file g c = record {
  aligned = (c.args.self.now.multiples c.in-Some.place c.in-Some.found c.in-Some.ensures.some.there).0;
  others = record { same = λ t h other. (c.in_ok-mark.ensures.marked t).others h other };
  bytes = search rules;
  lends = λ t.
      let bytes : List ℕ = g.S.Space.now c.args.space.now c.args.file in
      let after : List ℕ = g.S.Space.now c.mark.new.space c.args.file in
      lends_block c.args.most c.args.self.now.unit c.args.self.now.size (frees c.args.self.now) (frees c.part_in_memory.new.self) c.args.size c.in-Some.place c.in-Some.found bytes after c.in-Some.ensures.some c.requires.may.some c.requires.may.aligned c.in-Ok.ensures.ok.left ((c.in_ok-mark.ensures.marked t).here ∙ sym (parted_front c.in-Some.place c.args.size c.in-Some.found bytes c.if-found-size.true));
}

pub returns-else-found-size-clause-file : goal.returns-else-found-size-clause-file
returns-else-found-size-clause-file g c = record {
  aligned = (c.args.self.now.multiples c.in-Some.place c.in-Some.found c.in-Some.ensures.some.there).0;
  others = others_refl g.S.Space (λ h. h ≡ c.args.file) c.args.space.now;
  bytes = search rules;
  lends = λ t.
      let bytes : List ℕ = g.S.Space.now c.args.space.now c.args.file in
      lends_block c.args.most c.args.self.now.unit c.args.self.now.size (frees c.args.self.now) (frees c.part_in_memory.new.self) c.args.size c.in-Some.place c.in-Some.found bytes bytes c.in-Some.ensures.some c.requires.may.some c.requires.may.aligned c.in-Ok.ensures.ok.left (sym (parted_whole c.in-Some.place c.args.size c.in-Some.found bytes (omega (arith, c.if-found-size.false, c.in-Some.ensures.some.enough))));
}

pub invariant_of-self-clause-within : goal.invariant_of-self-clause-within
invariant_of-self-clause-within g c = within_longer c.args.self.now.size _ _ (omega arith) c.args.self.now.within

pub returns-in_ok-mark-clause-taken : goal.returns-in_ok-mark-clause-taken
returns-in_ok-mark-clause-taken g c = let p = c.in-Ok.ensures.ok in inl (c.in-Some.found, record { best = c.in-Some.ensures.some; left = p.left; end = p.end; unit = p.unit })

pub returns-else-found-size-clause-taken : goal.returns-else-found-size-clause-taken
returns-else-found-size-clause-taken g c = let p = c.in-Ok.ensures.ok in inl (c.in-Some.found, record { best = c.in-Some.ensures.some; left = p.left; end = p.end; unit = p.unit })
