use Rattle.std.proofs.Common.{List, ℕ}
use Rattle.std.proofs.lemmas.Result.{on_ok_weaker}
use Rattle.hf_pool.specs.Pools.{frees}
use Rattle.hf_pool.proofs.Laying.{given, given_rest}
use Rattle.hf_pool.proofs.pool.Pool.give.Goals as goal

pub returns-clause-back : goal.returns-clause-back
returns-clause-back g c =
    let bytes : List ℕ = g.S.Space.now c.args.space.now c.args.file in
    let after : List ℕ = g.S.Space.now c.mark.new.space c.args.file in
    on_ok_weaker c.mark.result
    (λ marks t. record {
      block = λ first end pieces lent laid block. given c.args.self.now.unit first end pieces (frees c.args.self.now) (frees c.give_in_memory.new.self) lent bytes after c.args.at c.args.size c.in-Ok.start c.in-Ok.total laid block c.requires.may.some c.requires.may.below (c.requires.holds.inside t) c.requires.may.apart c.in-Ok.ensures.ok (marks t).here;
      rest = λ first end pieces lent laid block. given_rest c.args.self.now.unit first end pieces (frees c.args.self.now) (frees c.give_in_memory.new.self) lent bytes after c.args.at c.args.size c.in-Ok.start c.in-Ok.total laid block c.requires.may.some c.requires.may.below (c.requires.holds.inside t) c.requires.may.apart c.in-Ok.ensures.ok (marks t).here;
    })
    c.mark.ensures.marked
