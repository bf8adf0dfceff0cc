use Rattle.std.proofs.Common.{◌≡◌, ℕ, List, length, arith}
use Rattle.hf_block.specs.Walks.{between}
use Rattle.hf_block.proofs.Listing.{between_part, between_long}
use Rattle.hf_block.proofs.walking.walk_piece.Goals as goal

pub returns-clause-broken : goal.returns-clause-broken
returns-clause-broken g c = λ rule e. record {
  rule_is = c.walk_chunk.ensures.rule rule e;
  none = λ t.
      let f : List ℕ = g.S.Space.now c.args.space.now c.args.file in
      let chunk : List ℕ = c.read.new.into in
      let same : length chunk ≡ length c.args.chunk.now = c.read.auto.into in
      c.walk_chunk.ensures.broken rule e (between c.args.at c.args.end f)
      (between_part c.args.at c.args.end (length c.args.chunk.now) f chunk c.requires.chunk.within same (c.in_ok-read.ensures.bytes t))
      (between_long c.args.at c.args.end f (omega (arith, c.requires.chunk.within)) (c.requires.holds.inside t));
}
