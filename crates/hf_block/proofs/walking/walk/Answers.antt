use Rattle.std.proofs.Common.{◌≡◌, ◌∙◌, ℕ, ◌^◌, ◌≤◌, Bool, List, [], length, drop, refl, sym, ap, subst, arith, lit<, length-append, length-take, length-drop}
use Rattle.std.proofs.Math.Nat.{pow-le-pow_right}
use Rattle.hf_block.proofs.Broken.{broken_on}
use Rattle.hf_block.specs.declared.block.BlockAt.{BlockAt}
use Rattle.hf_head.specs.Heads.{wide, unit}
use Rattle.hf_block.specs.Pieces.{IsFilled}
use Rattle.hf_block.specs.Rows.{StandInRow}
use Rattle.hf_block.specs.Walks.{Walked, between}
use Rattle.tc_space.specs.Frames.{only_reads_refl, only_reads_then}
use Rattle.hf_block.proofs.Listing.{walked_none, walked_then, between_on}
use Rattle.hf_block.proofs.walking.walk.Goals as goal

pub loop-at-init : goal.loop-at-init
loop-at-init g c = record {
  reads = only_reads_refl g.S.Space c.args.space.now c.requires.sound;
  low = omega arith;
  high = c.requires.head.numbers.size_least;
  long = refl;
  row = subst (λ (b : List BlockAt). StandInRow c.unit-unit.result c.args.head.now.first c.args.head.now.first b) (sym c.new-blocks.ensures) refl;
  walked = λ t. subst (λ (b : List BlockAt). Walked (wide c.is_large-large.result) c.unit-unit.result c.args.head.now.first c.args.head.now.first (between c.args.head.now.first c.args.head.now.size (g.S.Space.now c.args.space.now c.args.file)) [] b) (sym c.new-blocks.ensures) (walked_none _ _ _ _ []);
}

pub walk_piece-requires-clause-unit : goal.walk_piece-requires-clause-unit
walk_piece-requires-clause-unit g c =
    let p : 2 ^ 4 ≤ 2 ^ c.args.head.now.apow = pow-le-pow_right (lit< tt) c.requires.head.powers.0 in
    omega (arith, p, c.unit-unit.ensures)

pub loop-at-preserved : goal.loop-at-preserved
loop-at-preserved g c =
    let v = c.loop-at.invariant in
    let n = c.min-len.result in
    let sized : length c.walk_piece.new.chunk ≡ n = omega (arith, c.walk_piece.auto.chunk, length-take n c.loop-at.chunk, v.long, c.min-len.ensures) in
    record {
      reads = only_reads_then g.S.Space c.args.space.now c.loop-at.space c.walk_piece.new.space v.reads c.in_ok-at.ensures.reads;
      low = omega (arith, v.low, c.in_ok-at.ensures.on.on);
      high = c.in_ok-at.ensures.on.within;
      long = omega (arith, sized, v.long, length-append c.walk_piece.new.chunk (drop n c.loop-at.chunk), length-drop n c.loop-at.chunk, c.min-len.ensures);
      row = c.in_ok-at.ensures.on.row c.args.head.now.first v.row;
      walked = λ t.
          let f : List ℕ = g.S.Space.now c.args.space.now c.args.file in
          let rest = ap (λ (l : List ℕ). between c.loop-at.at c.args.head.now.size l) (v.reads.files t c.args.file) ∙ between_on c.args.head.now.first c.loop-at.at c.args.head.now.size f v.low v.high in
          walked_then (wide c.is_large-large.result) c.unit-unit.result c.args.head.now.first c.loop-at.at c.in_ok-at.at (between c.args.head.now.first c.args.head.now.size f) [] c.loop-at.blocks c.walk_piece.new.blocks (v.walked t)
          (subst (λ (l : List ℕ). Walked (wide c.is_large-large.result) c.unit-unit.result c.loop-at.at c.in_ok-at.at l c.loop-at.blocks c.walk_piece.new.blocks) rest (c.in_ok-at.ensures.walked t));
    }

pub returns-in_err-at-clause-broken : goal.returns-in_err-at-clause-broken
returns-in_err-at-clause-broken g c = broken_on c.from_residual.result c.in_err-at.field-0.0 _ c.from_residual.ensures.1 (λ rule e.
    let v = c.loop-at.invariant in
    let b = c.in_err-at.ensures.broken rule e in
    record {
      rule_is = b.rule_is;
      none = λ t ps filled.
          let f : List ℕ = g.S.Space.now c.args.space.now c.args.file in
          let rest = ap (λ (l : List ℕ). between c.loop-at.at c.args.head.now.size l) (v.reads.files t c.args.file) ∙ between_on c.args.head.now.first c.loop-at.at c.args.head.now.size f v.low v.high in
          let q = (v.walked t).rest ps (subst (λ (u : ℕ). IsFilled (wide c.is_large-large.result) u (between c.args.head.now.first c.args.head.now.size f) ps) (sym c.unit-unit.ensures) (subst (λ (b : Bool). IsFilled (wide b) (unit c.args.head.now) (between c.args.head.now.first c.args.head.now.size f) ps) (sym c.is_large-large.ensures) filled)) in
          b.none t q.0 (subst (λ (l : List ℕ). IsFilled (wide c.is_large-large.result) c.unit-unit.result l q.0) (sym rest) q.1);
    })

pub returns-in_err-at-clause-reads : goal.returns-in_err-at-clause-reads
returns-in_err-at-clause-reads g c = only_reads_then g.S.Space c.args.space.now c.loop-at.space c.walk_piece.new.space c.loop-at.invariant.reads c.in_err-at.ensures.reads
