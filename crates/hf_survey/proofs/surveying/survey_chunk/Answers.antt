use Rattle.std.proofs.Common.{◌≡◌, ℕ, ◌+◌, ◌-◌, length, drop, subst, arith, length-drop}
use Rattle.hf_block.specs.Pieces.{IsSize}
use Rattle.hf_block.proofs.Listing.{part_of}
use Rattle.hf_survey.proofs.Surveyed.{filled_of, next_of, passed_none, passed_then, unit_least}
use Rattle.hf_survey.proofs.surveying.survey_chunk.Goals as goal

pub loop-next-init : goal.loop-next-init
loop-next-init c = record { low = omega arith; high = omega (arith, c.requires.chunk.within); stand = λ s. s; passed = λ bytes part long. passed_none c.args.head.now c.args.at bytes c.args.found.now }

pub next_block-requires-clause-unit : goal.next_block-requires-clause-unit
next_block-requires-clause-unit c = unit_least c.args.head.now c.unit-unit.result c.requires.head c.unit-unit.ensures

pub returns-in_default-clause-broken : goal.returns-in_default-clause-broken
returns-in_default-clause-broken c = λ rule e bytes part long ps filled.
    let k : ℕ = c.loop-next.next - c.args.at in
    let w = c.loop-next.invariant.passed bytes part long in
    let q = w.rest ps filled in
    c.in_default.ensures.none (drop k bytes) (part_of c.args.chunk.now bytes k (omega (arith, c.loop-next-test.true)) part) (omega (arith, length-drop k bytes, long, w.on, w.within)) q.0
    (filled_of c.args.head.now c.unit-unit.result c.is_large-large.result (drop k bytes) q.0 c.unit-unit.ensures c.is_large-large.ensures q.1)

pub loop-next-preserved : goal.loop-next-preserved
loop-next-preserved c =
    let added = c.in_ok-take_block.ensures.added c.if-not-branch.false in
    record {
      low = omega (arith, c.loop-next.invariant.low);
      high = omega (arith, c.in-Some.ensures.some.1, c.loop-next.invariant.high);
      stand = λ s. added.stand (subst (λ (u : ℕ). IsSize u c.in-Some.size) c.unit-unit.ensures c.in-Some.ensures.some.0) (c.loop-next.invariant.stand s);
      passed = λ bytes part long.
          let k : ℕ = c.loop-next.next - c.args.at in
          let w = c.loop-next.invariant.passed bytes part long in
          let left : length (drop k bytes) ≡ c.args.head.now.size - c.loop-next.next = omega (arith, length-drop k bytes, long, w.on, w.within) in
          let front = part_of c.args.chunk.now bytes k (omega (arith, c.loop-next-test.true)) part in
          let n = next_of c.args.head.now c.unit-unit.result c.in-Some.size c.is_large-large.result c.in-Some.block (drop k bytes) c.unit-unit.ensures c.is_large-large.ensures (c.in-Some.ensures.next (drop k bytes) front left) in
          passed_then c.args.head.now c.args.at c.loop-next.next (c.loop-next.next + c.in-Some.size) bytes c.args.found.now c.loop-next.found c.take_block.new.found w (added.passed (drop k bytes) front n (omega (arith, left, c.in-Some.ensures.some.1)));
    }
