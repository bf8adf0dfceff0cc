use Rattle.std.proofs.Common.{◌≡◌, ℕ, ◌+◌, ◌-◌, Bool, List, length, drop, refl, subst, sym, arith, length-drop}
use Rattle.hf_block.specs.declared.block.BlockAt.{BlockAt}
use Rattle.hf_head.specs.Heads.{wide}
use Rattle.hf_block.specs.Rows.{StandInRow}
use Rattle.hf_block.specs.Walks.{IsNext, Walked}
use Rattle.hf_block.proofs.Listing.{walked_one, walked_then, part_of, row_more}
use Rattle.hf_block.proofs.walking.walk_chunk.Goals as goal

pub returns-in_default-clause-broken : goal.returns-in_default-clause-broken
returns-in_default-clause-broken c = λ rule e bytes part long ps filled.
    let k : ℕ = c.loop-next.next - c.args.at in
    let w = c.loop-next.invariant.walked bytes part long in
    let q = w.rest ps filled in
    c.in_default.ensures.none (drop k bytes) (part_of c.args.chunk.now bytes k (omega (arith, c.loop-next-test.true)) part) (omega (arith, length-drop k bytes, long, w.on, w.within)) q.0 q.1

pub loop-next-preserved : goal.loop-next-preserved
loop-next-preserved c = record {
  low = omega (arith, c.in-Some.ensures.some.0.some);
  high = omega (arith, c.in-Some.ensures.some.1, c.loop-next.invariant.high);
  row = λ first row.
      subst (λ (new : List BlockAt). StandInRow c.args.unit first (c.loop-next.next + c.in-Some.size) new) (sym c.in_ok-push.ensures.ok)
      (row_more c.args.unit first c.loop-next.next (record { place = c.loop-next.next; size = c.in-Some.size; free = c.is_free.result }) c.loop-next.list refl c.in-Some.ensures.some.0 (c.loop-next.invariant.row first row));
  walked = λ bytes part long.
      let k : ℕ = c.loop-next.next - c.args.at in
      let w = c.loop-next.invariant.walked bytes part long in
      let left : length (drop k bytes) ≡ c.args.end - c.loop-next.next = omega (arith, length-drop k bytes, long, w.on, w.within) in
      let n = c.in-Some.ensures.next (drop k bytes) (part_of c.args.chunk.now bytes k (omega (arith, c.loop-next-test.true)) part) left in
      let one = walked_one (wide c.args.large) c.args.unit c.loop-next.next c.in-Some.size c.is_free.result (drop k bytes) c.loop-next.list (omega (arith, left, c.in-Some.ensures.some.1)) (subst (λ (f : Bool). IsNext (wide c.args.large) c.args.unit c.in-Some.size f (drop k bytes)) (sym c.is_free.ensures) n.next) in
      walked_then (wide c.args.large) c.args.unit c.args.at c.loop-next.next (c.loop-next.next + c.in-Some.size) bytes c.args.list.now c.loop-next.list c.push.new.self w
      (subst (λ (new : List BlockAt). Walked (wide c.args.large) c.args.unit c.loop-next.next (c.loop-next.next + c.in-Some.size) (drop k bytes) c.loop-next.list new) (sym c.in_ok-push.ensures.ok) one);
}
