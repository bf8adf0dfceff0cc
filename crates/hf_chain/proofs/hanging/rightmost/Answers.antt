use Rattle.std.proofs.Common.{rules, ◌+◌, ◌<◌, ◌^◌, ◌≤◌, ℕ, length, List, arith, sym, subst}
use Rattle.tc_space.specs.Frames.{only_reads_refl, only_reads_then}
use Rattle.hf_tree.specs.Trees.{nodes}
use Rattle.hf_chain.specs.Heads.{HasRecord}
use Rattle.hf_chain.proofs.Descents.{unit_small}
use Rattle.hf_chain.proofs.Settings.{walk_start, walk_held, walk_more, walk_done}
use Rattle.hf_chain.proofs.Paying.{paid_none, paid_one, paid_then, within_by}
use Rattle.hf_chain.proofs.hanging.rightmost.Goals as goal

pub loop-depth-init : goal.loop-depth-init
loop-depth-init g c = record {
  reads = only_reads_refl g.S.Space c.args.space.now c.requires.ready.sound;
  walk = λ t end ps u b hang. walk_start c.args.head.now end ps (g.S.Space.now c.args.space.now c.args.file) u c.args.at hang (c.requires.tree t).some;
  count = omega arith;
  read = omega arith;
  paid = paid_none 40 c.args.steps.now (g.S.Space.bytes_read c.args.space.now) (g.S.Space.bytes_read c.args.space.now) (omega arith);
}

pub read_head-requires-clause-inside : goal.read_head-requires-clause-inside
read_head-requires-clause-inside g c = λ t.
    let w = c.requires.tree t in
    let f : List ℕ = g.S.Space.now c.args.space.now c.args.file in
    let x = walk_held c.args.head.now w.end w.pieces f w.tree c.args.at c.loop-depth.end c.loop-depth.depth w.blocks (c.loop-depth.invariant.walk t w.end w.pieces w.tree w.blocks w.hangs) in
    subst (λ (l : List ℕ). c.loop-depth.end ≤ length l) (sym (c.loop-depth.invariant.reads.files t c.args.file)) (omega (arith, x.lies.high, w.blocks.within))

pub returns-in_err-rec-clause-within : goal.returns-in_err-rec-clause-within
returns-in_err-rec-clause-within g c = λ t end ps u b hang.
    let w = c.loop-depth.invariant.walk t end ps u b hang in
    within_by (nodes u) (c.loop-depth.depth + 1) 40 c.args.steps.now c.count_step.new.steps (g.S.Space.bytes_read c.args.space.now) (g.S.Space.bytes_read c.read_head.new.space) (omega (arith, c.count_step.ensures.more, c.loop-depth.invariant.count)) (omega (arith, c.loop-depth.invariant.read, c.read_head.ensures.counted)) (omega (arith, w.few))

pub returns-in_err-rec-clause-paid : goal.returns-in_err-rec-clause-paid
returns-in_err-rec-clause-paid g c = paid_then 40 c.args.steps.now c.loop-depth.steps c.count_step.new.steps (g.S.Space.bytes_read c.args.space.now) (g.S.Space.bytes_read c.loop-depth.space) (g.S.Space.bytes_read c.read_head.new.space) c.loop-depth.invariant.paid (paid_one 40 c.loop-depth.steps c.count_step.new.steps (g.S.Space.bytes_read c.loop-depth.space) (g.S.Space.bytes_read c.read_head.new.space) c.count_step.ensures.later c.count_step.ensures.more (omega (arith, c.read_head.ensures.counted)))

pub returns-then-rec-eq0-clause-last : goal.returns-then-rec-eq0-clause-last
returns-then-rec-eq0-clause-last g c = λ t end ps u b hang.
    let w = c.loop-depth.invariant.walk t end ps u b hang in
    let x = walk_held c.args.head.now end ps (g.S.Space.now c.args.space.now c.args.file) u c.args.at c.loop-depth.end c.loop-depth.depth b w in
    let now = subst (λ (l : List ℕ). HasRecord c.args.head.now x.r c.loop-depth.end l) (sym (c.loop-depth.invariant.reads.files t c.args.file)) x.has in
    let is = c.in_ok-rec.ensures.head t x.r now in
    walk_done c.args.head.now end ps (g.S.Space.now c.args.space.now c.args.file) u c.args.at c.loop-depth.end c.loop-depth.depth c.in_ok-rec.rec b w is c.if-rec-eq0.true

pub returns-then-rec-eq0-clause-within : goal.returns-then-rec-eq0-clause-within
returns-then-rec-eq0-clause-within g c = λ t end ps u b hang.
    let w = c.loop-depth.invariant.walk t end ps u b hang in
    within_by (nodes u) (c.loop-depth.depth + 1) 40 c.args.steps.now c.count_step.new.steps (g.S.Space.bytes_read c.args.space.now) (g.S.Space.bytes_read c.read_head.new.space) (omega (arith, c.count_step.ensures.more, c.loop-depth.invariant.count)) (omega (arith, c.loop-depth.invariant.read, c.read_head.ensures.counted)) (omega (arith, w.few))

pub returns-then-rec-eq0-clause-paid : goal.returns-then-rec-eq0-clause-paid
returns-then-rec-eq0-clause-paid g c = paid_then 40 c.args.steps.now c.loop-depth.steps c.count_step.new.steps (g.S.Space.bytes_read c.args.space.now) (g.S.Space.bytes_read c.loop-depth.space) (g.S.Space.bytes_read c.read_head.new.space) c.loop-depth.invariant.paid (paid_one 40 c.loop-depth.steps c.count_step.new.steps (g.S.Space.bytes_read c.loop-depth.space) (g.S.Space.bytes_read c.read_head.new.space) c.count_step.ensures.later c.count_step.ensures.more (omega (arith, c.read_head.ensures.counted)))

pub place_named-end-requires : goal.place_named-end-requires
place_named-end-requires g c = omega (arith, unit_small c.args.head.now c.requires.ready.valid, c.unit.ensures)

pub loop-depth-preserved : goal.loop-depth-preserved
loop-depth-preserved g c = record {
  reads = only_reads_then g.S.Space c.args.space.now c.loop-depth.space c.read_head.new.space c.loop-depth.invariant.reads c.read_head.ensures.reads;
  walk = λ t end ps u b hang.
      let w = c.loop-depth.invariant.walk t end ps u b hang in
      let x = walk_held c.args.head.now end ps (g.S.Space.now c.args.space.now c.args.file) u c.args.at c.loop-depth.end c.loop-depth.depth b w in
      let now = subst (λ (l : List ℕ). HasRecord c.args.head.now x.r c.loop-depth.end l) (sym (c.loop-depth.invariant.reads.files t c.args.file)) x.has in
      let is = c.in_ok-rec.ensures.head t x.r now in
      let room : length (g.S.Space.now c.args.space.now c.args.file) < 2 ^ 64 = (let r : c.len-most.result < 2 ^ 64 = search rules in omega (arith, c.len-most.ensures t, r)) in
      walk_more c.args.head.now end ps (g.S.Space.now c.args.space.now c.args.file) u c.args.at c.loop-depth.end c.loop-depth.depth c.unit.result c.place_named-end.result c.in_ok-rec.rec b w c.unit.ensures is c.if-rec-eq0.false c.place_named-end.ensures room;
  count = omega (arith, c.count_step.ensures.more, c.loop-depth.invariant.count);
  read = omega (arith, c.loop-depth.invariant.read, c.read_head.ensures.counted);
  paid = paid_then 40 c.args.steps.now c.loop-depth.steps c.count_step.new.steps (g.S.Space.bytes_read c.args.space.now) (g.S.Space.bytes_read c.loop-depth.space) (g.S.Space.bytes_read c.read_head.new.space) c.loop-depth.invariant.paid (paid_one 40 c.loop-depth.steps c.count_step.new.steps (g.S.Space.bytes_read c.loop-depth.space) (g.S.Space.bytes_read c.read_head.new.space) c.count_step.ensures.later c.count_step.ensures.more (omega (arith, c.read_head.ensures.counted)));
}

pub returns-clause-last : goal.returns-clause-last
returns-clause-last g c = λ t end ps u b hang.
    let m = c.requires.tree t in
    let w = c.loop-depth.invariant.walk t m.end m.pieces m.tree m.blocks m.hangs in
    absurd (omega (arith, w.few, m.few, c.len-most.ensures t))

pub returns-clause-within : goal.returns-clause-within
returns-clause-within g c = λ t end ps u b hang.
    let w = c.loop-depth.invariant.walk t end ps u b hang in
    within_by (nodes u) c.loop-depth.depth 40 c.args.steps.now c.loop-depth.steps (g.S.Space.bytes_read c.args.space.now) (g.S.Space.bytes_read c.loop-depth.space) c.loop-depth.invariant.count c.loop-depth.invariant.read (omega (arith, w.few))
