use Rattle.std.proofs.Common.{rules, ◌∙◌, ◌+◌, ◌^◌, ◌<◌, ℕ, length, arith, sym, subst, List}
use Rattle.hf_tree.specs.Keys.{bucket_of}
use Rattle.hf_tree.specs.Trees.{nodes}
use Rattle.tc_space.specs.Frames.{only_reads_then}
use Rattle.hf_chain.specs.Heads.{HasRecord, IsHeadOf, IsRecordAt}
use Rattle.hf_chain.specs.Costs.{step_most}
use Rattle.hf_chain.proofs.Descents.{unit_small, entry_inside, spot_start, spot_gap, spot_end, spot_next, next_there, next_here, next_down}
use Rattle.hf_chain.proofs.Paying.{paid_one, paid_then, within_by, one_more}
use Rattle.hf_chain.proofs.finding.find.Goals as goal

pub read_entry-requires-clause-inside : goal.read_entry-requires-clause-inside
read_entry-requires-clause-inside g c = λ t. let w = c.requires.tree t in entry_inside c.args.head.now w.end w.pieces (g.S.Space.now c.args.space.now c.args.file) c.bucket_of-bucket.result c.requires.ready.valid w.is.blocks c.bucket_of-bucket.ensures.inside

pub read_entry-requires-clause-low : goal.read_entry-requires-clause-low
read_entry-requires-clause-low g c = omega (arith, c.bucket_of-bucket.ensures.inside, c.requires.ready.valid.numbers.few_buckets)

pub place_named-at-requires : goal.place_named-at-requires
place_named-at-requires g c = omega (arith, unit_small c.args.head.now c.requires.ready.valid, c.unit.ensures)

pub returns-in_err-entry-clause-within : goal.returns-in_err-entry-clause-within
returns-in_err-entry-clause-within g c = λ t end ps u w.
    let m : ℕ = step_most (length c.args.key.now) in
    within_by (1 + nodes u) 1 m c.args.steps.now c.count_step.new.steps (g.S.Space.bytes_read c.args.space.now) (g.S.Space.bytes_read c.read_entry.new.space) (omega (arith, c.count_step.ensures.more)) (omega (arith, c.read_entry.ensures.counted, one_more 0 m)) (omega arith)

pub returns-in_err-entry-clause-paid : goal.returns-in_err-entry-clause-paid
returns-in_err-entry-clause-paid g c = paid_one (step_most (length c.args.key.now)) c.args.steps.now c.count_step.new.steps (g.S.Space.bytes_read c.args.space.now) (g.S.Space.bytes_read c.read_entry.new.space) c.count_step.ensures.later c.count_step.ensures.more (omega (arith, c.read_entry.ensures.counted))

pub loop-depth-init : goal.loop-depth-init
unfolding bucket_of
loop-depth-init g c = record {
  reads = c.in_ok-entry.ensures.reads;
  spot = λ t end ps u w. spot_start c.args.head.now end ps (g.S.Space.now c.args.space.now c.args.file) (bucket_of c.args.head.now.buckets c.args.key.now) u c.args.key.now c.bucket_of-bucket.result c.unit.result c.in_ok-entry.entry c.place_named-at.result c.bucket_of-bucket.ensures.inside w c.bucket_of-bucket.ensures.value c.unit.ensures (c.in_ok-entry.ensures.entry t) c.place_named-at.ensures (let r : c.len-most.result < 2 ^ 64 = search rules in omega (arith, c.len-most.ensures t, r));
  count = omega (arith, c.count_step.ensures.more);
  read = omega (arith, c.read_entry.ensures.counted, one_more 0 (step_most (length c.args.key.now)));
  paid = paid_one (step_most (length c.args.key.now)) c.args.steps.now c.count_step.new.steps (g.S.Space.bytes_read c.args.space.now) (g.S.Space.bytes_read c.read_entry.new.space) c.count_step.ensures.later c.count_step.ensures.more (omega (arith, c.read_entry.ensures.counted));
}

pub returns-then-at-eq0-clause-found : goal.returns-then-at-eq0-clause-found
returns-then-at-eq0-clause-found g c = λ t end ps u w. spot_gap c.args.head.now end ps (g.S.Space.now c.args.space.now c.args.file) (bucket_of c.args.head.now.buckets c.args.key.now) u c.args.key.now c.loop-depth.from c.loop-depth.at c.loop-depth.depth (c.loop-depth.invariant.spot t end ps u w) c.if-at-eq0.true

pub returns-then-at-eq0-clause-within : goal.returns-then-at-eq0-clause-within
returns-then-at-eq0-clause-within g c = λ t end ps u w.
    let s = c.loop-depth.invariant.spot t end ps u w in
    within_by (1 + nodes u) (c.loop-depth.depth + 1) (step_most (length c.args.key.now)) c.args.steps.now c.loop-depth.steps (g.S.Space.bytes_read c.args.space.now) (g.S.Space.bytes_read c.loop-depth.space) (omega (arith, c.loop-depth.invariant.count)) c.loop-depth.invariant.read (omega (arith, s.few))

pub look_at-requires-clause-there : goal.look_at-requires-clause-there
look_at-requires-clause-there g c = λ t.
    let w = c.requires.tree t in
    let x = w.is in
    let n = spot_next c.args.head.now w.end w.pieces (g.S.Space.now c.args.space.now c.args.file) (bucket_of c.args.head.now.buckets c.args.key.now) w.tree c.args.key.now c.loop-depth.from c.loop-depth.at c.loop-depth.depth x.blocks (c.loop-depth.invariant.spot t w.end w.pieces w.tree x) c.if-at-eq0.false in
    subst (λ (l : List ℕ). IsRecordAt c.args.head.now c.loop-depth.at l) (sym (c.loop-depth.invariant.reads.files t c.args.file)) (next_there c.args.head.now w.end w.pieces (g.S.Space.now c.args.space.now c.args.file) (bucket_of c.args.head.now.buckets c.args.key.now) w.tree c.args.key.now c.loop-depth.from c.loop-depth.at c.loop-depth.depth n)

pub returns-in_err-look-clause-within : goal.returns-in_err-look-clause-within
returns-in_err-look-clause-within g c = λ t end ps u w.
    let n = spot_next c.args.head.now end ps (g.S.Space.now c.args.space.now c.args.file) (bucket_of c.args.head.now.buckets c.args.key.now) u c.args.key.now c.loop-depth.from c.loop-depth.at c.loop-depth.depth w.blocks (c.loop-depth.invariant.spot t end ps u w) c.if-at-eq0.false in
    let m : ℕ = step_most (length c.args.key.now) in
    within_by (1 + nodes u) (c.loop-depth.depth + 1 + 1) m c.args.steps.now c.count_step-in-loop-depth.new.steps (g.S.Space.bytes_read c.args.space.now) (g.S.Space.bytes_read c.look_at.new.space) (omega (arith, c.count_step-in-loop-depth.ensures.more, c.loop-depth.invariant.count)) (omega (arith, one_more (c.loop-depth.depth + 1) m, c.loop-depth.invariant.read, c.look_at.ensures.counted)) (omega (arith, n.few))

pub returns-in_err-look-clause-paid : goal.returns-in_err-look-clause-paid
returns-in_err-look-clause-paid g c = paid_then (step_most (length c.args.key.now)) c.args.steps.now c.loop-depth.steps c.count_step-in-loop-depth.new.steps (g.S.Space.bytes_read c.args.space.now) (g.S.Space.bytes_read c.loop-depth.space) (g.S.Space.bytes_read c.look_at.new.space) c.loop-depth.invariant.paid (paid_one (step_most (length c.args.key.now)) c.loop-depth.steps c.count_step-in-loop-depth.new.steps (g.S.Space.bytes_read c.loop-depth.space) (g.S.Space.bytes_read c.look_at.new.space) c.count_step-in-loop-depth.ensures.later c.count_step-in-loop-depth.ensures.more (omega (arith, c.look_at.ensures.counted)))

pub returns-in_err-look-clause-reads : goal.returns-in_err-look-clause-reads
returns-in_err-look-clause-reads g c = only_reads_then g.S.Space c.args.space.now c.loop-depth.space c.look_at.new.space c.loop-depth.invariant.reads c.look_at.ensures.reads

pub returns-in_default-clause-within : goal.returns-in_default-clause-within
returns-in_default-clause-within g c = λ t end ps u w.
    let n = spot_next c.args.head.now end ps (g.S.Space.now c.args.space.now c.args.file) (bucket_of c.args.head.now.buckets c.args.key.now) u c.args.key.now c.loop-depth.from c.loop-depth.at c.loop-depth.depth w.blocks (c.loop-depth.invariant.spot t end ps u w) c.if-at-eq0.false in
    let m : ℕ = step_most (length c.args.key.now) in
    within_by (1 + nodes u) (c.loop-depth.depth + 1 + 1) m c.args.steps.now c.count_step-in-loop-depth.new.steps (g.S.Space.bytes_read c.args.space.now) (g.S.Space.bytes_read c.look_at.new.space) (omega (arith, c.count_step-in-loop-depth.ensures.more, c.loop-depth.invariant.count)) (omega (arith, one_more (c.loop-depth.depth + 1) m, c.loop-depth.invariant.read, c.look_at.ensures.counted)) (omega (arith, n.few))

pub returns-in_default-clause-paid : goal.returns-in_default-clause-paid
returns-in_default-clause-paid g c = paid_then (step_most (length c.args.key.now)) c.args.steps.now c.loop-depth.steps c.count_step-in-loop-depth.new.steps (g.S.Space.bytes_read c.args.space.now) (g.S.Space.bytes_read c.loop-depth.space) (g.S.Space.bytes_read c.look_at.new.space) c.loop-depth.invariant.paid (paid_one (step_most (length c.args.key.now)) c.loop-depth.steps c.count_step-in-loop-depth.new.steps (g.S.Space.bytes_read c.loop-depth.space) (g.S.Space.bytes_read c.look_at.new.space) c.count_step-in-loop-depth.ensures.later c.count_step-in-loop-depth.ensures.more (omega (arith, c.look_at.ensures.counted)))

pub returns-in_default-clause-found : goal.returns-in_default-clause-found
returns-in_default-clause-found g c = λ t end ps u w.
    let n = spot_next c.args.head.now end ps (g.S.Space.now c.args.space.now c.args.file) (bucket_of c.args.head.now.buckets c.args.key.now) u c.args.key.now c.loop-depth.from c.loop-depth.at c.loop-depth.depth w.blocks (c.loop-depth.invariant.spot t end ps u w) c.if-at-eq0.false in
    let now : HasRecord c.args.head.now n.held.r c.loop-depth.at (g.S.Space.now c.loop-depth.space c.args.file) = subst (λ (l : List ℕ). HasRecord c.args.head.now n.held.r c.loop-depth.at l) (sym (c.loop-depth.invariant.reads.files t c.args.file)) n.held.has in
    let step = c.in_ok-look.ensures.step t n.held.r now n.held.hash in
    next_here c.args.head.now end ps (g.S.Space.now c.args.space.now c.args.file) (bucket_of c.args.head.now.buckets c.args.key.now) u c.args.key.now c.loop-depth.from c.loop-depth.at c.loop-depth.depth n (sym c.in_default.is ∙ step)

pub returns-in_default-clause-head : goal.returns-in_default-clause-head
returns-in_default-clause-head g c =
    let same = λ (t : g.S.Space.tells). c.loop-depth.invariant.reads.files t c.args.file in
    record {
      fits = c.in_ok-look.ensures.fits;
      is = λ t. subst (λ (l : List ℕ). IsHeadOf c.args.head.now c.loop-depth.at l c.in_ok-look.look.rec) (same t) (c.in_ok-look.ensures.head t);
      long = λ t. (let r : c.len-most.result < 2 ^ 64 = search rules in omega (arith, c.len-most.ensures t, r));
    }

pub returns-in_default-clause-reads : goal.returns-in_default-clause-reads
returns-in_default-clause-reads g c = only_reads_then g.S.Space c.args.space.now c.loop-depth.space c.look_at.new.space c.loop-depth.invariant.reads c.look_at.ensures.reads

pub loop-depth-preserved : goal.loop-depth-preserved
loop-depth-preserved g c = record {
  reads = only_reads_then g.S.Space c.args.space.now c.loop-depth.space c.look_at.new.space c.loop-depth.invariant.reads c.look_at.ensures.reads;
  spot = λ t end ps u w.
      let n = spot_next c.args.head.now end ps (g.S.Space.now c.args.space.now c.args.file) (bucket_of c.args.head.now.buckets c.args.key.now) u c.args.key.now c.loop-depth.from c.loop-depth.at c.loop-depth.depth w.blocks (c.loop-depth.invariant.spot t end ps u w) c.if-at-eq0.false in
      let now : HasRecord c.args.head.now n.held.r c.loop-depth.at (g.S.Space.now c.loop-depth.space c.args.file) = subst (λ (l : List ℕ). HasRecord c.args.head.now n.held.r c.loop-depth.at l) (sym (c.loop-depth.invariant.reads.files t c.args.file)) n.held.has in
      let step = c.in_ok-look.ensures.step t n.held.r now n.held.hash in
      let room : length (g.S.Space.now c.args.space.now c.args.file) < 2 ^ 64 = (let r : c.len-most.result < 2 ^ 64 = search rules in omega (arith, c.len-most.ensures t, r)) in
      next_down c.args.head.now end ps (g.S.Space.now c.args.space.now c.args.file) (bucket_of c.args.head.now.buckets c.args.key.now) u c.args.key.now c.loop-depth.from c.loop-depth.at c.loop-depth.depth w.blocks room n c.in-Some.link c.in-Some.place (sym c.in-Some.is ∙ step);
  count = omega (arith, c.count_step-in-loop-depth.ensures.more, c.loop-depth.invariant.count);
  read = omega (arith, one_more (c.loop-depth.depth + 1) (step_most (length c.args.key.now)), c.loop-depth.invariant.read, c.look_at.ensures.counted);
  paid = paid_then (step_most (length c.args.key.now)) c.args.steps.now c.loop-depth.steps c.count_step-in-loop-depth.new.steps (g.S.Space.bytes_read c.args.space.now) (g.S.Space.bytes_read c.loop-depth.space) (g.S.Space.bytes_read c.look_at.new.space) c.loop-depth.invariant.paid (paid_one (step_most (length c.args.key.now)) c.loop-depth.steps c.count_step-in-loop-depth.new.steps (g.S.Space.bytes_read c.loop-depth.space) (g.S.Space.bytes_read c.look_at.new.space) c.count_step-in-loop-depth.ensures.later c.count_step-in-loop-depth.ensures.more (omega (arith, c.look_at.ensures.counted)));
}

pub returns-clause-found : goal.returns-clause-found
returns-clause-found g c = λ t end ps u w.
    let s = c.loop-depth.invariant.spot t end ps u w in
    spot_gap c.args.head.now end ps (g.S.Space.now c.args.space.now c.args.file) (bucket_of c.args.head.now.buckets c.args.key.now) u c.args.key.now c.loop-depth.from c.loop-depth.at c.loop-depth.depth s
    (spot_end c.args.head.now end ps (g.S.Space.now c.args.space.now c.args.file) (bucket_of c.args.head.now.buckets c.args.key.now) u c.args.key.now c.loop-depth.from c.loop-depth.at c.loop-depth.depth s (omega (arith, c.len-most.ensures t)))

pub returns-clause-within : goal.returns-clause-within
returns-clause-within g c = λ t end ps u w.
    let s = c.loop-depth.invariant.spot t end ps u w in
    within_by (1 + nodes u) (c.loop-depth.depth + 1) (step_most (length c.args.key.now)) c.args.steps.now c.loop-depth.steps (g.S.Space.bytes_read c.args.space.now) (g.S.Space.bytes_read c.loop-depth.space) (omega (arith, c.loop-depth.invariant.count)) c.loop-depth.invariant.read (omega (arith, s.few))
