use Rattle.std.proofs.Common.{◌≡◌, ap, refl, arith, length, List, ℕ}
use Rattle.std.specs.FinMap.{get}
use Rattle.tc_space.specs.Frames.{In}
use Rattle.tc_space.specs.Stores.{ready_reads}
use Rattle.bt_check.specs.Looks.{looks_then, looks_refl}
use Rattle.bt_check.proofs.Collects.{collects_none, collects_more, broken, found_at, collected_rule, collected, empty_contains}
use Rattle.bt_check.proofs.collecting.collect.Goals as goal

pub loop-key-init : goal.loop-key-init
loop-key-init g c = record { looks = looks_refl _ _ _ _ c.requires.ready.sound; asks = omega arith; few = omega (arith, c.new.ensures.len); collects = λ m i listed. collects_none _ _ _ _ _ (λ id. empty_contains _ id c.new.ensures.empty) }

pub look-requires-clause-ready : goal.look-requires-clause-ready
look-requires-clause-ready g c = ready_reads g.R.S.Space (In g.R.S.Space g.R.Records.file_of g.R.Records.holds) _ _ _ _ c.loop-key.invariant.looks.reads c.requires.ready

pub returns-then-not-branch-clause-some : goal.returns-then-not-branch-clause-some
returns-then-not-branch-clause-some g c = λ m i listed b2.
    let within = ap (λ (l : List (List ℕ)). length l) c.as_slice-key-items.ensures in
    broken c.args.head.now c.args.index (get m) c.args.keys.now c.loop-key.key-index c.in_ok-found.found c.in_ok-note.field-0 _ _ (listed.held c.loop-key.key-index (omega (arith, c.loop-key-test.true, within)))
    (found_at c.args.head.now c.args.index (get m) (get m) c.args.keys.now _ c.loop-key.key-index _ c.key-item.result c.in_ok-found.found c.in_ok-found.found refl c.as_slice-key-items.ensures c.loop-key-test.true c.as_slice.ensures c.key-item.is refl
    (c.in_ok-found.ensures.found m (c.loop-key.invariant.looks.reads.means m i)))
    c.in_ok-note.ensures.noted c.if-not-branch.true b2

pub loop-key-preserved : goal.loop-key-preserved
loop-key-preserved g c = record {
  looks = looks_then _ _ _ _ _ _ _ _ c.loop-key.invariant.looks c.in_ok-found.ensures.looks;
  asks = omega (arith, c.loop-key.invariant.asks, c.in_ok-found.ensures.asks);
  few = omega (arith, c.loop-key.invariant.few, c.in_ok-note.ensures.few);
  collects = λ m i listed.
      let within = ap (λ (l : List (List ℕ)). length l) c.as_slice-key-items.ensures in
      collects_more c.args.head.now c.args.index (get m) c.args.keys.now c.loop-key.key-index c.in_ok-found.found c.in_ok-note.field-0 _ _ c.requires.head (listed.held c.loop-key.key-index (omega (arith, c.loop-key-test.true, within)))
      (found_at c.args.head.now c.args.index (get m) (get m) c.args.keys.now _ c.loop-key.key-index _ c.key-item.result c.in_ok-found.found c.in_ok-found.found refl c.as_slice-key-items.ensures c.loop-key-test.true c.as_slice.ensures c.key-item.is refl
      (c.in_ok-found.ensures.found m (c.loop-key.invariant.looks.reads.means m i)))
      c.in_ok-note.ensures.noted c.if-not-branch.false (c.loop-key.invariant.collects m i listed);
}

pub returns-clause-some : goal.returns-clause-some
returns-clause-some g c = λ m i listed.
    let whole : c.loop-key.key-index ≡ length c.args.keys.now = omega (arith, c.loop-key-test.false, c.loop-key.auto.key-index-end, ap (λ (l : List (List ℕ)). length l) c.as_slice-key-items.ensures) in (
      collected_rule _ _ _ c.args.keys.now _ _ _ whole listed (c.loop-key.invariant.collects m i listed),
      λ pages holds. collected _ _ _ c.args.keys.now _ _ _ pages whole listed (c.loop-key.invariant.collects m i listed) holds,
    )
