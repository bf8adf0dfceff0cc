use Rattle.std.proofs.Common.{◌∙◌, ℕ, List, drop, refl, sym, subst, arith}
use Rattle.tc_space.specs.Frames.{only_reads_refl, only_reads_then}
use Rattle.tc_space.specs.declared.errors.OpenErr.TheVariants as open_err
use Rattle.tc_reach.specs.Errors.{open_of}
use Rattle.tc_reach.proofs.Handed.{if_err_handed}
use Rattle.ty_ulog.specs.Log.{Breaks}
use Rattle.ty_ulog.specs.Pieces.{HasNoUpdate, IsNext, IsUpdateAt}
use Rattle.ty_ulog.proofs.Marking.{marked_at}
use Rattle.ty_ulog.proofs.Pieces.{ahead_none, ahead_same, some_in}
use Rattle.ty_ulog.proofs.Rows.{breaks_first, breaks_second, memory_not_broken, not_broken, read_all, read_as, read_more, read_moved, read_none, read_stop, read_unordered, upto_inside}
use Rattle.ty_ulog.proofs.log.Ulog.open.Goals as goal

pub updates-init : goal.updates-init
updates-init g c = record {
  reads = only_reads_refl g.S.Space c.args.space.now c.requires;
  end_is = c.new-ahead.ensures.end;
  ahead = λ t. ahead_none _ _ c.new-ahead.ensures.none (c.new-ahead.ensures.end ∙ c.len-end.ensures t);
  once = omega arith;
  read = λ t. read_moved _ _ _ _ _ c.new-ahead.ensures.front (read_none _ _ c.empty-log.ensures.last c.empty-log.ensures.marks);
}

pub next-requires-clause-ahead : goal.next-requires-clause-ahead
next-requires-clause-ahead g c = λ t. let v = c.updates.invariant in ahead_same _ _ _ (v.reads.files t 2) (v.ahead t)

pub updates-preserved : goal.updates-preserved
updates-preserved g c =
    let v = c.updates.invariant in
    let passed = some_in _ c.in-Some.head _ c.in-Some.is c.in_ok-head.ensures.moved in
    record {
      reads = only_reads_then g.S.Space c.args.space.now c.updates.space c.next.new.space v.reads c.next.ensures.reads;
      end_is = c.in_ok-head.ensures.end ∙ v.end_is;
      ahead = λ t. ahead_same _ _ _ (sym (v.reads.files t 2)) (c.in_ok-head.ensures.ahead t);
      once = omega (arith, v.once, c.in_ok-head.ensures.spends.once);
      read = λ t.
          let here = subst (IsNext (g.S.Space.now c.updates.space 2) c.updates.ahead.at) c.in-Some.is (c.in_ok-head.ensures.update t) in
          read_moved _ _ _ _ _ passed.1
          (read_more (g.S.Space.now c.args.space.now 2) c.updates.ahead.at c.updates.log _ c.in-Some.head _ c.updates.in_order (v.read t)
          (subst (λ (l : List ℕ). IsUpdateAt l c.updates.ahead.at c.in-Some.head) (v.reads.files t 2) here) refl (marked_at _ _ _ _ _ c.place-at.ensures c.in_ok-add.ensures.marked) c.follows-in_order.ensures.0 c.follows-in_order.ensures.1);
    }

pub returns-in_default-clause-broken : goal.returns-in_default-clause-broken
returns-in_default-clause-broken g c =
    let v = c.updates.invariant in
    let file = g.S.Space.now c.args.space.now 2 in
    subst (Breaks g.S.Space.tells file) (sym c.broken.ensures) (breaks_first g.S.Space.tells file (λ t.
    let none = subst (IsNext (g.S.Space.now c.updates.space 2) c.updates.ahead.at) c.in_default.is (c.in_ok-head.ensures.update t) in
    read_stop file c.updates.ahead.at c.updates.log c.updates.in_order (omega (arith, c.updates-test.true, c.len-end.ensures t)) (v.read t)
    (subst (λ (l : List ℕ). HasNoUpdate (drop c.updates.ahead.at l)) (v.reads.files t 2) none)))

pub returns-in_err-head-clause-broken : goal.returns-in_err-head-clause-broken
returns-in_err-head-clause-broken g c = if_err_handed c.from_residual.result (open_of c.in_err-head.field-0.0) _ c.from_residual.ensures.1 (not_broken g.S.Space.tells (g.S.Space.now c.args.space.now 2) c.in_err-head.field-0.0)

pub returns-in_err-add-clause-broken : goal.returns-in_err-add-clause-broken
returns-in_err-add-clause-broken g c = if_err_handed c.from_residual-in_err-add.result open_err.Memory _ c.from_residual-in_err-add.ensures.1 (memory_not_broken g.S.Space.tells (g.S.Space.now c.args.space.now 2))

pub returns-then-not-in_order-clause-broken : goal.returns-then-not-in_order-clause-broken
returns-then-not-in_order-clause-broken g c =
    let file = g.S.Space.now c.args.space.now 2 in
    subst (Breaks g.S.Space.tells file) (sym c.broken-then-not-in_order.ensures) (breaks_second g.S.Space.tells file (λ t.
    read_unordered file c.updates.ahead.at c.updates.log (omega (arith, c.updates-test.false, c.len-end.ensures t)) (read_as _ _ _ _ _ c.if-not-in_order.true (c.updates.invariant.read t))))

pub returns-clause-holds : goal.returns-clause-holds
returns-clause-holds g c = λ t.
    read_all (g.S.Space.now c.args.space.now 2) c.updates.ahead.at c.updates.log (omega (arith, c.updates-test.false, c.len-end.ensures t)) (read_as _ _ _ _ _ c.if-not-in_order.false (c.updates.invariant.read t))

pub returns-in_default-clause-once : goal.returns-in_default-clause-once
returns-in_default-clause-once g c = λ t. let v = c.updates.invariant in omega (arith, v.once, c.next.ensures.spends.most, v.end_is, c.len-end.ensures t)

pub returns-in_err-head-clause-once : goal.returns-in_err-head-clause-once
returns-in_err-head-clause-once g c = λ t. let v = c.updates.invariant in omega (arith, v.once, c.next.ensures.spends.most, v.end_is, c.len-end.ensures t)

pub returns-in_err-add-clause-once : goal.returns-in_err-add-clause-once
returns-in_err-add-clause-once g c = λ t. let v = c.updates.invariant in omega (arith, v.once, c.next.ensures.spends.most, v.end_is, c.len-end.ensures t)

pub returns-then-not-in_order-clause-once : goal.returns-then-not-in_order-clause-once
returns-then-not-in_order-clause-once g c = λ t. let v = c.updates.invariant in omega (arith, v.once, upto_inside c.updates.ahead _ c.updates.log c.updates.in_order (v.ahead t) (v.read t))

pub returns-clause-once : goal.returns-clause-once
returns-clause-once g c = λ t. let v = c.updates.invariant in omega (arith, v.once, upto_inside c.updates.ahead _ c.updates.log c.updates.in_order (v.ahead t) (v.read t))
