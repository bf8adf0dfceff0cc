use Rattle.std.proofs.Common.{ℕ, List, subst, sym}
use Rattle.tc_space.specs.Frames.{only_reads_then}
use Rattle.tc_reach.proofs.Handed.{if_err_handed}
use Rattle.tc_fixed.specs.Holding.{Holds}
use Rattle.tc_fixed.specs.Opening.{IsBroken, WasCounted}
use Rattle.tc_fixed.proofs.Opened.{opened_holds, opened_stands}
use Rattle.tc_fixed.proofs.fixed.Fixed.open.Goals as goal

pub returns-in_err-tally-clause-broken : goal.returns-in_err-tally-clause-broken
returns-in_err-tally-clause-broken g c = if_err_handed c.from_residual-in_err-tally.result c.in_err-tally.field-0.0 _ c.from_residual-in_err-tally.ensures.1 (λ f rule e.
    let b = c.in_err-tally.ensures.broken f rule e in
    (b.0, λ t. subst (λ (l : List ℕ). IsBroken l rule) (c.load_head.ensures.reads.files t 0) (b.1 t)))

pub returns-clause-stands : goal.returns-clause-stands
returns-clause-stands g c = λ t.
    let h = c.in_ok-head.head in
    let has = c.in_ok-head.ensures.head t in
    let same = c.in_ok-judge.ensures.same in
    opened_stands h c.in_ok-tally.tally (g.S.Space.now c.args.space.now 0) has.0 has.1
    (subst (λ (l : List ℕ). WasCounted h c.in_ok-tally.tally l) (c.load_head.ensures.reads.files t 0) (c.in_ok-tally.ensures.counted t))
    (record { records = same.0; least = same.1; greatest = same.2 })

pub returns-clause-holds : goal.returns-clause-holds
returns-clause-holds g c = λ t width most m stands.
    let h = c.in_ok-head.head in
    let tally = c.in_ok-tally.tally in
    let has = c.in_ok-head.ensures.head t in
    let same = c.in_ok-judge.ensures.same in
    let reads = only_reads_then g.S.Space c.args.space.now c.load_head.new.space c.count_cells.new.space c.load_head.ensures.reads c.count_cells.ensures.reads in
    let opened = opened_holds h tally (g.S.Space.now c.args.space.now 0) has.0 has.1
    (subst (λ (l : List ℕ). WasCounted h tally l) (c.load_head.ensures.reads.files t 0) (c.in_ok-tally.ensures.counted t))
    (record { records = same.0; least = same.1; greatest = same.2 }) width most m stands in
    ((t, subst (λ (l : List ℕ). Holds h.width h.limit tally m l) (sym (reads.files t 0)) opened.0), opened.1, opened.2)

pub returns-in_err-judge-clause-broken : goal.returns-in_err-judge-clause-broken
returns-in_err-judge-clause-broken g c = if_err_handed c.from_residual-in_err-judge.result c.in_err-judge.field-0.0 _ c.from_residual-in_err-judge.ensures.1 (λ f rule e. (
  c.in_err-judge.ensures.file f rule e,
  λ t.
      let h = c.in_ok-head.head in
      let tally = c.in_ok-tally.tally in
      let has = c.in_ok-head.ensures.head t in
      (c.in_err-judge.ensures.broken (g.S.Space.now c.args.space.now 0) has.0 has.1 (subst (λ (l : List ℕ). WasCounted h tally l) (c.load_head.ensures.reads.files t 0) (c.in_ok-tally.ensures.counted t)) f rule e).1 tt,
))
