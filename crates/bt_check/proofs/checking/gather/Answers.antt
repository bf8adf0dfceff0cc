use Rattle.std.proofs.Common.{refl, inl, inr, arith}
use Rattle.tc_space.specs.Frames.{In}
use Rattle.tc_space.specs.Stores.{ready_reads}
use Rattle.bt_check.proofs.Listed.{keys_len, keys_listed}
use Rattle.bt_check.proofs.Mapped.{mapped}
use Rattle.bt_check.proofs.Verdicts.{breaks_at}
use Rattle.bt_check.proofs.checking.gather.Goals as goal

pub collect-requires-clause-ready : goal.collect-requires-clause-ready
collect-requires-clause-ready g c = ready_reads g.R.S.Space (In g.R.S.Space g.R.Records.file_of g.R.Records.holds) _ _ _ _ c.keys.ensures.reads c.requires

pub returns-then-not-is_head-clause-broken : goal.returns-then-not-is_head-clause-broken
returns-then-not-is_head-clause-broken g c = λ before. breaks_at before c.args.head.now c.args.index _ _ c.broken.result c.file-file.result 1 c.broken.ensures c.file-file.ensures (λ m i. inl (refl, λ b. let d = c.if-not-is_head.ensures.1 b in cc))

pub returns-in_default-clause-broken : goal.returns-in_default-clause-broken
returns-in_default-clause-broken g c = λ before. breaks_at before c.args.head.now c.args.index _ _ c.broken-in_default.result c.file-file.result 2 c.broken-in_default.ensures c.file-file.ensures
    (λ m i.
    let keys = mapped _ c.keys.result c.in_ok-keys.keys c.in_ok-keys.ensures.cases c.keys.ensures.value m i in
    let all = mapped _ c.collect.result c.in_ok-collected.collected c.in_ok-collected.ensures.cases c.collect.ensures.some m (c.keys.ensures.reads.means m i) (keys_listed m c.in_ok-keys.keys keys) in
    let rule = rw c.in_default.is at all in
    inr (c.if-not-is_head.ensures.0 refl, inl (refl, rule)))

pub returns-clause-ok : goal.returns-clause-ok
returns-clause-ok g c = λ m i.
    let keys = mapped _ c.keys.result c.in_ok-keys.keys c.in_ok-keys.ensures.cases c.keys.ensures.value m i in
    let all = mapped _ c.collect.result c.in_ok-collected.collected c.in_ok-collected.ensures.cases c.collect.ensures.some m (c.keys.ensures.reads.means m i) (keys_listed m c.in_ok-keys.keys keys) in
    rw c.in-Some.is at all

pub returns-in_err-collected-clause-asks : goal.returns-in_err-collected-clause-asks
returns-in_err-collected-clause-asks g c = λ m i. omega (arith, c.collect.ensures.asks, c.keys.ensures.stays.gets_same, keys_len m c.in_ok-keys.keys (mapped _ c.keys.result c.in_ok-keys.keys c.in_ok-keys.ensures.cases c.keys.ensures.value m i))

pub returns-in_default-clause-asks : goal.returns-in_default-clause-asks
returns-in_default-clause-asks g c = λ m i. omega (arith, c.collect.ensures.asks, c.keys.ensures.stays.gets_same, keys_len m c.in_ok-keys.keys (mapped _ c.keys.result c.in_ok-keys.keys c.in_ok-keys.ensures.cases c.keys.ensures.value m i))

pub returns-clause-few : goal.returns-clause-few
returns-clause-few g c = λ m i.
    let most = mapped _ c.collect.result c.in_ok-collected.collected c.in_ok-collected.ensures.cases c.collect.ensures.few in
    let few = rw c.in-Some.is at most in
    omega (arith, few, keys_len m c.in_ok-keys.keys (mapped _ c.keys.result c.in_ok-keys.keys c.in_ok-keys.ensures.cases c.keys.ensures.value m i))

pub returns-clause-asks : goal.returns-clause-asks
returns-clause-asks g c = λ m i. omega (arith, c.collect.ensures.asks, c.keys.ensures.stays.gets_same, keys_len m c.in_ok-keys.keys (mapped _ c.keys.result c.in_ok-keys.keys c.in_ok-keys.ensures.cases c.keys.ensures.value m i))
