use Rattle.std.proofs.Common.{sym, ◌∙◌}
use Rattle.tc_tabledb.proofs.Opened.{named_so, none_named}
use Rattle.tc_tabledb.proofs.opening.named_in.Goals as goal

pub returns-in_default-clause-named : goal.returns-in_default-clause-named
returns-in_default-clause-named g c = λ m h. none_named m c.args.hash.now.region _ c.as_slice.result.now c.in_ok-record.field-0 c.as_slice.ensures (c.in_ok-record.ensures.value m h) c.in_default.is

pub returns-clause-named : goal.returns-clause-named
returns-clause-named g c = λ m h. named_so m c.args.hash.now.region _ c.as_slice.result.now c.in-Some.record c.as_slice-2.result.now c.order_in-order.result c.in_ok-named.named c.as_slice.ensures (sym c.in-Some.is ∙ c.in_ok-record.ensures.value m h) c.as_slice-2.ensures c.order_in-order.ensures c.in_ok-named.ensures
