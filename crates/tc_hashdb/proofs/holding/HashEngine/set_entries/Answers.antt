use Rattle.std.proofs.Common.{◌∙◌, ap, sym, subst}
use Rattle.std.specs.List.Sorted.{IsStrictlySortedBy}
use Rattle.std.specs.Map.{keys_of}
use Rattle.tc_base.specs.Orders.{lexical}
use Rattle.tc_maps.specs.Sizes.{entries_on}
use Rattle.tc_hashdb.specs.Changing.{head_then}
use Rattle.tc_hashdb.proofs.Setting.{set_end, set_full, set_more, set_ready, set_start}
use Rattle.tc_reach.proofs.Handed.{err_handed}
use Rattle.tc_hashdb.proofs.holding.HashEngine.set_entries.Goals as goal

pub set_value-requires : goal.set_value-requires
set_value-requires g c = record { ready = set_ready g.S.Space _ _ _ _ _ _ c.loop-key.invariant c.requires.ready }

pub loop-key-init : goal.loop-key-init
loop-key-init g c = set_start g.S.Space _ _ _ c.requires.ready.sound

pub loop-key-preserved : goal.loop-key-preserved
loop-key-preserved g c = set_more g.S.Space _ _ _ _ _ _ _ _ _ (c.in-Some.key.now, c.in-Some.value.now) c.as_slice.result.now c.as_slice-in-loop-key.result.now c.loop-key.invariant c.in-Some.ensures.steps c.as_slice.ensures c.as_slice-in-loop-key.ensures c.in_ok-set_value.ensures.set c.set_value.ensures.numbers c.set_value.ensures.keeps

pub returns-in_err-set_value-clause-full : goal.returns-in_err-set_value-clause-full
returns-in_err-set_value-clause-full g c = λ full.
    let least = c.new-least.ensures ∙ c.new.ensures in
    let all = c.into_iter-key-iterator.ensures.into_iter_gives ∙ (c.entries_from-key-items.ensures.entries ∙ ap (λ k. entries_on k c.args.values.now) least) in
    let rising = subst (λ l. IsStrictlySortedBy lexical (keys_of l)) (sym c.into_iter-key-iterator.ensures.into_iter_gives) c.entries_from-key-items.ensures.rising in
    set_full g.S.Space _ _ _ _ _ _ _ _ (c.in-Some.key.now, c.in-Some.value.now) c.as_slice.result.now c.as_slice-in-loop-key.result.now c.args.values.now c.loop-key.invariant c.in-Some.ensures.steps c.as_slice.ensures c.as_slice-in-loop-key.ensures all rising (c.in_err-set_value.ensures.full (err_handed c.from_residual.result c.in_err-set_value.field-0.0 _ c.from_residual.ensures.1 full))

pub returns-clause-set : goal.returns-clause-set
returns-clause-set g c =
    let least = c.new-least.ensures ∙ c.new.ensures in
    set_end g.S.Space _ _ _ _ _ _ c.args.values.now c.loop-key.invariant c.in-None.ensures.steps.0 (c.into_iter-key-iterator.ensures.into_iter_gives ∙ (c.entries_from-key-items.ensures.entries ∙ ap (λ k. entries_on k c.args.values.now) least))

pub returns-in_err-set_value-clause-numbers : goal.returns-in_err-set_value-clause-numbers
returns-in_err-set_value-clause-numbers g c = head_then _ _ _ c.loop-key.invariant.numbers c.set_value.ensures.numbers

pub returns-clause-numbers : goal.returns-clause-numbers
returns-clause-numbers g c = c.loop-key.invariant.numbers
