use Rattle.std.proofs.Common.{◌≡◌, ◌≤◌, ◌+◌, ◌∙◌, sym, ap, subst, length}
use Rattle.tc_base.specs.Lists.{values, without_all}
use Rattle.tc_maps.specs.Entries.{all_of, pairs_of, values_at}
use Rattle.tc_maps.specs.Totals.{AreTotals}
use Rattle.tc_maps.proofs.Seen.{order, values_seen}
use Rattle.tc_maps.proofs.Changes.{all_out}
use Rattle.tc_maps.proofs.Counted.{all_has, all_totals}
use Rattle.tc_maps.proofs.Counting.{sized}
use Rattle.tc_maps.proofs.multimap.Multimap.clear_key.Goals as goal

gone : (c : goal.After-values-2-1) → values (pairs_of c.self.inside.entries.entries) c.args.key.now ≡ all_of c.in-Some.values
gone c = values_seen _ _ c.self.invariant.sorted ∙ ap values_at (sym c.remove.ensures.value ∙ c.in-Some.is)

pub less_all-self-inside-requires-clause-pairs : goal.less_all-self-inside-requires-clause-pairs
less_all-self-inside-requires-clause-pairs c = (all_has _ _ c.args.key.now _ c.self.invariant.totals (gone c)).0

pub less_all-self-inside-requires-clause-bytes : goal.less_all-self-inside-requires-clause-bytes
less_all-self-inside-requires-clause-bytes c =
    let h : sized c.len.result (all_of c.in-Some.values) ≤ c.self.inside.totals.bytes = rw c.len.ensures (all_has _ _ c.args.key.now _ c.self.invariant.totals (gone c)).1 in
    h

pub invariant_of-self : goal.invariant_of-self
invariant_of-self c = record { sorted = c.remove.ensures.ordered; totals = subst (λ es. AreTotals c.self.inside.totals (pairs_of es)) (sym c.in_default.ensures.unchanged) c.self.invariant.totals }

pub invariant_of-self-2 : goal.invariant_of-self-2
invariant_of-self-2 c =
    let vs : values (pairs_of c.self.inside.entries.entries) c.args.key.now ≡ all_of c.in-Some.values = values_seen _ _ c.self.invariant.sorted ∙ ap values_at (sym c.remove.ensures.value ∙ c.in-Some.is) in
    let bytes : c.less_all-self-inside.result.bytes + sized (length c.args.key.now) (all_of c.in-Some.values) ≡ c.self.inside.totals.bytes = ap (λ n. c.less_all-self-inside.result.bytes + sized n (all_of c.in-Some.values)) (sym c.len.ensures) ∙ c.less_all-self-inside.ensures.bytes in
    record {
      sorted = c.remove.ensures.ordered;
      totals = all_totals _ _ _ _ c.args.key.now (all_of c.in-Some.values) c.self.invariant.totals vs c.less_all-self-inside.ensures.pairs bytes (all_out _ _ c.args.key.now c.self.invariant.sorted c.remove.ensures.entries);
    }

pub returns : goal.returns
returns c = all_out _ _ c.args.key.now c.self.invariant.sorted c.remove.ensures.entries ∙ ap (λ ps. without_all order ps c.args.key.now) c.self.view_is

pub returns-in_default : goal.returns-in_default
returns-in_default c = all_out _ _ c.args.key.now c.self.invariant.sorted c.remove.ensures.entries ∙ ap (λ ps. without_all order ps c.args.key.now) c.self.view_is
