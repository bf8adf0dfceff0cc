use Rattle.std.proofs.Common.{◌≡◌, ◌∙◌, sym, ap, length, Some, rules}
use Rattle.std.specs.Prelude.{option_map}
use Rattle.tc_maps.proofs.Changes.{at, by_entry, front_new, front_old, first_of}
use Rattle.tc_maps.proofs.entries.put_front.Goals as goal

found : (c : goal.After-entries-in-Occupied-2-1) → at c.args.entries.now.entries c.args.key ≡ Some c.into_mut-values.result.now
found c = cc (c.in_ok-entry.ensures.value, c.in-Occupied.is, c.into_mut-values.ensures.value)

pub returns-in-Occupied-clause-ok : goal.returns-in-Occupied-clause-ok
returns-in-Occupied-clause-ok c = front_old _ _ _ c.args.value c.into_mut-values.result.now (by_entry _ _ _ _ _ c.entry.ensures.ordered c.in_ok-entry.ensures.update.1 (search (rules, c.set_first.ensures))) (found c)

pub returns-in-Occupied-clause-replaced : goal.returns-in-Occupied-clause-replaced
returns-in-Occupied-clause-replaced c = ap (λ n. Some n) (c.len-replaced.ensures ∙ ap length c.first.ensures) ∙ sym (ap (λ o. option_map length o) (first_of _ _ _ c.entry.ensures.ordered (found c)))

pub returns-in-Vacant-clause-ok : goal.returns-in-Vacant-clause-ok
returns-in-Vacant-clause-ok c = front_new _ _ _ _ (by_entry _ _ _ _ _ c.entry.ensures.ordered c.in_ok-entry.ensures.update.1 (search (rules, c.one.ensures))) (rw c.in-Vacant.is at c.in_ok-entry.ensures.found)

pub returns-in-Vacant-clause-replaced : goal.returns-in-Vacant-clause-replaced
returns-in-Vacant-clause-replaced c = sym (ap (λ o. option_map length o) (first_of _ _ _ c.entry.ensures.ordered (rw c.in-Vacant.is at c.in_ok-entry.ensures.found)))
