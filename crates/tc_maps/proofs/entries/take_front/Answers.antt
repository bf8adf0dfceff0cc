use Rattle.std.proofs.Common.{◌≡◌, ◌∙◌, refl, sym, ap, length, Some, None, rules}
use Rattle.std.specs.Prelude.{option_map}
use Rattle.std.specs.Option.{option_copied_mut}
use Rattle.std.specs.BTreeMap.{is_at}
use Rattle.std.specs.Map.{remove_entry}
use Rattle.tc_maps.specs.Entries.{pairs_of}
use Rattle.tc_maps.proofs.Seen.{order}
use Rattle.tc_maps.proofs.Changes.{at, by_write, front_out, last_out, none_out, first_of, same_put}
use Rattle.tc_maps.proofs.entries.take_front.Goals as goal

none : (c : goal.After-from_residual) → at c.args.entries.now.entries c.args.key.now ≡ None
none c = sym c.get_mut.ensures.value ∙ ap option_copied_mut c.in_err-values.was

pub returns-in_err-values-clause-out : goal.returns-in_err-values-clause-out
returns-in_err-values-clause-out c =
    let same : c.get_mut.follows.lender-at-none.entries ≡ c.args.entries.now.entries = search rules in
    ap pairs_of same ∙ none_out _ _ c.get_mut.ensures.ordered (none c)

pub returns-in_err-values-clause-taken : goal.returns-in_err-values-clause-taken
returns-in_err-values-clause-taken c = c.from_residual.ensures ∙ sym (ap (λ o. option_map length o) (first_of _ _ _ c.get_mut.ensures.ordered (none c)))

pub returns-in-Some-clause-out : goal.returns-in-Some-clause-out
returns-in-Some-clause-out c =
    let v = c.in_ok-values.values.now in
    let found : at c.args.entries.now.entries c.args.key.now ≡ Some v = sym c.get_mut.ensures.value ∙ ap option_copied_mut c.in_ok-values.was in
    front_out _ _ _ v c.pop.new.self (by_write _ _ _ v c.pop.new.self _ c.get_mut.ensures.ordered found (c.get_mut.follows.holds c.pop.new.self).0 refl) found c.in-Some.ensures.rest

pub returns-in-Some-clause-taken : goal.returns-in-Some-clause-taken
returns-in-Some-clause-taken c =
    let found : at c.args.entries.now.entries c.args.key.now ≡ Some c.in_ok-values.values.now = sym c.get_mut.ensures.value ∙ ap option_copied_mut c.in_ok-values.was in
    ap (λ n. Some n) (c.len.ensures ∙ ap length c.in-Some.ensures.alone) ∙ sym (ap (λ o. option_map length o) (first_of _ _ _ c.get_mut.ensures.ordered found))

found : (c : goal.Joined-values) → at c.args.entries.now.entries c.args.key.now ≡ Some c.in_ok-values.values.now
found c = sym c.get_mut.ensures.value ∙ ap option_copied_mut c.in_ok-values.was

-- a value that is alone was left as it is
same : (c : goal.Joined-values) → (c.get_mut.follows.lender c.pop.new.self).entries ≡ c.args.entries.now.entries
same c =
    let v = c.in_ok-values.values.now in
    same_put _ _ c.args.key.now v (by_write _ _ _ v c.pop.new.self v c.get_mut.ensures.ordered (found c) (c.get_mut.follows.holds c.pop.new.self).0 c.in_default.ensures.rest) (found c)

pub returns-clause-out : goal.returns-clause-out
returns-clause-out c = last_out _ _ _ c.in_ok-values.values.now c.get_mut.ensures.ordered (found c) c.in_default.ensures.alone (c.remove.ensures.entries ∙ ap (remove_entry (is_at (order c.args.key.now))) (same c))

pub returns-clause-taken : goal.returns-clause-taken
returns-clause-taken c =
    let here : at c.args.entries.now.entries c.args.key.now ≡ Some c.in_ok-values-2.values = ap (λ es. at es c.args.key.now) (sym (same c)) ∙ sym c.remove.ensures.value ∙ c.in_ok-values-2.was in
    ap (λ n. Some n) (c.len-2.ensures ∙ ap length c.first-2.ensures) ∙ sym (ap (λ o. option_map length o) (first_of _ _ _ c.get_mut.ensures.ordered here))
