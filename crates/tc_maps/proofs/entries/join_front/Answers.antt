use Rattle.std.proofs.Common.{◌≡◌, ◌∙◌, sym, ap, Some, None}
use Rattle.std.specs.Option.{option_copied_mut, is_some}
use Rattle.tc_maps.specs.Entries.{pairs_of}
use Rattle.tc_maps.proofs.Changes.{at, by_write, front_joined, first_of, same_put}
use Rattle.tc_maps.proofs.entries.join_front.Goals as goal

none : (c : goal.After-entries-in_default-2-1) → at c.args.entries.now.entries c.args.key.now ≡ None
none c = sym c.get_mut.ensures.value ∙ ap option_copied_mut c.in_default.is

pub returns-in_default-clause-found : goal.returns-in_default-clause-found
returns-in_default-clause-found c = sym (ap is_some (first_of _ _ _ c.get_mut.ensures.ordered (none c)))

pub returns-clause-found : goal.returns-clause-found
returns-clause-found c =
    let found : at c.args.entries.now.entries c.args.key.now ≡ Some c.in-Some.values.now = sym c.get_mut.ensures.value ∙ ap option_copied_mut c.in-Some.is in
    sym (ap is_some (first_of _ _ _ c.get_mut.ensures.ordered found))

pub returns-clause-held : goal.returns-clause-held
returns-clause-held c = λ yes.
    let found : at c.args.entries.now.entries c.args.key.now ≡ Some c.in-Some.values.now = sym c.get_mut.ensures.value ∙ ap option_copied_mut c.in-Some.is in
    front_joined _ _ _ _ c.in-Some.values.now (by_write _ _ _ c.in-Some.values.now c.append_first.new.self _ c.get_mut.ensures.ordered found (c.get_mut.follows.holds c.append_first.new.self).0 c.in-Ok.ensures.ok) found

pub returns-in_default-append_first-clause-err : goal.returns-in_default-append_first-clause-err
returns-in_default-append_first-clause-err c =
    let v = c.in-Some.values.now in
    let found : at c.args.entries.now.entries c.args.key.now ≡ Some v = sym c.get_mut.ensures.value ∙ ap option_copied_mut c.in-Some.is in
    ap pairs_of (same_put _ _ _ v (by_write _ _ _ v c.append_first.new.self v c.get_mut.ensures.ordered found (c.get_mut.follows.holds c.append_first.new.self).0 c.in_default-append_first.ensures.err) found)
