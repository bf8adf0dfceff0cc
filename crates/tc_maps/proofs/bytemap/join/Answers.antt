use Rattle.std.proofs.Common.{◌≡◌, ◌∙◌, ◌++◌, refl, sym, ap, subst, List, ℕ, Some, None}
use Rattle.std.specs.Prelude.{Option, IsSome, is_some, unwrap_or, []}
use Rattle.std.specs.FinMap as map
use Rattle.std.specs.Option.{option_copied_mut}
use Rattle.tc_maps.specs.Sizes.{map_seen, value_of}
use Rattle.tc_maps.proofs.Mapped.{get_key, one_set, insert_same}
use Rattle.tc_maps.proofs.bytemap.join.Goals as goal

pub returns-in_default-clause-found : goal.returns-in_default-clause-found
returns-in_default-clause-found c =
    let none : map.get (map_seen c.args.entries.now) c.args.key.now ≡ None = get_key c.args.entries.now.entries c.args.key.now ∙ sym c.get_mut.ensures.value ∙ ap option_copied_mut c.in_default.is in
    sym (ap is_some none)

pub returns-in_default-append-clause-err : goal.returns-in_default-append-clause-err
returns-in_default-append-clause-err c =
    let some : IsSome (Some c.in-Some.value.now) = refl in
    let at = sym c.get_mut.ensures.value ∙ ap option_copied_mut c.in-Some.is in
    let found : map.get (map_seen c.args.entries.now) c.args.key.now ≡ Some c.in-Some.value.now = get_key c.args.entries.now.entries c.args.key.now ∙ at in
    one_set c.args.entries.now.entries _ c.args.key.now c.append.new.self ((c.get_mut.follows.holds c.append.new.self).3 (subst IsSome (sym at) some)).0
    ∙ ap (λ (v : List ℕ). map.insert (map_seen c.args.entries.now) c.args.key.now v) c.in_default-append.ensures.err ∙ insert_same (map_seen c.args.entries.now) c.args.key.now c.in-Some.value.now found

pub returns-clause-held : goal.returns-clause-held
returns-clause-held c = λ yes.
    let some : IsSome (Some c.in-Some.value.now) = refl in
    let at = sym c.get_mut.ensures.value ∙ ap option_copied_mut c.in-Some.is in
    let found : map.get (map_seen c.args.entries.now) c.args.key.now ≡ Some c.in-Some.value.now = get_key c.args.entries.now.entries c.args.key.now ∙ at in
    let value : value_of (map_seen c.args.entries.now) c.args.key.now ≡ c.in-Some.value.now = ap (λ (o : Option (List ℕ)). unwrap_or o []) found in
    one_set c.args.entries.now.entries _ c.args.key.now c.append.new.self ((c.get_mut.follows.holds c.append.new.self).3 (subst IsSome (sym at) some)).0
    ∙ ap (λ (v : List ℕ). map.insert (map_seen c.args.entries.now) c.args.key.now v) (c.in-Ok.ensures.ok ∙ ap (λ (v : List ℕ). v ++ c.args.more.now) (sym value))

pub returns-clause-found : goal.returns-clause-found
returns-clause-found c =
    let found : map.get (map_seen c.args.entries.now) c.args.key.now ≡ Some c.in-Some.value.now = get_key c.args.entries.now.entries c.args.key.now ∙ sym c.get_mut.ensures.value ∙ ap option_copied_mut c.in-Some.is in
    sym (ap is_some found)
