use Rattle.std.proofs.Common.{◌∙◌, refl, sym, ap, subst, Some}
use Rattle.std.specs.Prelude.{IsSome}
use Rattle.std.specs.FinMap as map
use Rattle.std.specs.Option.{option_copied_mut}
use Rattle.tc_maps.specs.Sizes.{map_seen}
use Rattle.tc_maps.proofs.Mapped.{get_key, one_set}
use Rattle.tc_memstores.proofs.rows.swap.Goals as goal

pub returns-in_default-clause-old : goal.returns-in_default-clause-old
returns-in_default-clause-old c = sym (get_key c.args.entries.now.entries c.args.key.now ∙ sym c.get_mut.ensures.value ∙ ap option_copied_mut c.in_default.is)

pub returns-clause-old : goal.returns-clause-old
returns-clause-old c = sym (get_key c.args.entries.now.entries c.args.key.now ∙ sym c.get_mut.ensures.value ∙ ap option_copied_mut c.in-Some.is ∙ ap (λ v. Some v) (sym c.replace.ensures.value))

pub returns-clause-map : goal.returns-clause-map
returns-clause-map c =
    let some : IsSome (Some c.in-Some.place.now) = refl in
    let at = sym c.get_mut.ensures.value ∙ ap option_copied_mut c.in-Some.is in
    one_set c.args.entries.now.entries _ c.args.key.now c.replace.new.dest ((c.get_mut.follows.holds c.replace.new.dest).3 (subst IsSome (sym at) some)).0
    ∙ ap (λ v. map.insert (map_seen c.args.entries.now) c.args.key.now v) c.replace.ensures.after
