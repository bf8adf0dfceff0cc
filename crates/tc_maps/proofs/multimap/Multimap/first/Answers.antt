use Rattle.std.proofs.Common.{◌≡◌, ◌∙◌, sym, ap, Some, None}
use Rattle.std.specs.Option.{option_copied}
use Rattle.tc_base.specs.Lists.{first}
use Rattle.tc_maps.proofs.Changes.{at, first_of}
use Rattle.tc_maps.proofs.multimap.Multimap.first.Goals as goal

pub returns-in-Some : goal.returns-in-Some
returns-in-Some c =
    let found : at c.self.inside.entries.entries c.args.key.now ≡ Some c.in-Some.values.now = sym c.get.ensures.value ∙ ap option_copied c.in-Some.is in
    ap (λ v. Some v) c.first.ensures ∙ sym (first_of _ _ _ c.self.invariant.sorted found) ∙ ap (λ ps. first ps c.args.key.now) c.self.view_is

pub returns-in-None : goal.returns-in-None
returns-in-None c =
    let none : at c.self.inside.entries.entries c.args.key.now ≡ None = sym c.get.ensures.value ∙ ap option_copied c.in-None.is in
    sym (first_of _ _ _ c.self.invariant.sorted none) ∙ ap (λ ps. first ps c.args.key.now) c.self.view_is
