use Rattle.std.proofs.Common.{◌∙◌, sym, ap, length, Some}
use Rattle.std.specs.Prelude.{option_map}
use Rattle.tc_maps.proofs.Mapped.{get_key, one_removed}
use Rattle.tc_maps.proofs.bytemap.take.Goals as goal

pub returns-in-Some-clause-map : goal.returns-in-Some-clause-map
returns-in-Some-clause-map c = one_removed c.args.entries.now.entries c.remove.new.self.entries c.args.key.now c.remove.ensures.updates.0

pub returns-in-Some-clause-taken : goal.returns-in-Some-clause-taken
returns-in-Some-clause-taken c = ap (λ n. Some n) c.len.ensures ∙ ap (λ o. option_map length o) (sym c.in-Some.is ∙ c.remove.ensures.value ∙ sym (get_key c.args.entries.now.entries c.args.key.now))

pub returns-in-None-clause-map : goal.returns-in-None-clause-map
returns-in-None-clause-map c = one_removed c.args.entries.now.entries c.remove.new.self.entries c.args.key.now c.remove.ensures.updates.0

pub returns-in-None-clause-taken : goal.returns-in-None-clause-taken
returns-in-None-clause-taken c = ap (λ o. option_map length o) (sym c.in-None.is ∙ c.remove.ensures.value ∙ sym (get_key c.args.entries.now.entries c.args.key.now))
