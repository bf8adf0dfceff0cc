use Rattle.std.proofs.Common.{◌∙◌, sym, ap, length, Some}
use Rattle.std.specs.Prelude.{option_map}
use Rattle.tc_maps.proofs.Mapped.{get_key, one_set}
use Rattle.tc_maps.proofs.bytemap.put.Goals as goal

pub returns-in-Some-clause-ok : goal.returns-in-Some-clause-ok
returns-in-Some-clause-ok c = one_set c.args.entries.now.entries c.insert.new.self.entries c.args.key c.args.value c.in_ok-old.ensures.updates.0

pub returns-in-Some-clause-replaced : goal.returns-in-Some-clause-replaced
returns-in-Some-clause-replaced c = ap (λ n. Some n) c.len.ensures ∙ ap (λ o. option_map length o) (sym c.in-Some.is ∙ c.in_ok-old.ensures.old ∙ sym (get_key c.args.entries.now.entries c.args.key))

pub returns-in-None-clause-ok : goal.returns-in-None-clause-ok
returns-in-None-clause-ok c = one_set c.args.entries.now.entries c.insert.new.self.entries c.args.key c.args.value c.in_ok-old.ensures.updates.0

pub returns-in-None-clause-replaced : goal.returns-in-None-clause-replaced
returns-in-None-clause-replaced c = ap (λ o. option_map length o) (sym c.in-None.is ∙ c.in_ok-old.ensures.old ∙ sym (get_key c.args.entries.now.entries c.args.key))
