use Rattle.std.proofs.Common.{◌∙◌, sym, ap}
use Rattle.std.specs.Prelude.{is_some}
use Rattle.tc_maps.proofs.Mapped.{get_key, one_removed}
use Rattle.tc_memstores.proofs.rows.take.Goals as goal

pub returns-clause-map : goal.returns-clause-map
returns-clause-map c = one_removed c.args.entries.now.entries c.remove.new.self.entries c.args.key.now c.remove.ensures.updates.0

pub returns-clause-held : goal.returns-clause-held
returns-clause-held c = c.is_some.ensures ∙ ap is_some (c.remove.ensures.value ∙ sym (get_key c.args.entries.now.entries c.args.key.now))
