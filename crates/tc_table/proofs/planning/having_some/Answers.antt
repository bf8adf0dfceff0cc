use Rattle.std.proofs.Common.{◌∙◌, ap}
use Rattle.tc_model.specs.Texts.{distinct}
use Rattle.tc_table.specs.Parts.{parts_of}
use Rattle.tc_table.proofs.Naming.{asked_some}
use Rattle.tc_table.proofs.planning.having_some.Goals as goal

pub returns-clause-named : goal.returns-clause-named
returns-clause-named g c = λ kind name rows are st. asked_some (parts_of kind name rows) c.args.wanted.now c.in_ok-found.found c.in_ok-keys.keys (c.in_ok-found.ensures.named kind name rows are st) (c.in_ok-keys.ensures ∙ ap distinct c.as_slice.ensures)
