use Rattle.std.proofs.Common.{Err, sym, ap, ◌∙◌}
use Rattle.tc_base.specs.declared.fields.NotWhole.TheVariants.{Part, Bad}
use Rattle.ty_memc.specs.Reading.{data_at}
use Rattle.ty_memc.proofs.Fronts.{value_whole, value_less}
use Rattle.ty_memc.proofs.looking.value_front.Goals as goal

pub returns-in-Ok : goal.returns-in-Ok
returns-in-Ok c = value_whole c.args.value c.args.bytes.now _ _ c.requires (ap (data_at c.args.value.size) (sym c.behind.ensures) ∙ c.in-Ok.ensures)

pub returns-in-Err-Part : goal.returns-in-Err-Part
returns-in-Err-Part c = value_less c.args.value c.args.bytes.now Part c.requires (ap (data_at c.args.value.size) (sym c.behind.ensures) ∙ c.in-Err-Part.ensures ∙ ap Err c.in-Err-Part.field-0-is)

pub returns-in-Err-Bad : goal.returns-in-Err-Bad
returns-in-Err-Bad c = value_less c.args.value c.args.bytes.now Bad c.requires (ap (data_at c.args.value.size) (sym c.behind.ensures) ∙ c.in-Err-Bad.ensures ∙ ap Err c.in-Err-Bad.field-0-is)
