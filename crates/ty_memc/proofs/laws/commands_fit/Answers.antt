use Rattle.ty_memc.proofs.Asking.{text_fits}
use Rattle.ty_memc.proofs.laws.commands_fit.Goals as goal

pub returns : goal.returns
returns c = text_fits
