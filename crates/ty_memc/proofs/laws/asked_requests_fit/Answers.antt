use Rattle.ty_memc.proofs.Asking.{asked_fits}
use Rattle.ty_memc.proofs.laws.asked_requests_fit.Goals as goal

pub returns : goal.returns
returns c = asked_fits
