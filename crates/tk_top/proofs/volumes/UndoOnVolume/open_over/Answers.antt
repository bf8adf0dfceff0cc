use Rattle.std.proofs.Common.{refl}
use Rattle.std.proofs.lemmas.Result.{MatchResult-weaker}
use Rattle.tk_top.proofs.Named.{err_of_both, ok_any}
use Rattle.tk_top.proofs.volumes.UndoOnVolume.open_over.Goals as goal

pub returns-clause-moments : goal.returns-clause-moments
returns-clause-moments g c = ok_any c.open.result _ (λ s t. refl)

pub returns-clause-none : goal.returns-clause-none
returns-clause-none g c = err_of_both c.open.result _ _ _ c.open.ensures.cause (λ r back is. absurd (back.no_memory is))

pub returns-clause-cause : goal.returns-clause-cause
returns-clause-cause g c = MatchResult-weaker c.open.result c.open.ensures.cause (λ s later. later) (λ r back. record { bound = back.bound; later = back.later; cause = back.cause })
