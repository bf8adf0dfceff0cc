use Rattle.std.proofs.Common.{refl, ap, subst}
use Rattle.std.specs.Prelude.{unwrap_or}
use Rattle.hf_head.specs.Heads.{IsValid}
use Rattle.tc_tabledb.proofs.informing.read_head.Goals as goal

pub returns-in-Ok-clause-valid : goal.returns-in-Ok-clause-valid
returns-in-Ok-clause-valid g c = λ h is. subst IsValid (ap (λ o. unwrap_or o c.in-Ok.head) is) ((c.in-Ok.ensures.ok c.in-Ok.head).0 refl).0
