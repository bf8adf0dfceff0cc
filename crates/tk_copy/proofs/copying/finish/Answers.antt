use Rattle.tk_copy.proofs.Spoiled.{gone_lost, gone_not_synced, gone_since}
use Rattle.tk_copy.proofs.copying.finish.Goals as goal

pub returns-in_err-copy_cut-clause-moments : goal.returns-in_err-copy_cut-clause-moments
returns-in_err-copy_cut-clause-moments g c = λ t kept old there spoiled. gone_lost kept old _ there _ spoiled (c.in_err-copy_cut.ensures.lost t)

pub returns-in_err-copy_sync-clause-moments : goal.returns-in_err-copy_sync-clause-moments
returns-in_err-copy_sync-clause-moments g c = λ t kept old there spoiled. gone_not_synced kept old _ there _ _ spoiled (c.in_ok-copy_cut.ensures.made t) (c.in_err-copy_sync.ensures.lost t)

pub returns-clause-moments : goal.returns-clause-moments
returns-clause-moments g c = λ t kept old there spoiled. gone_since kept old _ there _ _ spoiled (c.in_ok-copy_cut.ensures.made t) (c.in_ok-copy_sync.ensures.made t)
