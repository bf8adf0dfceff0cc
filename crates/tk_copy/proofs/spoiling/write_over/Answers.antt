use Rattle.std.proofs.Common.{[]}
use Rattle.tk_copy.proofs.Spoiled.{over_lost, over_not_synced, over_synced, over_spoiled}
use Rattle.tk_copy.proofs.spoiling.write_over.Goals as goal

pub returns-in_err-copy_write-clause-copies : goal.returns-in_err-copy_write-clause-copies
returns-in_err-copy_write-clause-copies g c = λ t kept old log. over_lost kept old _ log (c.requires.may t) _ (c.in_err-copy_write.ensures.lost t)

pub returns-in_err-copy_sync-clause-copies : goal.returns-in_err-copy_sync-clause-copies
returns-in_err-copy_sync-clause-copies g c = λ t kept old log. over_not_synced kept old _ log (c.requires.may t) _ _ (c.in_ok-copy_write.ensures.made t) (c.in_err-copy_sync.ensures.lost t)

pub returns-clause-copies : goal.returns-clause-copies
returns-clause-copies g c = λ t kept old log. over_synced kept old _ log (c.requires.may t) _ _ (c.in_ok-copy_write.ensures.made t) (c.in_ok-copy_sync.ensures.made t)

pub returns-clause-spoiled : goal.returns-clause-spoiled
returns-clause-spoiled g c = λ t old log. over_spoiled (λ f. []) old _ log (c.requires.may t) _ _ (c.in_ok-copy_write.ensures.made t) (c.in_ok-copy_sync.ensures.made t)
