use Rattle.std.proofs.Common.{[], refl}
use Rattle.bt_page.proofs.Runs.{err_handed, on_err_any}
use Rattle.tc_engine.specs.Changes.{all_gone}
use Rattle.tc_treedb.specs.Lifting.{ready_down, refuses_up}
use Rattle.tc_treedb.proofs.Asked.{full_all, is_emptied, makes_emptied}
use Rattle.tc_treedb.proofs.engine.TreeEngineEngine.clear.Goals as goal

pub clear-requires : goal.clear-requires
clear-requires g c = ready_down g.S.Space c.args.self.now c.args.space.now c.requires

pub returns-in_err-clear-clause-refused : goal.returns-in_err-clear-clause-refused
returns-in_err-clear-clause-refused g c = on_err_any _ (refuses_up g.S.Space _ _ _ _ c.in_err-clear.ensures.refused refl)

pub returns-in_err-clear-clause-full : goal.returns-in_err-clear-clause-full
returns-in_err-clear-clause-full g c = λ full. full_all g.S.Space all_gone (λ m. []) _ _ _ is_emptied (c.in_err-clear.ensures.full (err_handed c.from_residual.result c.in_err-clear.field-0.0 _ c.from_residual.ensures.1 full))

pub returns-clause-makes : goal.returns-clause-makes
returns-clause-makes g c = makes_emptied g.S.Space c.args.self.now _ _ _ refl c.clear.ensures.stays.head c.in_ok-clear.ensures.made
