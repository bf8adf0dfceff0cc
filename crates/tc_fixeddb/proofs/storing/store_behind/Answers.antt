use Rattle.std.proofs.Common.{◌∙◌, rules}
use Rattle.tc_space.specs.Stores.{ready_reads}
use Rattle.tc_fixed.specs.Holding.{Means}
use Rattle.tc_fixeddb.proofs.Stored.{behind_takes, behind_full}
use Rattle.tc_fixeddb.proofs.storing.store_behind.Goals as goal

pub put_cut-requires-clause-ready : goal.put_cut-requires-clause-ready
put_cut-requires-clause-ready g c = ready_reads g.S.Space (Means g.S.Space) _ _ _ _ c.value_at.ensures.reads c.requires.ready

pub returns-clause-takes : goal.returns-clause-takes
returns-clause-takes g c = behind_takes g.S.Space _ _ _ _ _ _ c.args.id c.in_ok-old.old c.as_slice.result.now c.args.value c.value_at.ensures.reads c.value_at.ensures.shape c.in_ok-old.ensures.value (c.as_slice.ensures ∙ c.in_ok-value.ensures) c.in_ok-put_cut.ensures.put c.put_cut.ensures.shape

pub returns-in_err-put_cut-clause-full : goal.returns-in_err-put_cut-clause-full
returns-in_err-put_cut-clause-full g c = λ full. behind_full g.S.Space _ _ _ _ _ c.args.id c.in_ok-old.old c.as_slice.result.now c.args.value c.value_at.ensures.reads c.value_at.ensures.shape c.in_ok-old.ensures.value (c.as_slice.ensures ∙ c.in_ok-value.ensures) (c.in_err-put_cut.ensures.full (search (rules, full))).1
