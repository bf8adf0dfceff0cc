use Rattle.std.proofs.Common.{◌∙◌, rules, sym}
use Rattle.tc_space.specs.Stores.{ready_reads}
use Rattle.tc_fixed.specs.Holding.{Means}
use Rattle.tc_fixeddb.proofs.Stored.{new_full, new_takes, none_of}
use Rattle.tc_fixeddb.proofs.storing.store_new.Goals as goal

pub put_cut-requires-clause-ready : goal.put_cut-requires-clause-ready
put_cut-requires-clause-ready g c = ready_reads g.S.Space (Means g.S.Space) _ _ _ _ c.value_len.ensures.reads c.requires.ready

pub returns-clause-takes : goal.returns-clause-takes
returns-clause-takes g c = new_takes g.S.Space _ _ _ _ _ _ c.args.id c.args.value.now c.value_len.ensures.reads c.value_len.ensures.shape (λ m means. sym (none_of _ (sym c.if-is_some.ensures)) ∙ c.in_ok-value_len.ensures.value m means) c.in_ok-put_cut.ensures.put c.put_cut.ensures.shape

pub returns-in_err-put_cut-clause-full : goal.returns-in_err-put_cut-clause-full
returns-in_err-put_cut-clause-full g c = λ full. new_full g.S.Space _ _ _ _ _ c.args.id c.args.value.now c.value_len.ensures.reads c.value_len.ensures.shape (λ m means. sym (none_of _ (sym c.if-is_some.ensures)) ∙ c.in_ok-value_len.ensures.value m means) (c.in_err-put_cut.ensures.full (search (rules, full))).1
