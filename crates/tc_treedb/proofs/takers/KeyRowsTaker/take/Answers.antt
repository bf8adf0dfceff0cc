use Rattle.std.proofs.Common.{refl, sym, ◌∙◌}
use Rattle.tc_treedb.proofs.Takings.{key_added, key_done, key_skipped}
use Rattle.tc_treedb.proofs.takers.KeyRowsTaker.take.Goals as goal

pub returns-then-is_done-clause-taken : goal.returns-then-is_done-clause-taken
returns-then-is_done-clause-taken c = key_done c.args.item.now.key.now c.args.self.now (c.is_done.ensures.done c.if-is_done.true)

pub returns-then-not-starts_with-clause-taken : goal.returns-then-not-starts_with-clause-taken
returns-then-not-starts_with-clause-taken c = key_skipped c.args.item.now.key.now c.args.self.now (sym c.starts_with.ensures.value ∙ c.if-not-starts_with.true)

pub returns-clause-taken : goal.returns-clause-taken
returns-clause-taken c = key_added c.args.item.now.key.now c.args.self.now _ c.is_done-2.result refl (sym c.starts_with.ensures.value ∙ c.if-not-starts_with.false) (c.is_done.ensures.free c.if-is_done.false) c.in_ok-item.ensures.added c.one_less-self.ensures c.is_done-2.ensures.done
