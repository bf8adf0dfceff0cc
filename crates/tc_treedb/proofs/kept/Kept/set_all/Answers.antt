use Rattle.std.proofs.Common.{false, true}
use Rattle.std.proofs.lemmas.Result.{IfOk-weaker}
use Rattle.tc_base.specs.Orders.{order}
use Rattle.tc_hash.proofs.Stored.{from_done}
use Rattle.tc_treedb.specs.Changing.{each_set}
use Rattle.tc_treedb.specs.declared.kept.Kept.TheVariants.{Decimal, Lexical}
use Rattle.tc_treedb.proofs.Keeping.{counts_kept, keeps_head, ready_tree, writes_kept}
use Rattle.tc_treedb.proofs.kept.Kept.set_all.Goals as goal

pub set_all-requires : goal.set_all-requires
set_all-requires g c = ready_tree g.S.Space _ _ false Lexical c.lexical_tree.ensures _ _ (rw (c.in-Lexical.is, ← c.lent.ensures.value) at c.requires)

pub returns-in-Lexical-clause-made : goal.returns-in-Lexical-clause-made
returns-in-Lexical-clause-made g c = rw (c.in-Lexical.is, ← c.lent.ensures.value) (from_done c.set_all.result c.set_all.ensures.set (λ made. writes_kept g.S.Space _ _ false Lexical c.lexical_tree.ensures (λ d. each_set (order d) c.args.pairs.now) _ _ _ _ (rw (c.in-Lexical.is, ← c.lent.ensures.value) at c.requires) c.set_all.ensures.stays made))

pub returns-in-Lexical-clause-counted : goal.returns-in-Lexical-clause-counted
returns-in-Lexical-clause-counted g c = rw (c.in-Lexical.is, ← c.lent.ensures.value) (IfOk-weaker _ _ _ (λ now counted. counts_kept g.S.Space _ _ false Lexical c.lexical_tree.ensures (λ d. each_set (order d) c.args.pairs.now) c.args.total _ _ now counted) c.set_all.ensures.counted)

pub returns-in-Lexical-clause-numbers : goal.returns-in-Lexical-clause-numbers
returns-in-Lexical-clause-numbers g c = rw (c.in-Lexical.is, ← c.lent.ensures.value) (keeps_head g.S.Space _ _ false Lexical c.lexical_tree.ensures _ _ c.set_all.ensures.stays)

pub set_all-requires-in-Decimal : goal.set_all-requires-in-Decimal
set_all-requires-in-Decimal g c = ready_tree g.S.Space _ _ true Decimal c.decimal_tree.ensures _ _ (rw (c.in-Decimal.is, ← c.lent-in-Decimal.ensures.value) at c.requires)

pub returns-in-Decimal-clause-made : goal.returns-in-Decimal-clause-made
returns-in-Decimal-clause-made g c = rw (c.in-Decimal.is, ← c.lent-in-Decimal.ensures.value) (from_done c.set_all-in-Decimal.result c.set_all-in-Decimal.ensures.set (λ made. writes_kept g.S.Space _ _ true Decimal c.decimal_tree.ensures (λ d. each_set (order d) c.args.pairs.now) _ _ _ _ (rw (c.in-Decimal.is, ← c.lent-in-Decimal.ensures.value) at c.requires) c.set_all-in-Decimal.ensures.stays made))

pub returns-in-Decimal-clause-counted : goal.returns-in-Decimal-clause-counted
returns-in-Decimal-clause-counted g c = rw (c.in-Decimal.is, ← c.lent-in-Decimal.ensures.value) (IfOk-weaker _ _ _ (λ now counted. counts_kept g.S.Space _ _ true Decimal c.decimal_tree.ensures (λ d. each_set (order d) c.args.pairs.now) c.args.total _ _ now counted) c.set_all-in-Decimal.ensures.counted)

pub returns-in-Decimal-clause-numbers : goal.returns-in-Decimal-clause-numbers
returns-in-Decimal-clause-numbers g c = rw (c.in-Decimal.is, ← c.lent-in-Decimal.ensures.value) (keeps_head g.S.Space _ _ true Decimal c.decimal_tree.ensures _ _ c.set_all-in-Decimal.ensures.stays)
