use Rattle.std.proofs.Common.{false, true}
use Rattle.std.proofs.lemmas.Result.{IfOk-weaker}
use Rattle.tc_base.specs.Orders.{order}
use Rattle.tc_hash.proofs.Stored.{from_done}
use Rattle.tc_treedb.specs.Changing.{each_cleared}
use Rattle.tc_treedb.specs.declared.kept.Kept.TheVariants.{Decimal, Lexical}
use Rattle.tc_treedb.proofs.Keeping.{counts_kept, fills_kept, less_kept, ready_tree, writes_kept}
use Rattle.tc_treedb.proofs.kept.Kept.clear_each.Goals as goal

pub clear_each-requires : goal.clear_each-requires
clear_each-requires g c = ready_tree g.S.Space _ _ false Lexical c.lexical_tree.ensures _ _ (rw (c.in-Lexical.is, ← c.lent.ensures.value) at c.requires)

pub returns-in-Lexical-clause-made : goal.returns-in-Lexical-clause-made
returns-in-Lexical-clause-made g c = rw (c.in-Lexical.is, ← c.lent.ensures.value) (from_done c.clear_each.result c.clear_each.ensures.cleared (λ made. writes_kept g.S.Space _ _ false Lexical c.lexical_tree.ensures (λ d. each_cleared (order d) c.args.keys.now) _ _ _ _ (rw (c.in-Lexical.is, ← c.lent.ensures.value) at c.requires) c.clear_each.ensures.stays.made made))

pub returns-in-Lexical-clause-counted : goal.returns-in-Lexical-clause-counted
returns-in-Lexical-clause-counted g c = rw (c.in-Lexical.is, ← c.lent.ensures.value) (IfOk-weaker _ _ _ (λ now counted. counts_kept g.S.Space _ _ false Lexical c.lexical_tree.ensures (λ d. each_cleared (order d) c.args.keys.now) c.args.total _ _ now counted) c.clear_each.ensures.counted)

pub returns-in-Lexical-clause-stays : goal.returns-in-Lexical-clause-stays
returns-in-Lexical-clause-stays g c = rw (c.in-Lexical.is, ← c.lent.ensures.value) (less_kept g.S.Space _ _ false Lexical c.lexical_tree.ensures _ _ c.clear_each.ensures.stays.made c.clear_each.ensures.stays.ids)

pub returns-in-Lexical-clause-full : goal.returns-in-Lexical-clause-full
returns-in-Lexical-clause-full g c = rw (c.in-Lexical.is, ← c.lent.ensures.value) (λ full. fills_kept g.S.Space _ _ false Lexical c.lexical_tree.ensures (λ d. each_cleared (order d) c.args.keys.now) _ _ _ (c.clear_each.ensures.full full))

pub clear_each-requires-in-Decimal : goal.clear_each-requires-in-Decimal
clear_each-requires-in-Decimal g c = ready_tree g.S.Space _ _ true Decimal c.decimal_tree.ensures _ _ (rw (c.in-Decimal.is, ← c.lent-in-Decimal.ensures.value) at c.requires)

pub returns-in-Decimal-clause-made : goal.returns-in-Decimal-clause-made
returns-in-Decimal-clause-made g c = rw (c.in-Decimal.is, ← c.lent-in-Decimal.ensures.value) (from_done c.clear_each-in-Decimal.result c.clear_each-in-Decimal.ensures.cleared (λ made. writes_kept g.S.Space _ _ true Decimal c.decimal_tree.ensures (λ d. each_cleared (order d) c.args.keys.now) _ _ _ _ (rw (c.in-Decimal.is, ← c.lent-in-Decimal.ensures.value) at c.requires) c.clear_each-in-Decimal.ensures.stays.made made))

pub returns-in-Decimal-clause-counted : goal.returns-in-Decimal-clause-counted
returns-in-Decimal-clause-counted g c = rw (c.in-Decimal.is, ← c.lent-in-Decimal.ensures.value) (IfOk-weaker _ _ _ (λ now counted. counts_kept g.S.Space _ _ true Decimal c.decimal_tree.ensures (λ d. each_cleared (order d) c.args.keys.now) c.args.total _ _ now counted) c.clear_each-in-Decimal.ensures.counted)

pub returns-in-Decimal-clause-stays : goal.returns-in-Decimal-clause-stays
returns-in-Decimal-clause-stays g c = rw (c.in-Decimal.is, ← c.lent-in-Decimal.ensures.value) (less_kept g.S.Space _ _ true Decimal c.decimal_tree.ensures _ _ c.clear_each-in-Decimal.ensures.stays.made c.clear_each-in-Decimal.ensures.stays.ids)

pub returns-in-Decimal-clause-full : goal.returns-in-Decimal-clause-full
returns-in-Decimal-clause-full g c = rw (c.in-Decimal.is, ← c.lent-in-Decimal.ensures.value) (λ full. fills_kept g.S.Space _ _ true Decimal c.decimal_tree.ensures (λ d. each_cleared (order d) c.args.keys.now) _ _ _ (c.clear_each-in-Decimal.ensures.full full))
