use Rattle.std.proofs.Common.{false, true}
use Rattle.std.proofs.lemmas.Result.{IfOk-weaker}
use Rattle.tc_base.specs.Orders.{order}
use Rattle.tc_hash.proofs.Stored.{from_done}
use Rattle.tc_treedb.specs.Changing.{each_pushed}
use Rattle.tc_treedb.specs.declared.kept.Kept.TheVariants.{Decimal, Lexical}
use Rattle.tc_treedb.proofs.Keeping.{counts_kept, fills_kept, keeps_head, ready_tree, writes_kept}
use Rattle.tc_treedb.proofs.kept.Kept.push_all.Goals as goal

pub push_all-requires : goal.push_all-requires
push_all-requires g c = ready_tree g.S.Space _ _ false Lexical c.lexical_tree.ensures _ _ (rw (c.in-Lexical.is, ← c.lent.ensures.value) at c.requires)

pub returns-in-Lexical-clause-made : goal.returns-in-Lexical-clause-made
returns-in-Lexical-clause-made g c = rw (c.in-Lexical.is, ← c.lent.ensures.value) (from_done c.push_all.result c.push_all.ensures.pushed (λ made. writes_kept g.S.Space _ _ false Lexical c.lexical_tree.ensures (λ d. each_pushed (order d) c.args.pairs.now) _ _ _ _ (rw (c.in-Lexical.is, ← c.lent.ensures.value) at c.requires) c.push_all.ensures.stays made))

pub returns-in-Lexical-clause-counted : goal.returns-in-Lexical-clause-counted
returns-in-Lexical-clause-counted g c = rw (c.in-Lexical.is, ← c.lent.ensures.value) (IfOk-weaker _ _ _ (λ now counted. counts_kept g.S.Space _ _ false Lexical c.lexical_tree.ensures (λ d. each_pushed (order d) c.args.pairs.now) c.args.total _ _ now counted) c.push_all.ensures.counted)

pub returns-in-Lexical-clause-numbers : goal.returns-in-Lexical-clause-numbers
returns-in-Lexical-clause-numbers g c = rw (c.in-Lexical.is, ← c.lent.ensures.value) (keeps_head g.S.Space _ _ false Lexical c.lexical_tree.ensures _ _ c.push_all.ensures.stays)

pub returns-in-Lexical-clause-full : goal.returns-in-Lexical-clause-full
returns-in-Lexical-clause-full g c = rw (c.in-Lexical.is, ← c.lent.ensures.value) (λ full. fills_kept g.S.Space _ _ false Lexical c.lexical_tree.ensures (λ d. each_pushed (order d) c.args.pairs.now) _ _ _ (c.push_all.ensures.full full))

pub push_all-requires-in-Decimal : goal.push_all-requires-in-Decimal
push_all-requires-in-Decimal g c = ready_tree g.S.Space _ _ true Decimal c.decimal_tree.ensures _ _ (rw (c.in-Decimal.is, ← c.lent-in-Decimal.ensures.value) at c.requires)

pub returns-in-Decimal-clause-made : goal.returns-in-Decimal-clause-made
returns-in-Decimal-clause-made g c = rw (c.in-Decimal.is, ← c.lent-in-Decimal.ensures.value) (from_done c.push_all-in-Decimal.result c.push_all-in-Decimal.ensures.pushed (λ made. writes_kept g.S.Space _ _ true Decimal c.decimal_tree.ensures (λ d. each_pushed (order d) c.args.pairs.now) _ _ _ _ (rw (c.in-Decimal.is, ← c.lent-in-Decimal.ensures.value) at c.requires) c.push_all-in-Decimal.ensures.stays made))

pub returns-in-Decimal-clause-counted : goal.returns-in-Decimal-clause-counted
returns-in-Decimal-clause-counted g c = rw (c.in-Decimal.is, ← c.lent-in-Decimal.ensures.value) (IfOk-weaker _ _ _ (λ now counted. counts_kept g.S.Space _ _ true Decimal c.decimal_tree.ensures (λ d. each_pushed (order d) c.args.pairs.now) c.args.total _ _ now counted) c.push_all-in-Decimal.ensures.counted)

pub returns-in-Decimal-clause-numbers : goal.returns-in-Decimal-clause-numbers
returns-in-Decimal-clause-numbers g c = rw (c.in-Decimal.is, ← c.lent-in-Decimal.ensures.value) (keeps_head g.S.Space _ _ true Decimal c.decimal_tree.ensures _ _ c.push_all-in-Decimal.ensures.stays)

pub returns-in-Decimal-clause-full : goal.returns-in-Decimal-clause-full
returns-in-Decimal-clause-full g c = rw (c.in-Decimal.is, ← c.lent-in-Decimal.ensures.value) (λ full. fills_kept g.S.Space _ _ true Decimal c.decimal_tree.ensures (λ d. each_pushed (order d) c.args.pairs.now) _ _ _ (c.push_all-in-Decimal.ensures.full full))
