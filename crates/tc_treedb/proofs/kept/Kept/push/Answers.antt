use Rattle.std.proofs.Common.{false, true}
use Rattle.std.proofs.lemmas.Result.{IfOk-weaker}
use Rattle.tc_base.specs.Orders.{order}
use Rattle.tc_treedb.specs.Changing.{after, pushed_in}
use Rattle.tc_treedb.specs.declared.kept.Kept.TheVariants.{Decimal, Lexical}
use Rattle.tc_treedb.proofs.Keeping.{fills_kept, grows_kept, makes_kept, ready_tree, refused_kept}
use Rattle.tc_treedb.proofs.kept.Kept.push.Goals as goal

pub push_last-requires : goal.push_last-requires
push_last-requires g c = ready_tree g.S.Space _ _ false Lexical c.lexical_tree.ensures _ _ (rw (c.in-Lexical.is, ← c.lent.ensures.value) at c.requires)

pub returns-in-Lexical-clause-makes : goal.returns-in-Lexical-clause-makes
returns-in-Lexical-clause-makes g c = rw (c.in-Lexical.is, ← c.lent.ensures.value) (IfOk-weaker _ _ _ (λ done takes. makes_kept g.S.Space _ _ false Lexical c.lexical_tree.ensures (λ d. pushed_in (order d) c.args.key.now c.args.value.now) _ _ _ _ _ (rw (c.in-Lexical.is, ← c.lent.ensures.value) at c.requires) c.push_last.ensures.stays.made takes) c.push_last.ensures.takes)

pub returns-in-Lexical-clause-full : goal.returns-in-Lexical-clause-full
returns-in-Lexical-clause-full g c = rw (c.in-Lexical.is, ← c.lent.ensures.value) (λ full. fills_kept g.S.Space _ _ false Lexical c.lexical_tree.ensures (λ d. after (pushed_in (order d) c.args.key.now c.args.value.now)) _ _ _ (c.push_last.ensures.full full))

pub returns-in-Lexical-clause-refused : goal.returns-in-Lexical-clause-refused
returns-in-Lexical-clause-refused g c = rw (c.in-Lexical.is, ← c.lent.ensures.value) (refused_kept g.S.Space _ _ false Lexical c.lexical_tree.ensures c.push_last.result _ _ _ _ c.push_last.ensures.stays.made c.push_last.ensures.refused)

pub push_last-requires-in-Decimal : goal.push_last-requires-in-Decimal
push_last-requires-in-Decimal g c = ready_tree g.S.Space _ _ true Decimal c.decimal_tree.ensures _ _ (rw (c.in-Decimal.is, ← c.lent-in-Decimal.ensures.value) at c.requires)

pub returns-in-Decimal-clause-makes : goal.returns-in-Decimal-clause-makes
returns-in-Decimal-clause-makes g c = rw (c.in-Decimal.is, ← c.lent-in-Decimal.ensures.value) (IfOk-weaker _ _ _ (λ done takes. makes_kept g.S.Space _ _ true Decimal c.decimal_tree.ensures (λ d. pushed_in (order d) c.args.key.now c.args.value.now) _ _ _ _ _ (rw (c.in-Decimal.is, ← c.lent-in-Decimal.ensures.value) at c.requires) c.push_last-in-Decimal.ensures.stays.made takes) c.push_last-in-Decimal.ensures.takes)

pub returns-in-Decimal-clause-full : goal.returns-in-Decimal-clause-full
returns-in-Decimal-clause-full g c = rw (c.in-Decimal.is, ← c.lent-in-Decimal.ensures.value) (λ full. fills_kept g.S.Space _ _ true Decimal c.decimal_tree.ensures (λ d. after (pushed_in (order d) c.args.key.now c.args.value.now)) _ _ _ (c.push_last-in-Decimal.ensures.full full))

pub returns-in-Decimal-clause-refused : goal.returns-in-Decimal-clause-refused
returns-in-Decimal-clause-refused g c = rw (c.in-Decimal.is, ← c.lent-in-Decimal.ensures.value) (refused_kept g.S.Space _ _ true Decimal c.decimal_tree.ensures c.push_last-in-Decimal.result _ _ _ _ c.push_last-in-Decimal.ensures.stays.made c.push_last-in-Decimal.ensures.refused)

pub returns-in-Lexical-clause-stays : goal.returns-in-Lexical-clause-stays
returns-in-Lexical-clause-stays g c = rw (c.in-Lexical.is, ← c.lent.ensures.value) (grows_kept g.S.Space _ _ false Lexical c.lexical_tree.ensures c.push_last.result _ _ _ _ (rw (c.in-Lexical.is, ← c.lent.ensures.value) at c.requires) c.push_last.ensures.stays)

pub returns-in-Decimal-clause-stays : goal.returns-in-Decimal-clause-stays
returns-in-Decimal-clause-stays g c = rw (c.in-Decimal.is, ← c.lent-in-Decimal.ensures.value) (grows_kept g.S.Space _ _ true Decimal c.decimal_tree.ensures c.push_last-in-Decimal.result _ _ _ _ (rw (c.in-Decimal.is, ← c.lent-in-Decimal.ensures.value) at c.requires) c.push_last-in-Decimal.ensures.stays)
