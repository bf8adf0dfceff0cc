use Rattle.std.proofs.Common.{false, true}
use Rattle.std.proofs.lemmas.Result.{IfOk-weaker}
use Rattle.tc_base.specs.Orders.{order}
use Rattle.std.specs.Prelude.{length, option_map}
use Rattle.tc_base.specs.Lists.{first}
use Rattle.tc_treedb.specs.Changing.{after, taken_in}
use Rattle.tc_treedb.specs.declared.kept.Kept.TheVariants.{Decimal, Lexical}
use Rattle.tc_treedb.proofs.Keeping.{fills_kept, finds_kept, less_kept, makes_kept, ready_tree, refused_kept}
use Rattle.tc_treedb.proofs.kept.Kept.take.Goals as goal

pub take_first-requires : goal.take_first-requires
take_first-requires g c = ready_tree g.S.Space _ _ false Lexical c.lexical_tree.ensures _ _ (rw (c.in-Lexical.is, ← c.lent.ensures.value) at c.requires)

pub returns-in-Lexical-clause-makes : goal.returns-in-Lexical-clause-makes
returns-in-Lexical-clause-makes g c = rw (c.in-Lexical.is, ← c.lent.ensures.value) (IfOk-weaker _ _ _ (λ done takes. makes_kept g.S.Space _ _ false Lexical c.lexical_tree.ensures (λ d. taken_in (order d) c.args.key.now) _ _ _ _ _ (rw (c.in-Lexical.is, ← c.lent.ensures.value) at c.requires) c.take_first.ensures.stays.made takes) c.take_first.ensures.takes)

pub returns-in-Lexical-clause-full : goal.returns-in-Lexical-clause-full
returns-in-Lexical-clause-full g c = rw (c.in-Lexical.is, ← c.lent.ensures.value) (λ full. fills_kept g.S.Space _ _ false Lexical c.lexical_tree.ensures (λ d. after (taken_in (order d) c.args.key.now)) _ _ _ (c.take_first.ensures.full full))

pub returns-in-Lexical-clause-refused : goal.returns-in-Lexical-clause-refused
returns-in-Lexical-clause-refused g c = rw (c.in-Lexical.is, ← c.lent.ensures.value) (refused_kept g.S.Space _ _ false Lexical c.lexical_tree.ensures c.take_first.result _ _ _ _ c.take_first.ensures.stays.made c.take_first.ensures.refused)

pub returns-in-Lexical-clause-len : goal.returns-in-Lexical-clause-len
returns-in-Lexical-clause-len g c = rw (c.in-Lexical.is, ← c.lent.ensures.value) (finds_kept g.S.Space _ _ false Lexical c.lexical_tree.ensures c.take_first.result (λ ps. option_map length (first ps c.args.key.now)) _ _ c.take_first.ensures.len)

pub take_first-requires-in-Decimal : goal.take_first-requires-in-Decimal
take_first-requires-in-Decimal g c = ready_tree g.S.Space _ _ true Decimal c.decimal_tree.ensures _ _ (rw (c.in-Decimal.is, ← c.lent-in-Decimal.ensures.value) at c.requires)

pub returns-in-Decimal-clause-makes : goal.returns-in-Decimal-clause-makes
returns-in-Decimal-clause-makes g c = rw (c.in-Decimal.is, ← c.lent-in-Decimal.ensures.value) (IfOk-weaker _ _ _ (λ done takes. makes_kept g.S.Space _ _ true Decimal c.decimal_tree.ensures (λ d. taken_in (order d) c.args.key.now) _ _ _ _ _ (rw (c.in-Decimal.is, ← c.lent-in-Decimal.ensures.value) at c.requires) c.take_first-in-Decimal.ensures.stays.made takes) c.take_first-in-Decimal.ensures.takes)

pub returns-in-Decimal-clause-full : goal.returns-in-Decimal-clause-full
returns-in-Decimal-clause-full g c = rw (c.in-Decimal.is, ← c.lent-in-Decimal.ensures.value) (λ full. fills_kept g.S.Space _ _ true Decimal c.decimal_tree.ensures (λ d. after (taken_in (order d) c.args.key.now)) _ _ _ (c.take_first-in-Decimal.ensures.full full))

pub returns-in-Decimal-clause-refused : goal.returns-in-Decimal-clause-refused
returns-in-Decimal-clause-refused g c = rw (c.in-Decimal.is, ← c.lent-in-Decimal.ensures.value) (refused_kept g.S.Space _ _ true Decimal c.decimal_tree.ensures c.take_first-in-Decimal.result _ _ _ _ c.take_first-in-Decimal.ensures.stays.made c.take_first-in-Decimal.ensures.refused)

pub returns-in-Decimal-clause-len : goal.returns-in-Decimal-clause-len
returns-in-Decimal-clause-len g c = rw (c.in-Decimal.is, ← c.lent-in-Decimal.ensures.value) (finds_kept g.S.Space _ _ true Decimal c.decimal_tree.ensures c.take_first-in-Decimal.result (λ ps. option_map length (first ps c.args.key.now)) _ _ c.take_first-in-Decimal.ensures.len)

pub returns-in-Lexical-clause-stays : goal.returns-in-Lexical-clause-stays
returns-in-Lexical-clause-stays g c = rw (c.in-Lexical.is, ← c.lent.ensures.value) (less_kept g.S.Space _ _ false Lexical c.lexical_tree.ensures _ _ c.take_first.ensures.stays.made c.take_first.ensures.stays.ids)

pub returns-in-Decimal-clause-stays : goal.returns-in-Decimal-clause-stays
returns-in-Decimal-clause-stays g c = rw (c.in-Decimal.is, ← c.lent-in-Decimal.ensures.value) (less_kept g.S.Space _ _ true Decimal c.decimal_tree.ensures _ _ c.take_first-in-Decimal.ensures.stays.made c.take_first-in-Decimal.ensures.stays.ids)
