use Rattle.std.proofs.Common.{[], false, true}
use Rattle.tc_hash.proofs.Stored.{from_done}
use Rattle.tc_treedb.specs.declared.kept.Kept.TheVariants.{Decimal, Lexical}
use Rattle.tc_treedb.proofs.Keeping.{cleared_kept, less_kept, ready_tree, refused_kept, writes_kept}
use Rattle.tc_treedb.proofs.kept.Kept.clear.Goals as goal

pub clear_all-requires : goal.clear_all-requires
clear_all-requires g c = ready_tree g.S.Space _ _ false Lexical c.lexical_tree.ensures _ _ (rw (c.in-Lexical.is, ← c.lent.ensures.value) at c.requires)

pub returns-in-Lexical-clause-made : goal.returns-in-Lexical-clause-made
returns-in-Lexical-clause-made g c = rw (c.in-Lexical.is, ← c.lent.ensures.value) (from_done c.clear_all.result c.clear_all.ensures.cleared (λ made. writes_kept g.S.Space _ _ false Lexical c.lexical_tree.ensures (λ d ps. []) _ _ _ _ (rw (c.in-Lexical.is, ← c.lent.ensures.value) at c.requires) c.clear_all.ensures.stays made))

pub returns-in-Lexical-clause-full : goal.returns-in-Lexical-clause-full
returns-in-Lexical-clause-full g c = rw (c.in-Lexical.is, ← c.lent.ensures.value) (λ full. cleared_kept g.S.Space _ _ false Lexical c.lexical_tree.ensures _ _ _ (c.clear_all.ensures.full full))

pub returns-in-Lexical-clause-refused : goal.returns-in-Lexical-clause-refused
returns-in-Lexical-clause-refused g c = rw (c.in-Lexical.is, ← c.lent.ensures.value) (refused_kept g.S.Space _ _ false Lexical c.lexical_tree.ensures c.clear_all.result _ _ _ _ c.clear_all.ensures.stays c.clear_all.ensures.refused)

pub returns-in-Lexical-clause-stays : goal.returns-in-Lexical-clause-stays
returns-in-Lexical-clause-stays g c = rw (c.in-Lexical.is, ← c.lent.ensures.value) (less_kept g.S.Space _ _ false Lexical c.lexical_tree.ensures _ _ c.clear_all.ensures.stays c.clear_all.ensures.ids)

pub clear_all-requires-in-Decimal : goal.clear_all-requires-in-Decimal
clear_all-requires-in-Decimal g c = ready_tree g.S.Space _ _ true Decimal c.decimal_tree.ensures _ _ (rw (c.in-Decimal.is, ← c.lent-in-Decimal.ensures.value) at c.requires)

pub returns-in-Decimal-clause-made : goal.returns-in-Decimal-clause-made
returns-in-Decimal-clause-made g c = rw (c.in-Decimal.is, ← c.lent-in-Decimal.ensures.value) (from_done c.clear_all-in-Decimal.result c.clear_all-in-Decimal.ensures.cleared (λ made. writes_kept g.S.Space _ _ true Decimal c.decimal_tree.ensures (λ d ps. []) _ _ _ _ (rw (c.in-Decimal.is, ← c.lent-in-Decimal.ensures.value) at c.requires) c.clear_all-in-Decimal.ensures.stays made))

pub returns-in-Decimal-clause-full : goal.returns-in-Decimal-clause-full
returns-in-Decimal-clause-full g c = rw (c.in-Decimal.is, ← c.lent-in-Decimal.ensures.value) (λ full. cleared_kept g.S.Space _ _ true Decimal c.decimal_tree.ensures _ _ _ (c.clear_all-in-Decimal.ensures.full full))

pub returns-in-Decimal-clause-refused : goal.returns-in-Decimal-clause-refused
returns-in-Decimal-clause-refused g c = rw (c.in-Decimal.is, ← c.lent-in-Decimal.ensures.value) (refused_kept g.S.Space _ _ true Decimal c.decimal_tree.ensures c.clear_all-in-Decimal.result _ _ _ _ c.clear_all-in-Decimal.ensures.stays c.clear_all-in-Decimal.ensures.refused)

pub returns-in-Decimal-clause-stays : goal.returns-in-Decimal-clause-stays
returns-in-Decimal-clause-stays g c = rw (c.in-Decimal.is, ← c.lent-in-Decimal.ensures.value) (less_kept g.S.Space _ _ true Decimal c.decimal_tree.ensures _ _ c.clear_all-in-Decimal.ensures.stays c.clear_all-in-Decimal.ensures.ids)
