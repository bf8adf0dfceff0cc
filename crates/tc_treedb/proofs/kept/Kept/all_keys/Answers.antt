use Rattle.std.proofs.Common.{false, true}
use Rattle.tc_base.specs.Lists.{keys}
use Rattle.tc_treedb.specs.declared.kept.Kept.TheVariants.{Decimal, Lexical}
use Rattle.tc_treedb.proofs.Keeping.{finds_kept, looks_kept, ready_tree}
use Rattle.tc_treedb.proofs.kept.Kept.all_keys.Goals as goal

pub all_keys-requires : goal.all_keys-requires
all_keys-requires g c = ready_tree g.S.Space _ _ false Lexical c.lexical_tree.ensures _ _ (rw (c.in-Lexical.is, ← c.lent.ensures.value) at c.requires)

pub returns-in-Lexical-clause-value : goal.returns-in-Lexical-clause-value
returns-in-Lexical-clause-value g c = rw (c.in-Lexical.is, ← c.lent.ensures.value) (finds_kept g.S.Space _ _ false Lexical c.lexical_tree.ensures c.all_keys.result keys _ _ c.all_keys.ensures.value)

pub returns-in-Lexical-clause-looks : goal.returns-in-Lexical-clause-looks
returns-in-Lexical-clause-looks g c = rw (c.in-Lexical.is, ← c.lent.ensures.value) (looks_kept g.S.Space _ _ false Lexical c.lexical_tree.ensures _ _ _ _ c.all_keys.ensures.looks)

pub all_keys-requires-in-Decimal : goal.all_keys-requires-in-Decimal
all_keys-requires-in-Decimal g c = ready_tree g.S.Space _ _ true Decimal c.decimal_tree.ensures _ _ (rw (c.in-Decimal.is, ← c.lent-in-Decimal.ensures.value) at c.requires)

pub returns-in-Decimal-clause-value : goal.returns-in-Decimal-clause-value
returns-in-Decimal-clause-value g c = rw (c.in-Decimal.is, ← c.lent-in-Decimal.ensures.value) (finds_kept g.S.Space _ _ true Decimal c.decimal_tree.ensures c.all_keys-in-Decimal.result keys _ _ c.all_keys-in-Decimal.ensures.value)

pub returns-in-Decimal-clause-looks : goal.returns-in-Decimal-clause-looks
returns-in-Decimal-clause-looks g c = rw (c.in-Decimal.is, ← c.lent-in-Decimal.ensures.value) (looks_kept g.S.Space _ _ true Decimal c.decimal_tree.ensures _ _ _ _ c.all_keys-in-Decimal.ensures.looks)
