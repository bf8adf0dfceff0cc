use Rattle.std.proofs.Common.{false, length, true}
use Rattle.std.specs.Prelude.{option_map}
use Rattle.tc_base.specs.Lists.{first}
use Rattle.tc_treedb.specs.declared.kept.Kept.TheVariants.{Decimal, Lexical}
use Rattle.tc_treedb.proofs.Keeping.{finds_kept, looks_kept, ready_tree}
use Rattle.tc_treedb.proofs.kept.Kept.first_len.Goals as goal

pub first_len-requires : goal.first_len-requires
first_len-requires g c = ready_tree g.S.Space _ _ false Lexical c.lexical_tree.ensures _ _ (rw (c.in-Lexical.is, ← c.lent.ensures.value) at c.requires)

pub returns-in-Lexical-clause-value : goal.returns-in-Lexical-clause-value
returns-in-Lexical-clause-value g c = rw (c.in-Lexical.is, ← c.lent.ensures.value) (finds_kept g.S.Space _ _ false Lexical c.lexical_tree.ensures c.first_len.result (λ ps. option_map length (first ps c.args.key.now)) _ _ c.first_len.ensures.value)

pub returns-in-Lexical-clause-looks : goal.returns-in-Lexical-clause-looks
returns-in-Lexical-clause-looks g c = rw (c.in-Lexical.is, ← c.lent.ensures.value) (looks_kept g.S.Space _ _ false Lexical c.lexical_tree.ensures _ _ _ _ c.first_len.ensures.looks)

pub first_len-requires-in-Decimal : goal.first_len-requires-in-Decimal
first_len-requires-in-Decimal g c = ready_tree g.S.Space _ _ true Decimal c.decimal_tree.ensures _ _ (rw (c.in-Decimal.is, ← c.lent-in-Decimal.ensures.value) at c.requires)

pub returns-in-Decimal-clause-value : goal.returns-in-Decimal-clause-value
returns-in-Decimal-clause-value g c = rw (c.in-Decimal.is, ← c.lent-in-Decimal.ensures.value) (finds_kept g.S.Space _ _ true Decimal c.decimal_tree.ensures c.first_len-in-Decimal.result (λ ps. option_map length (first ps c.args.key.now)) _ _ c.first_len-in-Decimal.ensures.value)

pub returns-in-Decimal-clause-looks : goal.returns-in-Decimal-clause-looks
returns-in-Decimal-clause-looks g c = rw (c.in-Decimal.is, ← c.lent-in-Decimal.ensures.value) (looks_kept g.S.Space _ _ true Decimal c.decimal_tree.ensures _ _ _ _ c.first_len-in-Decimal.ensures.looks)
