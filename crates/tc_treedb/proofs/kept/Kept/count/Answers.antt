use Rattle.std.proofs.Common.{false, true}
use Rattle.tc_treedb.specs.declared.kept.Kept.TheVariants.{Lexical, Decimal}
use Rattle.tc_treedb.proofs.Keeping.{counts_pairs}
use Rattle.tc_treedb.proofs.kept.Kept.count.Goals as goal

pub returns-in-Lexical : goal.returns-in-Lexical
returns-in-Lexical g c = rw (c.in-Lexical.is, ← c.seen.ensures) (counts_pairs g.S.Space _ _ false Lexical c.lexical_tree.ensures _ _ c.count.ensures)

pub returns-in-Decimal : goal.returns-in-Decimal
returns-in-Decimal g c = rw (c.in-Decimal.is, ← c.seen-in-Decimal.ensures) (counts_pairs g.S.Space _ _ true Decimal c.decimal_tree.ensures _ _ c.count-in-Decimal.ensures)
