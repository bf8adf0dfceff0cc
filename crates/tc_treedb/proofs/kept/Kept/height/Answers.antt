use Rattle.tc_treedb.proofs.kept.Kept.height.Goals as goal

pub returns-in-Lexical : goal.returns-in-Lexical
returns-in-Lexical g c = rw (c.in-Lexical.is, ← c.seen.ensures) c.height.ensures

pub returns-in-Decimal : goal.returns-in-Decimal
returns-in-Decimal g c = rw (c.in-Decimal.is, ← c.seen-in-Decimal.ensures) c.height-in-Decimal.ensures
