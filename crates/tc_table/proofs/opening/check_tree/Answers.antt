use Rattle.std.proofs.Common.{refl}
use Rattle.tc_table.proofs.Opened.{decimal_told, lexical_told}
use Rattle.tc_table.proofs.Turning.{decimal_stays, lexical_stays}
use Rattle.tc_table.proofs.opening.check_tree.Goals as goal

pub check_entries-requires-clause-tree : goal.check_entries-requires-clause-tree
check_entries-requires-clause-tree g c = rw c.in-Lexical.is at c.requires.tree

pub returns-in-Lexical-clause-exact : goal.returns-in-Lexical-clause-exact
returns-in-Lexical-clause-exact g c = rw c.in-Lexical.is c.check_entries.ensures.exact

pub returns-in-Lexical-clause-reads : goal.returns-in-Lexical-clause-reads
returns-in-Lexical-clause-reads g c = rw c.in-Lexical.is (lexical_told g.R.S.Space g.R.Records g.L.Multi g.D.Multi c.args.rows.now c.check_entries.new.rows _ c.check_entries.new.tree c.args.space.now c.check_entries.new.space c.check_entries.ensures.reads)

pub returns-in-Lexical-clause-stays : goal.returns-in-Lexical-clause-stays
returns-in-Lexical-clause-stays g c = rw c.in-Lexical.is (lexical_stays g.R.S.Space g.L.Multi g.D.Multi _ _ refl c.check_entries.ensures.stays.tree)

pub check_entries-requires-in-Decimal-clause-tree : goal.check_entries-requires-in-Decimal-clause-tree
check_entries-requires-in-Decimal-clause-tree g c = rw c.in-Decimal.is at c.requires.tree

pub returns-in-Decimal-clause-exact : goal.returns-in-Decimal-clause-exact
returns-in-Decimal-clause-exact g c = rw c.in-Decimal.is c.check_entries-in-Decimal.ensures.exact

pub returns-in-Decimal-clause-reads : goal.returns-in-Decimal-clause-reads
returns-in-Decimal-clause-reads g c = rw c.in-Decimal.is (decimal_told g.R.S.Space g.R.Records g.L.Multi g.D.Multi c.args.rows.now c.check_entries-in-Decimal.new.rows _ c.check_entries-in-Decimal.new.tree c.args.space.now c.check_entries-in-Decimal.new.space c.check_entries-in-Decimal.ensures.reads)

pub returns-in-Decimal-clause-stays : goal.returns-in-Decimal-clause-stays
returns-in-Decimal-clause-stays g c = rw c.in-Decimal.is (decimal_stays g.R.S.Space g.L.Multi g.D.Multi _ _ refl c.check_entries-in-Decimal.ensures.stays.tree)
