use Rattle.std.proofs.Common.{refl}
use Rattle.tc_table.proofs.Asking.{decimal_reads, lexical_reads}
use Rattle.tc_table.proofs.Turning.{decimal_stays, lexical_stays}
use Rattle.tc_table.proofs.planning.tree_keys.Goals as goal

pub lexical_keys-requires : goal.lexical_keys-requires
lexical_keys-requires g c = rw c.in-Lexical.is at c.requires

pub decimal_keys-requires : goal.decimal_keys-requires
decimal_keys-requires g c = rw c.in-Decimal.is at c.requires

pub returns-in-Lexical-clause-named : goal.returns-in-Lexical-clause-named
returns-in-Lexical-clause-named g c = rw c.in-Lexical.is c.lexical_keys.ensures.named

pub returns-in-Lexical-clause-reads : goal.returns-in-Lexical-clause-reads
returns-in-Lexical-clause-reads g c = rw c.in-Lexical.is (lexical_reads g.S.Space g.L.Multi g.D.Multi _ _ c.args.space.now c.lexical_keys.new.space c.lexical_keys.ensures.reads)

pub returns-in-Lexical-clause-stays : goal.returns-in-Lexical-clause-stays
returns-in-Lexical-clause-stays g c = rw c.in-Lexical.is (lexical_stays g.S.Space g.L.Multi g.D.Multi _ _ refl c.lexical_keys.ensures.stays)

pub returns-in-Decimal-clause-named : goal.returns-in-Decimal-clause-named
returns-in-Decimal-clause-named g c = rw c.in-Decimal.is c.decimal_keys.ensures.named

pub returns-in-Decimal-clause-reads : goal.returns-in-Decimal-clause-reads
returns-in-Decimal-clause-reads g c = rw c.in-Decimal.is (decimal_reads g.S.Space g.L.Multi g.D.Multi _ _ c.args.space.now c.decimal_keys.new.space c.decimal_keys.ensures.reads)

pub returns-in-Decimal-clause-stays : goal.returns-in-Decimal-clause-stays
returns-in-Decimal-clause-stays g c = rw c.in-Decimal.is (decimal_stays g.S.Space g.L.Multi g.D.Multi _ _ refl c.decimal_keys.ensures.stays)
