use Rattle.std.proofs.Common.{refl}
use Rattle.std.proofs.lemmas.Result.{on_ok_weaker}
use Rattle.tc_table.proofs.Cleared.{decimal_clears, lexical_clears}
use Rattle.tc_table.proofs.Turning.{decimal_stays, lexical_stays}
use Rattle.tc_table.proofs.clearing.clear_tree.Goals as goal

pub clear-requires : goal.clear-requires
clear-requires g c = rw c.in-Lexical.is at c.requires

pub returns-in-Lexical-clause-clears : goal.returns-in-Lexical-clause-clears
returns-in-Lexical-clause-clears g c = rw c.in-Lexical.is (on_ok_weaker c.clear.result (λ made. lexical_clears g.S.Space g.L.Multi g.D.Multi c.in-Lexical.index c.clear.new.self c.args.space.now c.clear.new.space made) c.clear.ensures.cleared)

pub returns-in-Lexical-clause-full : goal.returns-in-Lexical-clause-full
returns-in-Lexical-clause-full g c = rw c.in-Lexical.is c.clear.ensures.full

pub returns-in-Lexical-clause-stays : goal.returns-in-Lexical-clause-stays
returns-in-Lexical-clause-stays g c = rw c.in-Lexical.is (lexical_stays g.S.Space g.L.Multi g.D.Multi _ _ refl c.clear.ensures.stays)

pub clear-requires-in-Decimal : goal.clear-requires-in-Decimal
clear-requires-in-Decimal g c = rw c.in-Decimal.is at c.requires

pub returns-in-Decimal-clause-clears : goal.returns-in-Decimal-clause-clears
returns-in-Decimal-clause-clears g c = rw c.in-Decimal.is (on_ok_weaker c.clear-in-Decimal.result (λ made. decimal_clears g.S.Space g.L.Multi g.D.Multi c.in-Decimal.index c.clear-in-Decimal.new.self c.args.space.now c.clear-in-Decimal.new.space made) c.clear-in-Decimal.ensures.cleared)

pub returns-in-Decimal-clause-full : goal.returns-in-Decimal-clause-full
returns-in-Decimal-clause-full g c = rw c.in-Decimal.is c.clear-in-Decimal.ensures.full

pub returns-in-Decimal-clause-stays : goal.returns-in-Decimal-clause-stays
returns-in-Decimal-clause-stays g c = rw c.in-Decimal.is (decimal_stays g.S.Space g.L.Multi g.D.Multi _ _ refl c.clear-in-Decimal.ensures.stays)
