use Rattle.std.proofs.lemmas.Result.{on_ok_weaker}
use Rattle.tc_table.proofs.Turning.{decimal_stays, decimal_turns, lexical_stays, lexical_turns}
use Rattle.tc_table.proofs.side.change_tree.Goals as goal

pub change-requires-clause-ready : goal.change-requires-clause-ready
change-requires-clause-ready g c = rw c.in-Lexical.is at c.requires.ready

pub returns-in-Lexical-clause-turns : goal.returns-in-Lexical-clause-turns
returns-in-Lexical-clause-turns g c = rw c.in-Lexical.is (on_ok_weaker _ (λ turns. lexical_turns g.S.Space g.L.Multi g.D.Multi _ _ c.args.key.now c.args.old.now c.args.new.now c.args.space.now c.change.new.space turns) c.change.ensures.turns)

pub returns-in-Lexical-clause-full : goal.returns-in-Lexical-clause-full
returns-in-Lexical-clause-full g c = rw c.in-Lexical.is c.change.ensures.full

pub returns-in-Lexical-clause-stays : goal.returns-in-Lexical-clause-stays
returns-in-Lexical-clause-stays g c = rw c.in-Lexical.is (lexical_stays g.S.Space g.L.Multi g.D.Multi _ _ c.change.ensures.name c.change.ensures.stays)

pub change-requires-in-Decimal-clause-ready : goal.change-requires-in-Decimal-clause-ready
change-requires-in-Decimal-clause-ready g c = rw c.in-Decimal.is at c.requires.ready

pub returns-in-Decimal-clause-turns : goal.returns-in-Decimal-clause-turns
returns-in-Decimal-clause-turns g c = rw c.in-Decimal.is (on_ok_weaker _ (λ turns. decimal_turns g.S.Space g.L.Multi g.D.Multi _ _ c.args.key.now c.args.old.now c.args.new.now c.args.space.now c.change-in-Decimal.new.space turns) c.change-in-Decimal.ensures.turns)

pub returns-in-Decimal-clause-full : goal.returns-in-Decimal-clause-full
returns-in-Decimal-clause-full g c = rw c.in-Decimal.is c.change-in-Decimal.ensures.full

pub returns-in-Decimal-clause-stays : goal.returns-in-Decimal-clause-stays
returns-in-Decimal-clause-stays g c = rw c.in-Decimal.is (decimal_stays g.S.Space g.L.Multi g.D.Multi _ _ c.change-in-Decimal.ensures.name c.change-in-Decimal.ensures.stays)
