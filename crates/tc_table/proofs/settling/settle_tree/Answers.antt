use Rattle.std.proofs.lemmas.Result.{on_ok_weaker}
use Rattle.std.proofs.Common.{refl}
use Rattle.tc_table.proofs.Packed.{decimal_packs, lexical_packs}
use Rattle.tc_table.proofs.Settled.{both_done, decimal_brings, decimal_kept, lexical_brings, lexical_kept}
use Rattle.tc_table.proofs.Turning.{decimal_stays, lexical_stays}
use Rattle.tc_table.proofs.settling.settle_tree.Goals as goal

pub settle-requires : goal.settle-requires
settle-requires g c = rw c.in-Lexical.is at c.requires

pub returns-in-Lexical-clause-kept : goal.returns-in-Lexical-clause-kept
returns-in-Lexical-clause-kept g c = rw c.in-Lexical.is (on_ok_weaker c.settle.result (λ made. lexical_kept g.S.Space g.L.Multi g.D.Multi c.in-Lexical.index c.settle.new.self c.args.space.now c.settle.new.space made) c.settle.ensures.settled)

pub returns-in-Lexical-clause-brings : goal.returns-in-Lexical-clause-brings
returns-in-Lexical-clause-brings g c = rw c.in-Lexical.is (both_done c.settle.result c.settle.ensures.stands c.settle.ensures.trims (λ brings trims. lexical_brings g.S.Space g.L.Multi g.D.Multi c.in-Lexical.index c.args.space.now c.settle.new.space brings trims))

pub returns-in-Lexical-clause-stays : goal.returns-in-Lexical-clause-stays
returns-in-Lexical-clause-stays g c = rw c.in-Lexical.is (lexical_stays g.S.Space g.L.Multi g.D.Multi _ _ refl c.settle.ensures.stays)

pub settle-requires-in-Decimal : goal.settle-requires-in-Decimal
settle-requires-in-Decimal g c = rw c.in-Decimal.is at c.requires

pub returns-in-Decimal-clause-kept : goal.returns-in-Decimal-clause-kept
returns-in-Decimal-clause-kept g c = rw c.in-Decimal.is (on_ok_weaker c.settle-in-Decimal.result (λ made. decimal_kept g.S.Space g.L.Multi g.D.Multi c.in-Decimal.index c.settle-in-Decimal.new.self c.args.space.now c.settle-in-Decimal.new.space made) c.settle-in-Decimal.ensures.settled)

pub returns-in-Decimal-clause-brings : goal.returns-in-Decimal-clause-brings
returns-in-Decimal-clause-brings g c = rw c.in-Decimal.is (both_done c.settle-in-Decimal.result c.settle-in-Decimal.ensures.stands c.settle-in-Decimal.ensures.trims (λ brings trims. decimal_brings g.S.Space g.L.Multi g.D.Multi c.in-Decimal.index c.args.space.now c.settle-in-Decimal.new.space brings trims))

pub returns-in-Decimal-clause-stays : goal.returns-in-Decimal-clause-stays
returns-in-Decimal-clause-stays g c = rw c.in-Decimal.is (decimal_stays g.S.Space g.L.Multi g.D.Multi _ _ refl c.settle-in-Decimal.ensures.stays)

pub returns-in-Lexical-clause-packs : goal.returns-in-Lexical-clause-packs
returns-in-Lexical-clause-packs g c = rw c.in-Lexical.is (on_ok_weaker c.settle.result (λ packs. lexical_packs g.S.Space g.L.Multi g.D.Multi c.in-Lexical.index c.args.space.now c.settle.new.space packs) c.settle.ensures.packs)

pub returns-in-Decimal-clause-packs : goal.returns-in-Decimal-clause-packs
returns-in-Decimal-clause-packs g c = rw c.in-Decimal.is (on_ok_weaker c.settle-in-Decimal.result (λ packs. decimal_packs g.S.Space g.L.Multi g.D.Multi c.in-Decimal.index c.args.space.now c.settle-in-Decimal.new.space packs) c.settle-in-Decimal.ensures.packs)
