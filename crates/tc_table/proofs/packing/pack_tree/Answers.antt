use Rattle.std.proofs.Common.{refl}
use Rattle.std.proofs.lemmas.Result.{on_ok_weaker}
use Rattle.tc_table.proofs.Packed.{decimal_tight, lexical_tight}
use Rattle.tc_table.proofs.Settled.{decimal_kept, lexical_kept}
use Rattle.tc_table.proofs.Turning.{decimal_stays, lexical_stays}
use Rattle.tc_table.proofs.packing.pack_tree.Goals as goal

pub pack_list-requires : goal.pack_list-requires
pack_list-requires g c = rw c.in-Lexical.is at c.requires

pub returns-in-Lexical-clause-kept : goal.returns-in-Lexical-clause-kept
returns-in-Lexical-clause-kept g c = rw c.in-Lexical.is (on_ok_weaker c.pack_list.result (λ made. lexical_kept g.S.Space g.L.Multi g.D.Multi c.in-Lexical.index c.pack_list.new.tree c.args.space.now c.pack_list.new.space made) c.pack_list.ensures.packed)

pub returns-in-Lexical-clause-tight : goal.returns-in-Lexical-clause-tight
returns-in-Lexical-clause-tight g c = rw c.in-Lexical.is (on_ok_weaker c.pack_list.result (λ tight. lexical_tight g.S.Space g.L.Multi g.D.Multi c.in-Lexical.index c.pack_list.new.tree c.args.space.now c.pack_list.new.space tight) c.pack_list.ensures.tight)

pub returns-in-Lexical-clause-stays : goal.returns-in-Lexical-clause-stays
returns-in-Lexical-clause-stays g c = rw c.in-Lexical.is (on_ok_weaker _ (λ stays. lexical_stays g.S.Space g.L.Multi g.D.Multi _ _ refl stays) c.pack_list.ensures.stays)

pub pack_list-requires-in-Decimal : goal.pack_list-requires-in-Decimal
pack_list-requires-in-Decimal g c = rw c.in-Decimal.is at c.requires

pub returns-in-Decimal-clause-kept : goal.returns-in-Decimal-clause-kept
returns-in-Decimal-clause-kept g c = rw c.in-Decimal.is (on_ok_weaker c.pack_list-in-Decimal.result (λ made. decimal_kept g.S.Space g.L.Multi g.D.Multi c.in-Decimal.index c.pack_list-in-Decimal.new.tree c.args.space.now c.pack_list-in-Decimal.new.space made) c.pack_list-in-Decimal.ensures.packed)

pub returns-in-Decimal-clause-tight : goal.returns-in-Decimal-clause-tight
returns-in-Decimal-clause-tight g c = rw c.in-Decimal.is (on_ok_weaker c.pack_list-in-Decimal.result (λ tight. decimal_tight g.S.Space g.L.Multi g.D.Multi c.in-Decimal.index c.pack_list-in-Decimal.new.tree c.args.space.now c.pack_list-in-Decimal.new.space tight) c.pack_list-in-Decimal.ensures.tight)

pub returns-in-Decimal-clause-stays : goal.returns-in-Decimal-clause-stays
returns-in-Decimal-clause-stays g c = rw c.in-Decimal.is (on_ok_weaker _ (λ stays. decimal_stays g.S.Space g.L.Multi g.D.Multi _ _ refl stays) c.pack_list-in-Decimal.ensures.stays)
