use Rattle.std.proofs.Common.{false, true}
use Rattle.tc_hash.proofs.Stored.{from_done}
use Rattle.tc_hashdb.specs.Laying.{both_done}
use Rattle.tc_treedb.specs.declared.kept.Kept.TheVariants.{Decimal, Lexical}
use Rattle.tc_treedb.proofs.Keeping.{brings_kept, packs_kept, ready_tree, settled_kept, settled_refused, settled_stays, trims_kept}
use Rattle.tc_treedb.proofs.kept.Kept.settle.Goals as goal

pub settle-requires : goal.settle-requires
settle-requires g c = ready_tree g.S.Space _ _ false Lexical c.lexical_tree.ensures _ _ (rw (c.in-Lexical.is, ← c.lent.ensures.value) at c.requires)

pub returns-in-Lexical-clause-settled : goal.returns-in-Lexical-clause-settled
returns-in-Lexical-clause-settled g c = rw (c.in-Lexical.is, ← c.lent.ensures.value) (from_done c.settle.result c.settle.ensures.settled (λ made. settled_kept g.S.Space _ _ false Lexical c.lexical_tree.ensures _ _ _ _ (rw (c.in-Lexical.is, ← c.lent.ensures.value) at c.requires) c.settle.ensures.stays made))

pub returns-in-Lexical-clause-stands : goal.returns-in-Lexical-clause-stands
returns-in-Lexical-clause-stands g c = rw (c.in-Lexical.is, ← c.lent.ensures.value) (from_done c.settle.result c.settle.ensures.stands (λ brings. brings_kept g.S.Space _ _ false Lexical c.lexical_tree.ensures _ _ _ brings))

pub returns-in-Lexical-clause-packs : goal.returns-in-Lexical-clause-packs
returns-in-Lexical-clause-packs g c = rw (c.in-Lexical.is, ← c.lent.ensures.value) (from_done c.settle.result c.settle.ensures.packs (λ packs. packs_kept g.S.Space _ _ false Lexical c.lexical_tree.ensures _ _ _ packs))

pub returns-in-Lexical-clause-trims : goal.returns-in-Lexical-clause-trims
returns-in-Lexical-clause-trims g c = rw (c.in-Lexical.is, ← c.lent.ensures.value) (both_done c.settle.result c.settle.ensures.settled c.settle.ensures.packs (λ made packs. trims_kept g.S.Space _ _ false Lexical c.lexical_tree.ensures _ _ _ _ (rw (c.in-Lexical.is, ← c.lent.ensures.value) at c.requires) c.settle.ensures.stays made packs))

pub returns-in-Lexical-clause-refused : goal.returns-in-Lexical-clause-refused
returns-in-Lexical-clause-refused g c = rw (c.in-Lexical.is, ← c.lent.ensures.value) (settled_refused g.S.Space _ _ false Lexical c.lexical_tree.ensures c.settle.result _ _ _ _ c.settle.ensures.stays c.settle.ensures.refused)

pub returns-in-Lexical-clause-stays : goal.returns-in-Lexical-clause-stays
returns-in-Lexical-clause-stays g c = rw (c.in-Lexical.is, ← c.lent.ensures.value) (settled_stays g.S.Space _ _ false Lexical c.lexical_tree.ensures _ _ c.settle.ensures.stays)

pub settle-requires-in-Decimal : goal.settle-requires-in-Decimal
settle-requires-in-Decimal g c = ready_tree g.S.Space _ _ true Decimal c.decimal_tree.ensures _ _ (rw (c.in-Decimal.is, ← c.lent-in-Decimal.ensures.value) at c.requires)

pub returns-in-Decimal-clause-settled : goal.returns-in-Decimal-clause-settled
returns-in-Decimal-clause-settled g c = rw (c.in-Decimal.is, ← c.lent-in-Decimal.ensures.value) (from_done c.settle-in-Decimal.result c.settle-in-Decimal.ensures.settled (λ made. settled_kept g.S.Space _ _ true Decimal c.decimal_tree.ensures _ _ _ _ (rw (c.in-Decimal.is, ← c.lent-in-Decimal.ensures.value) at c.requires) c.settle-in-Decimal.ensures.stays made))

pub returns-in-Decimal-clause-stands : goal.returns-in-Decimal-clause-stands
returns-in-Decimal-clause-stands g c = rw (c.in-Decimal.is, ← c.lent-in-Decimal.ensures.value) (from_done c.settle-in-Decimal.result c.settle-in-Decimal.ensures.stands (λ brings. brings_kept g.S.Space _ _ true Decimal c.decimal_tree.ensures _ _ _ brings))

pub returns-in-Decimal-clause-packs : goal.returns-in-Decimal-clause-packs
returns-in-Decimal-clause-packs g c = rw (c.in-Decimal.is, ← c.lent-in-Decimal.ensures.value) (from_done c.settle-in-Decimal.result c.settle-in-Decimal.ensures.packs (λ packs. packs_kept g.S.Space _ _ true Decimal c.decimal_tree.ensures _ _ _ packs))

pub returns-in-Decimal-clause-trims : goal.returns-in-Decimal-clause-trims
returns-in-Decimal-clause-trims g c = rw (c.in-Decimal.is, ← c.lent-in-Decimal.ensures.value) (both_done c.settle-in-Decimal.result c.settle-in-Decimal.ensures.settled c.settle-in-Decimal.ensures.packs (λ made packs. trims_kept g.S.Space _ _ true Decimal c.decimal_tree.ensures _ _ _ _ (rw (c.in-Decimal.is, ← c.lent-in-Decimal.ensures.value) at c.requires) c.settle-in-Decimal.ensures.stays made packs))

pub returns-in-Decimal-clause-refused : goal.returns-in-Decimal-clause-refused
returns-in-Decimal-clause-refused g c = rw (c.in-Decimal.is, ← c.lent-in-Decimal.ensures.value) (settled_refused g.S.Space _ _ true Decimal c.decimal_tree.ensures c.settle-in-Decimal.result _ _ _ _ c.settle-in-Decimal.ensures.stays c.settle-in-Decimal.ensures.refused)

pub returns-in-Decimal-clause-stays : goal.returns-in-Decimal-clause-stays
returns-in-Decimal-clause-stays g c = rw (c.in-Decimal.is, ← c.lent-in-Decimal.ensures.value) (settled_stays g.S.Space _ _ true Decimal c.decimal_tree.ensures _ _ c.settle-in-Decimal.ensures.stays)
