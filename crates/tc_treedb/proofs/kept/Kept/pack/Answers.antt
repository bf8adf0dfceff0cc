use Rattle.std.proofs.Common.{false, true}
use Rattle.tc_hash.proofs.Stored.{from_done}
use Rattle.tc_treedb.specs.declared.kept.Kept.TheVariants.{Decimal, Lexical}
use Rattle.tc_treedb.proofs.Keeping.{formed_kept, lacks_formed, packed_kept, packed_refused, ready_tree, same_kept, tight_packed}
use Rattle.tc_treedb.proofs.kept.Kept.pack.Goals as goal

pub pack-requires : goal.pack-requires
pack-requires g c = ready_tree g.S.Space _ _ false Lexical c.lexical_tree.ensures _ _ (rw (c.in-Lexical.is, ← c.lent.ensures.value) at c.requires)

pub returns-in-Lexical-clause-packed : goal.returns-in-Lexical-clause-packed
returns-in-Lexical-clause-packed g c = rw (c.in-Lexical.is, ← c.lent.ensures.value) (from_done c.pack.result c.pack.ensures.packed (λ made. packed_kept g.S.Space _ _ false Lexical c.lexical_tree.ensures c.args.form c.pack.result _ _ _ _ (rw (c.in-Lexical.is, ← c.lent.ensures.value) at c.requires) c.pack.ensures.stays made))

pub returns-in-Lexical-clause-tight : goal.returns-in-Lexical-clause-tight
returns-in-Lexical-clause-tight g c = rw (c.in-Lexical.is, ← c.lent.ensures.value) (from_done c.pack.result c.pack.ensures.tight (λ tight. tight_packed g.S.Space _ _ false Lexical c.lexical_tree.ensures c.args.form _ c.pack.new.self _ _ tight))

pub returns-in-Lexical-clause-formed : goal.returns-in-Lexical-clause-formed
returns-in-Lexical-clause-formed g c = rw (c.in-Lexical.is, ← c.lent.ensures.value) (formed_kept g.S.Space _ _ false Lexical c.lexical_tree.ensures c.args.form c.pack.result _ _ _ c.pack.ensures.stays)

pub returns-in-Lexical-clause-full : goal.returns-in-Lexical-clause-full
returns-in-Lexical-clause-full g c = rw (c.in-Lexical.is, ← c.lent.ensures.value) (λ full. lacks_formed g.S.Space _ _ false Lexical c.lexical_tree.ensures c.args.form _ _ _ (c.pack.ensures.full full))

pub returns-in-Lexical-clause-refused : goal.returns-in-Lexical-clause-refused
returns-in-Lexical-clause-refused g c = rw (c.in-Lexical.is, ← c.lent.ensures.value) (packed_refused g.S.Space _ _ false Lexical c.lexical_tree.ensures c.args.form c.pack.result c.pack.result _ _ _ _ c.pack.ensures.stays c.pack.ensures.refused)

pub pack-requires-in-Decimal : goal.pack-requires-in-Decimal
pack-requires-in-Decimal g c = ready_tree g.S.Space _ _ true Decimal c.decimal_tree.ensures _ _ (rw (c.in-Decimal.is, ← c.lent-in-Decimal.ensures.value) at c.requires)

pub returns-in-Decimal-clause-packed : goal.returns-in-Decimal-clause-packed
returns-in-Decimal-clause-packed g c = rw (c.in-Decimal.is, ← c.lent-in-Decimal.ensures.value) (from_done c.pack-in-Decimal.result c.pack-in-Decimal.ensures.packed (λ made. packed_kept g.S.Space _ _ true Decimal c.decimal_tree.ensures c.args.form c.pack-in-Decimal.result _ _ _ _ (rw (c.in-Decimal.is, ← c.lent-in-Decimal.ensures.value) at c.requires) c.pack-in-Decimal.ensures.stays made))

pub returns-in-Decimal-clause-tight : goal.returns-in-Decimal-clause-tight
returns-in-Decimal-clause-tight g c = rw (c.in-Decimal.is, ← c.lent-in-Decimal.ensures.value) (from_done c.pack-in-Decimal.result c.pack-in-Decimal.ensures.tight (λ tight. tight_packed g.S.Space _ _ true Decimal c.decimal_tree.ensures c.args.form _ c.pack-in-Decimal.new.self _ _ tight))

pub returns-in-Decimal-clause-formed : goal.returns-in-Decimal-clause-formed
returns-in-Decimal-clause-formed g c = rw (c.in-Decimal.is, ← c.lent-in-Decimal.ensures.value) (formed_kept g.S.Space _ _ true Decimal c.decimal_tree.ensures c.args.form c.pack-in-Decimal.result _ _ _ c.pack-in-Decimal.ensures.stays)

pub returns-in-Decimal-clause-full : goal.returns-in-Decimal-clause-full
returns-in-Decimal-clause-full g c = rw (c.in-Decimal.is, ← c.lent-in-Decimal.ensures.value) (λ full. lacks_formed g.S.Space _ _ true Decimal c.decimal_tree.ensures c.args.form _ _ _ (c.pack-in-Decimal.ensures.full full))

pub returns-in-Decimal-clause-refused : goal.returns-in-Decimal-clause-refused
returns-in-Decimal-clause-refused g c = rw (c.in-Decimal.is, ← c.lent-in-Decimal.ensures.value) (packed_refused g.S.Space _ _ true Decimal c.decimal_tree.ensures c.args.form c.pack-in-Decimal.result c.pack-in-Decimal.result _ _ _ _ c.pack-in-Decimal.ensures.stays c.pack-in-Decimal.ensures.refused)

pub returns-in-Lexical-clause-tree : goal.returns-in-Lexical-clause-tree
returns-in-Lexical-clause-tree g c = rw (c.in-Lexical.is, ← c.lent.ensures.value) (same_kept g.S.Space _ _ false Lexical c.lexical_tree.ensures _ _ c.pack.ensures.stays.stays)

pub returns-in-Decimal-clause-tree : goal.returns-in-Decimal-clause-tree
returns-in-Decimal-clause-tree g c = rw (c.in-Decimal.is, ← c.lent-in-Decimal.ensures.value) (same_kept g.S.Space _ _ true Decimal c.decimal_tree.ensures _ _ c.pack-in-Decimal.ensures.stays.stays)
