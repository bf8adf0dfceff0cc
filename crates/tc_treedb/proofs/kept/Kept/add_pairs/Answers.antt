use Rattle.std.proofs.Common.{false, true}
use Rattle.tc_engine.specs.Rows.{Adds, text_rows}
use Rattle.tc_hash.proofs.Stored.{from_done}
use Rattle.tc_treedb.specs.Reading.{pairs_of}
use Rattle.tc_treedb.specs.declared.kept.Kept.TheVariants.{Decimal, Lexical}
use Rattle.tc_treedb.proofs.Keeping.{looks_kept, of_kept, ready_tree}
use Rattle.tc_treedb.proofs.kept.Kept.add_pairs.Goals as goal

pub add_pairs-requires : goal.add_pairs-requires
add_pairs-requires g c = ready_tree g.S.Space _ _ false Lexical c.lexical_tree.ensures _ _ (rw (c.in-Lexical.is, ← c.lent.ensures.value) at c.requires)

pub returns-in-Lexical-clause-rows : goal.returns-in-Lexical-clause-rows
returns-in-Lexical-clause-rows g c = rw (c.in-Lexical.is, ← c.lent.ensures.value) (from_done c.add_pairs.result c.add_pairs.ensures.rows (λ added. of_kept g.S.Space _ _ false Lexical c.lexical_tree.ensures (λ d ps. Adds c.args.into.now c.add_pairs.new.into (text_rows (pairs_of c.args.key.now ps))) _ _ added))

pub returns-in-Lexical-clause-looks : goal.returns-in-Lexical-clause-looks
returns-in-Lexical-clause-looks g c = rw (c.in-Lexical.is, ← c.lent.ensures.value) (looks_kept g.S.Space _ _ false Lexical c.lexical_tree.ensures _ _ _ _ c.add_pairs.ensures.looks)

pub add_pairs-requires-in-Decimal : goal.add_pairs-requires-in-Decimal
add_pairs-requires-in-Decimal g c = ready_tree g.S.Space _ _ true Decimal c.decimal_tree.ensures _ _ (rw (c.in-Decimal.is, ← c.lent-in-Decimal.ensures.value) at c.requires)

pub returns-in-Decimal-clause-rows : goal.returns-in-Decimal-clause-rows
returns-in-Decimal-clause-rows g c = rw (c.in-Decimal.is, ← c.lent-in-Decimal.ensures.value) (from_done c.add_pairs-in-Decimal.result c.add_pairs-in-Decimal.ensures.rows (λ added. of_kept g.S.Space _ _ true Decimal c.decimal_tree.ensures (λ d ps. Adds c.args.into.now c.add_pairs-in-Decimal.new.into (text_rows (pairs_of c.args.key.now ps))) _ _ added))

pub returns-in-Decimal-clause-looks : goal.returns-in-Decimal-clause-looks
returns-in-Decimal-clause-looks g c = rw (c.in-Decimal.is, ← c.lent-in-Decimal.ensures.value) (looks_kept g.S.Space _ _ true Decimal c.decimal_tree.ensures _ _ _ _ c.add_pairs-in-Decimal.ensures.looks)
