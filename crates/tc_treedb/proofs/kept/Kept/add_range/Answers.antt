use Rattle.std.proofs.Common.{false, true}
use Rattle.std.specs.Prelude.{option_map}
use Rattle.tc_base.specs.Orders.{order}
use Rattle.tc_engine.specs.Rows.{Adds, text_rows}
use Rattle.tc_hash.proofs.Stored.{from_done}
use Rattle.tc_treedb.specs.Reading.{pairs_in}
use Rattle.tc_treedb.specs.declared.kept.Kept.TheVariants.{Decimal, Lexical}
use Rattle.tc_treedb.proofs.Keeping.{looks_kept, of_kept, ready_tree}
use Rattle.tc_treedb.proofs.kept.Kept.add_range.Goals as goal

pub add_range-requires : goal.add_range-requires
add_range-requires g c = ready_tree g.S.Space _ _ false Lexical c.lexical_tree.ensures _ _ (rw (c.in-Lexical.is, ← c.lent.ensures.value) at c.requires)

pub returns-in-Lexical-clause-rows : goal.returns-in-Lexical-clause-rows
returns-in-Lexical-clause-rows g c = rw (c.in-Lexical.is, ← c.lent.ensures.value) (from_done c.add_range.result c.add_range.ensures.rows (λ added. of_kept g.S.Space _ _ false Lexical c.lexical_tree.ensures (λ d ps. Adds c.args.into.now c.add_range.new.into (text_rows (pairs_in (order d) c.args.from.now (option_map (λ k. k.now) c.args.to) c.args.most ps))) _ _ added))

pub returns-in-Lexical-clause-looks : goal.returns-in-Lexical-clause-looks
returns-in-Lexical-clause-looks g c = rw (c.in-Lexical.is, ← c.lent.ensures.value) (looks_kept g.S.Space _ _ false Lexical c.lexical_tree.ensures _ _ _ _ c.add_range.ensures.looks)

pub add_range-requires-in-Decimal : goal.add_range-requires-in-Decimal
add_range-requires-in-Decimal g c = ready_tree g.S.Space _ _ true Decimal c.decimal_tree.ensures _ _ (rw (c.in-Decimal.is, ← c.lent-in-Decimal.ensures.value) at c.requires)

pub returns-in-Decimal-clause-rows : goal.returns-in-Decimal-clause-rows
returns-in-Decimal-clause-rows g c = rw (c.in-Decimal.is, ← c.lent-in-Decimal.ensures.value) (from_done c.add_range-in-Decimal.result c.add_range-in-Decimal.ensures.rows (λ added. of_kept g.S.Space _ _ true Decimal c.decimal_tree.ensures (λ d ps. Adds c.args.into.now c.add_range-in-Decimal.new.into (text_rows (pairs_in (order d) c.args.from.now (option_map (λ k. k.now) c.args.to) c.args.most ps))) _ _ added))

pub returns-in-Decimal-clause-looks : goal.returns-in-Decimal-clause-looks
returns-in-Decimal-clause-looks g c = rw (c.in-Decimal.is, ← c.lent-in-Decimal.ensures.value) (looks_kept g.S.Space _ _ true Decimal c.decimal_tree.ensures _ _ _ _ c.add_range-in-Decimal.ensures.looks)
