use Rattle.std.proofs.Common.{false, refl, true}
use Rattle.std.specs.Prelude.{map}
use Rattle.bt_order.proofs.Within.{is_begun}
use Rattle.tc_engine.specs.Changes.{first_of}
use Rattle.tc_engine.specs.Rows.{Adds, item_row}
use Rattle.tc_hash.proofs.Stored.{from_done}
use Rattle.tc_treedb.specs.Reading.{keys_beginning}
use Rattle.tc_treedb.specs.declared.kept.Kept.TheVariants.{Decimal, Lexical}
use Rattle.tc_treedb.proofs.Keeping.{looks_kept, of_kept, ready_tree}
use Rattle.tc_treedb.proofs.kept.Kept.add_keys.Goals as goal

pub add_keys-requires : goal.add_keys-requires
add_keys-requires g c = record { ready = ready_tree g.S.Space _ _ false Lexical c.lexical_tree.ensures _ _ (rw (c.in-Lexical.is, ← c.lent.ensures.value) at c.requires); inside = λ key so. (is_begun c.args.prefix.now key).1 so }

pub returns-in-Lexical-clause-rows : goal.returns-in-Lexical-clause-rows
returns-in-Lexical-clause-rows g c = rw (c.in-Lexical.is, ← c.lent.ensures.value) (from_done c.add_keys.result c.add_keys.ensures.rows (λ added. of_kept g.S.Space _ _ false Lexical c.lexical_tree.ensures (λ d ps. Adds c.args.into.now c.add_keys.new.into (map item_row (first_of c.args.most (keys_beginning c.args.prefix.now ps)))) _ _ added))

pub returns-in-Lexical-clause-looks : goal.returns-in-Lexical-clause-looks
returns-in-Lexical-clause-looks g c = rw (c.in-Lexical.is, ← c.lent.ensures.value) (looks_kept g.S.Space _ _ false Lexical c.lexical_tree.ensures _ _ _ _ c.add_keys.ensures.looks)

pub add_keys-requires-in-Decimal : goal.add_keys-requires-in-Decimal
add_keys-requires-in-Decimal g c = record { ready = ready_tree g.S.Space _ _ true Decimal c.decimal_tree.ensures _ _ (rw (c.in-Decimal.is, ← c.lent-in-Decimal.ensures.value) at c.requires); inside = λ key so. refl }

pub returns-in-Decimal-clause-rows : goal.returns-in-Decimal-clause-rows
returns-in-Decimal-clause-rows g c = rw (c.in-Decimal.is, ← c.lent-in-Decimal.ensures.value) (from_done c.add_keys-in-Decimal.result c.add_keys-in-Decimal.ensures.rows (λ added. of_kept g.S.Space _ _ true Decimal c.decimal_tree.ensures (λ d ps. Adds c.args.into.now c.add_keys-in-Decimal.new.into (map item_row (first_of c.args.most (keys_beginning c.args.prefix.now ps)))) _ _ added))

pub returns-in-Decimal-clause-looks : goal.returns-in-Decimal-clause-looks
returns-in-Decimal-clause-looks g c = rw (c.in-Decimal.is, ← c.lent-in-Decimal.ensures.value) (looks_kept g.S.Space _ _ true Decimal c.decimal_tree.ensures _ _ _ _ c.add_keys-in-Decimal.ensures.looks)
