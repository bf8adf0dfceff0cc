use Rattle.std.proofs.Common.{false, true}
use Rattle.std.proofs.lemmas.Result.{IfOk-weaker}
use Rattle.tc_treedb.specs.Reading.{AddsFirstOf}
use Rattle.tc_treedb.specs.declared.kept.Kept.TheVariants.{Decimal, Lexical}
use Rattle.tc_treedb.proofs.Keeping.{looks_kept, of_kept, ready_tree}
use Rattle.tc_treedb.proofs.kept.Kept.add_first.Goals as goal

pub add_first-requires : goal.add_first-requires
add_first-requires g c = ready_tree g.S.Space _ _ false Lexical c.lexical_tree.ensures _ _ (rw (c.in-Lexical.is, ← c.lent.ensures.value) at c.requires)

pub returns-in-Lexical-clause-added : goal.returns-in-Lexical-clause-added
returns-in-Lexical-clause-added g c = rw (c.in-Lexical.is, ← c.lent.ensures.value) (IfOk-weaker _ _ _ (λ held added. of_kept g.S.Space _ _ false Lexical c.lexical_tree.ensures (λ d ps. AddsFirstOf c.args.with_key c.args.key.now held ps c.args.into.now c.add_first.new.into) _ _ added) c.add_first.ensures.added)

pub returns-in-Lexical-clause-looks : goal.returns-in-Lexical-clause-looks
returns-in-Lexical-clause-looks g c = rw (c.in-Lexical.is, ← c.lent.ensures.value) (looks_kept g.S.Space _ _ false Lexical c.lexical_tree.ensures _ _ _ _ c.add_first.ensures.looks)

pub add_first-requires-in-Decimal : goal.add_first-requires-in-Decimal
add_first-requires-in-Decimal g c = ready_tree g.S.Space _ _ true Decimal c.decimal_tree.ensures _ _ (rw (c.in-Decimal.is, ← c.lent-in-Decimal.ensures.value) at c.requires)

pub returns-in-Decimal-clause-added : goal.returns-in-Decimal-clause-added
returns-in-Decimal-clause-added g c = rw (c.in-Decimal.is, ← c.lent-in-Decimal.ensures.value) (IfOk-weaker _ _ _ (λ held added. of_kept g.S.Space _ _ true Decimal c.decimal_tree.ensures (λ d ps. AddsFirstOf c.args.with_key c.args.key.now held ps c.args.into.now c.add_first-in-Decimal.new.into) _ _ added) c.add_first-in-Decimal.ensures.added)

pub returns-in-Decimal-clause-looks : goal.returns-in-Decimal-clause-looks
returns-in-Decimal-clause-looks g c = rw (c.in-Decimal.is, ← c.lent-in-Decimal.ensures.value) (looks_kept g.S.Space _ _ true Decimal c.decimal_tree.ensures _ _ _ _ c.add_first-in-Decimal.ensures.looks)
