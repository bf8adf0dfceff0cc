use Rattle.std.proofs.Common.{◌∙◌, ap, refl}
use Rattle.bt_page.proofs.Hex.{cut_at}
use Rattle.bt_page.specs.Keys.{hex_number}
use Rattle.bt_page.proofs.IdKeys.{named_none, named_far, named_node, named_long, named_leaf}
use Rattle.bt_page.proofs.keys.id_in.Goals as goal

pub returns-then-is_empty-clause-id : goal.returns-then-is_empty-clause-id
returns-then-is_empty-clause-id c = λ id lt e. named_none id c.args.key.now c.if-is_empty.ensures lt e

pub returns-then-key-gt13-clause-id : goal.returns-then-key-gt13-clause-id
returns-then-key-gt13-clause-id c = λ id lt e. named_far id c.args.key.now c.if-key-gt13.true lt e

pub returns-then-key-eq35-clause-id : goal.returns-then-key-eq35-clause-id
returns-then-key-eq35-clause-id c = λ id lt e. named_node id _ c.args.key.now c.if-key-eq35.true (c.hex_number.ensures.value ∙ ap hex_number (cut_at _ 1 c.args.key.now refl)) lt e

pub returns-then-key-gt12-clause-id : goal.returns-then-key-gt12-clause-id
returns-then-key-gt12-clause-id c = λ id lt e. named_long id c.args.key.now c.if-key-eq35.false c.if-key-gt12.true lt e

pub returns-clause-id : goal.returns-clause-id
returns-clause-id c = λ id lt e. named_leaf id _ c.args.key.now c.if-key-eq35.false c.hex_number-2.ensures.value lt e
