use Rattle.std.proofs.Common.{Some, sym, ◌∙◌, subst}
use Rattle.bt_tree.specs.Meaning.{AnswersPairs}
use Rattle.bt_cursor.specs.Places.{prev_place}
use Rattle.bt_cursor.proofs.Lookings.{looks_back, looks_here, open_after}
use Rattle.bt_cursor.proofs.Movings.{prev_at, prev_key}
use Rattle.bt_cursor.proofs.cursor.prev_of.Goals as goal

pub below-requires : goal.below-requires
below-requires g c =
    open_after g.R.S.Space g.R.Records g.O.Order c.args.tree.now c.last_of.new.tree c.args.space.now c.last_of.new.space c.args.tree.now.height c.requires c.last_of.ensures.looks

pub returns-in_err-end-clause-looks : goal.returns-in_err-end-clause-looks
returns-in_err-end-clause-looks g c =
    looks_back g.R.S.Space g.R.Records g.O.Order c.args.tree.now c.last_of.new.tree c.below.new.tree c.args.space.now c.last_of.new.space c.below.new.space c.last_of.ensures.looks c.below.ensures.looks

pub returns-in_default-clause-looks : goal.returns-in_default-clause-looks
returns-in_default-clause-looks g c =
    looks_back g.R.S.Space g.R.Records g.O.Order c.args.tree.now c.last_of.new.tree c.below.new.tree c.args.space.now c.last_of.new.space c.below.new.space c.last_of.ensures.looks c.below.ensures.looks

pub returns-in_default-clause-value : goal.returns-in_default-clause-value
returns-in_default-clause-value g c =
    subst (λ p. AnswersPairs g.R.S.Space g.R.Records g.O.Order (prev_place g.O.Order.cmp (Some c.args.place.now)) c.args.tree.now c.args.space.now p) (sym c.last_value.ensures)
    (prev_key g.R.S.Space g.R.Records g.O.Order g.met.O.Order.total g.met.O.Order.exact c.args.tree.now c.args.space.now c.args.place.now c.in_ok-last.last (rw c.as_slice-key.ensures at c.in_ok-last.ensures.value) c.args.tree.now.height c.last_of.new.tree c.last_of.new.space c.last_of.ensures.looks c.in_ok-end.end (sym c.in_front.ensures ∙ c.in_default.is) (rw c.as_slice-key.ensures at c.in_ok-end.ensures.value))

pub returns-clause-value : goal.returns-clause-value
returns-clause-value g c =
    subst (λ p. AnswersPairs g.R.S.Space g.R.Records g.O.Order (prev_place g.O.Order.cmp (Some c.args.place.now)) c.args.tree.now c.args.space.now p) (sym c.in_ok-same_key.ensures) (prev_at g.R.S.Space g.R.Records g.O.Order g.met.O.Order.total g.met.O.Order.exact c.args.tree.now c.args.space.now c.args.place.now c.in_ok-last.last (rw c.as_slice-key.ensures at c.in_ok-last.ensures.value) c.in-Some.number (sym c.in_front.ensures ∙ c.in-Some.is))

pub returns-in_err-last-clause-looks : goal.returns-in_err-last-clause-looks
returns-in_err-last-clause-looks g c =
    looks_here g.R.S.Space g.R.Records g.O.Order c.args.tree.now c.last_of.new.tree c.args.space.now c.last_of.new.space c.last_of.ensures.looks

pub returns-in_err-same_key-clause-looks : goal.returns-in_err-same_key-clause-looks
returns-in_err-same_key-clause-looks g c =
    looks_here g.R.S.Space g.R.Records g.O.Order c.args.tree.now c.last_of.new.tree c.args.space.now c.last_of.new.space c.last_of.ensures.looks

pub returns-clause-looks : goal.returns-clause-looks
returns-clause-looks g c =
    looks_here g.R.S.Space g.R.Records g.O.Order c.args.tree.now c.last_of.new.tree c.args.space.now c.last_of.new.space c.last_of.ensures.looks
