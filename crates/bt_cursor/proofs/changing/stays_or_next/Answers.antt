use Rattle.std.proofs.Common.{sym, subst}
use Rattle.bt_tree.specs.Meaning.{AnswersPairs}
use Rattle.bt_cursor.specs.Places.{place_from}
use Rattle.bt_cursor.proofs.Lookings.{looks_on, looks_own, open_after}
use Rattle.bt_cursor.proofs.Movings.{from_at, from_key}
use Rattle.bt_cursor.proofs.changing.stays_or_next.Goals as goal

pub above-requires : goal.above-requires
above-requires g c =
    open_after g.R.S.Space g.R.Records g.O.Order c.args.tree.now c.last_of.new.tree c.args.space.now c.last_of.new.space c.args.tree.now.height c.requires c.last_of.ensures.looks

pub returns-then-is_upto-clause-value : goal.returns-then-is_upto-clause-value
returns-then-is_upto-clause-value g c =
    let k = c.is_upto.ensures.there c.if-is_upto.true in
    subst (λ p. AnswersPairs g.R.S.Space g.R.Records g.O.Order (place_from g.O.Order.cmp c.args.place.now) c.args.tree.now c.args.space.now p) (sym c.in_ok-same_key.ensures) (from_at g.R.S.Space g.R.Records g.O.Order g.met.O.Order.total g.met.O.Order.exact c.args.tree.now c.args.space.now c.args.place.now c.in_ok-last.last (rw c.as_slice-key.ensures at c.in_ok-last.ensures.value) k.0 k.1 k.2)

pub returns-in_err-end-clause-looks : goal.returns-in_err-end-clause-looks
returns-in_err-end-clause-looks g c =
    looks_on g.R.S.Space g.R.Records g.O.Order c.args.tree.now c.last_of.new.tree c.above.new.tree c.args.space.now c.last_of.new.space c.above.new.space c.last_of.ensures.looks c.above.ensures.looks

pub returns-clause-looks : goal.returns-clause-looks
returns-clause-looks g c =
    looks_on g.R.S.Space g.R.Records g.O.Order c.args.tree.now c.last_of.new.tree c.above.new.tree c.args.space.now c.last_of.new.space c.above.new.space c.last_of.ensures.looks c.above.ensures.looks

pub returns-clause-value : goal.returns-clause-value
returns-clause-value g c =
    subst (λ p. AnswersPairs g.R.S.Space g.R.Records g.O.Order (place_from g.O.Order.cmp c.args.place.now) c.args.tree.now c.args.space.now p) (sym c.first_value.ensures)
    (from_key g.R.S.Space g.R.Records g.O.Order g.met.O.Order.total g.met.O.Order.exact c.args.tree.now c.args.space.now c.args.place.now c.in_ok-last.last (rw c.as_slice-key.ensures at c.in_ok-last.ensures.value) c.args.tree.now.height c.last_of.new.tree c.last_of.new.space c.last_of.ensures.looks c.in_ok-end.end (c.is_upto.ensures.none c.if-is_upto.false) (rw c.as_slice-key.ensures at c.in_ok-end.ensures.value))

pub returns-in_err-last-clause-looks : goal.returns-in_err-last-clause-looks
returns-in_err-last-clause-looks g c =
    looks_own g.R.S.Space g.R.Records g.O.Order c.args.tree.now c.last_of.new.tree c.args.space.now c.last_of.new.space c.last_of.ensures.looks

pub returns-in_err-same_key-clause-looks : goal.returns-in_err-same_key-clause-looks
returns-in_err-same_key-clause-looks g c =
    looks_own g.R.S.Space g.R.Records g.O.Order c.args.tree.now c.last_of.new.tree c.args.space.now c.last_of.new.space c.last_of.ensures.looks

pub returns-then-is_upto-clause-looks : goal.returns-then-is_upto-clause-looks
returns-then-is_upto-clause-looks g c =
    looks_own g.R.S.Space g.R.Records g.O.Order c.args.tree.now c.last_of.new.tree c.args.space.now c.last_of.new.space c.last_of.ensures.looks
