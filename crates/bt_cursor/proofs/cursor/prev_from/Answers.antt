use Rattle.std.proofs.Common.{◌≡◌, ◌+◌, ◌*◌, None, Option, refl, sym, subst}
use Rattle.std.proofs.lemmas.Result.{IfOk-weaker}
use Rattle.bt_tree.specs.Meaning.{AnswersPairs}
use Rattle.bt_cursor.specs.Places.{prev_place}
use Rattle.bt_cursor.specs.declared.cursor.Place.{Place}
use Rattle.bt_cursor.proofs.Lookings.{looks_none}
use Rattle.bt_cursor.proofs.cursor.prev_from.Goals as goal

pub returns-in-None-clause-value : goal.returns-in-None-clause-value
returns-in-None-clause-value g c =
    λ ps means. subst (λ (at : Option Place). None ≡ prev_place g.O.Order.cmp at ps) (sym c.in-None.is) refl

pub returns-in-None-clause-looks : goal.returns-in-None-clause-looks
returns-in-None-clause-looks g c =
    looks_none g.R.S.Space g.R.Records g.O.Order (2 * c.args.tree.now.height + 1) c.args.tree.now c.args.space.now c.requires.sound

pub returns-in-Some-clause-value : goal.returns-in-Some-clause-value
returns-in-Some-clause-value g c =
    IfOk-weaker _ _ (AnswersPairs g.R.S.Space g.R.Records g.O.Order (prev_place g.O.Order.cmp c.args.at.now) c.args.tree.now c.args.space.now) (λ p answers. λ ps means. subst (λ (at : Option Place). p ≡ prev_place g.O.Order.cmp at ps) (sym c.in-Some.is) (answers ps means)) c.prev_of.ensures.value
