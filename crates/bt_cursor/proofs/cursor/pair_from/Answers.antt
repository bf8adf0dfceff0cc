use Rattle.std.proofs.Common.{◌≡◌, None, Option, refl, sym, subst}
use Rattle.std.proofs.lemmas.Result.{IfOk-weaker}
use Rattle.bt_tree.specs.Meaning.{AnswersPairs}
use Rattle.bt_cursor.specs.Places.{pair_at}
use Rattle.bt_cursor.specs.declared.cursor.Place.{Place}
use Rattle.bt_cursor.proofs.Lookings.{looks_none}
use Rattle.bt_cursor.proofs.cursor.pair_from.Goals as goal

pub returns-in-None-clause-value : goal.returns-in-None-clause-value
returns-in-None-clause-value g c =
    λ ps means. subst (λ (at : Option Place). None ≡ pair_at at ps) (sym c.in-None.is) refl

pub returns-in-None-clause-looks : goal.returns-in-None-clause-looks
returns-in-None-clause-looks g c =
    looks_none g.R.S.Space g.R.Records g.O.Order c.args.tree.now.height c.args.tree.now c.args.space.now c.requires.sound

pub returns-in-Some-clause-value : goal.returns-in-Some-clause-value
returns-in-Some-clause-value g c =
    IfOk-weaker _ _ (AnswersPairs g.R.S.Space g.R.Records g.O.Order (pair_at c.args.at.now) c.args.tree.now c.args.space.now) (λ p answers. λ ps means. subst (λ (at : Option Place). p ≡ pair_at at ps) (sym c.in-Some.is) (answers ps means)) c.pair_of.ensures.value
