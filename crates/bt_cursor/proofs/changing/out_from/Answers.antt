use Rattle.std.proofs.lemmas.Result.{IfOk-weaker}
use Rattle.bt_cursor.proofs.Settings.{made_refl, pages_none, same_looked, takes_none, takes_some}
use Rattle.std.proofs.Common.{None, Option, subst, sym}
use Rattle.bt_cache.specs.Effects.{OnFull}
use Rattle.bt_cursor.specs.declared.cursor.Place.{Place}
use Rattle.bt_cursor.specs.Setting.{FillsAt, PagesAt}
use Rattle.bt_cursor.proofs.changing.out_from.Goals as goal

pub returns-in-None-clause-out : goal.returns-in-None-clause-out
returns-in-None-clause-out g c =
    takes_none g.R.S.Space g.R.Records g.O.Order c.args.at.now c.args.tree.now c.args.space.now c.in-None.is c.requires.sound

pub returns-in-None-clause-made : goal.returns-in-None-clause-made
returns-in-None-clause-made g c =
    made_refl g.R.S.Space g.R.Records g.O.Order c.args.tree.now

pub returns-in-Some-clause-out : goal.returns-in-Some-clause-out
returns-in-Some-clause-out g c =
    IfOk-weaker _ _ _ (λ next takes. takes_some g.R.S.Space g.R.Records g.O.Order c.args.at.now _ next c.args.tree.now c.out_of.new.tree c.args.space.now c.out_of.new.space c.in-Some.is takes) c.out_of.ensures.out

pub returns-in-Some-clause-full : goal.returns-in-Some-clause-full
returns-in-Some-clause-full g c =
    subst (λ (x : Option Place). OnFull c.out_of.result (FillsAt g.R.S.Space g.R.Records g.O.Order x None c.args.tree.now c.args.space.now c.out_of.new.space)) (sym c.in-Some.is) c.out_of.ensures.full

pub returns-in-None-clause-pages : goal.returns-in-None-clause-pages
returns-in-None-clause-pages g c =
    pages_none g.R.S.Space g.R.Records g.O.Order c.args.at.now None c.args.tree.now c.args.tree.now c.args.space.now c.args.space.now _ c.in-None.is (same_looked g.R.S.Space g.R.Records g.O.Order c.args.tree.now)

pub returns-in-Some-clause-pages : goal.returns-in-Some-clause-pages
returns-in-Some-clause-pages g c =
    subst (λ (x : Option Place). PagesAt g.R.S.Space g.R.Records g.O.Order x None c.out_of.result c.args.tree.now c.out_of.new.tree c.args.space.now c.out_of.new.space) (sym c.in-Some.is) c.out_of.ensures.pages
