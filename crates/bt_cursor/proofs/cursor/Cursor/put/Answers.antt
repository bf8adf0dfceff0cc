use Rattle.std.proofs.Common.{List, Option, Some, ℕ, subst, sym}
use Rattle.std.specs.Prelude.{OnOk}
use Rattle.std.proofs.lemmas.Result.{IfOk-weaker}
use Rattle.bt_cursor.proofs.Settings.{made_refl, pages_none, pages_some, puts_none, puts_some, same_looked}
use Rattle.bt_cache.specs.Effects.{OnFull}
use Rattle.bt_tree.specs.Valuing.{ChangesPages, IsSetFull, SetsAt}
use Rattle.bt_cursor.specs.declared.cursor.Place.{Place}
use Rattle.bt_cursor.specs.Setting.{FillsAt}
use Rattle.bt_cursor.proofs.cursor.Cursor.put.Goals as goal

pub returns-in-None-clause-put : goal.returns-in-None-clause-put
returns-in-None-clause-put g c =
    puts_none g.R.S.Space g.R.Records g.O.Order c.args.self.now.at (Some c.args.value.now) c.args.tree.now c.args.space.now c.in-None.is c.requires.sound

pub returns-in-None-clause-made : goal.returns-in-None-clause-made
returns-in-None-clause-made g c =
    made_refl g.R.S.Space g.R.Records g.O.Order c.args.tree.now

pub returns-in-Some-clause-put : goal.returns-in-Some-clause-put
returns-in-Some-clause-put g c =
    IfOk-weaker _ _ _ (λ there sets. puts_some g.R.S.Space g.R.Records g.O.Order c.args.self.now.at c.in-Some.place (Some c.args.value.now) there c.args.tree.now c.set_at.new.self c.args.space.now c.set_at.new.space c.in-Some.is
    (subst (λ (k : List ℕ). SetsAt g.R.S.Space g.R.Records g.O.Order k c.in-Some.place.number (Some c.args.value.now) there c.args.tree.now c.set_at.new.self c.args.space.now c.set_at.new.space) c.as_slice.ensures sets)) c.set_at.ensures.set

pub returns-in-Some-clause-full : goal.returns-in-Some-clause-full
returns-in-Some-clause-full g c =
    subst (λ (x : Option Place). OnFull c.set_at.result (FillsAt g.R.S.Space g.R.Records g.O.Order x (Some c.args.value.now) c.args.tree.now c.args.space.now c.set_at.new.space)) (sym c.in-Some.is)
    (subst (λ (k : List ℕ). OnFull c.set_at.result (IsSetFull g.R.S.Space g.R.Records g.O.Order k c.in-Some.place.number (Some c.args.value.now) c.args.tree.now c.args.space.now c.set_at.new.space)) c.as_slice.ensures c.set_at.ensures.full)

pub returns-in-None-clause-pages : goal.returns-in-None-clause-pages
returns-in-None-clause-pages g c =
    pages_none g.R.S.Space g.R.Records g.O.Order c.args.self.now.at (Some c.args.value.now) c.args.tree.now c.args.tree.now c.args.space.now c.args.space.now _ c.in-None.is (same_looked g.R.S.Space g.R.Records g.O.Order c.args.tree.now)

pub returns-in-Some-clause-pages : goal.returns-in-Some-clause-pages
returns-in-Some-clause-pages g c =
    pages_some g.R.S.Space g.R.Records g.O.Order c.args.self.now.at (Some c.args.value.now) c.args.tree.now c.set_at.new.self c.args.space.now c.set_at.new.space c.set_at.result c.in-Some.place c.in-Some.is c.set_at.ensures.gains
    (subst (λ (k : List ℕ). OnOk c.set_at.result (ChangesPages g.R.S.Space g.R.Records g.O.Order k c.in-Some.place.number (Some c.args.value.now) c.args.tree.now c.set_at.new.self c.args.space.now c.set_at.new.space)) c.as_slice.ensures c.set_at.ensures.pages)
