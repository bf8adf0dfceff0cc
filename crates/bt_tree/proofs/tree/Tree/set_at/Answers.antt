use Rattle.std.proofs.Common.{ℕ, List, Option, None, ap, sym, subst, ◌≡◌}
use Rattle.std.specs.Prelude.{IfOk, OnOk, option_map}
use Rattle.bt_cache.specs.Effects.{OnFull}
use Rattle.bt_tree.specs.Valuing.{ChangesPages, IsSetFull, SetsAt}
use Rattle.bt_tree.proofs.tree.Tree.set_at.Goals as goal

pub returns-in_default-clause-set : goal.returns-in_default-clause-set
returns-in_default-clause-set g c =
    let same : ◌≡◌ {A = ℕ × Option (List ℕ)} (0, None) (c.args.place, option_map (λ v. v.now) c.args.value) = λ i. (sym c.if-place-eq0.true i, sym (ap (λ v. option_map (λ w. w.now) v) c.in_default.is) i) in
    subst (λ (x : ℕ × Option (List ℕ)). IfOk c.drop_first.result (λ there. SetsAt g.R.S.Space g.R.Records g.O.Order c.args.key.now x.0 x.1 there c.args.self.now c.drop_first.new.self c.args.space.now c.drop_first.new.space)) same c.drop_first.ensures.set

pub returns-in_default-clause-pages : goal.returns-in_default-clause-pages
returns-in_default-clause-pages g c =
    let same : ◌≡◌ {A = ℕ × Option (List ℕ)} (0, None) (c.args.place, option_map (λ v. v.now) c.args.value) = λ i. (sym c.if-place-eq0.true i, sym (ap (λ v. option_map (λ w. w.now) v) c.in_default.is) i) in
    subst (λ (x : ℕ × Option (List ℕ)). OnOk c.drop_first.result (ChangesPages g.R.S.Space g.R.Records g.O.Order c.args.key.now x.0 x.1 c.args.self.now c.drop_first.new.self c.args.space.now c.drop_first.new.space)) same c.drop_first.ensures.pages

pub returns-in_default-clause-full : goal.returns-in_default-clause-full
returns-in_default-clause-full g c =
    let same : ◌≡◌ {A = ℕ × Option (List ℕ)} (0, None) (c.args.place, option_map (λ v. v.now) c.args.value) = λ i. (sym c.if-place-eq0.true i, sym (ap (λ v. option_map (λ w. w.now) v) c.in_default.is) i) in
    subst (λ (x : ℕ × Option (List ℕ)). OnFull c.drop_first.result (IsSetFull g.R.S.Space g.R.Records g.O.Order c.args.key.now x.0 x.1 c.args.self.now c.args.space.now c.drop_first.new.space)) same c.drop_first.ensures.full
