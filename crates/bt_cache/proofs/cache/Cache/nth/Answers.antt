use Rattle.std.proofs.Common.{◌∙◌, ap, refl, sym}
use Rattle.std.specs.Option.{option_copied_mut}
use Rattle.bt_cache.specs.Held.{Pages}
use Rattle.bt_cache.proofs.Uses.{held_same}
use Rattle.bt_cache.proofs.cache.Cache.nth.Goals as goal

pub returns-clause-same : goal.returns-clause-same
returns-clause-same g c =
    let at = sym c.peek_mut.ensures.value ∙ ap option_copied_mut c.in-Some.is in
    ap (λ (k : Pages). record c.args.self.now { pages = k }) (held_same c.args.id c.args.self.now.pages _ c.in-Some.page.now c.nth.new.self at c.nth.ensures.same refl)
