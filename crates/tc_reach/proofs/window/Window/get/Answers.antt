use Rattle.std.proofs.Common.{◌+◌, ◌-◌, ◌∙◌, ℕ, List, take, drop, refl, ap}
use Rattle.tc_reach.proofs.Viewing.{seen_in_window}
use Rattle.tc_reach.proofs.window.Window.get.Goals as goal

pub returns-clause-shows : goal.returns-clause-shows
returns-clause-shows c = λ file s.
    let skip : ℕ = c.args.at - c.args.self.now.at in
    ap (λ (l : List ℕ). take (skip + c.args.count - skip) (drop skip l)) c.deref.ensures.value ∙ seen_in_window c.args.self.now c.args.at c.args.count skip file refl c.requires s
