use Rattle.std.proofs.Common.{◌≡◌, ◌-◌, ℕ, List, length, take, drop, arith, sym, subst}
use Rattle.tc_reach.proofs.Viewing.{rest_of_window}
use Rattle.tc_reach.proofs.window.Window.rest.Goals as goal

pub returns : goal.returns
returns c = λ file s.
    let skip : ℕ = c.args.at - c.args.self.now.at in
    subst (λ (l : List ℕ). take (length l - skip) (drop skip l) ≡ take (length (take (length l - skip) (drop skip l))) (drop c.args.at file)) (sym c.deref-2.ensures.value) (rest_of_window c.args.self.now c.args.at skip file (omega arith) (omega arith) s)
