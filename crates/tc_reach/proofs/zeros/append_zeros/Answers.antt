use Rattle.std.proofs.Common.{◌∙◌, List, ℕ, ◌++◌, take, replicate, ap, arith}
use Rattle.tc_reach.proofs.Zeroed.{more_zeros}
use Rattle.tc_reach.proofs.zeros.append_zeros.Goals as goal

pub loop-rest-preserved : goal.loop-rest-preserved
loop-rest-preserved c =
    let added = c.in_ok-append.ensures.ok in (
      added ∙ ap (λ (l : List ℕ). l ++ take c.min-n.result (replicate 256 0)) c.loop-rest.invariant.0
          ∙ more_zeros c.args.into.now c.args.count c.loop-rest.rest c.min-n.result (omega (arith, c.min-n.ensures)) c.loop-rest.invariant.1 (omega (arith, c.min-n.ensures)),
      omega arith,
    )
