use Rattle.std.proofs.Common.{◌∙◌}
use Rattle.tc_held.specs.Lengths.{over_bare}
use Rattle.tc_held.proofs.held_space.HeldSpace.let_go.Goals as goal

pub returns-in-Ok-clause-brings : goal.returns-in-Ok-clause-brings
returns-in-Ok-clause-brings g c =
    let new = c.flush.new.self in
    record { none = c.in-Ok.ensures.empty; same = λ t f. over_bare new.held (g.S.Space.now new.below) c.in-Ok.ensures.empty f ∙ c.in-Ok.ensures.now t f }
