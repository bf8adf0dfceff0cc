use Rattle.std.proofs.Common.{◌∙◌}
use Rattle.tc_held.specs.Lengths.{over_bare}
use Rattle.tc_held.proofs.held_space.HeldSpace.make_room.Goals as goal

pub returns-clause-now : goal.returns-clause-now
returns-clause-now g c = λ t f. over_bare c.flush.new.self.held (g.S.Space.now c.flush.new.self.below) c.in_ok-flush.ensures.empty f ∙ c.in_ok-flush.ensures.now t f
