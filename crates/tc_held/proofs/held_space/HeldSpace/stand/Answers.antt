use Rattle.std.proofs.Common.{arith}
use Rattle.tc_held.proofs.Narrowed.{laid_grows}
use Rattle.tc_held.proofs.held_space.HeldSpace.stand.Goals as goal

pub returns : goal.returns
returns g c = λ is t.
    let held = c.args.self.now.held in
    let below = g.S.Space.now c.args.self.now.below c.args.file in
    grind (arith, is, c.len.ensures t, laid_grows held.bytes.items held.pieces.items c.args.file below)
