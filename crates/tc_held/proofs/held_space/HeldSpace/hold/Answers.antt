use Rattle.std.proofs.Common.{take, arith, length-take}
use Rattle.tc_undo.specs.Usable.{data_file}
use Rattle.tc_held.proofs.Holding.{held_takes, over_takes}
use Rattle.tc_held.proofs.held_space.HeldSpace.hold.Goals as goal

pub put-requires-clause-file : goal.put-requires-clause-file
put-requires-clause-file g c = data_file c.args.file c.requires.reaches.file

pub put-requires-clause-small : goal.put-requires-clause-small
put-requires-clause-small g c = omega (arith, c.requires.below, g.met.S.Batched.small c.args.self.now.below c.args.file c.requires.sound c.requires.reaches.file)

pub returns-clause-held : goal.returns-clause-held
returns-clause-held g c =
    let old = c.args.self.now in
    let x = take c.put.result c.args.bytes.now in
    held_takes g.S.Space g.S.Batched.logged old.below old.held c.requires.held c.args.file c.args.at x c.put.new.self c.put.ensures.takes
    (omega (arith, c.requires.below, length-take c.put.result c.args.bytes.now)) c.requires.reaches.inside c.requires.room

pub returns-clause-wrote : goal.returns-clause-wrote
returns-clause-wrote g c = λ t.
    let old = c.args.self.now in
    let x = take c.put.result c.args.bytes.now in
    over_takes g.S.Space g.S.Batched.logged old.below old.held c.requires.held c.args.file c.args.at x c.put.new.self c.put.ensures.takes
    (omega (arith, c.requires.below, length-take c.put.result c.args.bytes.now)) c.requires.reaches.inside t
