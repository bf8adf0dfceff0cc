use Rattle.std.proofs.Common.{refl, lit≤, rules}
use Rattle.std.specs.Prelude.{codes}
use Rattle.tc_base.specs.Files.{wrote}
use Rattle.tests_space.proofs.Steps.{main_step, side_step, main_fits, side_fits}
use Rattle.tests_space.proofs.spaces.end.Goals as goal

pub write-requires-clause-reaches : goal.write-requires-clause-reaches
unfolding wrote
write-requires-clause-reaches g c =
    let tells = g.S.Space.tells in
    let now = g.S.Space.now in
    record { file = search rules; inside = main_fits tells now c.args.space.now (codes "ONE TWO three") (codes "aabdddddddd") 8 c.requires.holds (lit≤ tt) }

pub write-requires-2-clause-reaches : goal.write-requires-2-clause-reaches
unfolding wrote
write-requires-2-clause-reaches g c =
    let tells = g.S.Space.tells in
    let now = g.S.Space.now in
    let h1 = main_step tells now c.args.space.now c.write.new.self (codes "ONE TWO three") (codes "aabdddddddd") 8 (codes "THREE, four") (codes "ONE TWO THREE, four") c.requires.holds c.in_ok-write.ensures.wrote refl in
    record { file = search rules; inside = side_fits tells now c.write.new.self (codes "ONE TWO THREE, four") (codes "aabdddddddd") 11 h1 (lit≤ tt) }

pub write-requires-3-clause-reaches : goal.write-requires-3-clause-reaches
unfolding wrote
write-requires-3-clause-reaches g c =
    let tells = g.S.Space.tells in
    let now = g.S.Space.now in
    let h1 = main_step tells now c.args.space.now c.write.new.self (codes "ONE TWO three") (codes "aabdddddddd") 8 (codes "THREE, four") (codes "ONE TWO THREE, four") c.requires.holds c.in_ok-write.ensures.wrote refl in
    let h2 = side_step tells now c.write.new.self c.write-2.new.self (codes "ONE TWO THREE, four") (codes "aabdddddddd") 11 (codes "e") (codes "aabdddddddde") h1 c.in_ok-write-2.ensures.wrote refl in
    record { file = search rules; inside = main_fits tells now c.write-2.new.self (codes "ONE TWO THREE, four") (codes "aabdddddddde") 19 h2 (lit≤ tt) }

pub write-requires-4-clause-reaches : goal.write-requires-4-clause-reaches
unfolding wrote
write-requires-4-clause-reaches g c =
    let tells = g.S.Space.tells in
    let now = g.S.Space.now in
    let h1 = main_step tells now c.args.space.now c.write.new.self (codes "ONE TWO three") (codes "aabdddddddd") 8 (codes "THREE, four") (codes "ONE TWO THREE, four") c.requires.holds c.in_ok-write.ensures.wrote refl in
    let h2 = side_step tells now c.write.new.self c.write-2.new.self (codes "ONE TWO THREE, four") (codes "aabdddddddd") 11 (codes "e") (codes "aabdddddddde") h1 c.in_ok-write-2.ensures.wrote refl in
    let h3 = main_step tells now c.write-2.new.self c.write-3.new.self (codes "ONE TWO THREE, four") (codes "aabdddddddde") 19 (codes "!") (codes "ONE TWO THREE, four!") h2 c.in_ok-write-3.ensures.wrote refl in
    record { file = search rules; inside = side_fits tells now c.write-3.new.self (codes "ONE TWO THREE, four!") (codes "aabdddddddde") 9 h3 (lit≤ tt) }

pub returns-clause-wrote : goal.returns-clause-wrote
unfolding wrote
returns-clause-wrote g c =
    let tells = g.S.Space.tells in
    let now = g.S.Space.now in
    let h1 = main_step tells now c.args.space.now c.write.new.self (codes "ONE TWO three") (codes "aabdddddddd") 8 (codes "THREE, four") (codes "ONE TWO THREE, four") c.requires.holds c.in_ok-write.ensures.wrote refl in
    let h2 = side_step tells now c.write.new.self c.write-2.new.self (codes "ONE TWO THREE, four") (codes "aabdddddddd") 11 (codes "e") (codes "aabdddddddde") h1 c.in_ok-write-2.ensures.wrote refl in
    let h3 = main_step tells now c.write-2.new.self c.write-3.new.self (codes "ONE TWO THREE, four") (codes "aabdddddddde") 19 (codes "!") (codes "ONE TWO THREE, four!") h2 c.in_ok-write-3.ensures.wrote refl in
    let h4 = side_step tells now c.write-3.new.self c.write-4.new.self (codes "ONE TWO THREE, four!") (codes "aabdddddddde") 9 (codes "CC") (codes "aabddddddCCe") h3 c.in_ok-write-4.ensures.wrote refl in
    h4
