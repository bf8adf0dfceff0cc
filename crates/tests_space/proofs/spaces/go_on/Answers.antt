use Rattle.std.proofs.Common.{refl, lit≤, rules}
use Rattle.std.specs.Prelude.{codes}
use Rattle.tc_base.specs.Files.{wrote}
use Rattle.tests_space.proofs.Steps.{main_step, side_step, main_fits, side_fits}
use Rattle.tests_space.proofs.spaces.go_on.Goals as goal

pub write-requires-clause-reaches : goal.write-requires-clause-reaches
unfolding wrote
write-requires-clause-reaches g c =
    let tells = g.S.Space.tells in
    let now = g.S.Space.now in
    record { file = search rules; inside = main_fits tells now c.args.space.now (codes "one two three") (codes "aabbbb") 4 c.requires.holds (lit≤ tt) }

pub write-requires-2-clause-reaches : goal.write-requires-2-clause-reaches
unfolding wrote
write-requires-2-clause-reaches g c =
    let tells = g.S.Space.tells in
    let now = g.S.Space.now in
    let h1 = main_step tells now c.args.space.now c.write.new.self (codes "one two three") (codes "aabbbb") 4 (codes "TWO") (codes "one TWO three") c.requires.holds c.in_ok-write.ensures.wrote refl in
    record { file = search rules; inside = side_fits tells now c.write.new.self (codes "one TWO three") (codes "aabbbb") 6 h1 (lit≤ tt) }

pub write-requires-3-clause-reaches : goal.write-requires-3-clause-reaches
unfolding wrote
write-requires-3-clause-reaches g c =
    let tells = g.S.Space.tells in
    let now = g.S.Space.now in
    let h1 = main_step tells now c.args.space.now c.write.new.self (codes "one two three") (codes "aabbbb") 4 (codes "TWO") (codes "one TWO three") c.requires.holds c.in_ok-write.ensures.wrote refl in
    let h2 = side_step tells now c.write.new.self c.write-2.new.self (codes "one TWO three") (codes "aabbbb") 6 (codes "cc") (codes "aabbbbcc") h1 c.in_ok-write-2.ensures.wrote refl in
    record { file = search rules; inside = main_fits tells now c.write-2.new.self (codes "one TWO three") (codes "aabbbbcc") 0 h2 (lit≤ tt) }

pub write-requires-4-clause-reaches : goal.write-requires-4-clause-reaches
unfolding wrote
write-requires-4-clause-reaches g c =
    let tells = g.S.Space.tells in
    let now = g.S.Space.now in
    let h1 = main_step tells now c.args.space.now c.write.new.self (codes "one two three") (codes "aabbbb") 4 (codes "TWO") (codes "one TWO three") c.requires.holds c.in_ok-write.ensures.wrote refl in
    let h2 = side_step tells now c.write.new.self c.write-2.new.self (codes "one TWO three") (codes "aabbbb") 6 (codes "cc") (codes "aabbbbcc") h1 c.in_ok-write-2.ensures.wrote refl in
    let h3 = main_step tells now c.write-2.new.self c.write-3.new.self (codes "one TWO three") (codes "aabbbbcc") 0 (codes "ONE") (codes "ONE TWO three") h2 c.in_ok-write-3.ensures.wrote refl in
    record { file = search rules; inside = side_fits tells now c.write-3.new.self (codes "ONE TWO three") (codes "aabbbbcc") 3 h3 (lit≤ tt) }

pub returns-clause-wrote : goal.returns-clause-wrote
unfolding wrote
returns-clause-wrote g c =
    let tells = g.S.Space.tells in
    let now = g.S.Space.now in
    let h1 = main_step tells now c.args.space.now c.write.new.self (codes "one two three") (codes "aabbbb") 4 (codes "TWO") (codes "one TWO three") c.requires.holds c.in_ok-write.ensures.wrote refl in
    let h2 = side_step tells now c.write.new.self c.write-2.new.self (codes "one TWO three") (codes "aabbbb") 6 (codes "cc") (codes "aabbbbcc") h1 c.in_ok-write-2.ensures.wrote refl in
    let h3 = main_step tells now c.write-2.new.self c.write-3.new.self (codes "one TWO three") (codes "aabbbbcc") 0 (codes "ONE") (codes "ONE TWO three") h2 c.in_ok-write-3.ensures.wrote refl in
    let h4 = side_step tells now c.write-3.new.self c.write-4.new.self (codes "ONE TWO three") (codes "aabbbbcc") 3 (codes "dddddddd") (codes "aabdddddddd") h3 c.in_ok-write-4.ensures.wrote refl in
    h4
