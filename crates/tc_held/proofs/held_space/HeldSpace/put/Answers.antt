use Rattle.std.proofs.Common.{length, ap, arith, ℕ, List}
use Rattle.tc_held.specs.Held.{over}
use Rattle.tc_held.proofs.Holding.{written_same}
use Rattle.tc_held.proofs.held_space.HeldSpace.put.Goals as goal

pub make_room-requires-clause-small : goal.make_room-requires-clause-small
make_room-requires-clause-small g c = omega (arith, c.requires.below, g.met.S.Batched.small c.args.self.now.below c.args.file c.requires.sound c.requires.reaches.file)

pub put_some-requires-clause-reaches : goal.put_some-requires-clause-reaches
put_some-requires-clause-reaches g c = record { file = c.requires.reaches.file; inside = λ t. omega (arith, c.requires.reaches.inside t, ap (λ (l : List ℕ). length l) (c.in_ok-make_room.ensures.now t c.args.file)) }

pub put_some-requires-clause-below : goal.put_some-requires-clause-below
put_some-requires-clause-below g c = omega (arith, c.requires.below, ap (λ (limit : ℕ → ℕ). limit c.args.file) c.make_room.ensures.keeps.same_limit)

pub put_some-requires-clause-room : goal.put_some-requires-clause-room
put_some-requires-clause-room g c = omega (arith, c.requires.room, c.in_ok-make_room.ensures.logged)

pub returns-clause-wrote : goal.returns-clause-wrote
returns-clause-wrote g c = λ t.
    let s = g.S.Space in
    let old = c.args.self.now in
    let mid = c.make_room.new.self in
    let new = c.put_some.new.self in
    written_same c.args.file c.args.at c.args.bytes.now (over old.held (s.now old.below)) (over mid.held (s.now mid.below)) (over new.held (s.now new.below)) (c.in_ok-make_room.ensures.now t) (c.in_ok-put_some.ensures.wrote t)
