use Rattle.std.proofs.Common.{length, ℕ, List, ap, arith, length-drop}
use Rattle.tc_held.specs.Held.{over}
use Rattle.tc_held.proofs.Holding.{needs_less, written_all, written_reaches, written_rest}
use Rattle.tc_held.proofs.held_space.HeldSpace.put_some.Goals as goal

pub hold_some-requires-clause-room : goal.hold_some-requires-clause-room
hold_some-requires-clause-room g c = omega (arith, c.requires.room)

pub returns-then-done-bytes-clause-wrote : goal.returns-then-done-bytes-clause-wrote
returns-then-done-bytes-clause-wrote g c = λ t.
    let s = g.S.Space in
    let old = c.args.self.now in
    let new = c.hold_some.new.self in
    written_all c.args.file c.args.at c.in_ok-done.done c.args.bytes.now (over old.held (s.now old.below)) (over new.held (s.now new.below)) c.if-done-bytes.true (c.in_ok-done.ensures.wrote t)

pub put_through-requires-clause-reaches : goal.put_through-requires-clause-reaches
put_through-requires-clause-reaches g c = record {
  file = c.requires.reaches.file;
  inside = λ t.
      let s = g.S.Space in
      let old = c.args.self.now in
      let mid = c.hold_some.new.self in
      written_reaches c.args.file c.args.at c.in_ok-done.done c.args.bytes.now (over old.held (s.now old.below)) (over mid.held (s.now mid.below)) c.in_ok-done.ensures.most (c.requires.reaches.inside t) (c.in_ok-done.ensures.wrote t);
}

pub put_through-requires-clause-below : goal.put_through-requires-clause-below
put_through-requires-clause-below g c =
    let same = ap (λ (limit : ℕ → ℕ). limit c.args.file) c.in_ok-done.ensures.keeps.same_limit in
    omega (arith, c.requires.below, c.in_ok-done.ensures.most, same, ap (λ (l : List ℕ). length l) c.behind.ensures, length-drop c.in_ok-done.done c.args.bytes.now)

pub put_through-requires-clause-room : goal.put_through-requires-clause-room
put_through-requires-clause-room g c =
    let fewer = needs_less (length c.behind.result.now) (length c.args.bytes.now) (omega (arith, ap (λ (l : List ℕ). length l) c.behind.ensures, length-drop c.in_ok-done.done c.args.bytes.now)) in
    omega (arith, c.requires.room, fewer, c.in_ok-done.ensures.logged)

pub returns-clause-wrote : goal.returns-clause-wrote
returns-clause-wrote g c = λ t.
    let s = g.S.Space in
    let old = c.args.self.now in
    let mid = c.hold_some.new.self in
    let new = c.put_through.new.self in
    written_rest c.args.file c.args.at c.in_ok-done.done c.args.bytes.now c.behind.result.now (over old.held (s.now old.below)) (over mid.held (s.now mid.below)) (over new.held (s.now new.below)) c.in_ok-done.ensures.most c.behind.ensures (c.requires.reaches.inside t) (c.in_ok-done.ensures.wrote t) (c.in_ok-put_through.ensures.wrote t)
