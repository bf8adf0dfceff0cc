use Rattle.std.proofs.Common.{rules, ◌≡◌, ◌∙◌, ◌+◌, ◌-◌, ◌≤◌, take, drop, length, refl, List, ℕ, ap, subst, arith, length-drop, length-take}
use Rattle.tc_space.specs.Frames.{keeps_refl, keeps_then}
use Rattle.tc_held.specs.Held.{Written, over}
use Rattle.tc_held.proofs.Holding.{over_same, written_long, written_same}
use Rattle.tc_held.proofs.Narrowed.{written_none, written_slice}
use Rattle.tc_held.proofs.held_space.HeldSpace.hold_changed.Goals as goal

pub loop-done-init : goal.loop-done-init
loop-done-init g c =
    let old = c.args.self.now in
    record {
      le = omega arith;
      sound = c.requires.sound;
      held = c.requires.held;
      wrote = λ t. written_none c.args.file c.args.at (over old.held (g.S.Space.now old.below));
      keeps = keeps_refl g.S.Space old.below;
      logged = refl;
      same = refl;
    }

pub read_front-requires-clause-reaches : goal.read_front-requires-clause-reaches
read_front-requires-clause-reaches g c = record {
  file = c.requires.reaches.file;
  inside = λ t.
      let s = g.S.Space in
      let old = c.args.self.now in
      let cur = c.loop-done.self in
      let long = written_long c.args.file c.args.at (take c.loop-done.done c.args.bytes.now) (over old.held (s.now old.below)) (over cur.held (s.now cur.below)) (omega (arith, c.requires.reaches.inside t)) (c.loop-done.invariant.wrote t) in
      omega (arith, long, c.requires.reaches.inside t, c.loop-done.invariant.le, c.min-long.ensures);
}

pub returns-then-n-eq0-clause-wrote : goal.returns-then-n-eq0-clause-wrote
returns-then-n-eq0-clause-wrote g c =
    let s = g.S.Space in
    let old = c.args.self.now in
    let cur = c.loop-done.self in
    let mid = c.read_front.new.self in
    let new = c.hold_blocks-n.new.self in
    let bs = c.args.bytes.now in
    let f = c.args.file in
    let at = c.args.at in
    let done = c.loop-done.done in
    let long = c.min-long.result in
    let n = c.hold_blocks-n.result in
    let few : n ≤ done + long - done = omega (arith, c.hold_blocks-n.ensures.most, length-take (done + long - done) (drop done bs)) in
    let none : done + n ≡ done = omega (arith, c.if-n-eq0.true) in
    λ t.
    let second = written_same f (at + done) (take n (take (done + long - done) (drop done bs))) (over cur.held (s.now cur.below)) (over mid.held (s.now mid.below)) (over new.held (s.now new.below))
    (λ h. ap (λ x. over x (s.now mid.below) h) (ap (λ x. x.held) c.read_front.ensures.same) ∙ over_same cur.held (s.now cur.below) (s.now mid.below) h (c.in_ok-read_front.ensures.now t h))
    (c.hold_blocks-n.ensures.wrote t) in
    subst (λ m. Written f at (take m bs) (over old.held (s.now old.below)) (over new.held (s.now new.below))) none
    (written_slice f at done n (done + long - done) bs (over old.held (s.now old.below)) (over cur.held (s.now cur.below)) (over new.held (s.now new.below)) c.loop-done.invariant.le few (omega (arith, c.requires.reaches.inside t)) (c.loop-done.invariant.wrote t) second)

pub loop-done-preserved : goal.loop-done-preserved
loop-done-preserved g c =
    let s = g.S.Space in
    let old = c.args.self.now in
    let cur = c.loop-done.self in
    let mid = c.read_front.new.self in
    let new = c.hold_blocks-n.new.self in
    let bs = c.args.bytes.now in
    let f = c.args.file in
    let at = c.args.at in
    let done = c.loop-done.done in
    let long = c.min-long.result in
    let n = c.hold_blocks-n.result in
    let few : n ≤ done + long - done = omega (arith, c.hold_blocks-n.ensures.most, length-take (done + long - done) (drop done bs)) in
    record {
      le = omega (arith, c.loop-done.invariant.le, few, c.min-long.ensures);
      sound = c.hold_blocks-n.ensures.sound;
      held = c.hold_blocks-n.ensures.held;
      wrote = λ t.
          let second = written_same f (at + done) (take n (take (done + long - done) (drop done bs))) (over cur.held (s.now cur.below)) (over mid.held (s.now mid.below)) (over new.held (s.now new.below))
          (λ h. ap (λ x. over x (s.now mid.below) h) (ap (λ x. x.held) c.read_front.ensures.same) ∙ over_same cur.held (s.now cur.below) (s.now mid.below) h (c.in_ok-read_front.ensures.now t h))
          (c.hold_blocks-n.ensures.wrote t) in
          written_slice f at done n (done + long - done) bs (over old.held (s.now old.below)) (over cur.held (s.now cur.below)) (over new.held (s.now new.below)) c.loop-done.invariant.le few (omega (arith, c.requires.reaches.inside t)) (c.loop-done.invariant.wrote t) second;
      keeps = keeps_then s old.below cur.below new.below c.loop-done.invariant.keeps (keeps_then s cur.below mid.below new.below c.read_front.ensures.keeps c.hold_blocks-n.ensures.keeps);
      logged = c.hold_blocks-n.ensures.logged ∙ c.read_front.ensures.logged ∙ c.loop-done.invariant.logged;
      same = search rules;
    }
