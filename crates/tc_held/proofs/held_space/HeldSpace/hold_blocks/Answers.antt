use Rattle.std.proofs.Common.{rules, ◌≡◌, ◌∙◌, ◌+◌, ◌-◌, ◌≤◌, take, drop, length, refl, sym, List, ℕ, ap, subst, arith, length-drop, length-take}
use Rattle.tc_space.specs.Frames.{keeps_refl, keeps_then}
use Rattle.tc_held.specs.Held.{Written, over}
use Rattle.tc_held.proofs.Holding.{written_long}
use Rattle.tc_held.proofs.Narrowed.{written_alike, written_none, written_slice}
use Rattle.tc_held.proofs.held_space.HeldSpace.hold_blocks.Goals as goal

pub loop-done-init : goal.loop-done-init
loop-done-init g c =
    let old = c.args.self.now in
    record {
      le = omega arith;
      sound = c.requires.sound;
      held = c.requires.held;
      wrote = λ t. written_none c.args.file c.args.at (over old.held (g.S.Space.now old.below));
      keeps = keeps_refl g.S.Space old.below;
      logged = refl;
      same = refl;
    }

pub hold-n-requires-clause-reaches : goal.hold-n-requires-clause-reaches
hold-n-requires-clause-reaches g c =
    let s = g.S.Space in
    let old = c.args.self.now in
    let mid = c.loop-done.self in
    let bs = c.args.bytes.now in
    let was = c.args.was.now in
    let f = c.args.file in
    let at = c.args.at in
    let done = c.loop-done.done in
    let k = c.alike_front.result in
    let most : done + k ≤ length bs = omega (arith, c.loop-done.invariant.le, c.alike_front.ensures.most, ap (λ (l : List ℕ). length l) c.behind.ensures, length-drop done was, c.requires.long) in
    let alike = ap (λ (l : List ℕ). take k l) (sym c.behind.ensures) ∙ c.alike_front.ensures.same ∙ ap (λ (l : List ℕ). take k l) c.behind-in-loop-done.ensures in
    record {
      file = c.requires.reaches.file;
      inside = λ t.
          let first = written_alike f at done k bs was (over old.held (s.now old.below)) (over mid.held (s.now mid.below)) most (c.requires.stands t) alike (c.loop-done.invariant.wrote t) in
          let long = written_long f at (take (done + k) bs) (over old.held (s.now old.below)) (over mid.held (s.now mid.below)) (omega (arith, c.requires.reaches.inside t)) first in
          omega (arith, long, c.requires.reaches.inside t, most);
    }

pub returns-then-next-n-clause-wrote : goal.returns-then-next-n-clause-wrote
returns-then-next-n-clause-wrote g c =
    let s = g.S.Space in
    let old = c.args.self.now in
    let mid = c.loop-done.self in
    let bs = c.args.bytes.now in
    let was = c.args.was.now in
    let f = c.args.file in
    let at = c.args.at in
    let done = c.loop-done.done in
    let k = c.alike_front.result in
    let new = c.hold-n.new.self in
    let n = c.hold-n.result in
    let other = c.differing_front-other.result in
    let most : done + k ≤ length bs = omega (arith, c.loop-done.invariant.le, c.alike_front.ensures.most, ap (λ (l : List ℕ). length l) c.behind.ensures, length-drop done was, c.requires.long) in
    let alike = ap (λ (l : List ℕ). take k l) (sym c.behind.ensures) ∙ c.alike_front.ensures.same ∙ ap (λ (l : List ℕ). take k l) c.behind-in-loop-done.ensures in
    let few : n ≤ done + k + other - (done + k) = omega (arith, c.hold-n.ensures.most, length-take (done + k + other - (done + k)) (drop (done + k) bs)) in
    let none : done + k + n ≡ done = omega (arith, c.if-next-n.true) in
    λ t.
    let first = written_alike f at done k bs was (over old.held (s.now old.below)) (over mid.held (s.now mid.below)) most (c.requires.stands t) alike (c.loop-done.invariant.wrote t) in
    subst (λ m. Written f at (take m bs) (over old.held (s.now old.below)) (over new.held (s.now new.below))) none
    (written_slice f at (done + k) n (done + k + other - (done + k)) bs (over old.held (s.now old.below)) (over mid.held (s.now mid.below)) (over new.held (s.now new.below)) most few (omega (arith, c.requires.reaches.inside t)) first (c.hold-n.ensures.wrote t))

pub loop-done-preserved : goal.loop-done-preserved
loop-done-preserved g c =
    let s = g.S.Space in
    let old = c.args.self.now in
    let mid = c.loop-done.self in
    let bs = c.args.bytes.now in
    let was = c.args.was.now in
    let f = c.args.file in
    let at = c.args.at in
    let done = c.loop-done.done in
    let k = c.alike_front.result in
    let new = c.hold-n.new.self in
    let n = c.hold-n.result in
    let other = c.differing_front-other.result in
    let most : done + k ≤ length bs = omega (arith, c.loop-done.invariant.le, c.alike_front.ensures.most, ap (λ (l : List ℕ). length l) c.behind.ensures, length-drop done was, c.requires.long) in
    let alike = ap (λ (l : List ℕ). take k l) (sym c.behind.ensures) ∙ c.alike_front.ensures.same ∙ ap (λ (l : List ℕ). take k l) c.behind-in-loop-done.ensures in
    let few : n ≤ done + k + other - (done + k) = omega (arith, c.hold-n.ensures.most, length-take (done + k + other - (done + k)) (drop (done + k) bs)) in
    record {
      le = omega (arith, most, c.hold-n.ensures.most, length-take (done + k + other - (done + k)) (drop (done + k) bs), length-drop (done + k) bs);
      sound = c.hold-n.ensures.sound;
      held = c.hold-n.ensures.held;
      wrote = λ t.
          let first = written_alike f at done k bs was (over old.held (s.now old.below)) (over mid.held (s.now mid.below)) most (c.requires.stands t) alike (c.loop-done.invariant.wrote t) in
          written_slice f at (done + k) n (done + k + other - (done + k)) bs (over old.held (s.now old.below)) (over mid.held (s.now mid.below)) (over new.held (s.now new.below)) most few (omega (arith, c.requires.reaches.inside t)) first (c.hold-n.ensures.wrote t);
      keeps = keeps_then s old.below mid.below new.below c.loop-done.invariant.keeps c.hold-n.ensures.keeps;
      logged = c.hold-n.ensures.logged ∙ c.loop-done.invariant.logged;
      same = search rules;
    }
