use Rattle.std.proofs.Common.{◌≡◌, ◌∙◌, ℕ, ◌≤◌, List, length, get_or, take, ap, arith, refl, subst, sym}
use Rattle.tc_space.specs.Frames.{keeps_refl}
use Rattle.ud_state.specs.State.{AreLens}
use Rattle.ud_state.proofs.Changing.{length_cut}
use Rattle.tc_undo.specs.Usable.{data_file}
use Rattle.tc_held.specs.Held.{over}
use Rattle.tc_held.specs.Laws.{held_within}
use Rattle.tc_held.proofs.Holding.{lens_set}
use Rattle.tc_held.proofs.History.{on_off, rises_told, stays_told}
use Rattle.tc_held.proofs.held_space.HeldSpaceSpace.cut.Goals as goal

pub place-i-requires : goal.place-i-requires
place-i-requires g c = data_file c.args.file c.requires.reaches.file

pub returns-in-Ok-clause-cut : goal.returns-in-Ok-clause-cut
returns-in-Ok-clause-cut g c = λ t. let k = c.in-Ok.ensures.cut t in
    record { here = k.here; others = k.others }

pub returns-then-not-has_room-clause-stays : goal.returns-then-not-has_room-clause-stays
returns-then-not-has_room-clause-stays g c =
    stays_told g.S.Space (λ s. s.stood.items) (λ s. s.below) (λ s. s.held) c.args.self.now _ c.and.ensures g.met.S.Space.earlier c.requires.sound.rises (keeps_refl g.S.Space c.args.self.now.below)

pub returns-then-not-has_room-clause-full : goal.returns-then-not-has_room-clause-full
returns-then-not-has_room-clause-full g c = λ _.
    let s = g.S.Space in
    let old = c.args.self.now in
    let f = c.args.file in
    let sound = c.requires.sound in
    let high = c.has_room.ensures.none c.if-not-has_room.true in
    record {
      by = (
        λ t.
            let item : get_or old.lens c.place-i.result 0 ≡ length (over old.held (s.now old.below) f) = ap (λ k. get_or old.lens k 0) c.place-i.ensures.place ∙ (sound.lens_are t).at f (data_file f c.requires.reaches.file) in
            let low : length (over old.held (s.now old.below) f) ≤ s.limit old.below f = held_within old.below old.held f sound.held_is (g.met.S.Space.within old.below f t sound.below_is c.requires.reaches.file) in
            omega (arith, high, c.min-size.ensures, c.saturating_sub.ensures, item, low, g.met.S.Batched.small old.below f sound.below_is c.requires.reaches.file),
        g.met.S.Batched.half old.below sound.below_is (omega (arith, high, c.min-size.ensures)),
      );
      same = λ t h. refl;
    }

pub returns-in-Ok-clause-stays : goal.returns-in-Ok-clause-stays
returns-in-Ok-clause-stays g c =
    stays_told g.S.Space (λ s. s.stood.items) (λ s. s.below) (λ s. s.held) c.args.self.now _ (ap (λ s. s.stood.items) c.cut_below.ensures.same ∙ c.and.ensures) g.met.S.Space.earlier c.requires.sound.rises c.cut_below.ensures.keeps

pub returns-in-Err-clause-stays : goal.returns-in-Err-clause-stays
returns-in-Err-clause-stays g c =
    stays_told g.S.Space (λ s. s.stood.items) (λ s. s.below) (λ s. s.held) c.args.self.now _ (ap (λ s. s.stood.items) c.cut_below.ensures.same ∙ c.and.ensures) g.met.S.Space.earlier c.requires.sound.rises c.cut_below.ensures.keeps

pub returns-in-Err-clause-full : goal.returns-in-Err-clause-full
returns-in-Err-clause-full g c = λ full. let f = c.in-Err.ensures.full full in
    record { by = (f.by, f.log); same = f.same }

pub returns-in-Ok-clause-outcome : goal.returns-in-Ok-clause-outcome
returns-in-Ok-clause-outcome g c = record {
  ok = record {
    good_is = ap (λ s. s.good) c.cut_below.ensures.same ∙ c.requires.sound.good_is;
    below_is = c.in-Ok.ensures.outcome.ok;
    held_is = c.in-Ok.ensures.held;
    lens_are = λ t.
        let s = g.S.Space in
        let old = c.args.self.now in
        let new = c.cut_below.new.self in
        let f = c.args.file in
        let isd = data_file f c.requires.reaches.file in
        let was = over old.held (s.now old.below) in
        let now = over new.held (s.now new.below) in
        let k = c.in-Ok.ensures.cut t in
        let are : AreLens new.lens was = subst (λ (l : List ℕ). AreLens l was) (sym (ap (λ x. x.lens) c.cut_below.ensures.same)) (c.requires.sound.lens_are t) in
        let item : get_or new.lens c.place-i.result 0 ≡ length (was f) = ap (λ j. get_or new.lens j 0) c.place-i.ensures.place ∙ are.at f isd in
        let long : length (now f) ≡ length (take c.args.len (was f)) = ap (λ (l : List ℕ). length l) k.here in
        lens_set new.lens was now f c.place-i.result c.min.result isd c.place-i.ensures.place (omega (arith, c.min.ensures, item, long, length_cut c.args.len (was f))) k.others are;
    bare = λ off. absurd (on_off (ap (λ s. s.touched) c.cut_below.ensures.same) off);
    rises = rises_told g.S.Space (λ s. s.stood.items) (λ s. s.below) (λ s. s.held) c.args.self.now c.cut_below.new.self (ap (λ s. s.stood.items) c.cut_below.ensures.same ∙ c.and.ensures) (λ t. (c.cut_below.ensures.keeps.steady t).leaves.later) c.requires.sound.rises;
  };
  err = tt;
}

pub returns-in-Ok-clause-room : goal.returns-in-Ok-clause-room
returns-in-Ok-clause-room g c = λ t high.
    let s = g.S.Space in
    let old = c.args.self.now in
    let f = c.args.file in
    let sound = c.requires.sound in
    let room = c.has_room.ensures.room c.if-not-has_room.false in
    let item : get_or old.lens c.place-i.result 0 ≡ length (over old.held (s.now old.below) f) = ap (λ k. get_or old.lens k 0) c.place-i.ensures.place ∙ (sound.lens_are t).at f (data_file f c.requires.reaches.file) in
    let low : length (over old.held (s.now old.below) f) ≤ s.limit old.below f = held_within old.below old.held f sound.held_is (g.met.S.Space.within old.below f t sound.below_is c.requires.reaches.file) in
    omega (arith, high, room, c.min-size.ensures, c.saturating_sub.ensures, item, low, g.met.S.Batched.small old.below f sound.below_is c.requires.reaches.file)
