use Rattle.std.proofs.Common.{◌≡◌, ◌∙◌, ℕ, List, length, get_or, ap, arith, inl, inr, refl, subst, sym, ⊎_elim}
use Rattle.tc_space.specs.Frames.{keeps_refl}
use Rattle.tc_space.specs.declared.errors.SpaceErr.TheVariants.{Fault, Full, Memory}
use Rattle.ud_state.specs.State.{AreLens}
use Rattle.tc_undo.specs.Usable.{data_file}
use Rattle.tc_held.specs.Held.{over}
use Rattle.tc_held.proofs.History.{on_off, rises_told, stays_told}
use Rattle.tc_held.proofs.Holding.{lens_set, written_long}
use Rattle.tc_held.proofs.held_space.HeldSpaceSpace.write.Goals as goal

pub place-i-requires : goal.place-i-requires
place-i-requires g c = data_file c.args.file c.requires.reaches.file

pub has_room-requires-clause-small : goal.has_room-requires-clause-small
has_room-requires-clause-small g c = omega (arith, c.ends_within.ensures.within c.if-not-ends_within.false, g.met.S.Batched.small c.args.self.now.below c.args.file c.requires.sound.below_is c.requires.reaches.file)

pub returns-then-not-ends_within-clause-stays : goal.returns-then-not-ends_within-clause-stays
returns-then-not-ends_within-clause-stays g c =
    stays_told g.S.Space (λ s. s.stood.items) (λ s. s.below) (λ s. s.held) c.args.self.now _ (ap (λ s. s.stood.items) c.refuse.ensures.same ∙ c.and.ensures) g.met.S.Space.earlier c.requires.sound.rises c.refuse.ensures.keeps

pub returns-then-not-ends_within-clause-outcome : goal.returns-then-not-ends_within-clause-outcome
returns-then-not-ends_within-clause-outcome g c = record { ok = tt; err = ap (λ s. s.good) c.refuse.ensures.same }

pub returns-then-not-ends_within-clause-touches : goal.returns-then-not-ends_within-clause-touches
returns-then-not-ends_within-clause-touches g c = record { marked = ap (λ s. s.touched) c.refuse.ensures.same; same_read = ap (λ s. s.read) c.refuse.ensures.same }

pub returns-then-not-ends_within-clause-full : goal.returns-then-not-ends_within-clause-full
returns-then-not-ends_within-clause-full g c = λ full.
    let e : c.refuse.result ≡ Full = cc in
    record { by = inl (c.ends_within.ensures.past c.if-not-ends_within.true); same = (c.refuse.ensures.full e).same }

pub returns-then-not-ends_within-clause-brought : goal.returns-then-not-ends_within-clause-brought
returns-then-not-ends_within-clause-brought g c = λ full past. let e : c.refuse.result ≡ Full = cc in ((c.refuse.ensures.full e).none, g.met.S.Batched.all c.refuse.new.self.below)

pub returns-then-not-ends_within-clause-cause : goal.returns-then-not-ends_within-clause-cause
returns-then-not-ends_within-clause-cause g c = ((λ is. let e : c.refuse.result ≡ Fault = cc in c.refuse.ensures.fault e), (λ is. let e : c.refuse.result ≡ Memory = cc in c.refuse.ensures.which e))

pub returns-then-not-has_room-clause-stays : goal.returns-then-not-has_room-clause-stays
returns-then-not-has_room-clause-stays g c =
    stays_told g.S.Space (λ s. s.stood.items) (λ s. s.below) (λ s. s.held) c.args.self.now _ c.and.ensures g.met.S.Space.earlier c.requires.sound.rises (keeps_refl g.S.Space c.args.self.now.below)

pub returns-then-not-has_room-clause-full : goal.returns-then-not-has_room-clause-full
returns-then-not-has_room-clause-full g c = λ _.
    let below = c.args.self.now.below in
    let high = c.has_room.ensures.none c.if-not-has_room.true in
    record {
      by = inr (high, g.met.S.Batched.half below c.requires.sound.below_is (omega (arith, high, c.ends_within.ensures.within c.if-not-ends_within.false, g.met.S.Batched.small below c.args.file c.requires.sound.below_is c.requires.reaches.file)));
      same = λ t h. refl;
    }

pub returns-then-not-has_room-clause-brought : goal.returns-then-not-has_room-clause-brought
returns-then-not-has_room-clause-brought g c = λ full past. absurd (omega (arith, past, c.ends_within.ensures.within c.if-not-ends_within.false))

pub returns-in-Ok-clause-stays : goal.returns-in-Ok-clause-stays
returns-in-Ok-clause-stays g c =
    stays_told g.S.Space (λ s. s.stood.items) (λ s. s.below) (λ s. s.held) c.args.self.now _ (ap (λ s. s.stood.items) c.put.ensures.same ∙ c.and.ensures) g.met.S.Space.earlier c.requires.sound.rises c.put.ensures.keeps

pub returns-in-Err-clause-stays : goal.returns-in-Err-clause-stays
returns-in-Err-clause-stays g c =
    stays_told g.S.Space (λ s. s.stood.items) (λ s. s.below) (λ s. s.held) c.args.self.now _ (ap (λ s. s.stood.items) c.put.ensures.same ∙ c.and.ensures) g.met.S.Space.earlier c.requires.sound.rises c.put.ensures.keeps

pub returns-in-Ok-clause-outcome : goal.returns-in-Ok-clause-outcome
returns-in-Ok-clause-outcome g c = record {
  ok = record {
    good_is = ap (λ s. s.good) c.put.ensures.same ∙ c.requires.sound.good_is;
    below_is = c.in-Ok.ensures.sound;
    held_is = c.in-Ok.ensures.held;
    lens_are = λ t.
        let s = g.S.Space in
        let old = c.args.self.now in
        let new = c.put.new.self in
        let f = c.args.file in
        let isd = data_file f c.requires.reaches.file in
        let was = over old.held (s.now old.below) in
        let now = over new.held (s.now new.below) in
        let w = c.in-Ok.ensures.wrote t in
        let are : AreLens new.lens was = subst (λ (l : List ℕ). AreLens l was) (sym (ap (λ x. x.lens) c.put.ensures.same)) (c.requires.sound.lens_are t) in
        let item : get_or new.lens c.place-i.result 0 ≡ length (was f) = ap (λ k. get_or new.lens k 0) c.place-i.ensures.place ∙ are.at f isd in
        lens_set new.lens was now f c.place-i.result c.max.result isd c.place-i.ensures.place (omega (arith, c.max.ensures, item, written_long f c.args.at c.args.bytes.now was now (c.requires.reaches.inside t) w)) w.others are;
    bare = λ off. absurd (on_off (ap (λ s. s.touched) c.put.ensures.same) off);
    rises = rises_told g.S.Space (λ s. s.stood.items) (λ s. s.below) (λ s. s.held) c.args.self.now c.put.new.self (ap (λ s. s.stood.items) c.put.ensures.same ∙ c.and.ensures) (λ t. (c.put.ensures.keeps.steady t).leaves.later) c.requires.sound.rises;
  };
  err = tt;
}

pub returns-in-Ok-clause-wrote : goal.returns-in-Ok-clause-wrote
returns-in-Ok-clause-wrote g c = λ t.
    let w = c.in-Ok.ensures.wrote t in
    record { here = w.here; others = w.others }

pub returns-in-Ok-clause-room : goal.returns-in-Ok-clause-room
returns-in-Ok-clause-room g c = λ passes.
    let room = c.has_room.ensures.room c.if-not-has_room.false in
    ⊎_elim (λ high. omega (arith, high, c.ends_within.ensures.within c.if-not-ends_within.false)) (λ full. omega (arith, full, room)) passes
