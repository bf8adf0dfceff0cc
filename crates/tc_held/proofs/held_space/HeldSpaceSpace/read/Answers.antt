use Rattle.std.proofs.Common.{◌≡◌, ◌∙◌, ℕ, List, ap, sym, subst}
use Rattle.ud_state.specs.State.{AreLens}
use Rattle.tc_held.specs.Held.{over}
use Rattle.tc_held.proofs.Holding.{lens_same, over_same}
use Rattle.tc_held.proofs.History.{rises_told, stays_told}
use Rattle.tc_held.proofs.held_space.HeldSpaceSpace.read.Goals as goal

pub returns-clause-stays : goal.returns-clause-stays
returns-clause-stays g c =
    stays_told g.S.Space (λ s. s.stood.items) (λ s. s.below) (λ s. s.held) c.args.self.now _ (ap (λ s. s.stood.items) c.read_over.ensures.same ∙ c.and.ensures) g.met.S.Space.earlier c.requires.sound.rises c.read_over.ensures.keeps

pub returns-clause-now : goal.returns-clause-now
returns-clause-now g c = λ t h.
    let old = c.args.self.now in
    let new = c.read_over.new.self in
    ap (λ k. over k (g.S.Space.now new.below) h) (ap (λ s. s.held) c.read_over.ensures.same) ∙ over_same old.held (g.S.Space.now old.below) (g.S.Space.now new.below) h (c.read_over.ensures.now t h)

pub returns-clause-sound : goal.returns-clause-sound
returns-clause-sound g c =
    let s = g.S.Space in
    let was = c.requires.sound in
    let same = c.read_over.ensures.same in
    let old = c.args.self.now in
    let new = c.read_over.new.self in
    record {
      good_is = ap (λ x. x.good) same ∙ was.good_is;
      below_is = c.read_over.ensures.sound;
      held_is = c.read_over.ensures.held;
      lens_are = λ t.
          let now : (h : ℕ) → over new.held (s.now new.below) h ≡ over old.held (s.now old.below) h = λ h.
          ap (λ k. over k (s.now new.below) h) (ap (λ x. x.held) same) ∙ over_same old.held (s.now old.below) (s.now new.below) h (c.read_over.ensures.now t h) in
          subst (λ (l : List ℕ). AreLens l (over new.held (s.now new.below))) (sym (ap (λ x. x.lens) same)) (lens_same old.lens (over old.held (s.now old.below)) (over new.held (s.now new.below)) now (was.lens_are t));
      bare = λ off. let bare = was.bare (sym (ap (λ x. x.touched) same) ∙ off) in record { untouched = c.read_over.ensures.touched ∙ bare.untouched; none = ap (λ x. x.held.pieces.items) same ∙ bare.none };
      rises = rises_told s (λ x. x.stood.items) (λ x. x.below) (λ x. x.held) old new (ap (λ x. x.stood.items) same ∙ c.and.ensures) (λ t. (c.read_over.ensures.keeps.steady t).leaves.later) was.rises;
    }
