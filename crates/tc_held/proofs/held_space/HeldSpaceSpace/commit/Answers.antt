use Rattle.std.proofs.Common.{◌≡◌, ◌⊎◌, ◌∙◌, ℕ, List, ap, subst, sym, Option, Some}
use Rattle.tc_base.specs.Files.{Files}
use Rattle.ud_state.specs.State.{AreLens}
use Rattle.tc_held.specs.Held.{over}
use Rattle.tc_held.proofs.History.{follows_told, leaves_told, past_told, rises_told}
use Rattle.tc_held.proofs.Holding.{lens_same}
use Rattle.tc_held.proofs.held_space.HeldSpaceSpace.commit.Goals as goal

pub returns-in-Ok-clause-moments : goal.returns-in-Ok-clause-moments
returns-in-Ok-clause-moments g c = λ t.
    let old = c.args.self.now in
    leaves_told g.S.Space (λ s. s.stood.items) (λ s. s.below) (λ s. s.held) old _ (ap (λ s. s.stood.items) c.commit_below.ensures.same ∙ c.and.ensures) g.met.S.Space.earlier c.requires.rises t
    (λ (o : Option Files). (o ≡ g.S.Space.kept old.below) ⊎ (o ≡ Some (over old.held (g.S.Space.now old.below))))
    (c.commit_below.ensures.moments t)

pub returns-in-Err-clause-moments : goal.returns-in-Err-clause-moments
returns-in-Err-clause-moments g c = λ t.
    let old = c.args.self.now in
    leaves_told g.S.Space (λ s. s.stood.items) (λ s. s.below) (λ s. s.held) old _ (ap (λ s. s.stood.items) c.commit_below.ensures.same ∙ c.and.ensures) g.met.S.Space.earlier c.requires.rises t
    (λ (o : Option Files). (o ≡ g.S.Space.kept old.below) ⊎ (o ≡ Some (over old.held (g.S.Space.now old.below))))
    (c.commit_below.ensures.moments t)

pub returns-in-Ok-clause-past : goal.returns-in-Ok-clause-past
returns-in-Ok-clause-past g c = λ t. past_told g.S.Space (λ s. s.stood.items) (λ s. s.below) (λ s. s.held) c.args.self.now _ (ap (λ s. s.stood.items) c.commit_below.ensures.same ∙ c.and.ensures) (c.requires.rises.each t) (c.commit_below.ensures.past t)

pub returns-in-Err-clause-past : goal.returns-in-Err-clause-past
returns-in-Err-clause-past g c = λ t. past_told g.S.Space (λ s. s.stood.items) (λ s. s.below) (λ s. s.held) c.args.self.now _ (ap (λ s. s.stood.items) c.commit_below.ensures.same ∙ c.and.ensures) (c.requires.rises.each t) (c.commit_below.ensures.past t)

pub returns-in-Ok-clause-follows : goal.returns-in-Ok-clause-follows
returns-in-Ok-clause-follows g c = follows_told g.S.Space (λ s. s.stood.items) (λ s. s.below) (λ s. s.held) c.args.self.now _ (ap (λ s. s.stood.items) c.commit_below.ensures.same ∙ c.and.ensures) c.commit_below.ensures.follows

pub returns-in-Err-clause-follows : goal.returns-in-Err-clause-follows
returns-in-Err-clause-follows g c = follows_told g.S.Space (λ s. s.stood.items) (λ s. s.below) (λ s. s.held) c.args.self.now _ (ap (λ s. s.stood.items) c.commit_below.ensures.same ∙ c.and.ensures) c.commit_below.ensures.follows

pub returns-in-Ok-clause-outcome : goal.returns-in-Ok-clause-outcome
returns-in-Ok-clause-outcome g c = record {
  ok = record {
    good_is = ap (λ s. s.good) c.commit_below.ensures.same ∙ c.requires.good_is;
    below_is = c.in-Ok.ensures.outcome.ok;
    held_is = c.in-Ok.ensures.held;
    lens_are = λ t.
        let s = g.S.Space in
        let old = c.args.self.now in
        let new = c.commit_below.new.self in
        let was = over old.held (s.now old.below) in
        let now = over new.held (s.now new.below) in
        subst (λ (l : List ℕ). AreLens l now) (sym (ap (λ x. x.lens) c.commit_below.ensures.same)) (lens_same old.lens was now (c.in-Ok.ensures.now t) (c.requires.lens_are t));
    bare = λ off. c.in-Ok.ensures.bare;
    rises = rises_told g.S.Space (λ s. s.stood.items) (λ s. s.below) (λ s. s.held) c.args.self.now c.commit_below.new.self (ap (λ s. s.stood.items) c.commit_below.ensures.same ∙ c.and.ensures) (λ t. (c.commit_below.ensures.moments t).later) c.requires.rises;
  };
  err = tt;
}
