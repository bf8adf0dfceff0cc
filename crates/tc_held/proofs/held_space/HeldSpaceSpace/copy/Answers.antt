use Rattle.std.proofs.Common.{◌≡◌, ◌∙◌, sym, subst}
use Rattle.std.proofs.lemmas.Result.{on_ok_weaker}
use Rattle.tc_base.specs.Files.{Files}
use Rattle.tc_io.specs.Copies.{IsCopied, MakesCopy}
use Rattle.tc_held.specs.Held.{over}
use Rattle.tc_held.specs.Lengths.{all_bare, over_bare}
use Rattle.tc_held.proofs.Holding.{held_bare, lens_same, over_same}
use Rattle.tc_held.proofs.History.{rises_told, steady_told}
use Rattle.tc_held.proofs.held_space.HeldSpaceSpace.copy.Goals as goal

pub copy-requires-clause-untouched : goal.copy-requires-clause-untouched
copy-requires-clause-untouched g c = (c.requires.sound.bare c.requires.untouched).untouched

pub returns-clause-copies : goal.returns-clause-copies
returns-clause-copies g c =
    let s = g.S.Space in
    let old = c.args.self.now in
    let new = c.copy.new.self in
    let label = c.args.label.now in
    let none = (c.requires.sound.bare c.requires.untouched).none in
    let bare : s.now old.below ≡ over old.held (s.now old.below) = sym (all_bare old.held (s.now old.below) none) in
    let made = c.copy.ensures.copies in
    record {
      makes = λ t. subst (λ (fs : Files). MakesCopy fs label (s.names old.below) (s.names new)) bare (made.makes t);
      told = made.told;
      let_go = made.let_go;
      steady = λ t. steady_told s (λ x. x.stood.items) (λ x. x.below) (λ x. x.held) old _ c.and.ensures g.met.S.Space.earlier c.requires.sound.rises t (made.steady t);
      same = λ t h. over_bare old.held (s.now new) none h ∙ made.same t h ∙ sym (over_bare old.held (s.now old.below) none h);
      same_limit = made.same_limit;
      later = made.later;
    }

pub returns-clause-copied : goal.returns-clause-copied
returns-clause-copied g c =
    let s = g.S.Space in
    let old = c.args.self.now in
    let new = s.names c.copy.new.self in
    let none = (c.requires.sound.bare c.requires.untouched).none in
    let bare : s.now old.below ≡ over old.held (s.now old.below) = sym (all_bare old.held (s.now old.below) none) in
    on_ok_weaker {P = s.tells → IsCopied (s.now old.below) (new.copies c.args.label.now)} {Q = s.tells → IsCopied (over old.held (s.now old.below)) (new.copies c.args.label.now)} c.copy.result
    (λ copied t. subst (λ (fs : Files). IsCopied fs (new.copies c.args.label.now)) bare (copied t))
    c.copy.ensures.copied

pub returns-clause-sound : goal.returns-clause-sound
returns-clause-sound g c =
    let s = g.S.Space in
    let old = c.args.self.now in
    let was = c.requires.sound in
    let none = (was.bare c.requires.untouched).none in
    record {
      good_is = was.good_is;
      below_is = c.copy.ensures.sound;
      held_is = held_bare s g.S.Batched.logged c.copy.new.self old.held was.held_is.tidy none (g.met.S.Batched.low c.copy.new.self c.copy.ensures.sound);
      lens_are = λ t.
          let new = c.copy.new.self in
          lens_same old.lens (over old.held (s.now old.below)) (over old.held (s.now new)) (λ h. over_same old.held (s.now old.below) (s.now new) h ((c.copy.ensures.copies.same) t h)) (was.lens_are t);
      bare = λ off. record { untouched = c.copy.ensures.touched; none = none };
      rises = rises_told s (λ x. x.stood.items) (λ x. x.below) (λ x. x.held) old (record old { stood = c.and.result; below = c.copy.new.self }) c.and.ensures (λ t. (c.copy.ensures.copies.steady t).leaves.later) was.rises;
    }
