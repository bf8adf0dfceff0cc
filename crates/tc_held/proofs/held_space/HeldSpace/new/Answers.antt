use Rattle.std.proofs.Common.{refl}
use Rattle.tc_held.specs.Held.{over}
use Rattle.tc_held.specs.Lengths.{over_bare}
use Rattle.tc_held.proofs.Holding.{held_bare, lens_same, tidy_bare}
use Rattle.tc_held.proofs.History.{rises_none}
use Rattle.tc_held.proofs.held_space.HeldSpace.new.Goals as goal

pub returns-clause-sound : goal.returns-clause-sound
returns-clause-sound g c = record {
  good_is = refl;
  below_is = c.requires.sound;
  held_is = held_bare g.S.Space g.S.Batched.logged c.args.below c.clear.new.self (tidy_bare c.clear.new.self c.clear.ensures.0 c.clear.ensures.1) c.clear.ensures.0 (g.met.S.Batched.low c.args.below c.requires.sound);
  lens_are = λ t. let now = g.S.Space.now c.args.below in
      lens_same c.lens_of-lens.result now (over c.clear.new.self now) (over_bare c.clear.new.self now c.clear.ensures.0) (c.lens_of-lens.ensures t);
  bare = λ off. record { untouched = c.requires.untouched; none = c.clear.ensures.0 };
  rises = rises_none g.S.Space _ c.args.below c.new.ensures;
}
