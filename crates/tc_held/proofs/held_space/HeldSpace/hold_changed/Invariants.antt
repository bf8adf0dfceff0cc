use Rattle.std.proofs.Common.{◌≡◌, ◌-◌, ◌≤◌, length, take}
use Rattle.tc_space.specs.Frames.{Keeps}
use Rattle.tc_held.specs.Held.{IsHeld, Written, over}
use Rattle.tc_held.proofs.held_space.HeldSpace.hold_changed.Given as goal

abbrev pub invariant-loop-done : goal.invariant-loop-done
invariant-loop-done g l = record {
  le : l.done ≤ length l.bytes;
  sound : g.S.Space.sound l.self.below;
  held : IsHeld g.S.Space g.S.Batched.logged l.self.below l.self.held;
  wrote : g.S.Space.tells → Written l.file l.at (take l.done l.bytes) (over l.initial.self.held (g.S.Space.now l.initial.self.below)) (over l.self.held (g.S.Space.now l.self.below));
  keeps : Keeps g.S.Space l.initial.self.below l.self.below;
  logged : g.S.Batched.logged l.self.below ≡ g.S.Batched.logged l.initial.self.below;
  same : l.self ≡ record l.initial.self { below = l.self.below; held = l.self.held };
}

abbrev pub decreases-loop-done : goal.decreases-loop-done
decreases-loop-done g l = length l.bytes - l.done
