use Rattle.std.proofs.Common.{◌-◌, ◌≡◌, ◌≤◌, ℕ, take, length}
use Rattle.tc_io.specs.Copies.{IsCopyBound, copy_of}
use Rattle.tc_io.specs.Images.{now, of}
use Rattle.tk_copy.specs.Copying.{ChangesCopy, StaysSpoiled}
use Rattle.tk_copy.proofs.copying.copy_bytes.Given as goal

abbrev pub invariant-loop-at : goal.invariant-loop-at
invariant-loop-at g l = let v = g.V.Volume in record {
  low : l.at ≤ l.len;
  len : v.tells → l.len ≡ length (now (v.calls l.vol) l.file);
  bound : IsCopyBound (v.bound l.vol) (v.names l.vol);
  so_far : v.tells → now (copy_of (v.names l.vol)) l.file ≡ take l.at (now (v.calls l.vol) l.file);
  others : v.tells → (h : ℕ) → (l.file ≡ h → ⊥) → of h (copy_of (v.names l.vol)) ≡ of h (copy_of (v.names l.fn.vol));
  spoiled : v.tells → StaysSpoiled (copy_of (v.names l.fn.vol)) (copy_of (v.names l.vol));
  changes : ChangesCopy v l.fn.vol l.vol;
}

abbrev pub decreases-loop-at : goal.decreases-loop-at
decreases-loop-at g l = l.len - l.at
