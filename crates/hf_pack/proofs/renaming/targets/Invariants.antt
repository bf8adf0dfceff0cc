use Rattle.std.proofs.Common.{◌≡◌, ◌+◌, ◌^◌, ◌≤◌, ℕ, List, length}
use Rattle.std.specs.Ordering.{nat_cmp}
use Rattle.std.specs.BTreeMap as tree
use Rattle.hf_block.specs.Pieces.{Piece, AllWhole, placed, spell_all}
use Rattle.hf_pack.proofs.Moved.{TargetsSo}
use Rattle.hf_pack.proofs.renaming.targets.Given as goal

abbrev pub invariant-loop-i : goal.invariant-loop-i
invariant-loop-i l = (u : ℕ) (ps : List Piece) → AllWhole u ps → l.blocks ≡ placed l.first ps → l.first + length (spell_all ps) ≤ 2 ^ 40 → TargetsSo l.first ps l.i l.to (tree.get nat_cmp l.all)
