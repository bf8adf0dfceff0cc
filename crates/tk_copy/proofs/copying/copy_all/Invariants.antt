use Rattle.tc_io.specs.Copies.{IsCopyBound, copy_of}
use Rattle.tc_io.specs.Images.{now}
use Rattle.ud_log.specs.Undo.{data_of}
use Rattle.tk_copy.specs.Copying.{AreCopied, ChangesCopy, StaysSpoiled}
use Rattle.tk_copy.proofs.copying.copy_all.Given as goal

abbrev pub invariant-loop-i : goal.invariant-loop-i
invariant-loop-i g l = let v = g.V.Volume in record {
  bound : IsCopyBound (v.bound l.vol) (v.names l.vol);
  copied : v.tells → AreCopied (data_of (now (v.calls l.fn.vol))) (copy_of (v.names l.vol)) l.i;
  spoiled : v.tells → StaysSpoiled (copy_of (v.names l.fn.vol)) (copy_of (v.names l.vol));
  changes : ChangesCopy v l.fn.vol l.vol;
}
