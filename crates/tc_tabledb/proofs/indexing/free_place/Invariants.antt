use Rattle.std.proofs.Common.{◌≤◌}
use Rattle.tc_tabledb.proofs.Places.{NoneFree}
use Rattle.tc_tabledb.proofs.indexing.free_place.Given as goal

abbrev pub invariant-loop-file : goal.invariant-loop-file
invariant-loop-file g l = record {
  least : 3 ≤ l.file;
  none : NoneFree g.L.Multi g.D.Multi l.sides l.file;
}
