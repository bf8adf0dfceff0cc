use Rattle.std.proofs.Common.{◌≤◌, ◌-◌}
use Rattle.ud_log.specs.Scan.{Scanned}
use Rattle.tc_io.specs.Images.{now}
use Rattle.tc_undo.specs.Volumes.{OnlyReads}
use Rattle.tc_undo.proofs.scan.scan.Given as goal

abbrev pub invariant-entries : goal.invariant-entries
invariant-entries g l = record {
  reads : OnlyReads g.V.Volume l.initial.vol l.vol;
  scanned : g.V.Volume.tells → Scanned (now (g.V.Volume.calls l.initial.vol) 1) l.lens l.at l.fine;
  order : l.at ≤ l.len;
}

abbrev pub decreases-entries : goal.decreases-entries
decreases-entries g l = l.len - l.at
