use Rattle.std.proofs.Common.{◌≤◌, length}
use Rattle.ty_base.specs.Holding.{IsReady}
use Rattle.tk_mgr.proofs.Printing.{Lists}
use Rattle.tk_mgr.proofs.listing.print_lines.Given as goal

abbrev pub invariant-loop-rest : goal.invariant-loop-rest
invariant-loop-rest g l = record {
  lists : Lists g.B.S.Space g.B.Storage.holds l.values l.fn.base l.base l.fn.space l.space l.items l.rest (g.O.Sink.taken l.fn.out) (g.O.Sink.taken l.out) l.waiting;
  later : g.O.Sink.faults l.fn.out ≤ g.O.Sink.faults l.out;
  ready : IsReady g.B.S.Space g.B.Storage.holds l.base l.space;
}

abbrev pub decreases-loop-rest : goal.decreases-loop-rest
decreases-loop-rest g l = length l.rest
