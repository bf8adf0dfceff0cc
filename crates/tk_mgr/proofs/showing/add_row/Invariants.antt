use Rattle.std.proofs.Common.{◌≡◌, ◌++◌, take, true}
use Rattle.tk_mgr.specs.Showing.{shown_as}
use Rattle.tk_mgr.proofs.showing.add_row.Given as goal

abbrev pub invariant-loop-b : goal.invariant-loop-b
invariant-loop-b l = l.into ≡ l.initial.into ++ shown_as true (take l.b-index l.row)
