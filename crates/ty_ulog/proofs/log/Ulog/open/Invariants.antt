use Rattle.std.proofs.Common.{◌≡◌, ◌+◌, ◌-◌, ◌≤◌}
use Rattle.tc_space.specs.Frames.{OnlyReads}
use Rattle.ty_ulog.specs.Pieces.{upto, IsAhead}
use Rattle.ty_ulog.specs.Steps.{IsReadTo}
use Rattle.ty_ulog.proofs.log.Ulog.open.Given as goal

abbrev pub invariant-updates : goal.invariant-updates
invariant-updates g l = let s = g.S.Space in record {
  reads : OnlyReads s l.fn.space l.space;
  end_is : l.ahead.end ≡ l.end;
  ahead : s.tells → IsAhead l.ahead (s.now l.fn.space 2);
  once : s.bytes_read l.space ≤ s.bytes_read l.fn.space + upto l.ahead;
  read : s.tells → IsReadTo (s.now l.fn.space 2) l.ahead.at l.log l.in_order;
}

abbrev pub decreases-updates : goal.decreases-updates
decreases-updates g l = l.end - l.ahead.at
