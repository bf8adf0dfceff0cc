use Rattle.std.proofs.Common.{◌≡◌, ◌+◌, ◌*◌, ◌-◌, ◌≤◌, ◌<◌, List}
use Rattle.tc_space.specs.Frames.{OnlyReads}
use Rattle.ty_ulog.specs.declared.record.Record.{Record}
use Rattle.ty_ulog.specs.Holding.{Means}
use Rattle.ty_ulog.specs.Pieces.{Shows}
use Rattle.ty_ulog.specs.Steps.{IsPassed}
use Rattle.ty_ulog.proofs.log.Ulog.after.Given as goal

abbrev pub invariant-loop-at : goal.invariant-loop-at
invariant-loop-at g l = let s = g.S.Space in record {
  reads : OnlyReads s l.fn.space l.space;
  low : l.piece.at ≤ l.at;
  high : l.at ≤ l.end;
  end_is : l.piece.end ≡ l.end;
  shows : s.tells → Shows l.piece (s.now l.fn.space 2);
  passed : (rs : List Record) → Means s l.fn.self l.fn.space rs → IsPassed (s.now l.fn.space 2) rs l.stamp l.initial.at l.at;
  near : (rs : List Record) → Means s l.fn.self l.fn.space rs → l.piece.at < l.initial.at + 1048576;
  counted : s.bytes_read l.space + 2 * l.initial.at ≤ s.bytes_read l.fn.space + 4096 + 2 * l.piece.at;
}

abbrev pub decreases-loop-at : goal.decreases-loop-at
decreases-loop-at g l = l.end - l.at
