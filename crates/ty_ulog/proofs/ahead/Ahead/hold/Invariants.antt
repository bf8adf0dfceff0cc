use Rattle.std.proofs.Common.{◌+◌, ◌-◌, ◌≤◌, length}
use Rattle.tc_space.specs.Frames.{OnlyReads}
use Rattle.ty_ulog.specs.Pieces.{upto, Goes}
use Rattle.ty_ulog.proofs.ahead.Ahead.hold.Given as goal

abbrev pub invariant-pieces : goal.invariant-pieces
invariant-pieces g l = let s = g.S.Space in record {
  long : 25 ≤ length l.self.held.items;
  goes : Goes s l.fn.self l.self l.fn.space;
  once : s.bytes_read l.space + upto l.fn.self ≤ s.bytes_read l.fn.space + upto l.self;
  reads : OnlyReads s l.fn.space l.space;
}

abbrev pub decreases-pieces : goal.decreases-pieces
decreases-pieces g l = l.size - length l.self.held.items
