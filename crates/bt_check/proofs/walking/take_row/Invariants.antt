use Rattle.std.proofs.Common.{◌≡◌, ◌+◌, take, btree_set_len}
use Rattle.bt_check.specs.Walks.{IsTakenOut}
use Rattle.bt_check.proofs.walking.take_row.Given as goal

abbrev pub invariant-loop-slot : goal.invariant-loop-slot
invariant-loop-slot l = record {
  taken : IsTakenOut (take l.slot-index l.row) l.fn.ids l.ids;
  len : btree_set_len l.ids + l.slot-index ≡ btree_set_len l.fn.ids;
}
