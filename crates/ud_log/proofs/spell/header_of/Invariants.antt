use Rattle.std.proofs.Common.{◌≡◌, ◌+◌, ◌*◌, ◌++◌, length, take}
use Rattle.ud_log.specs.Log.{magic, numbers_bytes}
use Rattle.ud_log.proofs.spell.header_of.Given as goal

abbrev pub invariant-loop-i : goal.invariant-loop-i
invariant-loop-i l = record {
  bytes : take (8 + 8 * l.i) l.bytes ≡ magic ++ numbers_bytes (take l.i l.lens);
  long : length l.bytes ≡ 152;
}
