use Rattle.std.proofs.Common.{◌≡◌, ◌+◌, drop}
use Rattle.tc_model.specs.Stores.{bytes_of}
use Rattle.tc_plain.proofs.reads.bytes_of_keys.Given as goal

abbrev pub invariant-loop-key : goal.invariant-loop-key
invariant-loop-key l = l.total + bytes_of (drop l.key-index l.keys) ≡ bytes_of l.keys
