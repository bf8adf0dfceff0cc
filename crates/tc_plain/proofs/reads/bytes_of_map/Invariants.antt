use Rattle.std.proofs.Common.{◌≡◌, ◌+◌, length}
use Rattle.std.specs.Prelude.{sum_by}
use Rattle.tc_plain.proofs.reads.bytes_of_map.Given as goal

abbrev pub invariant-loop-key : goal.invariant-loop-key
invariant-loop-key l = l.total + sum_by (λ e. length e.0 + length e.1) l.key-iterator ≡ sum_by (λ e. length e.0 + length e.1) l.initial.key-iterator
