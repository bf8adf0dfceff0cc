use Rattle.std.proofs.Common.{◌≡◌, ◌+◌, length}
use Rattle.std.specs.Prelude.{sum_by}
use Rattle.tc_plain.proofs.reads.bytes_of_cells.Given as goal

abbrev pub invariant-loop-value : goal.invariant-loop-value
invariant-loop-value l = l.total + sum_by (λ e. length e.1) l.value-iterator ≡ sum_by (λ e. length e.1) l.initial.value-iterator
