use Rattle.std.proofs.Common.{◌≡◌, ◌+◌, length}
use Rattle.std.specs.Prelude.{sum_by}
use Rattle.tc_model.specs.Stores.{bytes_of}
use Rattle.tc_model.specs.Rows.{texts_of}
use Rattle.tc_plain.proofs.reads.bytes_of_rows.Given as goal

abbrev pub invariant-loop-key : goal.invariant-loop-key
invariant-loop-key l = l.total + sum_by (λ e. length e.0 + bytes_of (texts_of e.1)) l.key-iterator ≡ sum_by (λ e. length e.0 + bytes_of (texts_of e.1)) l.initial.key-iterator
