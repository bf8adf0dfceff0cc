use Rattle.std.proofs.Common.{◌≡◌, drop}
use Rattle.tc_model.specs.Meaning.{without_rows}
use Rattle.tc_plain.proofs.meaning.without_found.Given as goal

abbrev pub invariant-loop-row : goal.invariant-loop-row
invariant-loop-row l = without_rows l.left (drop l.row-index l.found) ≡ without_rows l.initial.left l.found
