use Rattle.std.proofs.Common.{◌≡◌, ◌++◌, drop}
use Rattle.std.specs.Prelude.{map}
use Rattle.tc_plain.proofs.meaning.keys_found.Given as goal

abbrev pub invariant-loop-row : goal.invariant-loop-row
invariant-loop-row l = l.items ++ map (λ f. f.0) (drop l.row-index l.rows) ≡ map (λ f. f.0) l.rows
