use Rattle.std.proofs.Common.{◌≡◌, ◌++◌, drop}
use Rattle.std.specs.Prelude.{map}
use Rattle.tc_tabledb.proofs.changing.found_keys.Given as goal

abbrev pub invariant-loop-row : goal.invariant-loop-row
invariant-loop-row l = l.keys ++ map (λ f. f.0) (drop l.row-index l.found) ≡ map (λ f. f.0) l.found
