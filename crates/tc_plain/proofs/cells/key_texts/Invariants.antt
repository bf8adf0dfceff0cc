use Rattle.std.proofs.Common.{◌≡◌, ◌++◌}
use Rattle.std.specs.Prelude.{map}
use Rattle.std.specs.Fmt.{decimal}
use Rattle.std.specs.Map.{keys_of}
use Rattle.tc_plain.proofs.cells.key_texts.Given as goal

abbrev pub invariant-loop-id : goal.invariant-loop-id
invariant-loop-id l = l.keys ++ map (λ id. decimal id) (keys_of l.id-iterator) ≡ map (λ id. decimal id) (keys_of l.initial.id-iterator)
