use Rattle.std.proofs.Common.{◌≡◌, ◌++◌, drop}
use Rattle.std.specs.Prelude.{map}
use Rattle.std.specs.Fmt.{decimal}
use Rattle.tc_fixeddb.proofs.reading.id_keys.Given as goal

abbrev pub invariant-loop-id : goal.invariant-loop-id
invariant-loop-id l = l.keys ++ map (λ id. decimal id) (drop l.id-index l.ids) ≡ map (λ id. decimal id) l.ids
