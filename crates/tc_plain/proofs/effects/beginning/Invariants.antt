use Rattle.std.proofs.Common.{◌≡◌, ◌++◌, drop}
use Rattle.std.specs.Prelude.{filter, nat_eq}
use Rattle.std.specs.List.{starts_with}
use Rattle.tc_plain.proofs.effects.beginning.Given as goal

abbrev pub invariant-loop-key : goal.invariant-loop-key
invariant-loop-key l = l.found ++ filter (λ key. starts_with nat_eq key l.prefix) (drop l.key-index l.keys) ≡ filter (λ key. starts_with nat_eq key l.prefix) l.keys
