use Rattle.std.proofs.Common.{◌≡◌, ◌++◌, drop}
use Rattle.std.specs.Prelude.{map}
use Rattle.std.specs.List.{dedup_from}
use Rattle.tc_base.specs.Texts.{is_text}
use Rattle.tc_plain.proofs.trees.keys_of.Given as goal

abbrev pub invariant-loop-pair : goal.invariant-loop-pair
invariant-loop-pair l = l.found ++ dedup_from is_text l.last (map (λ p. p.key) (drop l.pair-index l.rest)) ≡ dedup_from is_text l.initial.last (map (λ p. p.key) l.rest)
