use Rattle.std.proofs.Common.{◌≡◌, drop}
use Rattle.std.specs.Prelude.{map}
use Rattle.tc_model.specs.Meaning.{are_short}
use Rattle.tc_model.proofs.short_keys.are_short_pairs.Given as goal

abbrev pub invariant-loop-pair : goal.invariant-loop-pair
invariant-loop-pair l = are_short (map (λ p. p.key) l.pairs) ≡ are_short (map (λ p. p.key) (drop l.pair-index l.pairs))
