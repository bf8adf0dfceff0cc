use Rattle.std.proofs.Common.{◌≡◌}
use Rattle.std.specs.Prelude.{filter}
use Rattle.tc_model.specs.Texts.{is_among}
use Rattle.td_token.proofs.sets.kept.Given as goal

abbrev pub invariant-loop-text : goal.invariant-loop-text
invariant-loop-text l = l.found ≡ filter (λ t. is_among t l.set) l.yielded
