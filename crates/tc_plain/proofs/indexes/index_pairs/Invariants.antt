use Rattle.std.proofs.Common.{◌≡◌, ◌++◌}
use Rattle.std.specs.Prelude.{map, flat_map, option_to_list}
use Rattle.tc_base.specs.Lists.{pair}
use Rattle.tc_model.specs.Indexes.{firsts}
use Rattle.tc_model.specs.Rows.{column}
use Rattle.tc_plain.proofs.indexes.index_pairs.Given as goal

abbrev pub invariant-loop-key : goal.invariant-loop-key
invariant-loop-key l = l.found ++ flat_map (λ e. map (λ first. pair first e.0) (flat_map (firsts l.kind) (option_to_list (column e.1 l.name)))) l.key-iterator ≡ flat_map (λ e. map (λ first. pair first e.0) (flat_map (firsts l.kind) (option_to_list (column e.1 l.name)))) l.initial.key-iterator
