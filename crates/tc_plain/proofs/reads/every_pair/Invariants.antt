use Rattle.std.proofs.Common.{◌≡◌, ◌++◌, drop}
use Rattle.std.specs.Prelude.{flat_map}
use Rattle.tc_model.specs.Stores.{all_pairs}
use Rattle.tc_plain.specs.Views.{contents_of}
use Rattle.tc_plain.proofs.reads.every_pair.Given as goal

abbrev pub invariant-loop-key : goal.invariant-loop-key
invariant-loop-key l = l.found ++ flat_map (all_pairs (contents_of l.stored)) (drop l.key-index l.keys) ≡ flat_map (all_pairs (contents_of l.stored)) l.keys
