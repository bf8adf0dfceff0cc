use Rattle.std.proofs.Common.{◌≡◌, drop}
use Rattle.std.specs.Prelude.{Some}
use Rattle.tc_model.specs.Meaning.{each}
use Rattle.tc_plain.specs.Views.{contents_of}
use Rattle.tc_plain.specs.Bodies.{put_pair}
use Rattle.tc_plain.proofs.meaning.put_pairs.Given as goal

abbrev pub invariant-loop-pair : goal.invariant-loop-pair
invariant-loop-pair l = each (put_pair l.behind) (Some (contents_of l.now)) (drop l.pair-index l.pairs) ≡ each (put_pair l.behind) (Some (contents_of l.initial.now)) l.pairs
