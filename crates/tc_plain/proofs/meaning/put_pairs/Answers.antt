use Rattle.std.proofs.Common.{◌∙◌, sym, ap}
use Rattle.std.specs.Prelude.{option_map}
use Rattle.tc_plain.specs.Views.{contents_of}
use Rattle.tc_plain.specs.Bodies.{put_pair}
use Rattle.tc_plain.proofs.Stopping.{stops}
use Rattle.tc_plain.proofs.meaning.put_pairs.Goals as goal

pub returns-in_default : goal.returns-in_default
returns-in_default c =
    stops (put_pair c.args.behind) c.args.pairs.now c.loop-pair.pair-index c.pair-item.result _ (contents_of c.loop-pair.now) c.loop-pair-test.true c.pair-item.is (sym c.in_ok-next.ensures ∙ ap (λ o. option_map contents_of o) c.in_default.is)
    ∙ c.loop-pair.invariant
