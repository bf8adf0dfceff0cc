use Rattle.std.proofs.Common.{◌∙◌, ap}
use Rattle.std.specs.Ordering.{nat_cmp}
use Rattle.std.specs.Cmp.{nat_cmp_total}
use Rattle.std.specs.FinMap.{nat_cmp-IsAntisymmetric}
use Rattle.std.specs.FinMap.{insert}
use Rattle.tc_plain.proofs.Entries.{covers_begin, covers_step, covers_end, map_of}
use Rattle.tc_plain.proofs.maps.IdMapCopied.copied.Goals as goal

pub loop-id-init : goal.loop-id-init
loop-id-init c = covers_begin nat_cmp nat_cmp_total nat_cmp-IsAntisymmetric c.self.inside.pairs.entries _ _ c.iter-id-items.ensures.ordered (c.into_iter-id-iterator.ensures.into_iter_gives ∙ c.iter-id-items.ensures.rest) c.new-copy.ensures

pub loop-id-preserved : goal.loop-id-preserved
loop-id-preserved c =
    covers_step nat_cmp nat_cmp_total nat_cmp-IsAntisymmetric _ _ _ _ _ _ _ c.loop-id.invariant c.in-Some.ensures.steps (c.in_ok-set.ensures.ok ∙ ap (insert c.loop-id.copy c.in-Some.id.now) c.in_ok-copied.ensures)

pub returns : goal.returns
returns c =
    covers_end nat_cmp nat_cmp_total nat_cmp-IsAntisymmetric _ _ _ c.loop-id.invariant c.in-None.ensures.steps.0
    ∙ ap (map_of nat_cmp nat_cmp_total nat_cmp-IsAntisymmetric) (c.into_iter-id-iterator.ensures.into_iter_gives ∙ c.iter-id-items.ensures.rest) ∙ c.self.view_is
