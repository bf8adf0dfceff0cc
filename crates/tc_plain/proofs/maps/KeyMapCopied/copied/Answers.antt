use Rattle.std.proofs.Common.{◌≡◌, ◌∙◌, ap}
use Rattle.std.specs.Ordering.{nat_cmp}
use Rattle.std.specs.Cmp.Lexicographic.{slice_cmp, nat_list_cmp_total}
use Rattle.std.proofs.lemmas.Map.Lookups.{exact_bytes}
use Rattle.std.specs.FinMap.{insert}
use Rattle.tc_plain.proofs.Entries.{covers_begin, covers_step, covers_end, map_of}
use Rattle.tc_plain.proofs.maps.KeyMapCopied.copied.Goals as goal

pub loop-key-init : goal.loop-key-init
loop-key-init g c = covers_begin (slice_cmp nat_cmp) nat_list_cmp_total exact_bytes c.self.inside.pairs.entries _ _ c.iter-key-items.ensures.ordered (c.into_iter-key-iterator.ensures.into_iter_gives ∙ c.iter-key-items.ensures.rest) c.new-copy.ensures

pub loop-key-preserved : goal.loop-key-preserved
loop-key-preserved g c =
    let key : c.in_ok-from_slice.field-0 ≡ c.in-Some.key.now = c.in_ok-from_slice.ensures ∙ c.as_slice.ensures in
    covers_step (slice_cmp nat_cmp) nat_list_cmp_total exact_bytes _ _ _ _ _ _ _ c.loop-key.invariant c.in-Some.ensures.steps (c.in_ok-set.ensures.ok ∙ (λ i. insert c.loop-key.copy (key i) (c.in_ok-copied.ensures i)))

pub returns : goal.returns
returns g c =
    covers_end (slice_cmp nat_cmp) nat_list_cmp_total exact_bytes _ _ _ c.loop-key.invariant c.in-None.ensures.steps.0
    ∙ ap (map_of (slice_cmp nat_cmp) nat_list_cmp_total exact_bytes) (c.into_iter-key-iterator.ensures.into_iter_gives ∙ c.iter-key-items.ensures.rest) ∙ c.self.view_is
