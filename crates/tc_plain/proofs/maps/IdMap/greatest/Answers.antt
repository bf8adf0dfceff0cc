use Rattle.std.proofs.Common.{◌≡◌, ◌∙◌, ℕ, List, sym, ap}
use Rattle.std.specs.Prelude.{None, unwrap_or}
use Rattle.std.specs.List.{last_or}
use Rattle.std.specs.Map.{keys_of}
use Rattle.std.specs.FinMap.{keys as ids}
use Rattle.std.specs.Ordering.{nat_cmp}
use Rattle.std.specs.Cmp.{nat_cmp_total}
use Rattle.std.specs.FinMap.{nat_cmp-IsAntisymmetric}
use Rattle.tc_model.specs.Arrays.{Array}
use Rattle.tc_plain.proofs.Entries.{same_keys}
use Rattle.tc_plain.proofs.Ends.{last_start, last_step, last_end}
use Rattle.tc_plain.proofs.maps.IdMap.greatest.Goals as goal

pub loop-id-init : goal.loop-id-init
loop-id-init c = last_start c.into_iter-id-iterator.result

pub loop-id-preserved : goal.loop-id-preserved
loop-id-preserved c = last_step _ _ _ _ _ c.loop-id.invariant c.in-Some.ensures.steps

pub returns : goal.returns
returns c =
    let start : c.into_iter-id-iterator.result ≡ keys_of c.self.inside.pairs.entries = c.into_iter-id-iterator.ensures.into_iter_gives ∙ c.keys-id-items.ensures.rest in
    let same : keys_of c.self.inside.pairs.entries ≡ ids c.args.self.now = sym (same_keys nat_cmp nat_cmp_total nat_cmp-IsAntisymmetric _ c.keys-id-items.ensures.ordered) ∙ ap (λ (m : Array). ids m) c.self.view_is in
    last_end _ _ _ c.loop-id.invariant c.in-None.ensures.steps.0 ∙ ap (λ (l : List ℕ). unwrap_or (last_or None l) 0) (start ∙ same)
