use Rattle.std.proofs.Common.{◌≡◌, ◌∙◌, ℕ, List, sym, ap}
use Rattle.std.specs.Prelude.{slice_get, unwrap_or}
use Rattle.std.specs.Map.{keys_of}
use Rattle.std.specs.FinMap.{keys as ids}
use Rattle.std.specs.Ordering.{nat_cmp}
use Rattle.std.specs.Cmp.{nat_cmp_total}
use Rattle.std.specs.FinMap.{nat_cmp-IsAntisymmetric}
use Rattle.tc_model.specs.Arrays.{Array}
use Rattle.tc_plain.proofs.Entries.{same_keys}
use Rattle.tc_plain.proofs.Ends.{first_is, first_none}
use Rattle.tc_plain.proofs.maps.IdMap.least.Goals as goal

pub returns-in-loop-id : goal.returns-in-loop-id
returns-in-loop-id c =
    let start : c.into_iter-id-iterator.result ≡ keys_of c.self.inside.pairs.entries = c.into_iter-id-iterator.ensures.into_iter_gives ∙ c.keys-id-items.ensures.rest in
    let same : keys_of c.self.inside.pairs.entries ≡ ids c.args.self.now = sym (same_keys nat_cmp nat_cmp_total nat_cmp-IsAntisymmetric _ c.keys-id-items.ensures.ordered) ∙ ap (λ (m : Array). ids m) c.self.view_is in
    first_is _ _ _ (sym c.loop-id.invariant ∙ c.in-Some.ensures.steps) ∙ ap (λ (l : List ℕ). unwrap_or (slice_get l 0) 0) (start ∙ same)

pub returns : goal.returns
returns c =
    let start : c.into_iter-id-iterator.result ≡ keys_of c.self.inside.pairs.entries = c.into_iter-id-iterator.ensures.into_iter_gives ∙ c.keys-id-items.ensures.rest in
    let same : keys_of c.self.inside.pairs.entries ≡ ids c.args.self.now = sym (same_keys nat_cmp nat_cmp_total nat_cmp-IsAntisymmetric _ c.keys-id-items.ensures.ordered) ∙ ap (λ (m : Array). ids m) c.self.view_is in
    first_none _ (sym c.loop-id.invariant ∙ c.in-None.ensures.steps.0) ∙ ap (λ (l : List ℕ). unwrap_or (slice_get l 0) 0) (start ∙ same)
