use Rattle.std.proofs.Common.{List, ℕ, subst}
use Rattle.bt_slots.specs.Slots.{IsLeafIn}
use Rattle.bt_slots.proofs.ReadBack.{leaf_kept}
use Rattle.bt_slots.proofs.leaf.SlottedLeaf.read.Goals as goal

pub invariant_of-result : goal.invariant_of-result
invariant_of-result c =
    let r = c.in_ok-starts.ensures.found in
    leaf_kept c.args.bytes c.in_ok-starts.starts.items r.0 (subst (λ (l : List ℕ). IsLeafIn l c.in_ok-starts.starts.items r.0) c.as_slice.ensures r.1)

pub returns-clause-found : goal.returns-clause-found
returns-clause-found c =
    let r = c.in_ok-starts.ensures.found in
    let h = leaf_kept c.args.bytes c.in_ok-starts.starts.items r.0 (subst (λ (l : List ℕ). IsLeafIn l c.in_ok-starts.starts.items r.0) c.as_slice.ensures r.1) in
    record { fits = h.fits; is = h.is }
