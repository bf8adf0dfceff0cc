use Rattle.std.proofs.Common.{◌∷◌, ◌++◌, [], ℕ, ap, ◌∙◌}
use Rattle.bt_slots.proofs.Changes.{new_item, parts_row}
use Rattle.bt_slots.proofs.Leaves.{kept_leaf, last_is_leaf}
use Rattle.bt_slots.proofs.ReadBack.{leaf_made}
use Rattle.bt_slots.proofs.Places.{seen}
use Rattle.bt_slots.proofs.leaf.SlottedLeaf.with_last.Goals as goal

pub invariant_of-result : goal.invariant_of-result
invariant_of-result c =
    let h = seen c.self.inside.bytes c.self.inside.starts.items c.args.self c.self.view_is c.self.invariant in
    let y = new_item c.args.key.now c.args.value.now c.in_ok-put_item.ensures.key c.in_ok-put_item.ensures.first in
    kept_leaf _ _ _ (last_is_leaf c.args.self _ _ _ _ _ _ h y.fits c.in_ok-put_item.ensures.bytes (parts_row _ _ _ _ _ y.parts) (c.in_ok-push.ensures.items ∙ ap (λ (n : ℕ). c.self.inside.starts.items ++ n ∷ []) c.len-start.ensures))

pub returns : goal.returns
returns c =
    let h = seen c.self.inside.bytes c.self.inside.starts.items c.args.self c.self.view_is c.self.invariant in
    let y = new_item c.args.key.now c.args.value.now c.in_ok-put_item.ensures.key c.in_ok-put_item.ensures.first in
    leaf_made _ _ _ (last_is_leaf c.args.self _ _ _ _ _ _ h y.fits c.in_ok-put_item.ensures.bytes (parts_row _ _ _ _ _ y.parts) (c.in_ok-push.ensures.items ∙ ap (λ (n : ℕ). c.self.inside.starts.items ++ n ∷ []) c.len-start.ensures))
