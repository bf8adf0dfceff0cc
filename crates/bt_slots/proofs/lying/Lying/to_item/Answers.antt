use Rattle.std.proofs.Common.{◌∙◌, ap, ◌≡◌, List, ℕ, [], ◌∷◌, ◌++◌}
use Rattle.bt_slots.specs.Reads.{values_in}
use Rattle.bt_slots.proofs.lying.Lying.to_item.Goals as goal

pub returns : goal.returns
returns c =
    let x = c.args.self.now in
    let one : c.push.new.self ≡ x.first.now ∷ [] = c.in_ok-push.ensures.ok ∙ ap (λ (l : List (List ℕ)). l ++ c.in_ok-from_slice.field-0 ∷ []) c.new-values.ensures ∙ ap (λ (v : List ℕ). v ∷ []) c.in_ok-from_slice.ensures in
    let all : c.put_values.new.values ≡ x.first.now ∷ (values_in x.more x.further.now).0 = c.in_ok-put_values.ensures ∙ ap (λ (l : List (List ℕ)). l ++ (values_in x.more x.further.now).0) one in
    λ i. record { key = c.in_ok-from_slice-2.ensures i; values = all i }
