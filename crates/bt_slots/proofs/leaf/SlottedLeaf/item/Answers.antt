use Rattle.std.proofs.Common.{◌∙◌, ap, ◌≡◌, List, ℕ, [], ◌∷◌, ◌++◌, Some, sym}
use Rattle.bt_page.specs.declared.page.Item.{Item}
use Rattle.bt_page.specs.Pages.{ItemFits}
use Rattle.bt_slots.specs.Reads.{values_in}
use Rattle.bt_slots.proofs.Pieces.{item_copied}
use Rattle.bt_slots.proofs.Places.{held, some_at}
use Rattle.bt_slots.proofs.leaf.SlottedLeaf.item.Goals as goal

pub returns : goal.returns
returns c =
    let x = some_at c.args.self.now.items c.args.place c.requires in
    let fits = held ItemFits c.args.self.now.items c.args.place x.0 c.parts-parts.ensures.fits.items x.1 in
    let p = c.parts-parts.ensures.are x.0 x.1 in
    let one : c.push.new.self ≡ c.parts-parts.result.first.now ∷ [] = c.in_ok-push.ensures.ok ∙ ap (λ (l : List (List ℕ)). l ++ c.in_ok-from_slice.field-0 ∷ []) c.new-values.ensures ∙ ap (λ (v : List ℕ). v ∷ []) c.in_ok-from_slice.ensures in
    let all : c.put_values.new.values ≡ (c.parts-parts.result.first.now ∷ []) ++ (values_in c.parts-parts.result.more c.parts-parts.result.further.now).0 = c.in_ok-put_values.ensures ∙ ap (λ (l : List (List ℕ)). l ++ (values_in c.parts-parts.result.more c.parts-parts.result.further.now).0) one in
    let same = item_copied x.0 c.parts-parts.result.key.now c.parts-parts.result.first.now c.parts-parts.result.more c.parts-parts.result.further.now c.put_values.new.values fits p all in
    x.1 ∙ ap (λ (z : Item). Some z) (sym same) ∙ ap (λ (k : List ℕ). Some (record { key = k; values = c.put_values.new.values })) (sym c.in_ok-from_slice-2.ensures)
