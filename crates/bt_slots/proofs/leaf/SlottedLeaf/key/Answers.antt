use Rattle.std.proofs.Common.{◌∙◌, ap, List, ℕ}
use Rattle.bt_page.specs.declared.page.Item.{Item}
use Rattle.bt_page.specs.Pages.{ItemFits}
use Rattle.bt_slots.specs.Reads.{item_in}
use Rattle.bt_slots.proofs.ReadBack.{item_read}
use Rattle.bt_slots.proofs.Places.{held}
use Rattle.bt_slots.proofs.leaf.SlottedLeaf.key.Goals as goal

pub returns : goal.returns
returns c = λ x is.
    c.item_key.ensures ∙ ap (λ (z : Item × List ℕ). z.0.key) (ap item_in (c.from_item.ensures.is x is) ∙ item_read x _ (held ItemFits c.args.self.now.items c.args.place x c.from_item.ensures.fits.items is))
