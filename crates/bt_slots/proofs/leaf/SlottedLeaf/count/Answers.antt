use Rattle.std.proofs.Common.{ap, List, ℕ, arith}
use Rattle.bt_page.specs.Pages.{ItemFits}
use Rattle.bt_slots.proofs.Pieces.{count_is}
use Rattle.bt_slots.proofs.Places.{held}
use Rattle.bt_slots.proofs.leaf.SlottedLeaf.count.Goals as goal

pub returns : goal.returns
returns c = λ x is.
    let n = count_is c.from_item.result.now _ x c.item_head.result.2 (held ItemFits c.args.self.now.items c.args.place x c.from_item.ensures.fits.items is) (c.from_item.ensures.is x is) c.from_item.ensures.short (ap (λ (z : ℕ × List ℕ). z.0) c.item_head.ensures.more) in
    omega (arith, n.0, n.1, c.saturating_add.ensures)
