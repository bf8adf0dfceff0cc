use Rattle.std.proofs.Common.{◌∷◌, refl}
use Rattle.bt_page.specs.Pages.{ItemFits}
use Rattle.bt_slots.specs.Reads.{values_in}
use Rattle.bt_slots.proofs.Pieces.{item_copied}
use Rattle.bt_slots.proofs.Places.{held}
use Rattle.bt_slots.proofs.leaf.SlottedLeaf.lying.Goals as goal

pub returns : goal.returns
returns c = λ x at.
    let p = c.parts-parts.result in
    let fits = held ItemFits c.args.self.now.items c.args.place x c.parts-parts.ensures.fits.items at in
    item_copied x p.key.now p.first.now p.more p.further.now (p.first.now ∷ (values_in p.more p.further.now).0) fits (c.parts-parts.ensures.are x at) refl
