use Rattle.std.proofs.Common.{◌∙◌, ap, arith, length, drop}
use Rattle.bt_slots.proofs.Places.{seen, before_within, item_behind}
use Rattle.bt_slots.proofs.leaf.SlottedLeaf.from_item.Goals as goal

pub rest_from-requires : goal.rest_from-requires
rest_from-requires c =
    let h = seen c.self.inside.bytes c.self.inside.starts.items c.args.self.now c.self.view_is c.self.invariant in
    omega (arith, c.start.ensures, ap length c.as_slice.ensures, before_within c.self.inside.bytes c.self.inside.starts.items c.args.self.now h c.args.place)

pub returns-clause-is : goal.returns-clause-is
returns-clause-is c = λ x is.
    let h = seen c.self.inside.bytes c.self.inside.starts.items c.args.self.now c.self.view_is c.self.invariant in
    c.rest_from.ensures.is ∙ (λ i. drop (c.start.ensures i) (c.as_slice.ensures i)) ∙ item_behind c.self.inside.bytes c.self.inside.starts.items c.args.self.now h c.args.place x is

pub returns-clause-fits : goal.returns-clause-fits
returns-clause-fits c =
    let h = seen c.self.inside.bytes c.self.inside.starts.items c.args.self.now c.self.view_is c.self.invariant in
    h.fits
