use Rattle.std.proofs.Common.{◌∙◌, ap, arith, length, ◌+◌, ◌-◌, take, drop}
use Rattle.bt_slots.proofs.Places.{seen, before_later, before_within, item_between, item_fits}
use Rattle.bt_slots.proofs.leaf.SlottedLeaf.parts.Goals as goal

pub between-requires-clause-order : goal.between-requires-clause-order
between-requires-clause-order c = omega (arith, c.start.ensures, c.end.ensures, before_later c.args.self.now c.args.place)

pub between-requires-clause-inside : goal.between-requires-clause-inside
between-requires-clause-inside c =
    let h = seen c.self.inside.bytes c.self.inside.starts.items c.args.self.now c.self.view_is c.self.invariant in
    omega (arith, c.end.ensures, ap length c.as_slice.ensures, before_within c.self.inside.bytes c.self.inside.starts.items c.args.self.now h (c.args.place + 1))

pub returns-clause-are : goal.returns-clause-are
returns-clause-are c = λ x is.
    let h = seen c.self.inside.bytes c.self.inside.starts.items c.args.self.now c.self.view_is c.self.invariant in
    c.parts_of.ensures x (item_fits c.self.inside.bytes c.self.inside.starts.items c.args.self.now h c.args.place x is)
    (c.between.ensures ∙ (λ i. take (c.end.ensures i - c.start.ensures i) (drop (c.start.ensures i) (c.as_slice.ensures i))) ∙ item_between c.self.inside.bytes c.self.inside.starts.items c.args.self.now h c.args.place x is)

pub returns-clause-fits : goal.returns-clause-fits
returns-clause-fits c =
    let h = seen c.self.inside.bytes c.self.inside.starts.items c.args.self.now c.self.view_is c.self.invariant in
    h.fits
