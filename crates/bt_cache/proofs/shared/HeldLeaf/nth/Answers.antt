use Rattle.std.proofs.Common.{ap, arith, length}
use Rattle.bt_page.specs.declared.page.Leaf.{Leaf}
use Rattle.bt_slots.proofs.Places.{some_inside}
use Rattle.bt_cache.proofs.shared.HeldLeaf.nth.Goals as goal

pub returns-then-place-len-clause-value : goal.returns-then-place-len-clause-value
returns-then-place-len-clause-value c = λ x at.
    absurd (omega (arith, c.if-place-len.true, c.len.ensures, ap (λ (l : Leaf). length l.items) c.deref.ensures, ap (λ (l : Leaf). length l.items) c.self.view_is, some_inside _ c.args.place x at))
