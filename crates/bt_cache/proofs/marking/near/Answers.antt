use Rattle.std.proofs.Common.{◌-◌, arith}
use Rattle.bt_slots.specs.Marks.{further_bytes}
use Rattle.bt_slots.specs.declared.marking.Mark.{Mark}
use Rattle.bt_slots.proofs.Marks.{stands_first}
use Rattle.bt_cache.proofs.marking.near.Goals as goal

pub returns-then-count-eq0 : goal.returns-then-count-eq0
returns-then-count-eq0 c = λ l last each x at. stands_first (further_bytes x)

pub returns : goal.returns
returns c = λ l last each.
    let first : Mark = record { place = 0; number = 0; offset = 0 } in
    each (c.min-count.result - 1) first (omega (arith, c.min-count.ensures, c.if-count-eq0.false))
