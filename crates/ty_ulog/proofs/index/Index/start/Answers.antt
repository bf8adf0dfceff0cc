use Rattle.std.proofs.Common.{List, subst, sym}
use Rattle.ty_ulog.specs.declared.index.Mark.{Mark}
use Rattle.ty_ulog.specs.Holding.{Spread}
use Rattle.ty_ulog.proofs.Marking.{found}
use Rattle.ty_ulog.proofs.index.Index.start.Goals as goal

pub returns : goal.returns
returns c = λ rs f spread.
    found c.as_slice-marks.result.now c.count_passed-passed.result c.args.stamp _ c.count_passed-passed.ensures.bound c.count_passed-passed.ensures.parted c.last_place.ensures rs f
    (subst (λ (ms : List Mark). Spread ms 0 0 rs) (sym c.as_slice-marks.ensures) spread)
