use Rattle.std.proofs.Common.{◌++◌, refl, arith, length-append}
use Rattle.tc_engine.proofs.Gathering.{adds_row, three_behind}
use Rattle.tc_engine.proofs.rows.Rows.add.Goals as goal

pub returns-clause-added : goal.returns-clause-added
returns-clause-added c =
    let x = c.args.sizes.now in
    let y = c.args.first.now in
    let z = c.args.second.now in
    let n = length-append x (y ++ z) in
    let m = length-append y z in
    let fits = c.requires.room.fits in
    adds_row _ _ _
    (record { not_long = c.requires.room.not_long; fits = omega (arith, n, m, fits) })
    (three_behind _ _ _ _ x y z c.in_ok-append.ensures.ok c.in_ok-append-2.ensures.ok c.in_ok-append-3.ensures.ok)
    refl
    (omega (arith, n, m, fits))
    refl
    refl
