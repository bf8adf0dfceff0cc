use Rattle.std.proofs.Common.{◌≡◌, ◌+◌, ◌*◌, ◌-◌, [], ◌∷◌, ◌∙◌, ap, arith}
use Rattle.tc_base.specs.Vnum.{vnum}
use Rattle.tc_base.proofs.ExactNumbers.{front_spelled}
use Rattle.tc_base.proofs.Vnums.{two_spelled}
use Rattle.tc_base.proofs.number.of_two.Goals as goal

pub returns : goal.returns
returns c =
    let n : c.from.result + 128 * c.from-2.result ≡ 255 - c.args.first + 128 * c.args.last = omega (arith, c.from.ensures, c.from-2.ensures) in
    let s = two_spelled c.args.first c.args.last c.requires.first (omega arith) c.requires.last.0 c.requires.last.1 in
    front_spelled _ (c.args.first ∷ c.args.last ∷ []) c.args.bytes.now c.args.rest.now (omega (arith, n)) (ap vnum n ∙ s) c.requires.are
