use Rattle.std.proofs.Common.{[], ◌∷◌, ◌∙◌, ap, arith}
use Rattle.tc_base.specs.Vnum.{vnum}
use Rattle.tc_base.proofs.ExactNumbers.{front_spelled}
use Rattle.tc_base.proofs.Vnums.{one_spelled}
use Rattle.tc_base.proofs.number.of_one.Goals as goal

pub returns : goal.returns
returns c = front_spelled c.from.result (c.args.last ∷ []) c.args.bytes.now c.args.rest.now (omega (arith, c.from.ensures, c.requires.last)) (ap vnum c.from.ensures ∙ one_spelled c.args.last c.requires.last) c.requires.are
