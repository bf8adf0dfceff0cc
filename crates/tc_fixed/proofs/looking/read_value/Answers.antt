use Rattle.std.proofs.Common.{◌∙◌, ◌+◌, arith}
use Rattle.tc_fixed.proofs.Celled.{place_end, value_of_cell}
use Rattle.tc_fixed.proofs.looking.read_value.Goals as goal

pub read_front-requires-clause-inside : goal.read_front-requires-clause-inside
read_front-requires-clause-inside g c = λ t. omega (arith, c.requires.cells.inside t, c.requires.fits, place_end c.args.width c.args.id c.requires.some, c.place.ensures.value, c.size_len.ensures.value)

pub returns-clause-bytes : goal.returns-clause-bytes
returns-clause-bytes g c = λ t.
    c.in_ok-read_front.ensures.bytes t ∙ value_of_cell c.args.width c.args.id c.args.long _ (g.S.Space.now c.args.space.now 0) c.requires.fits (λ i. c.place.ensures.value i + c.size_len.ensures.value i)
