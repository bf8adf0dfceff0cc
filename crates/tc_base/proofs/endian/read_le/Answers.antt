use Rattle.std.proofs.Common.{◌∙◌, List, ℕ, sym, ap, Ok}
use Rattle.std.proofs.lemmas.List.{take_rest}
use Rattle.tc_base.proofs.ExactNumbers.{le_front-short, le_front-long}
use Rattle.tc_base.proofs.endian.read_le.Goals as goal

pub returns-then-bytes-width-clause-read : goal.returns-then-bytes-width-clause-read
returns-then-bytes-width-clause-read c = le_front-short c.args.width c.args.bytes.now c.if-bytes-width.true

pub returns-clause-read : goal.returns-clause-read
returns-clause-read c = le_front-long c.args.width c.get_le.result c.args.bytes.now c.if-bytes-width.false c.get_le.ensures.value ∙ ap (λ (l : List ℕ). Ok (c.get_le.result, l)) (sym (take_rest c.args.bytes.now c.args.width))
