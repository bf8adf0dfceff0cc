use Rattle.std.proofs.Common.{◌∙◌}
use Rattle.tk_top.proofs.Pieces.{gap_told}
use Rattle.tk_top.proofs.lines.put_gap.Goals as goal

pub returns-clause-ok : goal.returns-clause-ok
returns-clause-ok g c =
    gap_told c.args.held c.args.follows c.put-5.result _ _ _ _ _ _ c.as_bytes.result.now c.as_bytes-2.result.now (c.as_bytes.ensures.value ∙ c.format.ensures.text) (c.as_bytes-2.ensures.value ∙ c.format-2.ensures.text)
    c.in_ok-put.ensures.ok c.in_ok-put-2.ensures.ok c.in_ok-put-3.ensures.ok c.in_ok-put-4.ensures.ok c.put-5.ensures.ok
