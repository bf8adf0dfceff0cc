use Rattle.hf_block.proofs.NarrowHeads.{narrow_at}
use Rattle.hf_block.proofs.reading.read_narrow.Goals as goal

pub returns : goal.returns
returns c = rw (c.number.ensures, c.number-2.ensures, c.from.ensures, c.from-2.ensures, c.head_len.ensures.value) (narrow_at c.args.bytes.now c.in-Ok.behind.now c.in-Ok-read_number.rest.now c.in-Ok.key c.in-Ok-read_number.value c.in-len11-up.len_at_least c.in-Ok.ensures c.in-Ok-read_number.ensures)
