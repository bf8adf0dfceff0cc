use Rattle.std.proofs.Common.{arith}
use Rattle.hf_head.specs.Heads.{unit}
use Rattle.hf_pack.proofs.Records.{listed_end}
use Rattle.hf_pack.proofs.packing.pack_blocks.Goals as goal

pub returns-clause-packed : goal.returns-clause-packed
returns-clause-packed g c = λ t ps places listed hang.
    c.in_ok-end.ensures.packed t ps places listed hang
    (c.in_ok-all.ensures (unit c.args.head.now) ps listed.has.filled.whole listed.listed (omega (arith, listed_end c.args.head.now ps (g.S.Space.now c.args.space.now c.args.file) c.args.blocks.now listed, c.requires.ready.valid.numbers.size_most)))
