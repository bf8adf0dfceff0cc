use Rattle.std.proofs.Common.{◌∙◌, arith}
use Rattle.ud_log.proofs.Framing.{framed_is}
use Rattle.ud_log.proofs.spell.frame.Goals as goal

pub returns : goal.returns
returns c =
    framed_is c.args.file c.args.at c.args.n c.copy_from_slice.new.self c.args.entry.now c.copy_from_slice-2.new.self _ (c.copy_from_slice.ensures.after ∙ c.head.ensures) (c.copy_from_slice-2.ensures.after ∙ c.four.ensures) (omega (arith, c.told-entry)) c.requires
