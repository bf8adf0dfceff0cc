use Rattle.std.proofs.Common.{arith, ◌∙◌, ◌<◌, ◌≡◌, get_or}
use Rattle.ud_log.specs.Log.{spelled}
use Rattle.ud_log.proofs.Heading.{head_more, head_long, head_done}
use Rattle.ud_log.proofs.spell.header_of.Goals as goal

pub loop-i-preserved : goal.loop-i-preserved
loop-i-preserved c =
    let low : c.loop-i.i < 18 = omega arith in
    let is : c.copy_from_slice-in-loop-i.new.self ≡ spelled 8 (get_or c.args.lens.now c.loop-i.i 0) = c.copy_from_slice-in-loop-i.ensures.after ∙ c.eight.ensures in
    record {
      bytes = head_more c.args.lens.now c.loop-i.i _ c.loop-i.bytes c.copy_from_slice-in-loop-i.new.self c.told-lens low c.loop-i.invariant.long is c.loop-i.invariant.bytes;
      long = head_long c.loop-i.i _ c.loop-i.bytes c.copy_from_slice-in-loop-i.new.self _ low c.loop-i.invariant.long (omega arith) is;
    }

pub returns : goal.returns
returns c = head_done c.args.lens.now c.loop-i.i c.loop-i.bytes c.told-lens (omega arith) c.loop-i.invariant.long c.loop-i.invariant.bytes
