use Rattle.std.proofs.Common.{ap, length}
use Rattle.tc_base.proofs.Foreseeing.{zeros_from, zeros_46}
use Rattle.tc_base.proofs.short.padded.Goals as goal

pub returns-clause-zeros : goal.returns-clause-zeros
returns-clause-zeros c = zeros_from (length c.args.bytes.now) c.copy_from_slice.new.self _ (ap length c.copy_from_slice.ensures.after) zeros_46
