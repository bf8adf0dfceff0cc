use Rattle.std.proofs.Common.{ℕ, List, length, ◌∙◌, ap}
use Rattle.tc_base.specs.Files.{wrote}
use Rattle.tc_io.proofs.Writes.{part_written}
use Rattle.tc_undo.proofs.gather.put_at.Goals as goal

pub returns : goal.returns
returns c = part_written c.args.at (length c.args.bytes.now) c.args.into.now c.copy_from_slice.new.self (ap length c.copy_from_slice.ensures.after) ∙ ap (λ (l : List ℕ). wrote c.args.at l c.args.into.now) c.copy_from_slice.ensures.after
