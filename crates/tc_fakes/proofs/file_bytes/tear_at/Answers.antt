use Rattle.std.proofs.Common.{ℕ, List, length, ◌∙◌, ap}
use Rattle.tc_base.specs.Files.{wrote}
use Rattle.tc_io.proofs.Writes.{part_written}
use Rattle.tc_fakes.proofs.TornWrites.{length-torn_over}
use Rattle.tc_fakes.proofs.file_bytes.tear_at.Goals as goal

pub returns : goal.returns
returns c = part_written c.args.at (length c.args.bytes.now) c.args.into.now c.put_over.new.into (ap length c.put_over.ensures ∙ length-torn_over c.args.choice.now c.args.bytes.now) ∙ ap (λ (l : List ℕ). wrote c.args.at l c.args.into.now) c.put_over.ensures
