use Rattle.tc_realfs.proofs.Dues.{joins}
use Rattle.tc_realfs.proofs.gathered.joined_as_written.Goals as goal

pub returns : goal.returns
returns c = joins
