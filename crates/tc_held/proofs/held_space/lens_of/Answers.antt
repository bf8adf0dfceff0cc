use Rattle.tc_held.proofs.Holding.{of_data}
use Rattle.tc_held.proofs.held_space.lens_of.Goals as goal

pub len-requires-clause-file : goal.len-requires-clause-file
len-requires-clause-file g c = of_data c.file_at.result c.file_at.ensures.is_data
