use Rattle.ty_pieces.proofs.PieceLaws.{done_idle, done_quiet}
use Rattle.ty_pieces.proofs.laws.one_does_what_it_says.Goals as goal

pub returns-clause-idle : goal.returns-clause-idle
returns-clause-idle c = done_idle

pub returns-clause-quiet : goal.returns-clause-quiet
returns-clause-quiet c = done_quiet
