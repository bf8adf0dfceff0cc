use Rattle.std.proofs.Common.{true, refl}
use Rattle.ty_pieces.proofs.PieceLaws.{done_unmade}
use Rattle.ty_pieces.proofs.laws.none_updates_a_replica.Goals as goal

pub returns : goal.returns
returns c = λ x d w. done_unmade true x d w refl
