use Rattle.std.proofs.Common.{List, ℕ, ap}
use Rattle.tc_base.specs.declared.request.Request.TheVariants.{Put}
use Rattle.ty_memc.specs.declared.text.Piece.TheVariants as piece
use Rattle.ty_core.proofs.Gathering.{large_taken}
use Rattle.ty_core.proofs.taking.take_large.Goals as goal

pub returns : goal.returns
returns c = λ behind. large_taken _ c.args.logs c.args.large c.in_ok-key.key behind c.requires.begins c.requires.full (ap (λ (v : List ℕ). piece.Request (Put c.in_ok-key.key v)) c.into_value.ensures) c.in_ok-key.ensures c.in_ok-copied.ensures
