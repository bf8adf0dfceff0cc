use Rattle.std.proofs.Common.{List, ℕ, subst, sym}
use Rattle.ty_memc.specs.Fronts.{IsPieceSeen}
use Rattle.ty_memc.proofs.PieceFronts.{piece_seen_more}
use Rattle.ty_core.specs.Gathering.{all_of}
use Rattle.ty_core.proofs.unread.Unread.push.Goals as goal

pub sight-self-inside-requires-clause-seen : goal.sight-self-inside-requires-clause-seen
sight-self-inside-requires-clause-seen c = subst (λ (l : List ℕ). IsPieceSeen c.self.inside.seen l) (sym c.in_ok-add.ensures.ok) (piece_seen_more c.self.inside.seen (all_of c.self.inside.large c.self.inside.bytes.items) c.args.bytes.now c.self.invariant.sighted.sees)
