use Rattle.std.proofs.Common.{refl, arith}
use Rattle.tc_engine.proofs.Gathering.{adds_long}
use Rattle.tc_engine.proofs.rows.Rows.item.Goals as goal

pub returns-then-not-has_room-clause-added : goal.returns-then-not-has_room-clause-added
returns-then-not-has_room-clause-added c = adds_long _ _ _ (λ short. let less = c.if-not-has_room.ensures.lacks refl short in omega (arith, less)) refl refl refl

pub overflow_cast-text : goal.overflow_cast-text
overflow_cast-text c = let fits = (c.if-not-has_room.ensures.fits refl).fits in let within = c.args.self.now.within in let small = c.args.self.now.small in omega (arith, fits, within, small)
