use Rattle.std.proofs.Common.{arith}
use Rattle.ty_wire.specs.declared.reading.Front.TheVariants as front
use Rattle.ty_look.proofs.Ongoing.{still_part, is_taken, least_is}
use Rattle.ty_look.proofs.looking.look.Goals as goal

pub returns-then-bytes-seen-clause-grammar : goal.returns-then-bytes-seen-clause-grammar
returns-then-bytes-seen-clause-grammar c = is_taken _ front.Part (λ i. omega (arith, c.type_inv.bytes i)) (still_part _ _ c.requires.part c.if-bytes-seen.true)

pub returns-then-bytes-seen-clause-least : goal.returns-then-bytes-seen-clause-least
returns-then-bytes-seen-clause-least c = least_is c.args.seen.now _ front.Part c.requires (λ e. c.if-bytes-seen.true)

pub returns-clause-grammar : goal.returns-clause-grammar
returns-clause-grammar c = is_taken _ _ (λ i. omega (arith, c.type_inv.bytes i)) c.look_further.ensures.reading

pub returns-clause-least : goal.returns-clause-least
returns-clause-least c = least_is c.look_further.new.seen _ _ c.look_further.ensures.seen c.look_further.ensures.more
