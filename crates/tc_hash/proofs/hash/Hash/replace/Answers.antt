use Rattle.std.proofs.Common.{◌≡◌, inl, arith}
use Rattle.tc_base.specs.declared.kind.Mode.TheVariants.{Over}
use Rattle.tc_space.specs.declared.errors.RecErr.TheVariants.{Fault, Full}
use Rattle.hf_chain.proofs.Paying.{paid_none}
use Rattle.tc_hash.proofs.Stored.{from_done, from_refused, gives_more, lacks_large, lacks_log}
use Rattle.tc_reach.proofs.Handed.{on_err_of}
use Rattle.tc_hash.proofs.hash.Hash.replace.Goals as goal

pub returns-in_default-clause-full : goal.returns-in_default-clause-full
returns-in_default-clause-full g c = λ full. lacks_large g.S.Space Over c.args.key.now c.args.value.now c.args.self.now c.args.space.now c.full_in.new.space c.full_in.ensures.spoiled (let e : c.full_in.result ≡ Full = cc in c.full_in.ensures.full e c.args.self.now.body.file) (λ m w. c.in_default.ensures.none)

pub move_to_larger-requires-clause-block : goal.move_to_larger-requires-clause-block
move_to_larger-requires-clause-block g c = record { ready = c.requires.ready; found = c.requires.found; block = λ t. c.block_of-room.ensures _ _ _ (c.requires.found.known.is t) }

pub replace_inside-requires-clause-block : goal.replace_inside-requires-clause-block
replace_inside-requires-clause-block g c = record { ready = c.requires.ready; found = c.requires.found; block = λ t. c.block_of-room.ensures _ _ _ (c.requires.found.known.is t) }

pub replace_inside-requires-clause-fits : goal.replace_inside-requires-clause-fits
replace_inside-requires-clause-fits g c = record { within = omega (arith, c.in-Some.ensures.some.0, c.if-wanted-room.false); most = omega (arith, c.in-Some.ensures.some.0, c.in-Some.ensures.some.1) }

pub returns-clause-put : goal.returns-clause-put
returns-clause-put g c = from_done _ c.replace_inside.ensures.put (λ given. gives_more g.S.Space Over c.args.key.now c.args.value.now 5 34 c.args.self.now _ c.args.space.now c.replace_inside.new.space (omega arith) given)

pub returns-clause-refused : goal.returns-clause-refused
returns-clause-refused g c = from_refused _ c.replace_inside.ensures.outcome.err (λ f. inl f)

pub returns-clause-full : goal.returns-clause-full
returns-clause-full g c = λ full. lacks_log g.S.Space Over c.args.key.now c.args.value.now c.args.self.now c.args.space.now c.replace_inside.new.space (on_err_of _ _ c.replace_inside.ensures.outcome.err full) (c.replace_inside.ensures.full full)

pub returns-in_default-clause-paid : goal.returns-in_default-clause-paid
returns-in_default-clause-paid g c = paid_none _ _ _ _ (omega (arith, c.full_in.ensures.writes.counted))

pub returns-clause-paid : goal.returns-clause-paid
returns-clause-paid g c = paid_none _ _ _ _ (omega (arith, c.replace_inside.ensures.counted))

pub returns-in_default-clause-cause : goal.returns-in_default-clause-cause
returns-in_default-clause-cause g c = λ is. let e : c.full_in.result ≡ Fault = cc in c.full_in.ensures.fault e
