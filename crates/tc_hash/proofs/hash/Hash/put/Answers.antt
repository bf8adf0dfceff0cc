use Rattle.std.proofs.Common.{◌≡◌, ◌∙◌, inl, inr, refl, sym, arith}
use Rattle.tc_space.specs.Errors.{put_of}
use Rattle.tc_space.specs.declared.errors.PutErr.TheVariants as put
use Rattle.tc_space.specs.declared.errors.RecErr.{RecErr}
use Rattle.tc_space.specs.declared.errors.RecErr.TheVariants.{Fault, Full, Memory}
use Rattle.tc_hash.proofs.Answered.{held_so, lacks_long, long_so, stored_so}
use Rattle.tc_reach.proofs.Handed.{on_err_any}
use Rattle.tc_hash.proofs.hash.Hash.put.Goals as goal

full_from : (e : RecErr) → put_of e ≡ put.Full → e ≡ Full
full_from Full is = refl
full_from Fault is = absurd cc
full_from Memory is = absurd cc

fault_from : (e : RecErr) → put_of e ≡ put.Fault → e ≡ Fault
fault_from Full is = absurd cc
fault_from Fault is = refl
fault_from Memory is = absurd cc

pub returns-in-Stored-clause-put : goal.returns-in-Stored-clause-put
returns-in-Stored-clause-put g c = (stored_so g.S.Space c.args.mode c.args.key.now c.args.value.now 1073741824 _ _ c.args.self.now c.put_within.new.self c.args.space.now c.put_within.new.space c.in-Stored.is c.in_ok-put_within.ensures.put).puts

pub returns-in-Held-clause-exists : goal.returns-in-Held-clause-exists
returns-in-Held-clause-exists g c = λ e. held_so g.S.Space c.args.mode c.args.key.now c.args.value.now 1073741824 _ c.args.self.now c.put_within.new.self c.args.space.now c.put_within.new.space c.in-Held.is c.in_ok-put_within.ensures.put

pub returns-in-Held-clause-refused : goal.returns-in-Held-clause-refused
returns-in-Held-clause-refused g c = inr (held_so g.S.Space c.args.mode c.args.key.now c.args.value.now 1073741824 _ c.args.self.now c.put_within.new.self c.args.space.now c.put_within.new.space c.in-Held.is c.in_ok-put_within.ensures.put).reads

pub returns-in-TooLong-clause-refused : goal.returns-in-TooLong-clause-refused
returns-in-TooLong-clause-refused g c = inl c.full_in.ensures.spoiled

pub returns-in-TooLong-clause-full : goal.returns-in-TooLong-clause-full
returns-in-TooLong-clause-full g c = λ full.
    let is : c.from.result ≡ put.Full = cc in
    lacks_long g.S.Space c.args.mode c.args.key.now c.args.value.now 1073741824 c.args.self.now c.put_within.new.self c.args.space.now c.put_within.new.space c.full_in.new.space refl c.full_in.ensures.spoiled
    (c.full_in.ensures.full (full_from c.full_in.result (sym c.from.ensures ∙ is)) c.args.self.now.body.file)
    (long_so g.S.Space c.args.mode c.args.key.now c.args.value.now 1073741824 _ c.args.self.now c.put_within.new.self c.args.space.now c.put_within.new.space c.in-TooLong.is c.in_ok-put_within.ensures.put)

pub returns-in-TooLong-clause-cause : goal.returns-in-TooLong-clause-cause
returns-in-TooLong-clause-cause g c = λ is.
    let e : c.from.result ≡ put.Fault = cc in
    let rose = c.full_in.ensures.fault (fault_from c.full_in.result (sym c.from.ensures ∙ e)) in
    omega (arith, rose, c.put_within.ensures.keeps.later)

pub returns-in_err-put_within-clause-refused : goal.returns-in_err-put_within-clause-refused
returns-in_err-put_within-clause-refused g c = on_err_any c.from_residual.result c.in_err-put_within.ensures.refused
