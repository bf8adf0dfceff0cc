use Rattle.std.proofs.Common.{inl, inr, ⊎_elim}
use Rattle.tc_hash.proofs.Enlarged.{anew_packed, lacks_record, pairs_make, writes_pairs}
use Rattle.tc_hash.specs.Keeping.{Means, file_of}
use Rattle.tc_reach.proofs.Handed.{err_handed, on_err_any}
use Rattle.tc_space.specs.Stores.{Only, ready_writes}
use Rattle.tc_hash.proofs.hash.Hash.write_large.Goals as goal

pub put_pairs-requires-clause-ready : goal.put_pairs-requires-clause-ready
put_pairs-requires-clause-ready g c = ready_writes g.S.Space (Means g.S.Space) (Only (file_of c.args.self.now)) _ c.args.self.now c.make_large.new.self c.args.space.now c.make_large.new.space c.in_ok-make_large.ensures.made.empties c.requires.ready

pub put_pairs-requires-clause-nothing : goal.put_pairs-requires-clause-nothing
put_pairs-requires-clause-nothing g c = c.in_ok-make_large.ensures.made.nothing

pub returns-clause-packed : goal.returns-clause-packed
returns-clause-packed g c = anew_packed g.S.Space c.args.self.now c.make_large.new.self c.put_pairs.new.self c.args.space.now c.make_large.new.space c.put_pairs.new.space c.args.pairs.now c.make_large.ensures.stays.map.file (λ m w. let are = c.requires.are m w in (are.each, pairs_make m c.args.pairs.now are)) c.in_ok-make_large.ensures.made.empties c.in_ok-put_pairs.ensures.put.writes

pub returns-clause-writes : goal.returns-clause-writes
returns-clause-writes g c = writes_pairs g.S.Space c.args.self.now c.make_large.new.self c.put_pairs.new.self c.args.space.now c.make_large.new.space c.put_pairs.new.space c.args.pairs.now c.in_ok-make_large.ensures.made c.put_pairs.ensures.stays c.in_ok-put_pairs.ensures.put c.requires.are

pub returns-in_err-put_pairs-clause-full : goal.returns-in_err-put_pairs-clause-full
returns-in_err-put_pairs-clause-full g c = λ full t. ⊎_elim
    (λ log. inl log)
    (λ one. inr (inr (lacks_record g.S.Space c.args.self.now c.make_large.new.self c.args.space.now c.put_pairs.new.space c.args.pairs.now c.make_large.ensures.stays.map.file c.in_ok-make_large.ensures.made.is_new c.in_ok-make_large.ensures.made.ends c.requires.are one)))
    (c.in_err-put_pairs.ensures.full (err_handed c.from_residual-in_err-put_pairs.result c.in_err-put_pairs.field-0.0 _ c.from_residual-in_err-put_pairs.ensures.1 full) t)

pub returns-in_err-make_large-clause-full : goal.returns-in_err-make_large-clause-full
returns-in_err-make_large-clause-full g c = λ full t. ⊎_elim (λ log. inl log) (λ sections. inr (inl sections)) (c.in_err-make_large.ensures.full (err_handed c.from_residual.result c.in_err-make_large.field-0.0 _ c.from_residual.ensures.1 full) t)

pub returns-in_err-make_large-clause-left : goal.returns-in_err-make_large-clause-left
returns-in_err-make_large-clause-left g c = on_err_any _ c.in_err-make_large.ensures.left

pub returns-in_err-put_pairs-clause-left : goal.returns-in_err-put_pairs-clause-left
returns-in_err-put_pairs-clause-left g c = on_err_any _ (inl c.in_err-put_pairs.ensures.outcome.err)
