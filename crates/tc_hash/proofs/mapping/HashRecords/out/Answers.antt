use Rattle.std.proofs.Common.{sym, subst}
use Rattle.tc_hash.specs.Keeping.{Means, file_of}
use Rattle.tc_reach.proofs.Handed.{err_handed}
use Rattle.tc_space.specs.Changes.{is_in, out_of}
use Rattle.tc_space.specs.Stores.{Only, TakesOut}
use Rattle.tc_hash.proofs.Numbered.{stays_map}
use Rattle.tc_hash.proofs.mapping.HashRecords.out.Goals as goal

pub returns-clause-out : goal.returns-clause-out
returns-clause-out g c = subst (λ b. TakesOut g.S.Space (Only (file_of c.args.self.now)) (Means g.S.Space) (is_in c.args.key.now) (out_of c.args.key.now) b c.args.self.now c.out.new.self c.args.space.now c.out.new.space) (sym c.is_some.ensures) c.in_ok-out.ensures.out.out

pub returns-in_err-out-clause-full : goal.returns-in_err-out-clause-full
returns-in_err-out-clause-full g c = λ full. (c.in_err-out.ensures.full (err_handed c.from_residual.result c.in_err-out.field-0.0 _ c.from_residual.ensures.1 full)).1

pub returns-clause-stays : goal.returns-clause-stays
returns-clause-stays g c = stays_map c.args.self.now c.out.new.self c.out.ensures.stays

pub returns-in_err-out-clause-stays : goal.returns-in_err-out-clause-stays
returns-in_err-out-clause-stays g c = stays_map c.args.self.now c.out.new.self c.out.ensures.stays
