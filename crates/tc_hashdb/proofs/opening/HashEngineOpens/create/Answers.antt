use Rattle.std.proofs.Common.{refl, rules}
use Rattle.ty_base.proofs.Refusals.{none_broken, on_err_of}
use Rattle.tc_hashdb.proofs.Made.{created_as, none_stood}
use Rattle.tc_hashdb.proofs.opening.HashEngineOpens.create.Goals as goal

pub returns-clause-created : goal.returns-clause-created
returns-clause-created g c = λ t. created_as g.S.Space _ c.args.shape.now c.create.new.space c.in_ok-hash.ensures.file.0 c.in_ok-hash.ensures.file.1 refl (c.in_ok-hash.ensures.created.brought t) (c.in_ok-hash.ensures.created.held t) (c.in_ok-hash.ensures.created.head t) (c.in_ok-hash.ensures.created.made t)

pub returns-in_err-hash-clause-refused : goal.returns-in_err-hash-clause-refused
returns-in_err-hash-clause-refused g c = record { left = on_err_of _ c.in_err-hash.ensures.refused; cause = search rules; sound = none_broken c.from_residual.result c.in_err-hash.field-0.0 _ c.from_residual.ensures.1 }

pub returns-clause-stood : goal.returns-clause-stood
returns-clause-stood g c = none_stood g.S.Space c.args.space.now c.requires.empty

pub returns-in_err-hash-clause-beside : goal.returns-in_err-hash-clause-beside
returns-in_err-hash-clause-beside g c = λ full. none_stood g.S.Space c.args.space.now c.requires.empty
