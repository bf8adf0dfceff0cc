use Rattle.std.proofs.Common.{rules}
use Rattle.ty_base.proofs.Refusals.{full_from, none_broken}
use Rattle.tc_fixeddb.proofs.Made.{created_as, made_long, none_stood}
use Rattle.tc_fixeddb.proofs.opening.FixedEngineOpens.create.Goals as goal

pub returns-clause-created : goal.returns-clause-created
returns-clause-created g c = λ t. created_as g.S.Space _ c.args.shape.now c.create.new.space c.in_ok-fixed.ensures.shape.0 c.in_ok-fixed.ensures.shape.1 (c.in_ok-fixed.ensures.created.2 t) (c.in_ok-fixed.ensures.stands t) (record { numbers = c.in_ok-fixed.ensures.head t; long = made_long _ _ (c.in_ok-fixed.ensures.made t) })

pub returns-in_err-fixed-clause-full : goal.returns-in_err-fixed-clause-full
returns-in_err-fixed-clause-full g c = λ full t. c.in_err-fixed.ensures.full (full_from c.from_residual.result c.in_err-fixed.field-0.0 c.from_residual.ensures.1 full) t

pub returns-in_err-fixed-clause-refused : goal.returns-in_err-fixed-clause-refused
returns-in_err-fixed-clause-refused g c = record { left = search rules; cause = search rules; sound = none_broken c.from_residual.result c.in_err-fixed.field-0.0 _ c.from_residual.ensures.1 }

pub returns-clause-stood : goal.returns-clause-stood
returns-clause-stood g c = none_stood g.S.Space c.args.space.now c.requires.empty

pub returns-in_err-fixed-clause-beside : goal.returns-in_err-fixed-clause-beside
returns-in_err-fixed-clause-beside g c = λ full. none_stood g.S.Space c.args.space.now c.requires.empty
