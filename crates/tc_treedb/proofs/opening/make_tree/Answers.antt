use Rattle.bt_page.proofs.Runs.{err_handed}
use Rattle.tc_space.specs.Frames.{keeps_then}
use Rattle.tc_treedb.proofs.Made.{made_ready, settled_new}
use Rattle.tc_treedb.proofs.Opened.{lacks_log}
use Rattle.tc_treedb.proofs.opening.make_tree.Goals as goal

pub returns-in_err-kept-clause-full : goal.returns-in_err-kept-clause-full
returns-in_err-kept-clause-full g c = λ full told. c.in_err-kept.ensures.full (err_handed c.from_residual.result c.in_err-kept.field-0.0 _ c.from_residual.ensures.1 full) told

pub settle-requires : goal.settle-requires
settle-requires g c = made_ready g.S.Space c.args.shape.now c.args.hash _ _ _ c.in_ok-kept.ensures.made

pub returns-in_err-settle-clause-full : goal.returns-in_err-settle-clause-full
returns-in_err-settle-clause-full g c = λ full told. lacks_log g.S.Space c.args.shape.now c.args.hash c.args.space.now c.settle.new.space c.requires.new (c.in_err-settle.ensures.full (err_handed c.from_residual-in_err-settle.result c.in_err-settle.field-0.0 _ c.from_residual-in_err-settle.ensures.1 full) told)

pub returns-in_err-settle-clause-keeps : goal.returns-in_err-settle-clause-keeps
returns-in_err-settle-clause-keeps g c = keeps_then g.S.Space _ _ _ c.create.ensures.keeps c.settle.ensures.keeps

pub returns-clause-made : goal.returns-clause-made
returns-clause-made g c = settled_new g.S.Space c.args.shape.now c.args.hash _ _ _ _ _ c.requires.new c.in_ok-kept.ensures.made c.in_ok-settle.ensures.settled c.in_ok-settle.ensures.stands c.in_ok-settle.ensures.trims

pub returns-clause-keeps : goal.returns-clause-keeps
returns-clause-keeps g c = keeps_then g.S.Space _ _ _ c.create.ensures.keeps c.settle.ensures.keeps
