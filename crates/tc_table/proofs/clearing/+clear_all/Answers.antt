use Rattle.std.proofs.Common.{rules}
use Rattle.tc_space.specs.Frames.{keeps_then}
use Rattle.td_index.proofs.Handed.{err_handed}
use Rattle.tc_table.specs.Sides.{AllReady}
use Rattle.tc_table.proofs.Cleared.{all_clear, first_bare, none_clear, rest_bare}
use Rattle.tc_table.proofs.Turning.{all_stay, all_stay_on, first_ready, none_of, rest_ready, side_same}
use Rattle.tc_table.proofs.clearing.+clear_all.Goals as goal

pub returns-clause-clears : goal.returns-clause-clears
returns-clause-clears g t c =
    all_clear g.S.Space g.L.Multi g.D.Multi c.args.sides.now c.in-Some.first.now _ c.in-Some.rest.now c.clear_all.new.sides c.args.space.now c.clear_tree.new.space c.clear_all.new.space
    c.in-Some.ensures.cases.0 (side_same g.S.Space g.L.Multi g.D.Multi c.in-Some.first.now c.clear_tree.new.tree c.clear_tree.ensures.stays) c.in_ok-clear_tree.ensures.clears c.in_ok-clear_all.ensures.clears

pub returns-clause-stays : goal.returns-clause-stays
returns-clause-stays g t c = all_stay_on g.S.Space g.L.Multi g.D.Multi c.args.sides.now c.in-Some.first.now _ c.in-Some.rest.now c.clear_all.new.sides c.in-Some.ensures.cases.0 (side_same g.S.Space g.L.Multi g.D.Multi c.in-Some.first.now c.clear_tree.new.tree c.clear_tree.ensures.stays) c.clear_all.ensures.stays

pub returns-in_err-clear_all-clause-stays : goal.returns-in_err-clear_all-clause-stays
returns-in_err-clear_all-clause-stays g t c = all_stay_on g.S.Space g.L.Multi g.D.Multi c.args.sides.now c.in-Some.first.now _ c.in-Some.rest.now c.clear_all.new.sides c.in-Some.ensures.cases.0 (side_same g.S.Space g.L.Multi g.D.Multi c.in-Some.first.now c.clear_tree.new.tree c.clear_tree.ensures.stays) c.clear_all.ensures.stays

pub returns-in_err-clear_all-clause-keeps : goal.returns-in_err-clear_all-clause-keeps
returns-in_err-clear_all-clause-keeps g t c = keeps_then g.S.Space c.args.space.now c.clear_tree.new.space c.clear_all.new.space c.clear_tree.ensures.keeps c.clear_all.ensures.keeps

pub returns-in_err-clear_tree-clause-stays : goal.returns-in_err-clear_tree-clause-stays
returns-in_err-clear_tree-clause-stays g t c = all_stay_on g.S.Space g.L.Multi g.D.Multi c.args.sides.now c.in-Some.first.now _ c.in-Some.rest.now c.in-Some.rest.now c.in-Some.ensures.cases.0 (side_same g.S.Space g.L.Multi g.D.Multi c.in-Some.first.now c.clear_tree.new.tree c.clear_tree.ensures.stays) (all_stay g.S.Space g.L.Multi g.D.Multi c.in-Some.rest.now)

pub returns-in_default-clause-clears : goal.returns-in_default-clause-clears
returns-in_default-clause-clears g t c = none_clear g.S.Space g.L.Multi g.D.Multi c.args.sides.now c.args.space.now (none_of g.S.Space g.L.Multi g.D.Multi c.args.sides.now c.in_default.ensures.cases) c.requires.sound

pub returns-in_default-clause-stays : goal.returns-in_default-clause-stays
returns-in_default-clause-stays g t c = all_stay g.S.Space g.L.Multi g.D.Multi c.args.sides.now

pub clear_tree-requires : goal.clear_tree-requires
clear_tree-requires g t c = first_ready g.S.Space g.L.Multi g.D.Multi c.args.sides.now c.in-Some.first.now c.in-Some.rest.now c.args.space.now c.in-Some.ensures.cases.0 c.requires

pub clear_all-requires : goal.clear_all-requires
clear_all-requires g t c κs within =
    let ready : AllReady g.S.Space g.L.Multi g.D.Multi c.in-Some.rest.now c.clear_tree.new.space =
    rest_ready g.S.Space g.L.Multi g.D.Multi c.args.sides.now c.in-Some.first.now c.in-Some.rest.now c.args.space.now c.clear_tree.new.space c.in-Some.ensures.cases.0 c.requires c.in_ok-clear_tree.ensures.clears.sound c.in_ok-clear_tree.ensures.clears.others in
    search (rules, ready)

pub returns-in_err-clear_all-clause-full : goal.returns-in_err-clear_all-clause-full
returns-in_err-clear_all-clause-full g t c = λ is.
    rest_bare g.S.Space g.L.Multi g.D.Multi c.args.sides.now c.in-Some.first.now c.in-Some.rest.now c.args.space.now c.clear_tree.new.space c.clear_all.new.space c.in-Some.ensures.cases.0 c.clear_tree.ensures.keeps c.in_ok-clear_tree.ensures.clears.others (c.in_err-clear_all.ensures.full (err_handed c.from_residual-in_err-clear_all.result c.in_err-clear_all.field-0.0 _ c.from_residual-in_err-clear_all.ensures.1 is))

pub returns-in_err-clear_tree-clause-full : goal.returns-in_err-clear_tree-clause-full
returns-in_err-clear_tree-clause-full g t c = λ is. first_bare g.S.Space g.L.Multi g.D.Multi c.args.sides.now c.in-Some.first.now c.in-Some.rest.now c.args.space.now c.clear_tree.new.space c.in-Some.ensures.cases.0 (c.in_err-clear_tree.ensures.full (err_handed c.from_residual.result c.in_err-clear_tree.field-0.0 _ c.from_residual.ensures.1 is))
