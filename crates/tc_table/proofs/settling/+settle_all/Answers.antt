use Rattle.std.proofs.Common.{rules}
use Rattle.tc_space.specs.Frames.{keeps_then}
use Rattle.tc_table.specs.Sides.{AllReady}
use Rattle.tc_table.proofs.Packed.{all_packs, none_packs}
use Rattle.tc_table.proofs.Settled.{all_bring, all_keep, none_bring, none_keep}
use Rattle.tc_table.proofs.Turning.{all_stay, all_stay_on, first_ready, none_of, rest_ready, side_same}
use Rattle.tc_table.proofs.settling.+settle_all.Goals as goal

pub returns-clause-kept : goal.returns-clause-kept
returns-clause-kept g t c =
    all_keep g.S.Space g.L.Multi g.D.Multi c.args.sides.now c.in-Some.first.now _ c.in-Some.rest.now c.settle_all.new.sides c.args.space.now c.settle_tree.new.space c.settle_all.new.space
    c.in-Some.ensures.cases.0 (side_same g.S.Space g.L.Multi g.D.Multi c.in-Some.first.now c.settle_tree.new.tree c.settle_tree.ensures.stays) c.in_ok-settle_tree.ensures.kept c.in_ok-settle_all.ensures.kept

pub returns-clause-brings : goal.returns-clause-brings
returns-clause-brings g t c =
    all_bring g.S.Space g.L.Multi g.D.Multi c.args.sides.now c.in-Some.first.now c.settle_tree.new.tree c.in-Some.rest.now c.settle_all.new.sides c.args.space.now c.settle_tree.new.space c.settle_all.new.space
    c.in-Some.ensures.cases.0 c.in_ok-settle_tree.ensures.kept c.in_ok-settle_tree.ensures.brings c.in_ok-settle_all.ensures.kept c.in_ok-settle_all.ensures.brings

pub returns-clause-stays : goal.returns-clause-stays
returns-clause-stays g t c = all_stay_on g.S.Space g.L.Multi g.D.Multi c.args.sides.now c.in-Some.first.now _ c.in-Some.rest.now c.settle_all.new.sides c.in-Some.ensures.cases.0 (side_same g.S.Space g.L.Multi g.D.Multi c.in-Some.first.now c.settle_tree.new.tree c.settle_tree.ensures.stays) c.settle_all.ensures.stays

pub returns-in_err-settle_all-clause-stays : goal.returns-in_err-settle_all-clause-stays
returns-in_err-settle_all-clause-stays g t c = all_stay_on g.S.Space g.L.Multi g.D.Multi c.args.sides.now c.in-Some.first.now _ c.in-Some.rest.now c.settle_all.new.sides c.in-Some.ensures.cases.0 (side_same g.S.Space g.L.Multi g.D.Multi c.in-Some.first.now c.settle_tree.new.tree c.settle_tree.ensures.stays) c.settle_all.ensures.stays

pub returns-in_err-settle_all-clause-keeps : goal.returns-in_err-settle_all-clause-keeps
returns-in_err-settle_all-clause-keeps g t c = keeps_then g.S.Space c.args.space.now c.settle_tree.new.space c.settle_all.new.space c.settle_tree.ensures.keeps c.settle_all.ensures.keeps

pub returns-in_err-settle_tree-clause-stays : goal.returns-in_err-settle_tree-clause-stays
returns-in_err-settle_tree-clause-stays g t c = all_stay_on g.S.Space g.L.Multi g.D.Multi c.args.sides.now c.in-Some.first.now _ c.in-Some.rest.now c.in-Some.rest.now c.in-Some.ensures.cases.0 (side_same g.S.Space g.L.Multi g.D.Multi c.in-Some.first.now c.settle_tree.new.tree c.settle_tree.ensures.stays) (all_stay g.S.Space g.L.Multi g.D.Multi c.in-Some.rest.now)

pub returns-in_default-clause-kept : goal.returns-in_default-clause-kept
returns-in_default-clause-kept g t c = none_keep g.S.Space g.L.Multi g.D.Multi c.args.sides.now c.args.space.now (none_of g.S.Space g.L.Multi g.D.Multi c.args.sides.now c.in_default.ensures.cases) c.requires.sound

pub returns-in_default-clause-brings : goal.returns-in_default-clause-brings
returns-in_default-clause-brings g t c = none_bring g.S.Space g.L.Multi g.D.Multi c.args.sides.now c.args.space.now (none_of g.S.Space g.L.Multi g.D.Multi c.args.sides.now c.in_default.ensures.cases)

pub returns-in_default-clause-stays : goal.returns-in_default-clause-stays
returns-in_default-clause-stays g t c = all_stay g.S.Space g.L.Multi g.D.Multi c.args.sides.now

pub settle_tree-requires : goal.settle_tree-requires
settle_tree-requires g t c = first_ready g.S.Space g.L.Multi g.D.Multi c.args.sides.now c.in-Some.first.now c.in-Some.rest.now c.args.space.now c.in-Some.ensures.cases.0 c.requires

pub settle_all-requires : goal.settle_all-requires
settle_all-requires g t c κs within =
    let ready : AllReady g.S.Space g.L.Multi g.D.Multi c.in-Some.rest.now c.settle_tree.new.space =
    rest_ready g.S.Space g.L.Multi g.D.Multi c.args.sides.now c.in-Some.first.now c.in-Some.rest.now c.args.space.now c.settle_tree.new.space c.in-Some.ensures.cases.0 c.requires c.in_ok-settle_tree.ensures.kept.sound c.in_ok-settle_tree.ensures.kept.others in
    search (rules, ready)

pub returns-clause-packs : goal.returns-clause-packs
returns-clause-packs g t c =
    all_packs g.S.Space g.L.Multi g.D.Multi c.args.sides.now c.in-Some.first.now c.settle_tree.new.tree c.in-Some.rest.now c.settle_all.new.sides c.args.space.now c.settle_tree.new.space c.settle_all.new.space
    c.in-Some.ensures.cases.0 c.in_ok-settle_tree.ensures.kept c.in_ok-settle_tree.ensures.packs c.in_ok-settle_all.ensures.kept c.in_ok-settle_all.ensures.packs

pub returns-in_default-clause-packs : goal.returns-in_default-clause-packs
returns-in_default-clause-packs g t c = none_packs g.S.Space g.L.Multi g.D.Multi c.args.sides.now c.args.space.now (none_of g.S.Space g.L.Multi g.D.Multi c.args.sides.now c.in_default.ensures.cases)
