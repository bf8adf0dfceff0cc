use Rattle.std.proofs.Common.{rules}
use Rattle.tc_space.specs.Frames.{keeps_then}
use Rattle.tc_table.specs.Sides.{AllReady}
use Rattle.tc_table.proofs.Packed.{all_tighten, none_tighten}
use Rattle.tc_table.proofs.Settled.{all_keep, none_keep}
use Rattle.tc_table.proofs.Turning.{all_stay, all_stay_on, first_ready, none_of, rest_ready, side_same}
use Rattle.tc_table.proofs.packing.+pack_all.Goals as goal

pub returns-clause-kept : goal.returns-clause-kept
returns-clause-kept g t c =
    all_keep g.S.Space g.L.Multi g.D.Multi c.args.sides.now c.in-Some.first.now _ c.in-Some.rest.now c.pack_all.new.sides c.args.space.now c.pack_tree.new.space c.pack_all.new.space
    c.in-Some.ensures.cases.0 (side_same g.S.Space g.L.Multi g.D.Multi c.in-Some.first.now c.pack_tree.new.tree c.in_ok-pack_tree.ensures.stays) c.in_ok-pack_tree.ensures.kept c.in_ok-pack_all.ensures.kept

pub returns-clause-tight : goal.returns-clause-tight
returns-clause-tight g t c =
    all_tighten g.S.Space g.L.Multi g.D.Multi c.args.sides.now c.in-Some.first.now _ c.in-Some.rest.now c.pack_all.new.sides c.args.space.now c.pack_tree.new.space c.pack_all.new.space
    c.in-Some.ensures.cases.0 (side_same g.S.Space g.L.Multi g.D.Multi c.in-Some.first.now c.pack_tree.new.tree c.in_ok-pack_tree.ensures.stays) c.in_ok-pack_all.ensures.stays c.in_ok-pack_tree.ensures.kept c.in_ok-pack_tree.ensures.tight c.in_ok-pack_all.ensures.kept c.in_ok-pack_all.ensures.tight

pub returns-clause-stays : goal.returns-clause-stays
returns-clause-stays g t c = all_stay_on g.S.Space g.L.Multi g.D.Multi c.args.sides.now c.in-Some.first.now _ c.in-Some.rest.now c.pack_all.new.sides c.in-Some.ensures.cases.0 (side_same g.S.Space g.L.Multi g.D.Multi c.in-Some.first.now c.pack_tree.new.tree c.in_ok-pack_tree.ensures.stays) c.in_ok-pack_all.ensures.stays

pub returns-in_err-pack_all-clause-keeps : goal.returns-in_err-pack_all-clause-keeps
returns-in_err-pack_all-clause-keeps g t c = keeps_then g.S.Space c.args.space.now c.pack_tree.new.space c.pack_all.new.space c.pack_tree.ensures.keeps c.pack_all.ensures.keeps

pub returns-in_default-clause-kept : goal.returns-in_default-clause-kept
returns-in_default-clause-kept g t c = none_keep g.S.Space g.L.Multi g.D.Multi c.args.sides.now c.args.space.now (none_of g.S.Space g.L.Multi g.D.Multi c.args.sides.now c.in_default.ensures.cases) c.requires.sound

pub returns-in_default-clause-tight : goal.returns-in_default-clause-tight
returns-in_default-clause-tight g t c = none_tighten g.S.Space g.L.Multi g.D.Multi c.args.sides.now c.args.space.now (none_of g.S.Space g.L.Multi g.D.Multi c.args.sides.now c.in_default.ensures.cases)

pub returns-in_default-clause-stays : goal.returns-in_default-clause-stays
returns-in_default-clause-stays g t c = all_stay g.S.Space g.L.Multi g.D.Multi c.args.sides.now

pub pack_tree-requires : goal.pack_tree-requires
pack_tree-requires g t c = first_ready g.S.Space g.L.Multi g.D.Multi c.args.sides.now c.in-Some.first.now c.in-Some.rest.now c.args.space.now c.in-Some.ensures.cases.0 c.requires

pub pack_all-requires : goal.pack_all-requires
pack_all-requires g t c κs within =
    let ready : AllReady g.S.Space g.L.Multi g.D.Multi c.in-Some.rest.now c.pack_tree.new.space =
    rest_ready g.S.Space g.L.Multi g.D.Multi c.args.sides.now c.in-Some.first.now c.in-Some.rest.now c.args.space.now c.pack_tree.new.space c.in-Some.ensures.cases.0 c.requires c.in_ok-pack_tree.ensures.kept.sound c.in_ok-pack_tree.ensures.kept.others in
    search (rules, ready)
