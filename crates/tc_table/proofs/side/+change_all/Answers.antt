use Rattle.std.proofs.Common.{rules}
use Rattle.std.specs.Option.{option_copied}
use Rattle.tc_space.specs.Frames.{keeps_then}
use Rattle.td_index.proofs.Handed.{err_handed}
use Rattle.tc_table.specs.Sides.{AllReady}
use Rattle.tc_table.proofs.Turning.{all_stay, all_stay_on, all_turn, first_full, first_ready, none_of, none_turn, rest_full, rest_ready}
use Rattle.tc_table.proofs.side.+change_all.Goals as goal

pub returns-clause-turn : goal.returns-clause-turn
returns-clause-turn g t c =
    all_turn g.S.Space g.L.Multi g.D.Multi c.args.sides.now c.in-Some.first.now c.change_side.new.side c.in-Some.rest.now c.change_all.new.sides c.args.key.now (option_copied c.args.old) (option_copied c.args.new) c.args.space.now c.change_side.new.space c.change_all.new.space
    c.in-Some.ensures.cases.0 c.change_side.ensures.stays c.in_ok-change_side.ensures.turns c.in_ok-change_all.ensures.turn

pub returns-clause-stays : goal.returns-clause-stays
returns-clause-stays g t c = all_stay_on g.S.Space g.L.Multi g.D.Multi c.args.sides.now c.in-Some.first.now c.change_side.new.side c.in-Some.rest.now c.change_all.new.sides c.in-Some.ensures.cases.0 c.change_side.ensures.stays c.change_all.ensures.stays

pub returns-in_err-change_all-clause-stays : goal.returns-in_err-change_all-clause-stays
returns-in_err-change_all-clause-stays g t c = all_stay_on g.S.Space g.L.Multi g.D.Multi c.args.sides.now c.in-Some.first.now c.change_side.new.side c.in-Some.rest.now c.change_all.new.sides c.in-Some.ensures.cases.0 c.change_side.ensures.stays c.change_all.ensures.stays

pub returns-in_err-change_all-clause-full : goal.returns-in_err-change_all-clause-full
returns-in_err-change_all-clause-full g t c = λ is.
    rest_full g.S.Space g.L.Multi g.D.Multi g.L.O.Order.cmp g.D.O.Order.cmp c.args.sides.now c.in-Some.first.now c.in-Some.rest.now c.args.key.now (option_copied c.args.old) (option_copied c.args.new) c.args.space.now c.change_side.new.space c.change_all.new.space
    c.in-Some.ensures.cases.0 c.change_side.ensures.keeps c.in_ok-change_side.ensures.turns.others (c.in_err-change_all.ensures.full (err_handed c.from_residual-in_err-change_all.result c.in_err-change_all.field-0.0 _ c.from_residual-in_err-change_all.ensures.1 is))

pub returns-in_err-change_all-clause-keeps : goal.returns-in_err-change_all-clause-keeps
returns-in_err-change_all-clause-keeps g t c = keeps_then g.S.Space c.args.space.now c.change_side.new.space c.change_all.new.space c.change_side.ensures.keeps c.change_all.ensures.keeps

pub returns-in_err-change_side-clause-stays : goal.returns-in_err-change_side-clause-stays
returns-in_err-change_side-clause-stays g t c = all_stay_on g.S.Space g.L.Multi g.D.Multi c.args.sides.now c.in-Some.first.now c.change_side.new.side c.in-Some.rest.now c.in-Some.rest.now c.in-Some.ensures.cases.0 c.change_side.ensures.stays (all_stay g.S.Space g.L.Multi g.D.Multi c.in-Some.rest.now)

pub returns-in_err-change_side-clause-full : goal.returns-in_err-change_side-clause-full
returns-in_err-change_side-clause-full g t c = λ is.
    first_full g.S.Space g.L.Multi g.D.Multi g.L.O.Order.cmp g.D.O.Order.cmp c.args.sides.now c.in-Some.first.now c.in-Some.rest.now c.args.key.now (option_copied c.args.old) (option_copied c.args.new) c.args.space.now c.change_side.new.space
    c.in-Some.ensures.cases.0 (c.in_err-change_side.ensures.full (err_handed c.from_residual.result c.in_err-change_side.field-0.0 _ c.from_residual.ensures.1 is))

pub returns-in_default-clause-turn : goal.returns-in_default-clause-turn
returns-in_default-clause-turn g t c = none_turn g.S.Space g.L.Multi g.D.Multi c.args.sides.now c.args.key.now (option_copied c.args.old) (option_copied c.args.new) c.args.space.now (none_of g.S.Space g.L.Multi g.D.Multi c.args.sides.now c.in_default.ensures.cases) c.requires.ready.sound

pub returns-in_default-clause-stays : goal.returns-in_default-clause-stays
returns-in_default-clause-stays g t c = all_stay g.S.Space g.L.Multi g.D.Multi c.args.sides.now

pub change_side-requires : goal.change_side-requires
change_side-requires g t c = record { ready = first_ready g.S.Space g.L.Multi g.D.Multi c.args.sides.now c.in-Some.first.now c.in-Some.rest.now c.args.space.now c.in-Some.ensures.cases.0 c.requires.ready }

pub change_all-requires : goal.change_all-requires
change_all-requires g t c κs within =
    let ready : AllReady g.S.Space g.L.Multi g.D.Multi c.in-Some.rest.now c.change_side.new.space =
    rest_ready g.S.Space g.L.Multi g.D.Multi c.args.sides.now c.in-Some.first.now c.in-Some.rest.now c.args.space.now c.change_side.new.space c.in-Some.ensures.cases.0 c.requires.ready c.in_ok-change_side.ensures.turns.sound c.in_ok-change_side.ensures.turns.others in
    search (rules, ready)
