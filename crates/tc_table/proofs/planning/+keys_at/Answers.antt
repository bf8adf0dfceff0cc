use Rattle.std.proofs.Common.{rules, refl, arith}
use Rattle.std.proofs.lemmas.Result.{IfOk-weaker}
use Rattle.tc_table.specs.Searching.{NamesAt}
use Rattle.tc_table.specs.Sides.{AllReady}
use Rattle.tc_table.proofs.Asking.{first_at, first_reads, rest_at, rest_reads}
use Rattle.tc_table.proofs.Turning.{all_stay, all_stay_on, first_ready, rest_same, side_stays}
use Rattle.tc_table.proofs.planning.+keys_at.Goals as goal

pub side_keys-requires : goal.side_keys-requires
side_keys-requires g t c = first_ready g.S.Space g.L.Multi g.D.Multi c.args.sides.now c.in-Some.first.now c.in-Some.rest.now c.args.space.now c.in-Some.ensures.cases.0 c.requires

pub keys_at-requires : goal.keys_at-requires
keys_at-requires g t c κs within =
    let ready : AllReady g.S.Space g.L.Multi g.D.Multi c.in-Some.rest.now c.args.space.now = rest_same g.S.Space g.L.Multi g.D.Multi c.args.sides.now c.in-Some.first.now c.in-Some.rest.now c.args.space.now c.in-Some.ensures.cases.0 c.requires in
    search (rules, ready)

pub returns-then-place-eq0-clause-named : goal.returns-then-place-eq0-clause-named
returns-then-place-eq0-clause-named g t c =
    IfOk-weaker _ _ (λ ks. NamesAt g.S.Space g.L.Multi g.D.Multi c.args.cond.now c.args.span.now c.args.place c.args.sides.now c.args.space.now ks)
    (λ ks named. first_at g.S.Space g.L.Multi g.D.Multi c.args.cond.now c.args.span.now c.args.sides.now c.in-Some.first.now c.in-Some.rest.now c.args.place c.args.space.now ks c.in-Some.ensures.cases.0 c.if-place-eq0.true named) c.side_keys.ensures.named

pub returns-then-place-eq0-clause-reads : goal.returns-then-place-eq0-clause-reads
returns-then-place-eq0-clause-reads g t c = first_reads g.S.Space g.L.Multi g.D.Multi c.args.sides.now _ c.in-Some.first.now c.side_keys.new.side c.in-Some.rest.now c.args.space.now c.side_keys.new.space c.in-Some.ensures.cases.0 refl c.side_keys.ensures.reads

pub returns-then-place-eq0-clause-stays : goal.returns-then-place-eq0-clause-stays
returns-then-place-eq0-clause-stays g t c = all_stay_on g.S.Space g.L.Multi g.D.Multi c.args.sides.now c.in-Some.first.now c.side_keys.new.side c.in-Some.rest.now c.in-Some.rest.now c.in-Some.ensures.cases.0 c.side_keys.ensures.stays (all_stay g.S.Space g.L.Multi g.D.Multi c.in-Some.rest.now)

pub returns-clause-named : goal.returns-clause-named
returns-clause-named g t c =
    IfOk-weaker _ _ (λ ks. NamesAt g.S.Space g.L.Multi g.D.Multi c.args.cond.now c.args.span.now c.args.place c.args.sides.now c.args.space.now ks)
    (λ ks named. rest_at g.S.Space g.L.Multi g.D.Multi c.args.cond.now c.args.span.now c.args.sides.now c.in-Some.first.now c.in-Some.rest.now c.args.place c.args.space.now ks c.in-Some.ensures.cases.0 (omega (arith, c.if-place-eq0.false)) named) c.keys_at.ensures.named

pub returns-clause-reads : goal.returns-clause-reads
returns-clause-reads g t c = rest_reads g.S.Space g.L.Multi g.D.Multi c.args.sides.now _ c.in-Some.first.now c.in-Some.rest.now c.keys_at.new.sides c.args.space.now c.keys_at.new.space c.in-Some.ensures.cases.0 refl c.keys_at.ensures.reads

pub returns-clause-stays : goal.returns-clause-stays
returns-clause-stays g t c = all_stay_on g.S.Space g.L.Multi g.D.Multi c.args.sides.now c.in-Some.first.now c.in-Some.first.now c.in-Some.rest.now c.keys_at.new.sides c.in-Some.ensures.cases.0 (side_stays g.S.Space g.L.Multi g.D.Multi c.in-Some.first.now) c.keys_at.ensures.stays

pub returns-in_default-clause-stays : goal.returns-in_default-clause-stays
returns-in_default-clause-stays g t c = all_stay g.S.Space g.L.Multi g.D.Multi c.args.sides.now
