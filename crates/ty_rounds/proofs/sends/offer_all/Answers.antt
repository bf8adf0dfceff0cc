use Rattle.std.proofs.Common.{arith, inl, inr, rules, ap, ◌∙◌}
use Rattle.tc_space.specs.Frames.{only_reads_refl, only_reads_then}
use Rattle.ty_rounds.specs.Peers.{is_fed}
use Rattle.ty_rounds.proofs.Alone.{alone_done, alone_kept, alone_wire}
use Rattle.ty_rounds.proofs.Few.{few_then}
use Rattle.ty_rounds.proofs.Filling.{few_filled, fills_of, room_falls}
use Rattle.ty_rounds.proofs.Links.{keeps_fed, keeps_role}
use Rattle.ty_rounds.proofs.SendLaws.{feed_all, feed_failed, feed_first, feed_more, feed_stopped, first_failed, more_failed, still_known, taken_nil, unfed_rests}
use Rattle.ty_rounds.proofs.sends.offer_all.Goals as goal

-- ---- what waited

pub returns-in_err-offer-clause-told : goal.returns-in_err-offer-clause-told
returns-in_err-offer-clause-told g c = first_failed g.S.Space g.W.Wire c.args.logged.now c.args.space.now _ _ c.args.p.now _ _ _ c.from_residual.ensures.0 c.offer.ensures.told

pub returns-in_err-offer-clause-reads : goal.returns-in_err-offer-clause-reads
returns-in_err-offer-clause-reads g c = only_reads_refl g.S.Space c.args.space.now c.requires.sound

pub returns-in_err-offer-clause-alone : goal.returns-in_err-offer-clause-alone
returns-in_err-offer-clause-alone g c = alone_wire c.args.logged.now _ c.from_residual.ensures.1

pub returns-in_default-clause-told : goal.returns-in_default-clause-told
returns-in_default-clause-told g c = unfed_rests g.S.Space g.W.Wire c.args.logged.now c.args.space.now _ _ c.args.p.now c.offer.new.p (feed_first g.S.Space g.W.Wire c.args.logged.now c.args.space.now _ _ c.args.p.now c.offer.new.p c.in_ok-offer.ensures.told) (inr (search rules))

pub returns-in_default-clause-links : goal.returns-in_default-clause-links
returns-in_default-clause-links g c = keeps_role _ _ c.offer.ensures.role

pub returns-in_default-clause-reads : goal.returns-in_default-clause-reads
returns-in_default-clause-reads g c = only_reads_refl g.S.Space c.args.space.now c.requires.sound

pub returns-in_default-clause-alone : goal.returns-in_default-clause-alone
returns-in_default-clause-alone g c = alone_done c.args.logged.now

pub returns-then-not-is_fed-clause-told : goal.returns-then-not-is_fed-clause-told
returns-then-not-is_fed-clause-told g c = unfed_rests g.S.Space g.W.Wire c.args.logged.now c.args.space.now _ _ c.args.p.now c.offer.new.p (feed_first g.S.Space g.W.Wire c.args.logged.now c.args.space.now _ _ c.args.p.now c.offer.new.p c.in_ok-offer.ensures.told) (inl (search rules))

pub returns-then-not-is_fed-clause-links : goal.returns-then-not-is_fed-clause-links
returns-then-not-is_fed-clause-links g c = keeps_role _ _ c.offer.ensures.role

pub returns-then-not-is_fed-clause-reads : goal.returns-then-not-is_fed-clause-reads
returns-then-not-is_fed-clause-reads g c = only_reads_refl g.S.Space c.args.space.now c.requires.sound

pub returns-then-not-is_fed-clause-alone : goal.returns-then-not-is_fed-clause-alone
returns-then-not-is_fed-clause-alone g c = alone_done c.args.logged.now

-- ---- what comes of the update log

pub loop-log-init : goal.loop-log-init
loop-log-init g c = record {
  opened = c.offer.ensures.wire_stays.opened;
  conns = c.offer.ensures.wire_stays.conns;
  given = c.offer.ensures.wire_stays.given;
  conn = c.offer.ensures.conn;
  fed = search rules;
  few = (c.offer.ensures.few.waiting (c.requires.few, tt)).0;
  stay = c.offer.ensures.few;
  told = feed_first g.S.Space g.W.Wire c.args.logged.now c.args.space.now _ _ c.args.p.now c.offer.new.p c.in_ok-offer.ensures.told;
  reads = only_reads_refl g.S.Space c.args.space.now c.requires.sound;
  faults = c.offer.ensures.cause.later;
}

pub fill-requires-clause-sound : goal.fill-requires-clause-sound
fill-requires-clause-sound g c = c.loop-log.invariant.reads.is_sound

pub fill-requires-clause-quiet : goal.fill-requires-clause-quiet
fill-requires-clause-quiet g c = taken_nil c.loop-log.p (search rules)

pub fill-requires-clause-fed : goal.fill-requires-clause-fed
fill-requires-clause-fed g c = c.loop-log.invariant.fed

pub returns-in_err-fill-clause-told : goal.returns-in_err-fill-clause-told
returns-in_err-fill-clause-told g c = feed_failed g.S.Space g.W.Wire c.args.logged.now c.args.space.now _ _ c.args.p.now c.loop-log.p _ _ c.from_residual-in_err-fill.ensures.0 c.loop-log.invariant.told

pub returns-in_err-fill-clause-reads : goal.returns-in_err-fill-clause-reads
returns-in_err-fill-clause-reads g c = only_reads_then g.S.Space _ _ _ c.loop-log.invariant.reads c.fill.ensures.reads

pub returns-in_err-fill-clause-alone : goal.returns-in_err-fill-clause-alone
returns-in_err-fill-clause-alone g c = alone_kept c.args.logged.now c.in-Some.log _ c.in-Some.is

pub returns-then-all_taken-clause-told : goal.returns-then-all_taken-clause-told
returns-then-all_taken-clause-told g c =
    let i = c.loop-log.invariant in
    feed_all g.S.Space g.W.Wire c.args.logged.now c.args.space.now _ _ c.args.p.now c.loop-log.p c.fill.new.p c.loop-log.space i.told (fills_of g.S.Space c.args.logged.now c.in-Some.log c.loop-log.space c.loop-log.p c.fill.new.p c.in-Some.is c.in_ok-fill.ensures.fills)
    (still_known g.S.Space c.args.logged.now c.args.space.now c.loop-log.space i.reads) (search rules)

pub returns-then-all_taken-clause-few : goal.returns-then-all_taken-clause-few
returns-then-all_taken-clause-few g c = few_then _ _ _ c.loop-log.invariant.stay c.in_ok-fill.ensures.few

pub returns-then-all_taken-clause-links : goal.returns-then-all_taken-clause-links
returns-then-all_taken-clause-links g c = keeps_fed _ _ c.in_ok-fill.ensures.fills.fed

pub returns-then-all_taken-clause-reads : goal.returns-then-all_taken-clause-reads
returns-then-all_taken-clause-reads g c = only_reads_then g.S.Space _ _ _ c.loop-log.invariant.reads c.fill.ensures.reads

pub returns-then-all_taken-clause-alone : goal.returns-then-all_taken-clause-alone
returns-then-all_taken-clause-alone g c = alone_done c.args.logged.now

pub offer-requires-in-loop-log-clause-few : goal.offer-requires-in-loop-log-clause-few
offer-requires-in-loop-log-clause-few g c = few_filled c.fill.new.p c.in_ok-fill.ensures.fills.fed c.in_ok-fill.ensures.fills.few

pub returns-in_err-offer-2-clause-told : goal.returns-in_err-offer-2-clause-told
returns-in_err-offer-2-clause-told g c =
    let i = c.loop-log.invariant in
    more_failed g.S.Space g.W.Wire c.args.logged.now c.args.space.now _ _ _ c.args.p.now c.loop-log.p c.fill.new.p _ c.loop-log.space _ _ c.from_residual-in_err-offer-2.ensures.0 i.told i.conn (search rules)
    (fills_of g.S.Space c.args.logged.now c.in-Some.log c.loop-log.space c.loop-log.p c.fill.new.p c.in-Some.is c.in_ok-fill.ensures.fills) (still_known g.S.Space c.args.logged.now c.args.space.now c.loop-log.space i.reads) c.offer-in-loop-log.ensures.told

pub returns-in_err-offer-2-clause-reads : goal.returns-in_err-offer-2-clause-reads
returns-in_err-offer-2-clause-reads g c = only_reads_then g.S.Space _ _ _ c.loop-log.invariant.reads c.fill.ensures.reads

pub returns-in_err-offer-2-clause-alone : goal.returns-in_err-offer-2-clause-alone
returns-in_err-offer-2-clause-alone g c = alone_kept c.args.logged.now c.in-Some.log _ c.in-Some.is

pub loop-log-preserved : goal.loop-log-preserved
loop-log-preserved g c =
    let i = c.loop-log.invariant in
    let f = c.in_ok-fill.ensures in
    let o = c.offer-in-loop-log.ensures in
    record {
      opened = o.wire_stays.opened;
      conns = o.wire_stays.conns ∙ i.conns;
      given = o.wire_stays.given ∙ i.given;
      conn = o.conn ∙ f.fills.conn ∙ i.conn;
      fed = ap is_fed o.role ∙ f.fills.fed;
      few = (o.few.waiting (few_filled c.fill.new.p f.fills.fed f.fills.few, tt)).0;
      stay = few_then _ _ _ i.stay (few_then _ _ _ f.few o.few);
      told = feed_more g.S.Space g.W.Wire c.args.logged.now c.args.space.now _ _ _ c.args.p.now c.loop-log.p c.fill.new.p _ c.loop-log.space i.told i.conn (search rules) (fills_of g.S.Space c.args.logged.now c.in-Some.log c.loop-log.space c.loop-log.p c.fill.new.p c.in-Some.is f.fills)
          (still_known g.S.Space c.args.logged.now c.args.space.now c.loop-log.space i.reads) c.in_ok-offer-2.ensures.told;
      reads = only_reads_then g.S.Space _ _ _ i.reads c.fill.ensures.reads;
      faults = omega (arith, o.cause.later, i.faults);
    }

pub loop-log-smaller : goal.loop-log-smaller
loop-log-smaller g c = room_falls c.loop-log.p c.fill.new.p c.offer-in-loop-log.new.p c.in_ok-fill.ensures.fills.falls (search rules) c.offer-in-loop-log.ensures.role

pub returns-clause-told : goal.returns-clause-told
returns-clause-told g c = feed_stopped g.S.Space g.W.Wire c.args.logged.now c.args.space.now _ _ c.args.p.now c.loop-log.p c.loop-log.invariant.told (search rules)

pub returns-clause-links : goal.returns-clause-links
returns-clause-links g c = keeps_fed _ _ c.loop-log.invariant.fed

pub returns-clause-alone : goal.returns-clause-alone
returns-clause-alone g c = alone_done c.args.logged.now
