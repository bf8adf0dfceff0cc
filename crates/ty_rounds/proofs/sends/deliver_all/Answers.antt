use Rattle.std.proofs.Common.{arith, refl, rules, ap, sym, ◌∙◌}
use Rattle.std.specs.Prelude.{nat_eq}
use Rattle.std.specs.List.{list_any}
use Rattle.ty_base.proofs.Refusals.{err_is}
use Rattle.tc_space.specs.Frames.{only_reads_refl, only_reads_then}
use Rattle.ty_rounds.specs.Ready.{FewWaiting, IsCalm}
use Rattle.ty_rounds.proofs.Alone.{alone_done}
use Rattle.ty_rounds.proofs.Few.{each_at, few_refl, few_then, few_one}
use Rattle.ty_rounds.proofs.Links.{keeps_one, keeps_refl, keeps_then}
use Rattle.ty_rounds.proofs.Places.{open_at, still_wired, apart_peers}
use Rattle.ty_rounds.proofs.SendFront.{none_sent, more_sent, sends_fail, all_delivered}
use Rattle.ty_rounds.proofs.Spans.{send_steps, skip_back, skip_front, span_inside}
use Rattle.ty_rounds.proofs.sends.deliver_all.Goals as goal

pub loop-i-init : goal.loop-i-init
loop-i-init g c = record {
  opened = c.requires.opened;
  conns = refl;
  given = refl;
  wired = c.requires.wired;
  told = skip_front _ c.args.span c.args.peers.now.items c.requires.calm (send_steps g.S.Space g.W.Wire c.args.logged.now c.args.space.now _ _ _ c.args.peers.now.items c.requires.sound refl c.requires.wired) (none_sent g.S.Space g.W.Wire c.args.logged.now c.args.space.now _ _);
  calm = c.requires.calm;
  waiting = c.requires.few;
  few = few_refl _;
  links = keeps_refl _;
  reads = only_reads_refl g.S.Space _ c.requires.sound;
  faults = omega arith;
}

pub deliver-requires-clause-is_open : goal.deliver-requires-clause-is_open
deliver-requires-clause-is_open g c = open_at _ _ c.loop-i.i c.index_mut-p.result.now (search rules) (search rules) c.loop-i.invariant.wired

pub deliver-requires-clause-few : goal.deliver-requires-clause-few
deliver-requires-clause-few g c = each_at FewWaiting _ c.loop-i.i c.index_mut-p.result.now (search rules) (search rules) c.loop-i.invariant.waiting

pub deliver-requires-clause-calm : goal.deliver-requires-clause-calm
deliver-requires-clause-calm g c = each_at IsCalm _ c.loop-i.i c.index_mut-p.result.now (search rules) (search rules) c.loop-i.invariant.calm.calm

pub deliver-requires-clause-sound : goal.deliver-requires-clause-sound
deliver-requires-clause-sound g c = c.loop-i.invariant.reads.is_sound

pub returns-in_err-deliver-clause-wired : goal.returns-in_err-deliver-clause-wired
returns-in_err-deliver-clause-wired g c = still_wired _ _ _ c.loop-i.i c.index_mut-p.result.now c.deliver.new.p (search rules) (search rules) c.deliver.ensures.conn c.deliver.ensures.wire_stays.conns c.loop-i.invariant.wired

pub returns-in_err-deliver-clause-told : goal.returns-in_err-deliver-clause-told
returns-in_err-deliver-clause-told g c =
    let i = c.loop-i.invariant in
    sends_fail g.S.Space g.W.Wire c.args.logged.now c.args.space.now _ _ _ c.loop-i.space _ _ _ c.loop-i.i c.index_mut-p.result.now c.deliver.new.p c.deliver.result c.from_residual.result c.from_residual.ensures.0 (apart_peers _ _ i.wired) (search rules) (search rules)
    (ap (list_any (nat_eq c.index_mut-p.result.now.conn)) (sym i.conns) ∙ open_at _ _ c.loop-i.i c.index_mut-p.result.now (search rules) (search rules) i.wired) i.reads i.told c.deliver.ensures.told

pub returns-in_err-deliver-clause-reads : goal.returns-in_err-deliver-clause-reads
returns-in_err-deliver-clause-reads g c = only_reads_then g.S.Space _ _ _ c.loop-i.invariant.reads c.deliver.ensures.reads

pub loop-i-preserved : goal.loop-i-preserved
loop-i-preserved g c =
    let i = c.loop-i.invariant in
    let d = c.in_ok-deliver.ensures in
    record {
      opened = c.deliver.ensures.wire_stays.opened;
      conns = c.deliver.ensures.wire_stays.conns ∙ i.conns;
      given = c.deliver.ensures.wire_stays.given ∙ i.given;
      wired = still_wired _ _ _ c.loop-i.i c.index_mut-p.result.now c.deliver.new.p (search rules) (search rules) c.deliver.ensures.conn c.deliver.ensures.wire_stays.conns i.wired;
      told = more_sent g.S.Space g.W.Wire c.args.logged.now c.args.space.now _ _ _ c.loop-i.space _ _ c.loop-i.i c.index_mut-p.result.now c.deliver.new.p (apart_peers _ _ i.wired) (search rules) (search rules)
          (ap (list_any (nat_eq c.index_mut-p.result.now.conn)) (sym i.conns) ∙ open_at _ _ c.loop-i.i c.index_mut-p.result.now (search rules) (search rules) i.wired) i.reads i.told d.told;
      calm = span_inside c.args.span _ c.loop-i.i _ (search rules) (search rules) (search rules) d.calm i.calm;
      waiting = (few_one _ c.loop-i.i c.index_mut-p.result.now c.deliver.new.p (search rules) (search rules) d.few).waiting i.waiting;
      few = few_then _ _ _ i.few (few_one _ c.loop-i.i c.index_mut-p.result.now c.deliver.new.p (search rules) (search rules) d.few);
      links = keeps_then _ _ _ i.links (keeps_one _ c.loop-i.i c.index_mut-p.result.now c.deliver.new.p (search rules) (search rules) d.links);
      reads = only_reads_then g.S.Space _ _ _ i.reads c.deliver.ensures.reads;
      faults = omega (arith, c.deliver.ensures.later_wire, i.faults);
    }

pub returns-clause-told : goal.returns-clause-told
returns-clause-told g c =
    let i = c.loop-i.invariant in
    let n = skip_back _ c.args.span c.loop-i.peers.items c.loop-i.i i.calm (send_steps g.S.Space g.W.Wire c.args.logged.now c.args.space.now _ _ _ c.loop-i.peers.items c.requires.sound i.conns i.wired) (search rules) i.told in
    all_delivered g.S.Space g.W.Wire c.args.logged.now c.args.space.now _ _ _ _ n.0 n.2 n.1

pub returns-in_err-deliver-clause-wire_stays : goal.returns-in_err-deliver-clause-wire_stays
returns-in_err-deliver-clause-wire_stays g c = record { opened = c.deliver.ensures.wire_stays.opened; conns = c.deliver.ensures.wire_stays.conns ∙ c.loop-i.invariant.conns; given = c.deliver.ensures.wire_stays.given ∙ c.loop-i.invariant.given }

pub returns-clause-wire_stays : goal.returns-clause-wire_stays
returns-clause-wire_stays g c = record { opened = c.loop-i.invariant.opened; conns = c.loop-i.invariant.conns; given = c.loop-i.invariant.given }

pub returns-in_err-deliver-clause-alone : goal.returns-in_err-deliver-clause-alone
returns-in_err-deliver-clause-alone g c = rw (err_is c.from_residual.result _ c.from_residual.ensures.1) c.in_err-deliver.ensures.alone

pub returns-clause-alone : goal.returns-clause-alone
returns-clause-alone g c = alone_done c.args.logged.now
