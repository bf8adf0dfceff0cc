use Rattle.std.proofs.Common.{arith, refl, rules, sym, ap, ◌∙◌}
use Rattle.ty_rounds.proofs.Few.{each_at, few_refl, few_then, few_remove}
use Rattle.ty_rounds.proofs.Links.{keeps_refl, keeps_then, keeps_remove}
use Rattle.ty_rounds.specs.Ready.{IsCalm}
use Rattle.ty_rounds.proofs.Places.{open_at, apart_peers, one_at}
use Rattle.ty_rounds.specs.Peers.{is_over}
use Rattle.ty_rounds.proofs.ClosingLaws.{none_closed, closed_wired, still_there, one_stays, one_closes, close_fails, all_closed, clear_more, clear_less, clear_all}
use Rattle.ty_rounds.proofs.Spans.{clear_steps, close_steps, skip_back, skip_front, span_remove}
use Rattle.ty_rounds.proofs.closing.close_over.Goals as goal

pub loop-i-init : goal.loop-i-init
loop-i-init g c = record {
  opened = c.requires.opened;
  fewer = λ d e. e;
  given = refl;
  wired = c.requires.wired;
  told = skip_front _ c.args.span.now c.args.peers.now.items c.requires.calm (close_steps g.W.Wire _ _ _ c.args.peers.now.items) (none_closed g.W.Wire _ _);
  clear = skip_front _ c.args.span.now c.args.peers.now.items c.requires.calm (clear_steps c.args.peers.now.items) refl;
  calm = c.requires.calm;
  few = few_refl _;
  links = keeps_refl _;
  within = omega arith;
  faults = omega arith;
}

pub close-requires : goal.close-requires
close-requires g c = open_at _ _ c.loop-i.i c.remove-p.result (search rules) (search rules) c.loop-i.invariant.wired

pub returns-in_err-close-clause-told : goal.returns-in_err-close-clause-told
returns-in_err-close-clause-told g c = close_fails g.W.Wire _ _ _ _ _ _ c.loop-i.i c.from_residual.result c.from_residual.ensures.0 c.loop-i.invariant.told c.in_err-close.ensures.told_err

pub loop-i-preserved-then-is_done : goal.loop-i-preserved-then-is_done
loop-i-preserved-then-is_done g c = let i = c.loop-i.invariant in record {
  opened = c.close.ensures.opened ∙ i.opened;
  fewer = still_there _ _ _ c.remove-p.result.conn c.close.ensures.lines.conns i.fewer;
  given = c.close.ensures.lines.given ∙ i.given;
  wired = closed_wired _ _ _ _ c.loop-i.i c.remove-p.result (search rules) (search rules) c.remove-p.ensures.items c.close.ensures.lines.conns i.wired;
  told = one_closes g.W.Wire _ _ _ _ _ _ c.loop-i.i c.remove-p.result (search rules) (search rules) (ap is_over (one_at c.loop-i.peers.items c.loop-i.i c.remove-p.result c.index.result.now (search rules) (search rules) (search rules)) ∙ sym (c.is_done.ensures (each_at IsCalm _ c.loop-i.i c.index.result.now (search rules) (search rules) i.calm.calm)) ∙ c.if-is_done.true) (apart_peers _ _ i.wired)
      (i.fewer c.remove-p.result.conn (open_at _ _ c.loop-i.i c.remove-p.result (search rules) (search rules) i.wired)) c.remove-p.ensures.items i.told c.in_ok-close.ensures.told c.in_ok-close.ensures.plays;
  clear = clear_less _ _ c.loop-i.i c.remove-p.ensures.items i.clear;
  calm = span_remove c.loop-i.span _ _ _ c.loop-i.i c.remove-p.ensures.items (search rules) i.within (search rules) refl (search rules) i.calm;
  few = few_then _ _ _ i.few (few_remove _ _ c.loop-i.i c.remove-p.ensures.items);
  links = keeps_then _ _ _ i.links (keeps_remove _ _ c.loop-i.i c.remove-p.ensures.items);
  within = search rules;
  faults = omega (arith, c.close.ensures.cause.later, i.faults);
}

pub loop-i-preserved : goal.loop-i-preserved
loop-i-preserved g c = let i = c.loop-i.invariant in record {
  opened = i.opened;
  fewer = i.fewer;
  given = i.given;
  wired = i.wired;
  told = one_stays g.W.Wire _ _ _ _ c.loop-i.i c.index.result.now (search rules) (search rules) (sym (c.is_done.ensures (each_at IsCalm _ c.loop-i.i c.index.result.now (search rules) (search rules) i.calm.calm)) ∙ c.if-is_done.false) i.told;
  clear = clear_more _ c.loop-i.i c.index.result.now (search rules) (search rules) (sym (c.is_done.ensures (each_at IsCalm _ c.loop-i.i c.index.result.now (search rules) (search rules) i.calm.calm)) ∙ c.if-is_done.false) i.clear;
  calm = i.calm;
  few = i.few;
  links = i.links;
  within = search rules;
  faults = i.faults;
}

pub returns-clause-told : goal.returns-clause-told
returns-clause-told g c =
    let i = c.loop-i.invariant in
    let n = skip_back _ c.loop-i.span c.loop-i.peers.items c.loop-i.i i.calm (close_steps g.W.Wire _ _ _ c.loop-i.peers.items) (search rules) i.told in
    all_closed g.W.Wire _ _ _ _ n.0 n.2 n.1

pub returns-clause-few : goal.returns-clause-few
returns-clause-few g c =
    let i = c.loop-i.invariant in
    let n = skip_back _ c.loop-i.span c.loop-i.peers.items c.loop-i.i i.calm (clear_steps c.loop-i.peers.items) (search rules) i.clear in
    (clear_all _ n.0 n.1 n.2, i.few, i.calm)
