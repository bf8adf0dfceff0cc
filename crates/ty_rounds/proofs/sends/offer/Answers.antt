use Rattle.std.proofs.Common.{arith, refl, rules, ◌∙◌, true, ap, length, length-drop}
use Rattle.ty_core.specs.Queues.{Queue}
use Rattle.ty_rounds.specs.Sending.{AnyBook}
use Rattle.ty_rounds.proofs.Few.{few_refl, few_same, few_taken}
use Rattle.ty_rounds.proofs.SendLaws.{took, not_now, is_gone, goes_by, stops_not_yet, stops_gone, some_waits, fewer, nothing_sent, one_more, offer_stopped, offer_done, offer_failed}
use Rattle.ty_rounds.proofs.sends.offer.Goals as goal

pub loop-wire-init : goal.loop-wire-init
loop-wire-init g c = record {
  opened = c.requires.opened;
  conns = refl;
  given = refl;
  conn = refl;
  role = refl;
  told = nothing_sent AnyBook g.W.Wire _ c.args.p.now;
  shorter = omega arith;
  few = c.requires.few;
  stay = few_refl _;
  faults = omega arith;
}

pub loop-wire-preserved : goal.loop-wire-preserved
loop-wire-preserved g c = record {
  opened = c.send.ensures.opened ∙ c.loop-wire.invariant.opened;
  conns = c.send.ensures.lines.conns ∙ c.loop-wire.invariant.conns;
  given = c.send.ensures.lines.given ∙ c.loop-wire.invariant.given;
  conn = c.loop-wire.invariant.conn;
  role = c.loop-wire.invariant.role;
  told = one_more AnyBook g.W.Wire _ _ _ c.args.p.now c.loop-wire.p (record c.loop-wire.p { session = c.taken.new.self }) c.waiting.result.now c.in_ok-n.field-0 c.loop-wire.invariant.told c.loop-wire.invariant.conn c.in_ok-n.ensures.told c.in_ok-n.ensures.plays
      (record {
        bytes_are = c.waiting.ensures;
        some = some_waits c.loop-wire.p c.waiting.result.now c.waiting.ensures (search rules);
        few = c.loop-wire.invariant.few;
        holds = λ b k h. took b c.loop-wire.p (record c.loop-wire.p { session = c.taken.new.self }) c.in-Took.n c.waiting.result.now c.in_ok-n.field-0 k c.in-Took.is c.waiting.ensures c.taken.ensures refl refl refl refl refl h;
      }) (λ k h. goes_by c.in-Took.n c.waiting.result.now c.in_ok-n.field-0 k c.in-Took.is h);
  shorter = omega (arith, ap (λ (z : Queue). length z.waiting) c.taken.ensures, length-drop c.in-Took.n c.loop-wire.p.session.waiting, c.loop-wire.invariant.shorter);
  few = fewer c.loop-wire.p (record c.loop-wire.p { session = c.taken.new.self }) c.in-Took.n c.taken.ensures refl c.loop-wire.invariant.few;
  stay = few_taken c.args.p.now c.loop-wire.p c.in-Took.n c.taken.new.self c.taken.ensures c.loop-wire.invariant.stay;
  faults = omega (arith, c.send.ensures.cause.later, c.loop-wire.invariant.faults);
}

pub returns-in_err-n-clause-told : goal.returns-in_err-n-clause-told
returns-in_err-n-clause-told g c = offer_failed AnyBook g.W.Wire _ _ _ c.args.p.now c.loop-wire.p c.from_residual.result c.from_residual.ensures.0 c.loop-wire.invariant.told c.in_err-n.ensures.told_err

pub returns-in-NotYet-clause-told : goal.returns-in-NotYet-clause-told
returns-in-NotYet-clause-told g c = offer_stopped AnyBook g.W.Wire _ _ _ c.args.p.now c.loop-wire.p c.loop-wire.p c.waiting.result.now c.in_ok-n.field-0 c.loop-wire.invariant.told c.loop-wire.invariant.conn c.in_ok-n.ensures.told c.in_ok-n.ensures.plays
    (record { bytes_are = c.waiting.ensures; some = some_waits c.loop-wire.p c.waiting.result.now c.waiting.ensures (search rules); few = c.loop-wire.invariant.few; holds = λ b k h. not_now b c.loop-wire.p c.waiting.result.now c.in_ok-n.field-0 k c.in-NotYet.is h }) (λ k. stops_not_yet c.waiting.result.now c.in_ok-n.field-0 k c.in-NotYet.is) (search rules)

pub returns-in-Gone-clause-told : goal.returns-in-Gone-clause-told
returns-in-Gone-clause-told g c = offer_stopped AnyBook g.W.Wire _ _ _ c.args.p.now c.loop-wire.p (record c.loop-wire.p { gone = true }) c.waiting.result.now c.in_ok-n.field-0 c.loop-wire.invariant.told c.loop-wire.invariant.conn c.in_ok-n.ensures.told c.in_ok-n.ensures.plays
    (record { bytes_are = c.waiting.ensures; some = some_waits c.loop-wire.p c.waiting.result.now c.waiting.ensures (search rules); few = c.loop-wire.invariant.few; holds = λ b k h. is_gone b c.loop-wire.p c.waiting.result.now c.in_ok-n.field-0 k c.in-Gone.is h }) (λ k. stops_gone c.waiting.result.now c.in_ok-n.field-0 k c.in-Gone.is) (search rules)

pub returns-clause-told : goal.returns-clause-told
returns-clause-told g c = offer_done AnyBook g.W.Wire _ _ c.args.p.now c.loop-wire.p c.loop-wire.invariant.told (search rules)

pub returns-in_err-n-clause-wire_stays : goal.returns-in_err-n-clause-wire_stays
returns-in_err-n-clause-wire_stays g c = record { opened = c.send.ensures.opened ∙ c.loop-wire.invariant.opened; conns = c.send.ensures.lines.conns ∙ c.loop-wire.invariant.conns; given = c.send.ensures.lines.given ∙ c.loop-wire.invariant.given }

pub returns-in-NotYet-clause-wire_stays : goal.returns-in-NotYet-clause-wire_stays
returns-in-NotYet-clause-wire_stays g c = record { opened = c.send.ensures.opened ∙ c.loop-wire.invariant.opened; conns = c.send.ensures.lines.conns ∙ c.loop-wire.invariant.conns; given = c.send.ensures.lines.given ∙ c.loop-wire.invariant.given }

pub returns-in-Gone-clause-wire_stays : goal.returns-in-Gone-clause-wire_stays
returns-in-Gone-clause-wire_stays g c = record { opened = c.send.ensures.opened ∙ c.loop-wire.invariant.opened; conns = c.send.ensures.lines.conns ∙ c.loop-wire.invariant.conns; given = c.send.ensures.lines.given ∙ c.loop-wire.invariant.given }

pub returns-clause-wire_stays : goal.returns-clause-wire_stays
returns-clause-wire_stays g c = record { opened = c.loop-wire.invariant.opened; conns = c.loop-wire.invariant.conns; given = c.loop-wire.invariant.given }

pub returns-in-Gone-clause-few : goal.returns-in-Gone-clause-few
returns-in-Gone-clause-few g c = few_same c.args.p.now c.loop-wire.p (record c.loop-wire.p { gone = true }) refl refl c.loop-wire.invariant.stay
