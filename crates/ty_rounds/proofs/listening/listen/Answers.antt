use Rattle.std.proofs.Common.{rules, ap, ◌∙◌, inr, not}
use Rattle.ty_base.proofs.Refusals.{err_is}
use Rattle.ty_rounds.specs.declared.outcome.TurnErr.TheVariants.{Memory}
use Rattle.ty_rounds.specs.Peers.{waiting_numbers}
use Rattle.ty_rounds.proofs.Hearing.{asks, hears, may_hear, wired_after, unstopped_hold}
use Rattle.ty_rounds.proofs.listening.listen.Goals as goal

pub hear-requires-clause-may : goal.hear-requires-clause-may
hear-requires-clause-may g c = may_hear _ _ _ c.as_slice-2.result.now (not c.is_empty-busy.result) c.args.peers.now.items c.in_ok-ev.ev (c.as_slice-2.ensures.value ∙ c.in_ok-list_waiting.ensures ∙ ap waiting_numbers c.as_slice.ensures.value) c.in_ok-ev.ensures.may

pub returns-in_err-hear-clause-err : goal.returns-in_err-hear-clause-err
returns-in_err-hear-clause-err g c = rw (err_is c.from_residual-in_err-hear.result Memory c.from_residual-in_err-hear.ensures.1) (
    inr (
      c.in_ok-ev.ev,
      asks g.W.Wire _ _ _ c.in_ok-ev.ev c.as_slice-2.result.now (not c.is_empty-busy.result) c.next.new.into (record {
        paused_is = c.as_slice-2.ensures.value ∙ c.in_ok-list_waiting.ensures ∙ ap waiting_numbers c.as_slice.ensures.value;
        busy_is = search rules;
        told = c.in_ok-ev.ensures.told;
        plays = c.in_ok-ev.ensures.plays;
        may = c.in_ok-ev.ensures.may;
        conns = c.in_ok-ev.ensures.lines.conns;
        given = c.in_ok-ev.ensures.lines.given;
        are_bytes = c.hear.ensures.bytes;
      }),
    ))

pub returns-clause-wired : goal.returns-clause-wired
returns-clause-wired g c = (wired_after _ _ _ _ c.as_slice-2.result.now (not c.is_empty-busy.result) c.args.peers.now.items c.hear.new.peers.items c.in_ok-ev.ev c.in_ok-ev.ensures.may c.in_ok-ev.ensures.lines.conns c.in_ok-hear.ensures.numbers c.requires.wired, c.in_ok-hear.ensures.calm c.requires.calm)

pub returns-clause-ok : goal.returns-clause-ok
returns-clause-ok g c =
    hears g.W.Wire _ _ _ _ c.in_ok-ev.ev c.as_slice-2.result.now (not c.is_empty-busy.result) c.next.new.into (record {
      paused_is = c.as_slice-2.ensures.value ∙ c.in_ok-list_waiting.ensures ∙ ap waiting_numbers c.as_slice.ensures.value;
      busy_is = search rules;
      told = c.in_ok-ev.ensures.told;
      plays = c.in_ok-ev.ensures.plays;
      may = c.in_ok-ev.ensures.may;
      conns = c.in_ok-ev.ensures.lines.conns;
      given = c.in_ok-ev.ensures.lines.given;
      are_bytes = c.hear.ensures.bytes;
    }) (λ b ks a. c.in_ok-hear.ensures.heard b _ (unstopped_hold b _ ks a)) c.in_ok-hear.ensures.few (λ _. (c.in_ok-hear.ensures.calm c.requires.calm).calm) c.in_ok-hear.ensures.links
