use Rattle.std.proofs.Common.{rules, refl, true}
use Rattle.std.specs.Prelude.{Some}
use Rattle.ty_base.proofs.Refusals.{err_is}
use Rattle.ty_rounds.specs.declared.outcome.TurnErr.TheVariants.{Memory, Wire}
use Rattle.ty_rounds.proofs.DialLaws.{dials_none, dials_not_now, dials_open, failed_dial, failed_open, opens_wired, stays_wired, unled}
use Rattle.ty_rounds.proofs.dialling.dial_master.Goals as goal

pub returns-in_default-clause-told : goal.returns-in_default-clause-told
returns-in_default-clause-told g c = dials_none g.W.Wire (Some c.args.logged.now) true c.args.wire.now c.args.peers.now.items (unled c.args.logged.now refl (search rules))

pub returns-in_err-answer-clause-err : goal.returns-in_err-answer-clause-err
returns-in_err-answer-clause-err g c = rw (err_is c.from_residual.result Wire c.from_residual.ensures.1) (failed_dial g.W.Wire c.args.logged.now c.in-Some.master c.as_slice.result.now _ _ c.args.peers.now.items (search rules) c.requires.may (search rules) c.in_err-answer.ensures.told_err)

pub returns-in_err-add_link-in-Conn-clause-err : goal.returns-in_err-add_link-in-Conn-clause-err
returns-in_err-add_link-in-Conn-clause-err g c = rw (err_is c.from_residual-in_err-add_link-in-Conn.result Memory c.from_residual-in_err-add_link-in-Conn.ensures.1)
    (failed_open g.W.Wire c.in-Conn.conn c.args.logged.now c.in-Some.master c.as_slice.result.now c.in_ok-answer.answer _ _ c.args.peers.now.items (search rules) c.requires.may (search rules) c.in-Conn.is
    (record { may = c.in_ok-answer.ensures.may; conns = c.in_ok-answer.ensures.lines.conns; given = c.in_ok-answer.ensures.lines.given; told = c.in_ok-answer.ensures.told; plays = c.in_ok-answer.ensures.plays }))

pub returns-in_ok-add_link-in-Conn-clause-told : goal.returns-in_ok-add_link-in-Conn-clause-told
returns-in_ok-add_link-in-Conn-clause-told g c = dials_open g.W.Wire c.in-Conn.conn c.args.logged.now c.in-Some.master c.as_slice.result.now c.in_ok-answer.answer _ _ c.args.peers.now.items _ (search rules) c.requires.may (search rules) c.in-Conn.is
    (record { may = c.in_ok-answer.ensures.may; conns = c.in_ok-answer.ensures.lines.conns; given = c.in_ok-answer.ensures.lines.given; told = c.in_ok-answer.ensures.told; plays = c.in_ok-answer.ensures.plays }) c.in_ok-add_link-in-Conn.ensures.linked

pub returns-in_ok-add_link-in-Conn-clause-wired : goal.returns-in_ok-add_link-in-Conn-clause-wired
returns-in_ok-add_link-in-Conn-clause-wired g c = (
  opens_wired g.W.Wire c.in-Conn.conn c.args.logged.now c.in-Some.master c.as_slice.result.now c.in_ok-answer.answer _ _ c.args.peers.now.items _ c.in-Conn.is c.in_ok-answer.ensures.fresh
      (record { may = c.in_ok-answer.ensures.may; conns = c.in_ok-answer.ensures.lines.conns; given = c.in_ok-answer.ensures.lines.given; told = c.in_ok-answer.ensures.told; plays = c.in_ok-answer.ensures.plays }) c.in_ok-add_link-in-Conn.ensures.linked c.requires.wired,
  c.in_ok-add_link-in-Conn.ensures.calm c.requires.calm,
)

pub returns-in-NotNow-clause-told : goal.returns-in-NotNow-clause-told
returns-in-NotNow-clause-told g c = dials_not_now g.W.Wire c.args.logged.now c.in-Some.master c.as_slice.result.now c.in_ok-answer.answer _ _ c.args.peers.now.items (search rules) c.requires.may (search rules) c.in-NotNow.is
    (record { may = c.in_ok-answer.ensures.may; conns = c.in_ok-answer.ensures.lines.conns; given = c.in_ok-answer.ensures.lines.given; told = c.in_ok-answer.ensures.told; plays = c.in_ok-answer.ensures.plays })

pub returns-in-NotNow-clause-wired : goal.returns-in-NotNow-clause-wired
returns-in-NotNow-clause-wired g c = (
  stays_wired g.W.Wire c.in_ok-answer.answer c.as_slice.result.now _ _ _ c.args.peers.now.items c.in-NotNow.is
      (record { may = c.in_ok-answer.ensures.may; conns = c.in_ok-answer.ensures.lines.conns; given = c.in_ok-answer.ensures.lines.given; told = c.in_ok-answer.ensures.told; plays = c.in_ok-answer.ensures.plays }) c.requires.wired,
  c.requires.calm,
)
