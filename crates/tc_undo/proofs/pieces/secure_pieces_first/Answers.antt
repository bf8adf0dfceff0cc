use Rattle.std.proofs.Common.{refl, rules}
use Rattle.ud_state.proofs.Writing.{unchanged_log, idle_unchanged, lens_log}
use Rattle.ud_state.proofs.Runs.{log_only_then, log_only_made}
use Rattle.tc_undo.specs.Ahead.{ahead}
use Rattle.tc_undo.proofs.Ahead.{begun_logs, begun_waits, logging_all_pending}
use Rattle.tc_undo.proofs.Guarding.{logging_none, secured_all}
use Rattle.tc_undo.proofs.pieces.secure_pieces_first.Goals as goal

pub log_pieces-requires-clause-logging : goal.log_pieces-requires-clause-logging
log_pieces-requires-clause-logging g c = λ t. logging_none _ _ 0 0 (begun_logs _ c.begin-waiting.result _ (c.requires.idle t) (c.requires.may.knows.are t) c.begin-waiting.ensures 0 0).logging

pub log_pieces-requires-clause-waits : goal.log_pieces-requires-clause-waits
log_pieces-requires-clause-waits g c = λ t. begun_waits _ c.begin-waiting.result _ (c.requires.idle t) (c.requires.may.knows.are t) c.begin-waiting.ensures

pub log_pieces-requires-clause-may : goal.log_pieces-requires-clause-may
log_pieces-requires-clause-may g c =
    let may = c.requires.may in
    let begun = λ (t : g.V.Volume.tells). begun_logs (g.V.Volume.calls c.args.vol.now) c.begin-waiting.result c.args.lens.now (c.requires.idle t) (may.knows.are t) c.begin-waiting.ensures 0 0 in
    record {
      small = may.small;
      room = may.room;
      are = λ t. lens_log _ _ c.args.lens.now (begun t).only (may.knows.are t);
      end_is = λ t. (begun t).end_is;
    }

pub bring-requires-clause-pending : goal.bring-requires-clause-pending
bring-requires-clause-pending g c = λ t. logging_all_pending (c.in_ok-end.ensures.logs t).logging

pub returns-clause-secures : goal.returns-clause-secures
returns-clause-secures g c =
    let old = g.V.Volume.calls c.args.vol.now in
    let begun = ahead old c.begin-waiting.result in
    let mid = ahead (g.V.Volume.calls c.log_pieces.new.vol) c.log_pieces.new.waiting in
    let new = g.V.Volume.calls c.bring.new.vol in
    let first = λ (t : g.V.Volume.tells). (begun_logs old c.begin-waiting.result c.args.lens.now (c.requires.idle t) (c.requires.may.knows.are t) c.begin-waiting.ensures 0 0).only in
    let only = λ (t : g.V.Volume.tells). log_only_then old begun new (first t) (log_only_then begun mid new (c.in_ok-end.ensures.logs t).only (log_only_made mid new _ (c.in_ok-bring.ensures.made t))) in
    record {
      records = refl;
      spent = c.in_ok-end.ensures.spent;
      active = refl;
      secured = λ t. secured_all mid new c.args.lens.now c.args.pieces.now (c.in_ok-end.ensures.logs t).logging (c.in_ok-bring.ensures.made t);
      end_is = search rules;
      unchanged = λ t. unchanged_log old new _ (only t) (idle_unchanged _ _ refl (c.requires.idle t));
      only = only;
    }
