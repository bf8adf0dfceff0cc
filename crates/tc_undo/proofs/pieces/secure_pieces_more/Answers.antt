use Rattle.std.proofs.Common.{refl, rules, arith, ◌∙◌, sym, ap, length}
use Rattle.ud_state.proofs.Writing.{lens_log, logging_of, unchanged_log}
use Rattle.ud_state.proofs.Runs.{log_only_refl, log_only_then, log_only_made}
use Rattle.tc_undo.specs.Ahead.{ahead}
use Rattle.tc_undo.proofs.Ahead.{joins_logging, joins_only, logging_all_pending, open_joins, open_pending, open_waits}
use Rattle.tc_undo.proofs.Guarding.{logging_none, secured_all, secured_new}
use Rattle.tc_undo.proofs.Volumes.{stays_quiet_refl}
use Rattle.tc_undo.proofs.pieces.secure_pieces_more.Goals as goal

pub log_pieces-requires-clause-logging : goal.log_pieces-requires-clause-logging
log_pieces-requires-clause-logging g c = λ t. logging_none _ _ 0 0 (joins_logging _ _ (open_joins _ c.new-waiting.result c.new-waiting.ensures) _ 0 0 0 refl (logging_of _ _ _ _ (c.requires.open t) 0 0))

pub log_pieces-requires-clause-waits : goal.log_pieces-requires-clause-waits
log_pieces-requires-clause-waits g c = λ t. open_waits _ c.new-waiting.result c.new-waiting.ensures _ (open_pending (c.requires.open t)) (c.requires.open t).log

pub log_pieces-requires-clause-may : goal.log_pieces-requires-clause-may
log_pieces-requires-clause-may g c =
    let may = c.requires.may in
    let joins = open_joins (g.V.Volume.calls c.args.vol.now) c.new-waiting.result c.new-waiting.ensures in
    record {
      small = may.small;
      room = may.room;
      are = λ t. lens_log _ _ c.args.lens.now (joins_only _ _ joins) (may.knows.are t);
      end_is = λ t. (c.requires.open t).log ∙ sym (ap length joins.reads);
    }

pub bring-requires-clause-pending : goal.bring-requires-clause-pending
bring-requires-clause-pending g c = λ t. logging_all_pending (c.in_ok-end.ensures.logs t).logging

pub returns-clause-secures : goal.returns-clause-secures
returns-clause-secures g c =
    let old = g.V.Volume.calls c.args.vol.now in
    let begun = ahead old c.new-waiting.result in
    let mid = ahead (g.V.Volume.calls c.log_pieces.new.vol) c.log_pieces.new.waiting in
    let new = g.V.Volume.calls c.bring.new.vol in
    let first = joins_only old begun (open_joins old c.new-waiting.result c.new-waiting.ensures) in
    let only = λ (t : g.V.Volume.tells). log_only_then old begun new first (log_only_then begun mid new (c.in_ok-end.ensures.logs t).only (log_only_made mid new _ (c.in_ok-bring.ensures.made t))) in
    record {
      records = refl;
      spent = c.in_ok-end.ensures.spent;
      active = c.requires.active;
      secured = λ t. secured_all mid new c.args.log.now.recorded c.args.pieces.now (c.in_ok-end.ensures.logs t).logging (c.in_ok-bring.ensures.made t);
      end_is = search rules;
      unchanged = λ t. unchanged_log old new c.args.log.now.changed (only t) (c.requires.open t).unchanged;
      only = only;
    }

pub returns-then-are_new-clause-quiet : goal.returns-then-are_new-clause-quiet
returns-then-are_new-clause-quiet g c = stays_quiet_refl g.V.Volume c.args.vol.now c.requires.bound

pub returns-then-are_new-clause-secures : goal.returns-then-are_new-clause-secures
returns-then-are_new-clause-secures g c = record {
  records = refl;
  spent = omega arith;
  active = c.requires.active;
  secured = λ t. secured_new _ c.args.log.now.end c.args.log.now.recorded c.args.lens.now c.args.log.now.changed c.args.pieces.now (c.requires.open t) (c.requires.may.knows.are t) c.requires.may.small (c.are_new.ensures c.if-are_new.true);
  end_is = λ t. (c.requires.open t).log;
  unchanged = λ t. (c.requires.open t).unchanged;
  only = λ t. log_only_refl _;
}
