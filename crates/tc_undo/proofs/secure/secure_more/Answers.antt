use Rattle.std.proofs.Common.{ap, arith, length, refl, rules}
use Rattle.tc_io.specs.Images.{reads}
use Rattle.ud_state.proofs.Writing.{logging_of, secured_of, secured, unchanged_log}
use Rattle.ud_state.proofs.Runs.{log_only_refl, log_only_then, log_only_made}
use Rattle.tc_undo.specs.Ahead.{ahead}
use Rattle.tc_undo.proofs.Ahead.{joins_logging, joins_only, logging_pending, open_joins, open_pending, open_waits}
use Rattle.tc_undo.proofs.Volumes.{stays_quiet_refl}
use Rattle.tc_undo.proofs.secure.secure_more.Goals as goal

pub returns-then-stop-at-clause-quiet : goal.returns-then-stop-at-clause-quiet
returns-then-stop-at-clause-quiet g c = stays_quiet_refl g.V.Volume c.args.vol.now c.requires.bound

pub returns-then-stop-at-clause-secures : goal.returns-then-stop-at-clause-secures
returns-then-stop-at-clause-secures g c = record {
  records = refl;
  low = search rules;
  secured = λ t. secured_of _ _ _ _ (c.requires.open t) c.args.file c.args.at c.args.stop c.if-stop-at.true;
  end_is = λ t. (c.requires.open t).log;
  unchanged = λ t. (c.requires.open t).unchanged;
  only = λ t. log_only_refl _;
}

pub log_range-requires-clause-logging : goal.log_range-requires-clause-logging
log_range-requires-clause-logging g c = λ t. joins_logging _ _ (open_joins _ c.new-waiting.result c.new-waiting.ensures) _ c.args.file c.args.at c.args.at c.requires.may.data_file (logging_of _ _ _ _ (c.requires.open t) c.args.file c.args.at)

pub log_range-requires-clause-waits : goal.log_range-requires-clause-waits
log_range-requires-clause-waits g c = λ t. open_waits _ c.new-waiting.result c.new-waiting.ensures _ (open_pending (c.requires.open t)) (c.requires.open t).log

pub log_range-requires-clause-may : goal.log_range-requires-clause-may
log_range-requires-clause-may g c =
    let may = c.requires.may in
    record {
      data_file = may.data_file;
      inside = may.inside;
      within = λ t. omega (arith, may.within t, ap (λ s. length (reads s)) ((joins_only _ _ (open_joins (g.V.Volume.calls c.args.vol.now) c.new-waiting.result c.new-waiting.ensures)).same c.args.file may.data_file));
      room = may.room;
    }

pub bring-requires-clause-pending : goal.bring-requires-clause-pending
bring-requires-clause-pending g c = λ t. logging_pending (c.in_ok-end.ensures.logs t).logging

pub returns-clause-secures : goal.returns-clause-secures
returns-clause-secures g c =
    let old = g.V.Volume.calls c.args.vol.now in
    let begun = ahead old c.new-waiting.result in
    let mid = ahead (g.V.Volume.calls c.log_range.new.vol) c.log_range.new.waiting in
    let new = g.V.Volume.calls c.bring.new.vol in
    let first = joins_only old begun (open_joins old c.new-waiting.result c.new-waiting.ensures) in
    let only = λ (t : g.V.Volume.tells). log_only_then old begun new first (log_only_then begun mid new (c.in_ok-end.ensures.logs t).only (log_only_made mid new _ (c.in_ok-bring.ensures.made t))) in
    record {
      records = refl;
      low = c.in_ok-end.ensures.low;
      secured = λ t. secured mid new c.args.log.now.recorded c.args.file c.args.at c.args.stop (c.in_ok-end.ensures.logs t).logging c.requires.may.data_file (c.in_ok-bring.ensures.made t);
      end_is = search rules;
      unchanged = λ t. unchanged_log old new c.args.log.now.changed (only t) (c.requires.open t).unchanged;
      only = only;
    }
