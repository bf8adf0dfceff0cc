use Rattle.std.proofs.Common.{ap, arith, length, refl, rules}
use Rattle.tc_io.specs.Images.{reads}
use Rattle.ud_state.proofs.Writing.{secured, unchanged_log, idle_unchanged}
use Rattle.ud_state.proofs.Runs.{log_only_then, log_only_made}
use Rattle.tc_undo.specs.Ahead.{ahead}
use Rattle.tc_undo.proofs.Ahead.{begun_logs, begun_waits, logging_pending}
use Rattle.tc_undo.proofs.secure.secure_first.Goals as goal

pub log_range-requires-clause-logging : goal.log_range-requires-clause-logging
log_range-requires-clause-logging g c = λ t. (begun_logs _ c.begin-waiting.result _ (c.requires.idle t) (c.requires.lens t) c.begin-waiting.ensures c.args.file c.args.at).logging

pub log_range-requires-clause-waits : goal.log_range-requires-clause-waits
log_range-requires-clause-waits g c = λ t. begun_waits _ c.begin-waiting.result _ (c.requires.idle t) (c.requires.lens t) c.begin-waiting.ensures

pub log_range-requires-clause-may : goal.log_range-requires-clause-may
log_range-requires-clause-may g c =
    let may = c.requires.may in
    record {
      data_file = may.data_file;
      inside = may.inside;
      within = λ t. omega (arith, may.within t, ap (λ s. length (reads s)) ((begun_logs _ c.begin-waiting.result _ (c.requires.idle t) (c.requires.lens t) c.begin-waiting.ensures c.args.file c.args.at).only.same c.args.file may.data_file));
      room = may.room;
    }

pub bring-requires-clause-pending : goal.bring-requires-clause-pending
bring-requires-clause-pending g c = λ t. logging_pending (c.in_ok-end.ensures.logs t).logging

pub returns-clause-secures : goal.returns-clause-secures
returns-clause-secures g c =
    let old = g.V.Volume.calls c.args.vol.now in
    let begun = ahead old c.begin-waiting.result in
    let mid = ahead (g.V.Volume.calls c.log_range.new.vol) c.log_range.new.waiting in
    let new = g.V.Volume.calls c.bring.new.vol in
    let first = λ (t : g.V.Volume.tells). (begun_logs old c.begin-waiting.result c.args.lens.now (c.requires.idle t) (c.requires.lens t) c.begin-waiting.ensures c.args.file c.args.at).only in
    let only = λ (t : g.V.Volume.tells). log_only_then old begun new (first t) (log_only_then begun mid new (c.in_ok-end.ensures.logs t).only (log_only_made mid new _ (c.in_ok-bring.ensures.made t))) in
    record {
      records = refl;
      low = c.in_ok-end.ensures.low;
      secured = λ t. secured mid new c.args.lens.now c.args.file c.args.at c.args.stop (c.in_ok-end.ensures.logs t).logging c.requires.may.data_file (c.in_ok-bring.ensures.made t);
      end_is = search rules;
      unchanged = λ t. unchanged_log old new _ (only t) (idle_unchanged _ _ refl (c.requires.idle t));
      only = only;
    }
