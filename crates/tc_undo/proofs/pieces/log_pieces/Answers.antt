use Rattle.std.proofs.Common.{get_or, ap, refl, arith}
use Rattle.ud_state.proofs.Runs.{log_only_refl, log_only_then}
use Rattle.ud_state.proofs.Writing.{lens_log}
use Rattle.tc_undo.specs.Ahead.{ahead}
use Rattle.tc_undo.specs.Pieces.{needs_all}
use Rattle.tc_undo.specs.Runs.{blank}
use Rattle.tc_undo.proofs.Guarding.{logging_more, logging_one}
use Rattle.tc_undo.proofs.Putting.{next_pieces}
use Rattle.tc_undo.proofs.Volumes.{stays_quiet_refl, stays_quiet_then}
use Rattle.tc_undo.proofs.pieces.log_pieces.Goals as goal

pub loop-i-init : goal.loop-i-init
loop-i-init g c = record {
  quiet = stays_quiet_refl g.V.Volume c.args.vol.now c.requires.bound;
  logs = λ t. record { logging = c.requires.logging t; end_is = c.requires.may.end_is t; only = log_only_refl _ };
  waits = c.requires.waits;
  room = omega arith;
}

pub log_piece-requires-clause-logging : goal.log_piece-requires-clause-logging
log_piece-requires-clause-logging g c = λ t at. logging_one _ _ _ (c.loop-i.invariant.logs t).logging _ at

pub log_piece-requires-clause-may : goal.log_piece-requires-clause-may
log_piece-requires-clause-may g c =
    let may = c.requires.may in
    let small = may.small c.loop-i.i blank c.loop-i-test.true in
    record {
      data_file = small.data_file;
      small = small.small;
      room_is = omega (arith, may.room, c.loop-i.invariant.room, ap needs_all (next_pieces c.args.pieces.now c.loop-i.i c.loop-i-test.true));
      are = λ t. lens_log _ _ c.args.lens.now (c.loop-i.invariant.logs t).only (may.are t);
      end_is = λ t. (c.loop-i.invariant.logs t).end_is;
    }

pub loop-i-preserved : goal.loop-i-preserved
loop-i-preserved g c = record {
  quiet = stays_quiet_then g.V.Volume c.args.vol.now c.loop-i.vol c.log_piece.new.vol c.loop-i.invariant.quiet c.log_piece.ensures.quiet;
  logs = λ t.
      let was = c.loop-i.invariant.logs t in
      let l = c.in_ok-size.ensures.logs t in
      let ps = c.args.pieces.now in
      record {
        logging = logging_more (ahead (g.V.Volume.calls c.loop-i.vol) c.loop-i.waiting) (ahead (g.V.Volume.calls c.log_piece.new.vol) c.log_piece.new.waiting) c.args.recorded.now ps c.loop-i.i (get_or ps c.loop-i.i blank) blank c.loop-i-test.true refl was.logging l.grows;
        end_is = l.end_is;
        only = log_only_then _ (ahead (g.V.Volume.calls c.loop-i.vol) c.loop-i.waiting) (ahead (g.V.Volume.calls c.log_piece.new.vol) c.log_piece.new.waiting) was.only l.only;
      };
  waits = c.in_ok-size.ensures.waits;
  room = omega (arith, c.loop-i.invariant.room, c.in_ok-size.ensures.spent, ap needs_all (next_pieces c.args.pieces.now c.loop-i.i c.loop-i-test.true));
}
