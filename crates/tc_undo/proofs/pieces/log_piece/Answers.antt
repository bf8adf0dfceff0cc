use Rattle.std.proofs.Common.{◌≡◌, ◌≤◌, ◌+◌, min, length, get_or, ap, arith}
use Rattle.tc_io.specs.Images.{now}
use Rattle.ud_log.specs.Undo.{length_of}
use Rattle.tc_undo.specs.Ahead.{ahead}
use Rattle.tc_undo.proofs.Guarding.{grows_widen}
use Rattle.tc_undo.proofs.pieces.log_piece.Goals as goal

pub returns-clause-logs : goal.returns-clause-logs
returns-clause-logs g c = λ t.
    let cs = ahead (g.V.Volume.calls c.args.vol.now) c.args.waiting.now in
    let l = c.in_ok-size.ensures.logs t in
    let may = c.requires.may in
    let f = c.args.piece.file in
    let all = c.args.piece.at + c.args.piece.size in
    let rec : get_or c.args.recorded.now c.place-i.result 0 ≡ length_of c.args.recorded.now f = ap (λ k. get_or c.args.recorded.now k 0) c.place-i.ensures.place in
    let len : get_or c.args.lens.now c.place-i.result 0 ≡ length_of c.args.lens.now f = ap (λ k. get_or c.args.lens.now k 0) c.place-i.ensures.place in
    let le : min (min all (length_of c.args.recorded.now f)) (length (now cs f)) ≤ c.min-stop.result = omega (arith, c.min-stop.ensures, c.min.ensures, rec, len, (may.are t).at f may.data_file) in
    record { grows = grows_widen cs (ahead (g.V.Volume.calls c.log_range.new.vol) c.log_range.new.waiting) c.args.recorded.now f c.args.piece.at c.min-stop.result all may.data_file (c.in_ok-size.ensures.grows t) le; end_is = l.end_is; only = l.only }
