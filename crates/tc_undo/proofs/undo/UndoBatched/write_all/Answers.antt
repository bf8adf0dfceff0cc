use Rattle.std.proofs.Common.{arith, rules}
use Rattle.tc_io.specs.Images.{now}
use Rattle.ud_state.proofs.Valid.{valid_open}
use Rattle.tc_undo.proofs.Batching.{all_below, all_lie, all_small, end_spent, laid_data, reached_data}
use Rattle.tc_undo.proofs.Steadiness.{steady_of}
use Rattle.tc_undo.proofs.undo.UndoBatched.write_all.Goals as goal

pub write_pieces-requires-clause-may : goal.write_pieces-requires-clause-may
write_pieces-requires-clause-may g c =
    let s = c.args.self.now in
    let was = c.requires.sound.1 in
    record { small = all_small s.limits c.args.bytes.now c.args.pieces.now was.limits_short c.requires.fits; room = c.requires.room; knows = was.knows }

pub write_pieces-requires-clause-lie : goal.write_pieces-requires-clause-lie
write_pieces-requires-clause-lie g c = all_lie c.args.self.now.limits c.args.bytes.now c.args.pieces.now c.requires.sound.1.limits_short c.requires.fits

pub write_pieces-requires-clause-reached : goal.write_pieces-requires-clause-reached
write_pieces-requires-clause-reached g c = λ t. reached_data c.args.bytes.now c.args.pieces.now _ (c.requires.reached t)

pub returns-in-Ok-clause-wrote : goal.returns-in-Ok-clause-wrote
returns-in-Ok-clause-wrote g c = λ t.
    let s = c.args.self.now in
    laid_data c.args.bytes.now c.args.pieces.now (now (g.V.Volume.calls s.vol)) _ (all_small s.limits c.args.bytes.now c.args.pieces.now c.requires.sound.1.limits_short c.requires.fits) (c.in-Ok.ensures.puts.files t)

pub returns-in-Ok-clause-stays : goal.returns-in-Ok-clause-stays
returns-in-Ok-clause-stays g c = record { steady = λ t. steady_of (λ s. g.V.Volume.calls s.vol) c.args.self.now _ (c.write_pieces.ensures.quiet.quiet t); follows = search rules }

pub returns-in-Err-clause-stays : goal.returns-in-Err-clause-stays
returns-in-Err-clause-stays g c = record { steady = λ t. steady_of (λ s. g.V.Volume.calls s.vol) c.args.self.now _ (c.write_pieces.ensures.quiet.quiet t); follows = search rules }

pub returns-in-Ok-clause-outcome : goal.returns-in-Ok-clause-outcome
returns-in-Ok-clause-outcome g c =
    let s = c.args.self.now in
    let was = c.requires.sound.1 in
    let e = c.in-Ok.ensures.puts in
    record {
      ok = (
        c.requires.sound.0,
        record {
          knows = e.lens;
          limits_short = was.limits_short;
          inside = e.inside.each s.limits (all_below s.limits c.args.bytes.now c.args.pieces.now was.limits_short c.requires.fits) was.inside;
          low = omega (arith, e.spent, c.requires.room);
          untouched = λ is. absurd cc;
          valid = λ t. valid_open c.write_pieces.new.log.active _ _ _ _ e.active (e.is_open t);
        },
      );
      err = tt;
    }

pub returns-in-Ok-clause-logged : goal.returns-in-Ok-clause-logged
returns-in-Ok-clause-logged g c = let e = c.in-Ok.ensures.puts in end_spent c.write_pieces.new.log.active c.write_pieces.new.log.end _ e.active e.spent
