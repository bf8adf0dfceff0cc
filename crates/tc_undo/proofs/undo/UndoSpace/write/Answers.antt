use Rattle.std.proofs.Common.{◌+◌, length, arith, ap, get_or, rules}
use Rattle.ud_state.proofs.Replaying.{short_at}
use Rattle.ud_state.proofs.Valid.{valid_open}
use Rattle.tc_undo.specs.Usable.{data_file}
use Rattle.tc_undo.proofs.Needs.{grown_inside}
use Rattle.tc_undo.proofs.Steadiness.{steady_of}
use Rattle.tc_undo.proofs.undo.UndoSpace.write.Goals as goal

pub returns-clause-stays : goal.returns-clause-stays
returns-clause-stays g c = record { steady = λ t. steady_of (λ s. g.V.Volume.calls s.vol) c.args.self.now _ (c.write_through.ensures.quiet.quiet t); follows = search rules }

pub returns-in_default-write_through-clause-stays : goal.returns-in_default-write_through-clause-stays
returns-in_default-write_through-clause-stays g c = record { steady = λ t. steady_of (λ s. g.V.Volume.calls s.vol) c.args.self.now _ (c.write_through.ensures.quiet.quiet t); follows = search rules }

pub stop_at-requires-clause-small : goal.stop_at-requires-clause-small
stop_at-requires-clause-small g c = omega (arith, short_at c.args.self.now.limits c.place.result c.requires.sound.1.limits_short, c.if-size-limit.false, c.if-at-limit.false)

pub write_through-requires-clause-small : goal.write_through-requires-clause-small
write_through-requires-clause-small g c = omega (arith, short_at c.args.self.now.limits c.place.result c.requires.sound.1.limits_short, c.if-size-limit.false, c.if-at-limit.false)

pub returns-clause-outcome : goal.returns-clause-outcome
returns-clause-outcome g c =
    let s = c.args.self.now in
    let was = c.requires.sound.1 in
    let e = c.in-Ok.ensures.changes in
    let f = c.args.file in
    let end = c.args.at + length c.args.bytes.now in
    record {
      ok = (
        c.requires.sound.0,
        record {
          knows = e.lens;
          limits_short = was.limits_short;
          inside = grown_inside s.lens s.limits c.write_through.new.lens was.inside f end (data_file f c.requires.reaches.file) e.sized (omega (arith, c.if-at-limit.false, c.if-size-limit.false, ap (λ k. get_or s.limits k 0) c.place.ensures.place));
          low = e.low;
          untouched = λ is. absurd cc;
          valid = λ t. valid_open c.write_through.new.log.active _ _ _ _ e.active (e.is_open t);
        },
      );
      err = tt;
    }
