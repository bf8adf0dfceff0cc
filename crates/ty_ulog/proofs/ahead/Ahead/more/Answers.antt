use Rattle.std.proofs.Common.{◌∙◌, refl, arith}
use Rattle.ty_ulog.proofs.Pieces.{added, added_long, ahead_more, read_as}
use Rattle.ty_ulog.proofs.ahead.Ahead.more.Goals as goal

pub returns-clause-goes : goal.returns-clause-goes
returns-clause-goes g c =
    let held = c.args.self.now.held.items in
    let file = g.S.Space.now c.args.space.now 2 in
    record {
      at_is = refl;
      end_is = refl;
      ahead = λ t.
          let read = read_as _ _ _ _ file (c.in_ok-fill.ensures.bytes t) c.in_ok-make_room.ensures in
          ahead_more c.args.self.now _ file c.min-more.result (c.requires.ahead t) refl refl (added file held _ _ _ c.args.self.now.at _ c.min-more.result c.in_ok-extend_from_slice.ensures.ok c.as_slice.ensures.value read (omega arith))
          (omega (arith, c.min-more.ensures, (c.requires.ahead t).end_is));
    }

pub returns-clause-reach : goal.returns-clause-reach
returns-clause-reach g c =
    let long = added_long c.args.self.now.held.items _ _ _ c.min-more.result c.in_ok-extend_from_slice.ensures.ok c.as_slice.ensures.value (c.fill.ensures.long ∙ c.in_ok-make_room.ensures) in
    omega (arith, long, c.min-more.ensures)
