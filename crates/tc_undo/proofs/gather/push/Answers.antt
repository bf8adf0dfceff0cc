use Rattle.std.proofs.Common.{◌∷◌}
use Rattle.tc_io.specs.Images.{written}
use Rattle.tc_undo.specs.Ahead.{ahead}
use Rattle.tc_undo.proofs.Ahead.{added_joins, added_waits, joins_more, joins_then}
use Rattle.tc_undo.proofs.gather.push.Goals as goal

pub returns-clause-joins : goal.returns-clause-joins
returns-clause-joins g c = λ t.
    let old = ahead (g.V.Volume.calls c.args.vol.now) c.args.waiting.now in
    let calls = g.V.Volume.calls c.make_room.new.vol in
    let mid = ahead calls c.make_room.new.waiting in
    let end = c.args.end in
    let bytes = c.args.bytes.now in
    joins_then ((1, written end bytes) ∷ old) ((1, written end bytes) ∷ mid) _ (joins_more old mid end bytes (c.in_ok-make_room.ensures.joins t)) (added_joins calls c.make_room.new.waiting c.add.new.self end bytes (c.in_ok-make_room.ensures.waits t) c.add.ensures)

pub returns-clause-waits : goal.returns-clause-waits
returns-clause-waits g c = λ t. added_waits (g.V.Volume.calls c.make_room.new.vol) c.make_room.new.waiting c.add.new.self c.args.end c.args.bytes.now (c.in_ok-make_room.ensures.waits t) c.add.ensures
