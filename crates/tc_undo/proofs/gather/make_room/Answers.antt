use Rattle.std.proofs.Common.{take, length, ap, subst, sym, ◌∙◌}
use Rattle.tc_io.specs.Images.{Calls, now}
use Rattle.tc_undo.specs.Ahead.{Joins, ahead, text}
use Rattle.tc_undo.proofs.Ahead.{joins_none, open_waits, pending_made}
use Rattle.tc_undo.proofs.Volumes.{stays_quiet_refl}
use Rattle.tc_undo.proofs.gather.make_room.Goals as goal

pub returns-then-has_room-clause-quiet : goal.returns-then-has_room-clause-quiet
returns-then-has_room-clause-quiet g c = stays_quiet_refl g.V.Volume c.args.vol.now c.requires.bound

pub returns-clause-joins : goal.returns-clause-joins
returns-clause-joins g c = λ t.
    let new = g.V.Volume.calls c.flush.new.vol in
    let w = c.flush.new.waiting in
    subst (λ (d : Calls). Joins d (ahead new w)) (c.in_ok-flush.ensures.made t) (joins_none new (text w) (ap (λ k. take k w.room) c.in_ok-flush.ensures.none))

pub returns-clause-waits : goal.returns-clause-waits
returns-clause-waits g c = λ t.
    let new = g.V.Volume.calls c.flush.new.vol in
    let w = c.flush.new.waiting in
    let made = c.in_ok-flush.ensures.made t in
    open_waits new w (ap (λ k. take k w.room) c.in_ok-flush.ensures.none) c.args.end (pending_made _ new made (c.requires.pending t)) ((c.requires.waits t).end_is ∙ sym (ap (λ (d : Calls). length (now d 1)) made))
