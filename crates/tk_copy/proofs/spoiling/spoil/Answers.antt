use Rattle.std.proofs.Common.{◌∙◌, sym, subst}
use Rattle.tc_io.specs.Copies.{copy_of, label_of}
use Rattle.tc_io.specs.Images.{Calls}
use Rattle.ud_state.specs.Since.{since_then}
use Rattle.tk_copy.specs.Copying.{LeavesCopy, LogSynced}
use Rattle.tk_copy.proofs.Spoiled.{first_lost, first_made, synced_first}
use Rattle.tk_copy.proofs.spoiling.spoil.Goals as goal

pub returns-in_err-copy_sync-clause-copies : goal.returns-in_err-copy_sync-clause-copies
returns-in_err-copy_sync-clause-copies g c = λ t kept. record { moments = first_lost kept _ _ (c.in_err-copy_sync.ensures.lost t) }

pub returns-in_err-may_undo-clause-copies : goal.returns-in_err-may_undo-clause-copies
returns-in_err-may_undo-clause-copies g c = λ t kept.
    let image = g.met.V.Volume.copy_is_image c.args.vol.now (label_of (g.V.Volume.names c.args.vol.now)) t in
    record { moments = first_made kept _ _ image (c.may_undo.ensures.same t ∙ c.in_ok-copy_sync.ensures.made t) }

pub returns-in_err-write_over-clause-copies : goal.returns-in_err-write_over-clause-copies
returns-in_err-write_over-clause-copies g c = λ t kept.
    let v = g.V.Volume in
    let old = copy_of (v.names c.args.vol.now) in
    let image = g.met.V.Volume.copy_is_image c.args.vol.now (label_of (v.names c.args.vol.now)) t in
    let m = c.may_undo.ensures.same t ∙ c.in_ok-copy_sync.ensures.made t in
    let log = subst (λ (d : Calls). LogSynced old d) (sym m) (synced_first old image) in
    record { moments = since_then (LeavesCopy kept old) old (copy_of (v.names c.may_undo.new.vol)) (copy_of (v.names c.write_over.new.vol)) (first_made kept old _ image m) (c.write_over.ensures.copies t kept old log) }

pub returns-in_ok-write_over-clause-copies : goal.returns-in_ok-write_over-clause-copies
returns-in_ok-write_over-clause-copies g c = λ t kept.
    let v = g.V.Volume in
    let old = copy_of (v.names c.args.vol.now) in
    let image = g.met.V.Volume.copy_is_image c.args.vol.now (label_of (v.names c.args.vol.now)) t in
    let m = c.may_undo.ensures.same t ∙ c.in_ok-copy_sync.ensures.made t in
    let log = subst (λ (d : Calls). LogSynced old d) (sym m) (synced_first old image) in
    record { moments = since_then (LeavesCopy kept old) old (copy_of (v.names c.may_undo.new.vol)) (copy_of (v.names c.write_over.new.vol)) (first_made kept old _ image m) (c.write_over.ensures.copies t kept old log) }

pub returns-in_ok-write_over-clause-spoiled : goal.returns-in_ok-write_over-clause-spoiled
returns-in_ok-write_over-clause-spoiled g c = λ t.
    let v = g.V.Volume in
    let old = copy_of (v.names c.args.vol.now) in
    let image = g.met.V.Volume.copy_is_image c.args.vol.now (label_of (v.names c.args.vol.now)) t in
    let m = c.may_undo.ensures.same t ∙ c.in_ok-copy_sync.ensures.made t in
    c.in_ok-write_over.ensures.spoiled t old (subst (λ (d : Calls). LogSynced old d) (sym m) (synced_first old image))

pub returns-else-branch-clause-copies : goal.returns-else-branch-clause-copies
returns-else-branch-clause-copies g c = λ t kept.
    let image = g.met.V.Volume.copy_is_image c.args.vol.now (label_of (g.V.Volume.names c.args.vol.now)) t in
    record { moments = first_made kept _ _ image (c.may_undo.ensures.same t ∙ c.in_ok-copy_sync.ensures.made t) }
