use Rattle.std.proofs.Common.{◌≡◌, ◌∙◌, arith, subst}
use Rattle.std.proofs.lemmas.Result.{on_ok_weaker}
use Rattle.ud_state.specs.Recovery.{Ready}
use Rattle.tc_base.specs.Files.{Files}
use Rattle.tc_io.specs.Images.{now}
use Rattle.ud_log.specs.Log.{entries}
use Rattle.ud_log.specs.Undo.{undone_all}
use Rattle.ud_state.specs.Since.{quiet_then, since_later}
use Rattle.ud_state.proofs.Runs.{durable_of}
use Rattle.tc_undo.proofs.Marked.{all_marked}
use Rattle.tc_undo.proofs.Settling.{finds_as, undo_of, nothing_of, ready_undo, ready_none}
use Rattle.tc_undo.proofs.recovery.settle.Goals as goal

pub returns-then-not-found-clause-ready : goal.returns-then-not-found-clause-ready
returns-then-not-found-clause-ready g c = λ t.
    let old = g.V.Volume.calls c.args.vol.now in
    let new = g.V.Volume.calls c.sync_marked.new.vol in
    let only = c.in_ok-sync_marked.ensures.synced t in
    let none = nothing_of c.args.found.now.undoes (now old) c.args.found.now.lens c.args.found.now.end c.if-not-found.true (c.requires.found.finds t) in
    ready_none new (now old) c.args.found.now.lens c.requires.found.short none only.reads (durable_of old new 1 only.log (c.requires.log t)) (λ h ish. c.in_ok-sync_marked.ensures.there t h ish (λ not. absurd (all_marked h ish not)))

pub redo-requires-clause-finds : goal.redo-requires-clause-finds
redo-requires-clause-finds g c = λ t.
    let old = g.V.Volume.calls c.args.vol.now in
    let only = c.in_ok-sync_marked.ensures.synced t in
    undo_of c.args.found.now.undoes _ c.args.found.now.lens c.args.found.now.end c.if-not-found.false (finds_as c.args.found.now.undoes (now old) (now (g.V.Volume.calls c.sync_marked.new.vol)) c.args.found.now.lens c.args.found.now.end only.reads (c.requires.found.finds t))

pub redo-requires-clause-disk : goal.redo-requires-clause-disk
redo-requires-clause-disk g c = λ t. record {
  log = durable_of (g.V.Volume.calls c.args.vol.now) (g.V.Volume.calls c.sync_marked.new.vol) 1 (c.in_ok-sync_marked.ensures.synced t).log (c.requires.log t);
  files = λ h ish. c.in_ok-sync_marked.ensures.there t h ish (λ not. absurd (all_marked h ish not));
}

pub returns-clause-quiet : goal.returns-clause-quiet
returns-clause-quiet g c = λ t calm. quiet_then _ (g.V.Volume.calls c.sync_marked.new.vol) (g.V.Volume.calls c.redo.new.vol) (c.sync_marked.ensures.quiet t calm) (c.redo.ensures.quiet.quiet t)

pub returns-clause-ready : goal.returns-clause-ready
returns-clause-ready g c = on_ok_weaker c.redo.result (λ done t.
    let old = g.V.Volume.calls c.args.vol.now in
    let mid = g.V.Volume.calls c.sync_marked.new.vol in
    let only = c.in_ok-sync_marked.ensures.synced t in
    let here : now mid ≡ now old = λ i h. only.reads h i in
    let found = undo_of c.args.found.now.undoes (now old) c.args.found.now.lens c.args.found.now.end c.if-not-found.false (c.requires.found.finds t) in
    let ready = subst (λ (fs : Files). Ready (g.V.Volume.calls c.redo.new.vol) (undone_all c.args.found.now.lens (entries (fs 1)) fs)) here (done t) in
    ready_undo (g.V.Volume.calls c.redo.new.vol) (now old) c.args.found.now.lens c.args.found.now.end found ready) c.redo.ensures.ready

pub returns-clause-same : goal.returns-clause-same
returns-clause-same g c = on_ok_weaker c.redo.result (λ done t. done t ∙ (c.in_ok-sync_marked.ensures.synced t).log) c.redo.ensures.same

pub returns-then-not-found-clause-grows : goal.returns-then-not-found-clause-grows
returns-then-not-found-clause-grows g c = λ t. c.in_ok-sync_marked.ensures.grows t

pub returns-clause-grows : goal.returns-clause-grows
returns-clause-grows g c = on_ok_weaker c.redo.result (λ done t. let longer = since_later _ (g.V.Volume.calls c.sync_marked.new.vol) (g.V.Volume.calls c.redo.new.vol) (c.redo.ensures.quiet.quiet t).moments in omega (arith, longer, c.in_ok-sync_marked.ensures.grows t)) c.redo.ensures.ready
