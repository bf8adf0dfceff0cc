use Rattle.std.proofs.Common.{◌∙◌, ◌∷◌, ap, sym, subst}
use Rattle.tc_io.specs.Images.{Calls, synced}
use Rattle.ud_state.specs.State.{Idle}
use Rattle.ud_state.specs.Since.{quiet_refl, quiet_then}
use Rattle.ud_state.proofs.Taken.{quiet_synced, quiet_not_synced}
use Rattle.ud_state.proofs.Recovery.{drop_lost, drop_made, drop_calm}
use Rattle.tc_undo.proofs.recovery.drop_log.Goals as goal

pub returns-then-len-eq0-clause-quiet : goal.returns-then-len-eq0-clause-quiet
returns-then-len-eq0-clause-quiet g c = λ t files ready. quiet_refl _

pub returns-then-len-eq0-clause-idle : goal.returns-then-len-eq0-clause-idle
returns-then-len-eq0-clause-idle g c = λ t files ready. ready.empty (sym (c.requires.len t) ∙ c.if-len-eq0.true)

pub returns-in_err-cut-clause-quiet : goal.returns-in_err-cut-clause-quiet
returns-in_err-cut-clause-quiet g c = λ t files ready. drop_lost _ _ files ready (g.met.V.Volume.now_is_image c.args.vol.now t) (g.met.V.Volume.now_is_image c.cut.new.self t) (c.in_err-cut.ensures.lost t)

pub returns-in_err-sync-clause-quiet : goal.returns-in_err-sync-clause-quiet
returns-in_err-sync-clause-quiet g c = λ t files ready.
    let mid = g.V.Volume.calls c.cut.new.self in
    let image = g.met.V.Volume.now_is_image c.cut.new.self t in
    quiet_then _ mid (g.V.Volume.calls c.sync.new.self) (drop_made _ _ files ready (g.met.V.Volume.now_is_image c.args.vol.now t) image (c.in_ok-cut.ensures.made t)) (quiet_not_synced mid (g.V.Volume.calls c.sync.new.self) image (g.met.V.Volume.now_is_image c.sync.new.self t) (drop_calm _ mid files ready (c.in_ok-cut.ensures.made t) image) 1 (c.in_err-sync.ensures.lost t))

pub returns-clause-quiet : goal.returns-clause-quiet
returns-clause-quiet g c = λ t files ready.
    let mid = g.V.Volume.calls c.cut.new.self in
    let image = g.met.V.Volume.now_is_image c.cut.new.self t in
    quiet_then _ mid (g.V.Volume.calls c.sync.new.self) (drop_made _ _ files ready (g.met.V.Volume.now_is_image c.args.vol.now t) image (c.in_ok-cut.ensures.made t)) (quiet_synced mid (g.V.Volume.calls c.sync.new.self) image (g.met.V.Volume.now_is_image c.sync.new.self t) (drop_calm _ mid files ready (c.in_ok-cut.ensures.made t) image) 1 (c.in_ok-sync.ensures.made t))

pub returns-clause-idle : goal.returns-clause-idle
returns-clause-idle g c = λ t files ready. subst (λ (d : Calls). Idle d files) (sym (c.in_ok-sync.ensures.made t ∙ ap (λ (d : Calls). (1, synced) ∷ d) (c.in_ok-cut.ensures.made t))) ready.gone
