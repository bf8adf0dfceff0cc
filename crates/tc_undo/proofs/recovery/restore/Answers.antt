use Rattle.std.proofs.Common.{◌≡◌, ◌∙◌, ◌∷◌, ap, arith, length, inl, inr, sym, subst, Ok, Err}
use Rattle.tc_base.specs.Files.{Files}
use Rattle.tc_base.specs.declared.kind.Rule.{Rule}
use Rattle.tc_io.specs.Images.{Calls, now, synced}
use Rattle.ud_log.specs.Undo.{data_of, undo}
use Rattle.ud_state.specs.Since.{Calm, Quiet, quiet_then, quiet_same, since_later}
use Rattle.ud_state.specs.State.{Idle}
use Rattle.ud_state.proofs.Runs.{sync_reads}
use Rattle.ud_state.proofs.Replaying.{sync_log_calm}
use Rattle.ud_state.proofs.Recovery.{recovers_not, recovers_since, idle_files}
use Rattle.tc_undo.specs.Found.{Finds}
use Rattle.tc_undo.proofs.Settling.{finds_files, finds_lens, lens_same, lens_now}
use Rattle.tc_undo.proofs.recovery.restore.Goals as goal

pub returns-in_err-sync-clause-recovers : goal.returns-in_err-sync-clause-recovers
returns-in_err-sync-clause-recovers g c = λ t settled. recovers_not _ _ settled (c.in_err-sync.ensures.lost t)

pub returns-in_err-len-clause-recovers : goal.returns-in_err-len-clause-recovers
returns-in_err-len-clause-recovers g c = λ t settled. recovers_since _ (g.V.Volume.calls c.len.new.self) settled (g.met.V.Volume.now_is_image c.args.vol.now t) (quiet_same _ _ (c.len.ensures.calls t ∙ c.in_ok-sync.ensures.made t))

pub returns-in_err-found-clause-recovers : goal.returns-in_err-found-clause-recovers
returns-in_err-found-clause-recovers g c = λ t settled.
    let old = g.V.Volume.calls c.args.vol.now in
    let cs = g.V.Volume.calls c.look.new.vol in
    let after : cs ≡ (1, synced) ∷ old = c.look.ensures.reads.calls t ∙ c.len.ensures.calls t ∙ c.in_ok-sync.ensures.made t in
    let image = g.met.V.Volume.now_is_image c.args.vol.now t in
    recovers_since old cs settled image (quiet_same _ _ after)

pub returns-in_err-settle-clause-recovers : goal.returns-in_err-settle-clause-recovers
returns-in_err-settle-clause-recovers g c = λ t settled.
    let old = g.V.Volume.calls c.args.vol.now in
    let cs = g.V.Volume.calls c.look.new.vol in
    let after : cs ≡ (1, synced) ∷ old = c.look.ensures.reads.calls t ∙ c.len.ensures.calls t ∙ c.in_ok-sync.ensures.made t in
    let image = g.met.V.Volume.now_is_image c.args.vol.now t in
    let calm : Calm cs = subst Calm (sym after) (sync_log_calm old settled image) in
    recovers_since old (g.V.Volume.calls c.settle.new.vol) settled image (subst (λ (d : Calls). Quiet d (g.V.Volume.calls c.settle.new.vol)) after (c.settle.ensures.quiet t calm))

pub returns-in_err-drop_log-clause-recovers : goal.returns-in_err-drop_log-clause-recovers
returns-in_err-drop_log-clause-recovers g c = λ t settled.
    let old = g.V.Volume.calls c.args.vol.now in
    let cs = g.V.Volume.calls c.look.new.vol in
    let after : cs ≡ (1, synced) ∷ old = c.look.ensures.reads.calls t ∙ c.len.ensures.calls t ∙ c.in_ok-sync.ensures.made t in
    let image = g.met.V.Volume.now_is_image c.args.vol.now t in
    let calm : Calm cs = subst Calm (sym after) (sync_log_calm old settled image) in
    let fin : Finds c.in_ok-found.found.undoes (now cs) c.in_ok-found.found.lens c.in_ok-found.found.end = subst (λ (d : Calls). Finds c.in_ok-found.found.undoes (now d) c.in_ok-found.found.lens c.in_ok-found.found.end) (sym (c.look.ensures.reads.calls t)) (c.in_ok-found.ensures.found.finds t) in
    let fs = finds_files c.in_ok-found.found.undoes (now cs) c.in_ok-found.found.lens c.in_ok-found.found.end c.in_ok-found.ensures.found.short fin in
    let ready = c.in_ok-settle.ensures.ready t fs.0 fs.1 in
    recovers_since old (g.V.Volume.calls c.drop_log.new.vol) settled image (subst (λ (d : Calls). Quiet d (g.V.Volume.calls c.drop_log.new.vol)) after (quiet_then cs (g.V.Volume.calls c.settle.new.vol) (g.V.Volume.calls c.drop_log.new.vol) (c.settle.ensures.quiet t calm) (c.drop_log.ensures.quiet t fs.0 ready)))

pub returns-clause-recovers : goal.returns-clause-recovers
returns-clause-recovers g c = λ t settled.
    let old = g.V.Volume.calls c.args.vol.now in
    let cs = g.V.Volume.calls c.look.new.vol in
    let after : cs ≡ (1, synced) ∷ old = c.look.ensures.reads.calls t ∙ c.len.ensures.calls t ∙ c.in_ok-sync.ensures.made t in
    let image = g.met.V.Volume.now_is_image c.args.vol.now t in
    let calm : Calm cs = subst Calm (sym after) (sync_log_calm old settled image) in
    let fin : Finds c.in_ok-found.found.undoes (now cs) c.in_ok-found.found.lens c.in_ok-found.found.end = subst (λ (d : Calls). Finds c.in_ok-found.found.undoes (now d) c.in_ok-found.found.lens c.in_ok-found.found.end) (sym (c.look.ensures.reads.calls t)) (c.in_ok-found.ensures.found.finds t) in
    let fs = finds_files c.in_ok-found.found.undoes (now cs) c.in_ok-found.found.lens c.in_ok-found.found.end c.in_ok-found.ensures.found.short fin in
    let ready = c.in_ok-settle.ensures.ready t fs.0 fs.1 in
    recovers_since old (g.V.Volume.calls c.drop_log.new.vol) settled image (subst (λ (d : Calls). Quiet d (g.V.Volume.calls c.drop_log.new.vol)) after (quiet_then cs (g.V.Volume.calls c.settle.new.vol) (g.V.Volume.calls c.drop_log.new.vol) (c.settle.ensures.quiet t calm) (c.drop_log.ensures.quiet t fs.0 ready)))

pub returns-clause-idle : goal.returns-clause-idle
returns-clause-idle g c = λ t.
    let old = g.V.Volume.calls c.args.vol.now in
    let cs = g.V.Volume.calls c.look.new.vol in
    let after : cs ≡ (1, synced) ∷ old = c.look.ensures.reads.calls t ∙ c.len.ensures.calls t ∙ c.in_ok-sync.ensures.made t in
    let image = g.met.V.Volume.now_is_image c.args.vol.now t in
    let fin : Finds c.in_ok-found.found.undoes (now cs) c.in_ok-found.found.lens c.in_ok-found.found.end = subst (λ (d : Calls). Finds c.in_ok-found.found.undoes (now d) c.in_ok-found.found.lens c.in_ok-found.found.end) (sym (c.look.ensures.reads.calls t)) (c.in_ok-found.ensures.found.finds t) in
    let fs = finds_files c.in_ok-found.found.undoes (now cs) c.in_ok-found.found.lens c.in_ok-found.found.end c.in_ok-found.ensures.found.short fin in
    let ready = c.in_ok-settle.ensures.ready t fs.0 fs.1 in
    let idle : Idle (g.V.Volume.calls c.drop_log.new.vol) fs.0 = c.in_ok-drop_log.ensures.idle t fs.0 ready in
    let same : data_of (now (g.V.Volume.calls c.drop_log.new.vol)) ≡ fs.0 = idle_files _ fs.0 idle in
    subst (λ (x : Files). Idle (g.V.Volume.calls c.drop_log.new.vol) x) (sym same) idle

pub returns-clause-undone : goal.returns-clause-undone
returns-clause-undone g c = λ t.
    let old = g.V.Volume.calls c.args.vol.now in
    let cs = g.V.Volume.calls c.look.new.vol in
    let after : cs ≡ (1, synced) ∷ old = c.look.ensures.reads.calls t ∙ c.len.ensures.calls t ∙ c.in_ok-sync.ensures.made t in
    let image = g.met.V.Volume.now_is_image c.args.vol.now t in
    let fin : Finds c.in_ok-found.found.undoes (now cs) c.in_ok-found.found.lens c.in_ok-found.found.end = subst (λ (d : Calls). Finds c.in_ok-found.found.undoes (now d) c.in_ok-found.found.lens c.in_ok-found.found.end) (sym (c.look.ensures.reads.calls t)) (c.in_ok-found.ensures.found.finds t) in
    let fs = finds_files c.in_ok-found.found.undoes (now cs) c.in_ok-found.found.lens c.in_ok-found.found.end c.in_ok-found.ensures.found.short fin in
    let ready = c.in_ok-settle.ensures.ready t fs.0 fs.1 in
    let idle : Idle (g.V.Volume.calls c.drop_log.new.vol) fs.0 = c.in_ok-drop_log.ensures.idle t fs.0 ready in
    let same : data_of (now (g.V.Volume.calls c.drop_log.new.vol)) ≡ fs.0 = idle_files _ fs.0 idle in
    let here : now old ≡ now cs = (λ i h. sym (sync_reads old 1 h) i) ∙ ap now (sym after) in
    ap (λ (x : Files). undo (x 1) x) here ∙ fs.1 ∙ ap Ok (sym same)

pub returns-clause-lens : goal.returns-clause-lens
returns-clause-lens g c = record {
  short = c.in_ok-found.ensures.found.short;
  are = λ t.
      let old = g.V.Volume.calls c.args.vol.now in
      let cs = g.V.Volume.calls c.look.new.vol in
      let after : cs ≡ (1, synced) ∷ old = c.look.ensures.reads.calls t ∙ c.len.ensures.calls t ∙ c.in_ok-sync.ensures.made t in
      let image = g.met.V.Volume.now_is_image c.args.vol.now t in
      let fin : Finds c.in_ok-found.found.undoes (now cs) c.in_ok-found.found.lens c.in_ok-found.found.end = subst (λ (d : Calls). Finds c.in_ok-found.found.undoes (now d) c.in_ok-found.found.lens c.in_ok-found.found.end) (sym (c.look.ensures.reads.calls t)) (c.in_ok-found.ensures.found.finds t) in
      let fs = finds_files c.in_ok-found.found.undoes (now cs) c.in_ok-found.found.lens c.in_ok-found.found.end c.in_ok-found.ensures.found.short fin in
      let ready = c.in_ok-settle.ensures.ready t fs.0 fs.1 in
      let idle : Idle (g.V.Volume.calls c.drop_log.new.vol) fs.0 = c.in_ok-drop_log.ensures.idle t fs.0 ready in
      let same : data_of (now (g.V.Volume.calls c.drop_log.new.vol)) ≡ fs.0 = idle_files _ fs.0 idle in
      lens_now c.in_ok-found.found.lens _ (lens_same c.in_ok-found.found.lens fs.0 _ (sym same) (finds_lens c.in_ok-found.found.undoes (now cs) c.in_ok-found.found.lens c.in_ok-found.found.end c.in_ok-found.ensures.found.short fin fs.0 fs.1));
}

-- a log that was read to its end breaks no rule
not_broken : (old cs : Calls) (rule : Rule) → (fs : Files) × (undo (now cs 1) (now cs) ≡ Ok fs) → cs ≡ (1, synced) ∷ old → undo (now old 1) (now old) ≡ Err rule → ⊥
not_broken old cs rule whole after broken =
    let here : now old ≡ now cs = (λ i h. sym (sync_reads old 1 h) i) ∙ ap now (sym after) in
    let both : Err rule ≡ Ok whole.0 = sym broken ∙ (ap (λ (x : Files). undo (x 1) x) here ∙ whole.1) in
    cc

pub returns-in_err-sync-clause-spares : goal.returns-in_err-sync-clause-spares
returns-in_err-sync-clause-spares g c = λ t. record { spares = λ rule broken. inr (c.in_err-sync.ensures.lost t) }

pub returns-in_err-len-clause-spares : goal.returns-in_err-len-clause-spares
returns-in_err-len-clause-spares g c = λ t. record { spares = λ rule broken. inl (c.len.ensures.calls t ∙ c.in_ok-sync.ensures.made t) }

pub returns-in_err-found-clause-spares : goal.returns-in_err-found-clause-spares
returns-in_err-found-clause-spares g c = λ t. record { spares = λ rule broken. inl (c.look.ensures.reads.calls t ∙ c.len.ensures.calls t ∙ c.in_ok-sync.ensures.made t) }

pub returns-in_err-settle-clause-spares : goal.returns-in_err-settle-clause-spares
returns-in_err-settle-clause-spares g c = λ t. record {
  spares = λ rule broken.
      let old = g.V.Volume.calls c.args.vol.now in
      let cs = g.V.Volume.calls c.look.new.vol in
      let after : cs ≡ (1, synced) ∷ old = c.look.ensures.reads.calls t ∙ c.len.ensures.calls t ∙ c.in_ok-sync.ensures.made t in
      let fin : Finds c.in_ok-found.found.undoes (now cs) c.in_ok-found.found.lens c.in_ok-found.found.end = subst (λ (d : Calls). Finds c.in_ok-found.found.undoes (now d) c.in_ok-found.found.lens c.in_ok-found.found.end) (sym (c.look.ensures.reads.calls t)) (c.in_ok-found.ensures.found.finds t) in
      absurd (not_broken old cs rule (finds_files c.in_ok-found.found.undoes (now cs) c.in_ok-found.found.lens c.in_ok-found.found.end c.in_ok-found.ensures.found.short fin) after broken);
}

pub returns-in_err-drop_log-clause-spares : goal.returns-in_err-drop_log-clause-spares
returns-in_err-drop_log-clause-spares g c = λ t. record {
  spares = λ rule broken.
      let old = g.V.Volume.calls c.args.vol.now in
      let cs = g.V.Volume.calls c.look.new.vol in
      let after : cs ≡ (1, synced) ∷ old = c.look.ensures.reads.calls t ∙ c.len.ensures.calls t ∙ c.in_ok-sync.ensures.made t in
      let fin : Finds c.in_ok-found.found.undoes (now cs) c.in_ok-found.found.lens c.in_ok-found.found.end = subst (λ (d : Calls). Finds c.in_ok-found.found.undoes (now d) c.in_ok-found.found.lens c.in_ok-found.found.end) (sym (c.look.ensures.reads.calls t)) (c.in_ok-found.ensures.found.finds t) in
      absurd (not_broken old cs rule (finds_files c.in_ok-found.found.undoes (now cs) c.in_ok-found.found.lens c.in_ok-found.found.end c.in_ok-found.ensures.found.short fin) after broken);
}

pub returns-clause-spares : goal.returns-clause-spares
returns-clause-spares g c = λ t. record {
  spares = λ rule broken.
      let old = g.V.Volume.calls c.args.vol.now in
      let cs = g.V.Volume.calls c.look.new.vol in
      let after : cs ≡ (1, synced) ∷ old = c.look.ensures.reads.calls t ∙ c.len.ensures.calls t ∙ c.in_ok-sync.ensures.made t in
      let fin : Finds c.in_ok-found.found.undoes (now cs) c.in_ok-found.found.lens c.in_ok-found.found.end = subst (λ (d : Calls). Finds c.in_ok-found.found.undoes (now d) c.in_ok-found.found.lens c.in_ok-found.found.end) (sym (c.look.ensures.reads.calls t)) (c.in_ok-found.ensures.found.finds t) in
      absurd (not_broken old cs rule (finds_files c.in_ok-found.found.undoes (now cs) c.in_ok-found.found.lens c.in_ok-found.found.end c.in_ok-found.ensures.found.short fin) after broken);
}

pub returns-clause-grows : goal.returns-clause-grows
returns-clause-grows g c = λ t.
    let old = g.V.Volume.calls c.args.vol.now in
    let cs = g.V.Volume.calls c.look.new.vol in
    let after : cs ≡ (1, synced) ∷ old = c.look.ensures.reads.calls t ∙ c.len.ensures.calls t ∙ c.in_ok-sync.ensures.made t in
    let fin : Finds c.in_ok-found.found.undoes (now cs) c.in_ok-found.found.lens c.in_ok-found.found.end = subst (λ (d : Calls). Finds c.in_ok-found.found.undoes (now d) c.in_ok-found.found.lens c.in_ok-found.found.end) (sym (c.look.ensures.reads.calls t)) (c.in_ok-found.ensures.found.finds t) in
    let fs = finds_files c.in_ok-found.found.undoes (now cs) c.in_ok-found.found.lens c.in_ok-found.found.end c.in_ok-found.ensures.found.short fin in
    let ready = c.in_ok-settle.ensures.ready t fs.0 fs.1 in
    let longer = since_later _ (g.V.Volume.calls c.settle.new.vol) (g.V.Volume.calls c.drop_log.new.vol) (c.drop_log.ensures.quiet t fs.0 ready).moments in
    omega (arith, ap length after, c.in_ok-settle.ensures.grows t, longer)
