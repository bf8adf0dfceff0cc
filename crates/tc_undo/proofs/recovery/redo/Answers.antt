use Rattle.std.proofs.Common.{◌≡◌, ◌∙◌, List, ap, sym, subst, rules, cond, []}
use Rattle.tc_base.specs.Files.{Files, resized}
use Rattle.tc_io.specs.Images.{now, reads}
use Rattle.ud_log.specs.Entries.{Entry, put_back}
use Rattle.ud_log.specs.Log.{entries}
use Rattle.ud_log.specs.Undo.{length_of, of_file, undone_all}
use Rattle.ud_state.specs.State.{Replay}
use Rattle.ud_state.specs.Since.{quiet_then}
use Rattle.ud_state.proofs.Taken.{calm_undo}
use Rattle.ud_state.proofs.Replaying.{replay_start, replay_undo}
use Rattle.ud_state.proofs.Recovery.{can_put_back, ready_replay}
use Rattle.tc_undo.proofs.Marked.{all_marked}
use Rattle.tc_undo.proofs.Settling.{undo_long}
use Rattle.tc_undo.proofs.recovery.redo.Goals as goal

pub put_back_all-requires-clause-can : goal.put_back_all-requires-clause-can
put_back_all-requires-clause-can g c = λ t.
    let f = c.requires.finds t in
    can_put_back (g.V.Volume.calls c.args.vol.now) (g.V.Volume.calls c.set_lengths.new.vol) c.args.found.now.lens c.args.found.now.end f.scanned c.requires.short (undo_long _ _ _ f) (c.in_ok-set_lengths.ensures.log t) (c.in_ok-set_lengths.ensures.reads t)

pub returns-in_err-set_lengths-clause-quiet : goal.returns-in_err-set_lengths-clause-quiet
returns-in_err-set_lengths-clause-quiet g c = record {
  stays = search rules;
  quiet = λ t.
      let old = g.V.Volume.calls c.args.vol.now in
      let lens = c.args.found.now.lens in
      let es = entries (now old 1) in
      let f = c.requires.finds t in
      let rep : Replay old (undone_all lens es (now old)) lens es = replay_start old lens es f.log c.requires.short f.inside (c.requires.disk t).log (c.requires.disk t).files in
      c.set_lengths.ensures.quiet t (undone_all lens es (now old)) es rep (c.requires.disk t).files;
}

pub returns-in_err-put_back_all-clause-quiet : goal.returns-in_err-put_back_all-clause-quiet
returns-in_err-put_back_all-clause-quiet g c = record {
  stays = search rules;
  quiet = λ t.
      let old = g.V.Volume.calls c.args.vol.now in
      let mid = g.V.Volume.calls c.set_lengths.new.vol in
      let lens = c.args.found.now.lens in
      let es = entries (now old 1) in
      let f = c.requires.finds t in
      let files : Files = undone_all lens es (now old) in
      let rep : Replay old files lens es = replay_start old lens es f.log c.requires.short f.inside (c.requires.disk t).log (c.requires.disk t).files in
      let rep1 : Replay mid files lens es = c.in_ok-set_lengths.ensures.replay t files es rep (c.requires.disk t).files in
      let same : entries (now old 1) ≡ entries (now mid 1) = ap (λ s. entries (reads s)) (sym (c.in_ok-set_lengths.ensures.log t)) in
      quiet_then old mid (g.V.Volume.calls c.put_back_all.new.vol) (c.set_lengths.ensures.quiet t files es rep (c.requires.disk t).files) (c.put_back_all.ensures.quiet t files lens (subst (λ (l : List Entry). Replay mid files lens l) same rep1));
}

pub returns-in_err-sync_marked-clause-quiet : goal.returns-in_err-sync_marked-clause-quiet
returns-in_err-sync_marked-clause-quiet g c = record {
  stays = search rules;
  quiet = λ t.
      let old = g.V.Volume.calls c.args.vol.now in
      let mid = g.V.Volume.calls c.set_lengths.new.vol in
      let put = g.V.Volume.calls c.put_back_all.new.vol in
      let lens = c.args.found.now.lens in
      let es = entries (now old 1) in
      let f = c.requires.finds t in
      let files : Files = undone_all lens es (now old) in
      let rep : Replay old files lens es = replay_start old lens es f.log c.requires.short f.inside (c.requires.disk t).log (c.requires.disk t).files in
      let rep1 : Replay mid files lens es = c.in_ok-set_lengths.ensures.replay t files es rep (c.requires.disk t).files in
      let same : entries (now old 1) ≡ entries (now mid 1) = ap (λ s. entries (reads s)) (sym (c.in_ok-set_lengths.ensures.log t)) in
      let rep2 : Replay put files lens es = subst (λ (l : List Entry). Replay put files lens l) (sym same) ((c.in_ok-put_back_all.ensures.restored t).replay files lens (subst (λ (l : List Entry). Replay mid files lens l) same rep1)) in
      let so_far = quiet_then old mid put (c.set_lengths.ensures.quiet t files es rep (c.requires.disk t).files) (c.put_back_all.ensures.quiet t files lens (subst (λ (l : List Entry). Replay mid files lens l) same rep1)) in
      quiet_then old put (g.V.Volume.calls c.sync_marked.new.vol) so_far (c.sync_marked.ensures.quiet t (calm_undo put files (replay_undo put files lens es rep2) (g.met.V.Volume.now_is_image c.put_back_all.new.vol t)));
}

pub returns-clause-quiet : goal.returns-clause-quiet
returns-clause-quiet g c = record {
  stays = search rules;
  quiet = λ t.
      let old = g.V.Volume.calls c.args.vol.now in
      let mid = g.V.Volume.calls c.set_lengths.new.vol in
      let put = g.V.Volume.calls c.put_back_all.new.vol in
      let lens = c.args.found.now.lens in
      let es = entries (now old 1) in
      let f = c.requires.finds t in
      let files : Files = undone_all lens es (now old) in
      let rep : Replay old files lens es = replay_start old lens es f.log c.requires.short f.inside (c.requires.disk t).log (c.requires.disk t).files in
      let rep1 : Replay mid files lens es = c.in_ok-set_lengths.ensures.replay t files es rep (c.requires.disk t).files in
      let same : entries (now old 1) ≡ entries (now mid 1) = ap (λ s. entries (reads s)) (sym (c.in_ok-set_lengths.ensures.log t)) in
      let rep2 : Replay put files lens es = subst (λ (l : List Entry). Replay put files lens l) (sym same) ((c.in_ok-put_back_all.ensures.restored t).replay files lens (subst (λ (l : List Entry). Replay mid files lens l) same rep1)) in
      let so_far = quiet_then old mid put (c.set_lengths.ensures.quiet t files es rep (c.requires.disk t).files) (c.put_back_all.ensures.quiet t files lens (subst (λ (l : List Entry). Replay mid files lens l) same rep1)) in
      quiet_then old put (g.V.Volume.calls c.sync_marked.new.vol) so_far (c.sync_marked.ensures.quiet t (calm_undo put files (replay_undo put files lens es rep2) (g.met.V.Volume.now_is_image c.put_back_all.new.vol t)));
}

pub returns-clause-ready : goal.returns-clause-ready
returns-clause-ready g c = λ t.
    let old = g.V.Volume.calls c.args.vol.now in
    let mid = g.V.Volume.calls c.set_lengths.new.vol in
    let put = g.V.Volume.calls c.put_back_all.new.vol in
    let lens = c.args.found.now.lens in
    let es = entries (now old 1) in
    let f = c.requires.finds t in
    let files : Files = undone_all lens es (now old) in
    let rep : Replay old files lens es = replay_start old lens es f.log c.requires.short f.inside (c.requires.disk t).log (c.requires.disk t).files in
    let rep1 : Replay mid files lens es = c.in_ok-set_lengths.ensures.replay t files es rep (c.requires.disk t).files in
    let same : entries (now old 1) ≡ entries (now mid 1) = ap (λ s. entries (reads s)) (sym (c.in_ok-set_lengths.ensures.log t)) in
    let rep2 : Replay put files lens es = subst (λ (l : List Entry). Replay put files lens l) (sym same) ((c.in_ok-put_back_all.ensures.restored t).replay files lens (subst (λ (l : List Entry). Replay mid files lens l) same rep1)) in
    let new = g.V.Volume.calls c.sync_marked.new.vol in
    let only = c.in_ok-sync_marked.ensures.synced t in
    ready_replay new files lens es (only.replay files lens es rep2) (g.met.V.Volume.now_is_image c.sync_marked.new.vol t) (λ h ish. c.in_ok-sync_marked.ensures.there t h ish (λ not. absurd (all_marked h ish not)))
    (λ h ish. only.reads h ∙ (c.in_ok-put_back_all.ensures.restored t).reads h ish ∙ (λ i. put_back (of_file h (sym same i)) (c.in_ok-set_lengths.ensures.reads t h ish i)) ∙ sym (ap (λ b. cond b (put_back (of_file h es) (resized (length_of lens h) (now old h))) []) ish))

pub returns-clause-same : goal.returns-clause-same
returns-clause-same g c = λ t. (c.in_ok-sync_marked.ensures.synced t).log ∙ (c.in_ok-put_back_all.ensures.restored t).log ∙ c.in_ok-set_lengths.ensures.log t
