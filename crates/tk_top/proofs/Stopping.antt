-- A run over a volume.
use Rattle.std.proofs.Common.{◌≡◌, inl, inr, ⊎_elim, ℕ, true, false, List, [], ◌∷◌, refl, sym, ap, subst, ◌∙◌}
use Rattle.std.specs.Prelude.{None}
use Rattle.tc_base.specs.Files.{Files}
use Rattle.tc_base.specs.declared.kind.Kind.{Kind}
use Rattle.tc_io.specs.Copies.{Named}
use Rattle.tc_io.specs.Images.{Calls, now}
use Rattle.tc_io.specs.declared.volume.Volume as volume
use Rattle.tc_io.specs.declared.wire.Wire as wire
use Rattle.tc_io.specs.declared.wire.At.{At}
use Rattle.tc_io.specs.declared.wire.Entry.{Entry}
use Rattle.tc_space.specs.declared.space.Space as space
use Rattle.ud_log.specs.Undo.{recovered}
use Rattle.tc_model.specs.Contents.{Contents}
use Rattle.ty_base.specs.Opening.{OpensTo}
use Rattle.ty_ulog.specs.Log.{IsLog, records_in}
use Rattle.ty_world.specs.Logs.{plain}
use Rattle.ty_world.specs.World.{Mark, copied_at, world_after}
use Rattle.ty_rounds.specs.Turns.{Told}
use Rattle.ty_rounds.proofs.Telling.{Adds-none}
use Rattle.tk_top.specs.declared.ends.End.{End}
use Rattle.tk_top.specs.Naming.{EndsUnopened, OpensNamed}
use Rattle.tk_top.specs.Over.{BeginsAt, FilesRun, FullFiles, FullPlain, MainIsBare}
use Rattle.tk_top.specs.Runs.{AtExit}
use Rattle.tk_top.specs.CopyRuns.{CopyRun, StandsAt}
use Rattle.tk_top.specs.Serving.{Begins, RunsOver}
use Rattle.tk_top.specs.Starts.{Start, begun, with_log}
use Rattle.tk_top.specs.Staying.{IsStill}
use Rattle.tk_top.specs.Stops.{IsEarly, StopsAt}
use Rattle.tk_top.proofs.CopyLaws.{copies_none, copies_stay}
use Rattle.tk_top.proofs.Events.{had_none}
use Rattle.tk_top.proofs.Over.{not_played, unserved}
use Rattle.tk_top.proofs.Kept.{full_opened}
use Rattle.tk_top.proofs.Named.{bare_so, begins_so, early_of, not_ended, opened_whole, reopens_as, same_files, unopened_broken}
use Rattle.tk_top.proofs.Stops.{Closes, exit_left, stops_run, stops_unopened}

-- the run never came to an open space
unfoldable pub unopened_for : {V W : Type 0} {v : volume.Ghosts V} (g : wire.Ghosts W) (st : Start) (opens reopens : Files → Contents → Type 0) (made : Files → Type 0) → ((files : Files) (c : Contents) → opens files c → reopens files c) → {name : List ℕ} (end : End) (turns : ℕ) (at : At) {old new : V} (x : W) → ((first : Mark) → BeginsAt v.tells opens (v.calls old) first → st.is.logs ≡ true → IsLog first.log (records_in first.log)) → EndsUnopened v name end old new
    → FilesRun st v.tells g opens reopens made end turns at (v.calls old) (v.calls new) (v.names old).copies (v.names new).copies x x
unfolding unserved
unopened_for {V} {W} {v} g st opens reopens made stand {name} end turns at {old} {new} x logs u = let other = not_ended u in record {
  entries = [];
  told = Adds-none (g.transcript x);
  opened = inl refl;
  events = had_none end turns other.0 other.1;
  broken = unopened_broken u;
  ends = λ settled first h.
      let w = begun st [] first in
      let stops : StopsAt reopens (AtExit reopens end w w) (IsEarly end × ◌≡◌ {A = List Entry} [] []) (first ∷ []) (v.calls old) (v.calls new) =
      stops_unopened reopens _ _ _ (v.calls old) (v.calls new) first (early_of u, refl) (u.leaves h.0 settled) (reopens_as opens reopens stand _ first h.1) (λ o r. inl (record { reopen = r; log = logs first h })) in
      record {
        asked = tt;
        serves = unserved st end turns at [] first [] refl (inr refl) other.0 other.1;
        exit = stops.exit;
        moments = λ ims some. inr ((u.leaves h.0 settled).moments ims some);
        late = λ some. absurd cc;
        copies = λ label. let same = u.names.copies h.0 in subst (λ (n : List ℕ → Calls). CopyRun reopens label (StandsAt end w [] label) (first ∷ []) None ((v.names old).copies label) (n label)) (sym same)
            (copies_stay reopens label (StandsAt end w [] label) w ((v.names old).copies label) ((v.names old).copies label) (copies_none reopens label w ((v.names old).copies label) refl));
        idle = λ some. absurd (some refl);
      };
  played = λ ended. absurd (⊎_elim other.0 other.1 ended);
  plays = λ first h acts dials given p. not_played st.is turns (g.plays x) end acts given (begun st [] first) other.0 other.1;
  unasked = λ first h label none. let same = u.names.copies h.0 in (λ i. same i label);
  unserved = λ tells none. u.names.copies tells;
}

-- of files of a kind
pub files_unopened : {V W : Type 0} {v : volume.Ghosts V} (g : wire.Ghosts W) (st : Start) (kind : Kind) (reopens : Files → Contents → Type 0) {made : Files → Type 0} {name : List ℕ} (end : End) (turns : ℕ) (at : At) {old new : V} (x : W) → st.is.logs ≡ false → EndsUnopened v name end old new
    → FilesRun st v.tells g (OpensTo kind reopens) reopens made end turns at (v.calls old) (v.calls new) (v.names old).copies (v.names new).copies x x
files_unopened g st kind reopens {made} end turns at x off u = unopened_for g st (OpensTo kind reopens) reopens made (λ files c h. h.stand) end turns at x (λ first h on. absurd (let e : false ≡ true = sym off ∙ on in cc)) u

module _ {S V : Type 0} {s : space.Ghosts S} {v : volume.Ghosts V} {name : List ℕ} {most : ℕ} {vol : V} {a : S} (o : OpensNamed s v name most vol a) (opens : Files → Contents → Type 0) where
  -- the copies of the space are those of the volume, as it was opened and as it was closed
  pub copies_begin : (label : List ℕ) → v.tells → (s.names a).copies label ≡ (v.names vol).copies label
  copies_begin label tells = ap (λ (n : List ℕ → Calls). n label) (o.copies tells)

  pub copies_end : {t : S} {w : V} → Closes s v t w → (label : List ℕ) → (v.names w).copies label ≡ (s.names t).copies label
  copies_end closed label = ap (λ (n : Named). n.copies label) closed.names

  -- no copy was begun
  pub copied_so : {t : S} {w : V} → Closes s v t w → s.names t ≡ s.names a → v.tells → (v.names w).copies ≡ (v.names vol).copies
  copied_so closed same tells = ap (λ (n : Named). n.copies) (closed.names ∙ same) ∙ o.copies tells

  -- recovery ended well, and the run went on over the space
  unfoldable pub files_run : {W : Type 0} (g : wire.Ghosts W) (st : Start) (reopens : Files → Contents → Type 0) {made : Files → Type 0} {end : End} {turns : ℕ} {at : At} {t : S} {w : V} {x y : W} → Closes s v t w → RunsOver s g st reopens made end turns at a t x y (Begins s opens a)
      → FilesRun st v.tells g opens reopens made end turns at (v.calls vol) (v.calls w) (v.names vol).copies (v.names w).copies x y
  files_run {W} g st reopens {made} {end} {turns} {at} {t} {w} closed run = record {
    entries = run.entries;
    told = run.told;
    opened = run.opened;
    events = run.events;
    broken = opened_whole o (v.calls w);
    ends = λ settled first h.
        let r = run.ends first (begins_so o opens first h) in
        let last = world_after run.entries (begun st [] first) in
        let stops : StopsAt (with_log st.is.logs reopens) (AtExit reopens end (world_after r.serves.last.earlier (begun st [] first)) last) (IsEarly end × (run.entries ≡ [])) last.marks (v.calls vol) (v.calls w) =
        stops_run (with_log st.is.logs reopens) _ _ _ (o.over h.0) closed settled (record { exit = r.exit; moments = r.moments }) in
        record {
          asked = r.asked;
          serves = r.serves;
          exit = stops.exit;
          moments = stops.moments;
          late = λ some ims are. r.late some (recovered ims) (exit_left closed ims are);
          copies = λ label.
              let M = StandsAt end (world_after r.serves.last.earlier (begun st [] first)) r.serves.last.last label in
              subst (λ (n : Calls). CopyRun reopens label M last.marks (copied_at label last.copies) n ((v.names w).copies label)) (copies_begin label h.0)
              (subst (λ (n : Calls). CopyRun reopens label M last.marks (copied_at label last.copies) ((s.names a).copies label) n) (sym (copies_end closed label)) (r.copies label (o.over h.0).tells));
          idle = λ some kept ims are. subst (λ (f : Files). IsStill made f (recovered ims)) (sym (same_files o h.1.files h.0 h.1.is)) (r.idle some kept (recovered ims) (exit_left closed ims are));
        };
    played = run.played;
    plays = λ first h. run.plays first (begins_so o opens first h);
    unasked = λ first h label none. copies_end closed label ∙ ((run.ends first (begins_so o opens first h)).copies label (o.over h.0).tells).unasked none ∙ copies_begin label h.0;
    unserved = λ tells none. ap (λ (n : Named). n.copies) (closed.names ∙ run.unserved none) ∙ o.copies tells;
  }

  pub full_so : {lacks : Type 0} (fills : Contents → Contents → Type 0) (p q : Told) → FullFiles s.tells (s.now a 0 ≡ []) lacks (FullPlain fills (Begins s opens a) p q)
      → FullFiles v.tells (MainIsBare (recovered (now (v.calls vol)))) lacks (FullPlain fills (BeginsAt v.tells opens (v.calls vol)) p q)
  full_so fills p q x = record { which = ⊎_elim (λ y. inl (bare_so o opens y)) (λ y. inr (full_opened fills fills (λ at size. ⊥) plain (BeginsAt v.tells opens (v.calls vol)) (Begins s opens a) [] p q (begins_so o opens) (λ m h d e full. full) y)) x.which }
