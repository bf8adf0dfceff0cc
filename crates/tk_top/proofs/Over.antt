-- A run over a space.
use Rattle.std.proofs.Common.{◌≡◌, ◌⊎◌, ◌≢◌, ◌≤◌, inl, inr, ⊎_elim, ℕ, true, List, [], ◌∷◌, ◌++◌, length, refl, sym, ap, subst, ◌∙◌, arith, length-append}
use Rattle.std.specs.Prelude.{Option, Some, None}
use Rattle.std.proofs.lemmas.List.{append-nil}
use Rattle.tc_base.specs.Files.{Files}
use Rattle.tc_io.specs.Told.{Adds}
use Rattle.tc_io.specs.Script.{Script, Plays}
use Rattle.tc_io.specs.declared.act.Act.{Act}
use Rattle.tc_io.specs.declared.sink.Sink as sink
use Rattle.tc_io.specs.declared.wire.Wire as wire
use Rattle.tc_io.specs.declared.wire.At.{At}
use Rattle.tc_io.specs.declared.wire.Entry.{Entry}
use Rattle.tc_io.specs.declared.wire.Entry.TheVariants.{Open, Event}
use Rattle.tc_space.specs.declared.space.Space as space
use Rattle.tc_model.specs.Contents.{Contents}
use Rattle.ty_ulog.specs.Log.{IsLog, records_in}
use Rattle.ty_world.specs.Clients.{Client}
use Rattle.ty_world.specs.Logs.{Settings}
use Rattle.ty_world.specs.World.{World, Mark, world_after, IsRested}
use Rattle.ty_world.specs.Answers.{AllFine, EachAnswered}
use Rattle.ty_world.specs.Playing.{unplayed_with}
use Rattle.ty_world.proofs.Feeds.{all_fed, all_was_fed}
use Rattle.ty_world.proofs.Linked.{all_played_by}
use Rattle.ty_world.proofs.Order.{all_in_order}
use Rattle.ty_world.proofs.Served.{EachDone, all_done, none_of}
use Rattle.ty_world.proofs.Spelled.{all_spelled}
use Rattle.ty_rounds.specs.Kept.{HoldsMark, LeavesMarks}
use Rattle.ty_rounds.specs.Turns.{Told, MarksMore}
use Rattle.ty_rounds.specs.declared.logging.Logged.{Logged}
use Rattle.ty_rounds.proofs.Telling.{Adds-then, Plays-then}
use Rattle.tk_top.specs.declared.ends.End.{End}
use Rattle.tk_top.specs.declared.ends.End.TheVariants.{Done, WireFault, TurnsSpent}
use Rattle.tk_top.specs.CopyRuns.{StandsAt}
use Rattle.tk_top.specs.Runs.{Ends, FullRun, RunEnds}
use Rattle.tk_top.specs.Serving.{ServesAt, PlaysAll, RunsOver}
use Rattle.tk_top.specs.Starts.{Start, StartsAs, begun, plainly, start_of, with_log}
use Rattle.tk_top.proofs.CopyLaws.{copies_none, copies_stay}
use Rattle.tk_top.proofs.Events.{had_none}
use Rattle.tk_top.proofs.Fresh.{Earlier, Fresh, still_left}
use Rattle.tk_top.proofs.Running.{still_stands}

-- ---- what was sent is all that is owed

even_told : (owed out rest : List ℕ) → owed ≡ out ++ rest → length owed ≤ length out → out ≡ owed
even_told owed out [] is even = sym (is ∙ append-nil out)
even_told owed out (x ∷ rest) is even = absurd (let a = ap length is in let b = length-append out (x ∷ rest) in omega (arith, a, b, even))

pub each_answered : (ks : List Client) → AllFine ks → EachDone ks → EachAnswered ks
each_answered [] fine done = tt
each_answered (k ∷ ks) fine done = (
  λ here client. let d = done.0 here client in record { none = none_of k client d.none; told = even_told k.owed k.out fine.0.0 fine.0.1 d.even },
  each_answered ks fine.1 done.1,
)

-- ---- nothing came of the wire but its opening

unfoldable pub unserved : (st : Start) (end : End) (turns : ℕ) (at : At) (opens : List At) (first : Mark) (es : List Entry) → begun st opens first ≡ world_after es (begun st [] first) → (opens ≡ at ∷ []) ⊎ (opens ≡ []) → end ≢ Done → end ≢ TurnsSpent → ServesAt st end turns at first es (begun st opens first)
unserved st end turns at opens first es is which other last = record {
  replies = (tt, tt);
  spelled = (tt, tt);
  ordered = record { ascend = tt; there = tt; past = tt };
  done = λ z. absurd (other z);
  rested = λ e. absurd (⊎_elim other last e);
  last = record {
    earlier = es;
    last = [];
    parts = sym (append-nil es);
    rested = subst IsRested is (refl, refl);
    calls = inl refl;
    marks = subst (λ (w : World). MarksMore w (begun st opens first)) is (record { more = inl (refl, refl) });
    within = inr (refl, subst (λ (w : World). w.events ≤ turns) is (omega arith));
  };
  fed = tt;
  was_fed = tt;
  grown = record { more = []; records_are = sym (append-nil (records_in first.log)) };
  logged = λ e. absurd (⊎_elim other last e);
  spent = λ e. absurd (last e);
  opens = ⊎_elim (λ e. inl e) (λ e. inr (e, other, last)) which;
}

pub not_played : (is : Settings) (turns : ℕ) (now : Option Script) (end : End) (acts : List Act) (given : ℕ) (v : World) → end ≢ Done → end ≢ TurnsSpent → PlaysAll is turns now end acts given v
not_played is turns now end acts given v other last = record { enough = λ le. last; out = λ z. absurd (other z); sent = λ z. absurd (other z) }

-- ---- turns behind the opening

-- what they leave of the world
pub serves_of : {S : Type 0} (s : space.Ghosts S) (st : Start) (reopens : Files → Contents → Type 0) (end : End) (turns : ℕ) (gaps : List (ℕ × ℕ)) (at : At) (old new : S) (first : Mark) (es : List Entry) {later : List ℕ} → RunEnds s st later reopens end turns gaps old new (at ∷ []) first es (world_after es (begun st (at ∷ []) first))
    → ServesAt st end turns at first (Open at ∷ es) (world_after es (begun st (at ∷ []) first))
serves_of s st reopens end turns gaps at old new first es e = record {
  replies = e.replies;
  spelled = all_spelled es st.is st.ticks (at ∷ []) first e.came;
  ordered = all_in_order es st.is st.ticks (at ∷ []) first e.came;
  done = λ i.
      let shut = e.done i in
      let d = all_done es st.is st.ticks (at ∷ []) first e.asked e.came shut in
      (shut, (each_answered _ e.replies.0 d.0, each_answered _ e.replies.1 d.1));
  rested = e.rested;
  last = record { earlier = Open at ∷ e.last.earlier; last = e.last.last; parts = ap (λ (l : List Entry). Open at ∷ l) e.last.parts; rested = e.last.rested; calls = e.last.calls; marks = e.last.marks; within = e.last.within };
  fed = all_fed es st.is st.ticks (at ∷ []) first;
  was_fed = all_was_fed es st.is st.ticks (at ∷ []) first;
  grown = record { more = e.grown.more; records_are = e.grown.records_are };
  logged = e.logged;
  spent = e.spent;
  opens = inl e.opens_are;
}

-- it began at more marks
unfoldable pub start_less : {S W : Type 0} (s : space.Ghosts S) (g : wire.Ghosts W) (st : Start) (reopens : Files → Contents → Type 0) (made : Files → Type 0) (end : End) (turns : ℕ) (at : At) (old new : S) (x y : W) (start less : Mark → Type 0) → ((m : Mark) → less m → start m) → RunsOver s g st reopens made end turns at old new x y start → RunsOver s g st reopens made end turns at old new x y less
start_less s g st reopens made end turns at old new x y start less wider r = record {
  entries = r.entries;
  told = r.told;
  opened = r.opened;
  events = r.events;
  ends = λ first h. r.ends first (wider first h);
  played = r.played;
  unserved = r.unserved;
  plays = λ first h. r.plays first (wider first h);
}

module _ {S B W : Type 0} (s : space.Ghosts S) (g : wire.Ghosts W) (holds : B → Files → Contents → Type 0) (reopens : Files → Contents → Type 0) where
  pub none_marks : (P : Files → Contents → Type 0) (a : S) (ms : List Mark) → LeavesMarks s P a a ms
  none_marks P a ms = record { leaves = record { later = omega arith; each = λ t o le l. inl l } }

  -- the wire wasn't opened
  unfoldable pub over_unopened : (st : Start) (start : Mark → Type 0) (b : B) (turns : ℕ) (at : At) (a : S) (x y : W) → Fresh s a → ((m : Mark) → start m → HoldsMark s holds reopens b a m) → ((m : Mark) → start m → st.is.logs ≡ true → IsLog m.log (records_in m.log)) → Adds (g.transcript x) (g.transcript y) [] ⊎ Adds (g.transcript x) (g.transcript y) (Open at ∷ [])
      → RunsOver s g st reopens (λ files. ⊥) WireFault turns at a a x y start
  unfolding unserved
  over_unopened st start b turns at a x y only holds_it logs (inl told) = record {
    entries = [];
    told = told;
    opened = inl refl;
    events = had_none WireFault turns (λ e. absurd cc) (λ e. absurd cc);
    ends = λ first h. record {
      asked = tt;
      serves = unserved st WireFault turns at [] first [] refl (inr refl) (λ e. absurd cc) (λ e. absurd cc);
      exit = λ o l. inl (record { reopen = still_stands s g holds reopens b a first only (holds_it first h) o l; log = logs first h });
      moments = none_marks (with_log st.is.logs reopens) a (first ∷ []);
      late = λ some. absurd cc;
      copies = λ label tells. copies_stay reopens label (StandsAt WireFault (begun st [] first) [] label) (begun st [] first) ((s.names a).copies label) ((s.names a).copies label) (copies_none reopens label (begun st [] first) ((s.names a).copies label) refl);
      idle = λ some. absurd (some refl);
    };
    played = λ e. absurd (⊎_elim (λ i. cc) (λ i. cc) e);
    unserved = λ none. refl;
    plays = λ first h acts dials given p. not_played st.is turns (g.plays y) WireFault acts given (begun st [] first) (λ e. absurd cc) (λ e. absurd cc);
  }
  over_unopened st start b turns at a x y only holds_it logs (inr told) = record {
    entries = Open at ∷ [];
    told = told;
    opened = inr ([], refl, tt);
    events = had_none WireFault turns (λ e. absurd cc) (λ e. absurd cc);
    ends = λ first h. record {
      asked = (tt, tt);
      serves = unserved st WireFault turns at (at ∷ []) first (Open at ∷ []) refl (inl refl) (λ e. absurd cc) (λ e. absurd cc);
      exit = λ o l. inl (record { reopen = still_stands s g holds reopens b a first only (holds_it first h) o l; log = logs first h });
      moments = none_marks (with_log st.is.logs reopens) a (first ∷ []);
      late = λ some. absurd cc;
      copies = λ label tells. copies_stay reopens label (StandsAt WireFault (begun st (at ∷ []) first) [] label) (begun st (at ∷ []) first) ((s.names a).copies label) ((s.names a).copies label) (copies_none reopens label (begun st (at ∷ []) first) ((s.names a).copies label) refl);
      idle = λ some kept o l. let x = only (holds_it first h).has.held.0 in record { which = inl (x.0 o l ∙ x.1) };
    };
    played = λ e. absurd (⊎_elim (λ i. cc) (λ i. cc) e);
    unserved = λ none. refl;
    plays = λ first h acts dials given p. not_played st.is turns (g.plays y) WireFault acts given (begun st (at ∷ []) first) (λ e. absurd cc) (λ e. absurd cc);
  }

  -- it was, and turns came behind it
  unfoldable pub over_served : {E : Type 0} (k : sink.Ghosts E) (l : Option Logged) (b : B) (end : End) (turns : ℕ) (at : At) (old new : S) (x y z : W) (c d : Option (List ℕ)) (p q : E) → Fresh s old → Earlier s new → Adds (g.transcript x) (g.transcript y) (Open at ∷ []) → Plays (g.plays x) (g.plays y) (Open at ∷ [])
      → (ends : Ends s g k holds reopens end turns l b old new y z c d p q) → (later : List ℕ) → RunsOver s g (start_of l ends.ticks later) reopens (λ files. ⊥) end turns at old new x z (λ m. HoldsMark s holds reopens b old m × StartsAs l m)
  unfolding serves_of
  over_served k l b end turns at old new x y z c d p q fresh earlier told opening ends later = record {
    entries = Open at ∷ ends.entries;
    told = Adds-then (g.transcript x) (g.transcript y) (g.transcript z) (Open at ∷ []) ends.entries told ends.told;
    opened = inr (ends.entries, refl, ends.served);
    events = ends.events;
    ends = λ first h. let e = ends.ends first h.0 h.1 later (at ∷ []) in record {
      asked = (tt, e.asked);
      serves = serves_of s (start_of l ends.ticks later) reopens end turns ends.gaps at old new first ends.entries e;
      exit = e.exit;
      moments = e.moments;
      late = e.late;
      copies = e.copies;
      idle = λ some kept o left. record { which = inl (still_left s old new o fresh earlier h.0.has.held.0 (e.steady kept.1 h.0.has.held.0) left) };
    };
    played = λ e. Plays-then (g.plays x) (g.plays y) (g.plays z) (Open at ∷ []) ends.entries opening (ends.plays e);
    unserved = λ none. absurd cc;
    plays = λ first h acts dials given is.
        let there : g.plays y ≡ Some (unplayed_with acts dials given) = (subst (λ (r : Option Script). Plays r (g.plays y) (Open at ∷ [])) is opening).0 in
        record {
          enough = ends.enough first h.0 h.1 later (at ∷ []) acts dials given there;
          out = λ i.
              let pl : Plays (Some (unplayed_with acts dials given)) (g.plays z) ends.entries = subst (λ (r : Option Script). Plays r (g.plays z) ends.entries) there (ends.plays (inl i)) in
              let e = ends.ends first h.0 h.1 later (at ∷ []) in
              let st = start_of l ends.ticks later in
              (_, pl.0, all_played_by ends.entries st.is st.ticks (at ∷ []) first acts dials given e.asked pl.1 (e.done i));
          sent = ends.sent first h.0 h.1 later (at ∷ []) acts dials given there;
        };
  }

  -- with no update log
  pub over_plain : {E : Type 0} (k : sink.Ghosts E) (l : Option Logged) (b : B) (end : End) (turns : ℕ) (at : At) (old new : S) (x y z : W) (c d : Option (List ℕ)) (p q : E) → l ≡ None → Fresh s old → Earlier s new → Adds (g.transcript x) (g.transcript y) (Open at ∷ []) → Plays (g.plays x) (g.plays y) (Open at ∷ [])
      → Ends s g k holds reopens end turns l b old new y z c d p q → RunsOver s g plainly reopens (λ files. ⊥) end turns at old new x z (HoldsMark s holds reopens b old)
  over_plain k (Some x') b end turns at old new x y z c d p q none fresh earlier told opening ends = absurd cc
  over_plain k None b end turns at old new x y z c d p q none fresh earlier told opening ends =
      let run = over_served k None b end turns at old new x y z c d p q fresh earlier told opening ends [] in
      let same : start_of None ends.ticks [] ≡ plainly = (let t = ends.unticked refl in (λ i. record { is = plainly.is; ticks = t i ++ [] })) in
      start_less s g plainly reopens (λ files. ⊥) end turns at old new x z (λ m. HoldsMark s holds reopens b old m × StartsAs None m) (HoldsMark s holds reopens b old) (λ m h. (h, record { is_same = refl; holds = tt }))
      (subst (λ (st : Start). RunsOver s g st reopens (λ files. ⊥) end turns at old new x z (λ m. HoldsMark s holds reopens b old m × StartsAs None m)) same run)

-- a limit was reached, with the opening of the wire in front
pub full_open : (fills : Contents → Contents → Type 0) (lacks : ℕ → ℕ → Type 0) (is : Settings) (start : Mark → Type 0) (at : At) (ticks : List ℕ) (a b d : Told) → Adds a b (Open at ∷ []) → FullRun fills lacks is start (at ∷ []) ticks b d → FullRun fills lacks is start [] ticks a d
full_open fills lacks is start at ticks a b d told x = record {
  earlier = Open at ∷ x.earlier;
  paused = x.paused;
  busy = x.busy;
  ev = x.ev;
  bytes = x.bytes;
  told = Adds-then a b d (Open at ∷ []) (x.earlier ++ Event x.paused x.busy x.ev x.bytes ∷ []) told x.told;
  some = x.some;
}
