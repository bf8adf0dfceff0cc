-- A turn keeps how files are laid out.
use Rattle.std.proofs.Common.{◌≡◌, ◌⊎◌, inl, inr, ⊎_elim, ℕ, Bool, true, false, List, ap, arith, refl}
use Rattle.std.specs.Prelude.{Option, Result, Ok, Err, OnOk}
use Rattle.tc_base.specs.Files.{Files}
use Rattle.tc_io.specs.declared.wire.Wire as wire
use Rattle.tc_io.specs.declared.wire.Entry.{Entry}
use Rattle.tc_space.specs.declared.space.Space as space
use Rattle.tc_model.specs.Contents.{Contents}
use Rattle.ty_base.specs.Holding.{Frame, KeepsFrame, Laid, Layout, Leaves, frame_of, frame_refl, frame_then, laid_then, others_beside}
use Rattle.ty_world.specs.World.{World, Mark, mark_of}
use Rattle.ty_rounds.specs.Holding.{Stands, State, book_of}
use Rattle.ty_rounds.specs.Keeping.{IsKept, IsKeptLaid, IsRoundKept, KeepsRound, KeepsLaid, MovesLaid, MovesLog, ReopensLog, kept_frame}
use Rattle.ty_rounds.specs.Kept.{HasMark, HoldsMark, MovesTo, Reopens}
use Rattle.ty_rounds.specs.Books.{Book}
use Rattle.ty_rounds.specs.Turns.{Idles, LeavesEither, OnlyCopied, ReopensEither, TurnEnds, Turned, Turns, TurnsFull}
use Rattle.ty_rounds.specs.Works.{Work}
use Rattle.ty_rounds.specs.declared.logging.Logged.{Logged}
use Rattle.ty_rounds.specs.declared.outcome.Outcome.{Outcome}
use Rattle.ty_rounds.specs.declared.outcome.Outcome.TheVariants.{Went, Gap, Shut}
use Rattle.ty_rounds.specs.declared.outcome.TurnErr.{TurnErr}
use Rattle.ty_rounds.specs.declared.outcome.TurnErr.TheVariants.{Volume, Full, Wire, Memory}
use Rattle.ty_rounds.proofs.Leaving.{left_wider}

-- files that stand in one sense stand in a wider one

module _ {S B : Type 0} (s : space.Ghosts S) (holds : B → Files → Contents → Type 0) (P Q : Files → Contents → Type 0) (wider : (files : Files) (c : Contents) → P files c → Q files c) where
  pub reopens_less : (o : Option Files) (m : Mark) → Reopens P o m → Reopens Q o m
  reopens_less o m r = record { files = r.files; is = r.is; stand = record { contents = wider r.files m.contents r.stand.contents; log = r.stand.log } }

  log_less : (bk : Book) (o : Option Files) (m : Mark) → ReopensLog P bk o m → ReopensLog Q bk o m
  log_less bk o m r = record { reopen = reopens_less o m r.reopen; log = r.log }

  logs_less : (w v : World) (o : Option Files) → ReopensEither P w v o → ReopensEither Q w v o
  logs_less w v o x = ⊎_elim (λ r. inl (log_less (book_of v) o (mark_of v) r)) (λ r. inr (log_less (book_of w) o (mark_of w) r)) x

  pub mark_less : (base : B) (a : S) (m : Mark) → HoldsMark s holds P base a m → HoldsMark s holds Q base a m
  mark_less base a m h = record { has = h.has; stand = wider (s.now a) m.contents h.stand }

  pub moves_less : (a b : S) (m : Mark) → MovesTo s P a b m → MovesTo s Q a b m
  moves_less a b m x = record { leaves = record { later = x.leaves.later; each = λ t o le l. ⊎_elim (λ was. inl was) (λ r. inr (⊎_elim (λ is. inl is) (λ q. inr (reopens_less o m q)) r)) (x.leaves.each t o le l) } }

  pub moves_log_less : (a b : S) (bk : Book) (m : Mark) → MovesLog s P a b bk m → MovesLog s Q a b bk m
  moves_log_less a b bk m x = record { leaves = record { later = x.leaves.later; each = λ t o le l. ⊎_elim (λ was. inl was) (λ r. inr (⊎_elim (λ is. inl is) (λ q. inr (log_less bk o m q)) r)) (x.leaves.each t o le l) } }

  two_less : (a b : S) (w v : World) → LeavesEither s P a b w v → LeavesEither s Q a b w v
  two_less a b w v x = record { leaves = left_wider s (ReopensEither P w v) (ReopensEither Q w v) a b (logs_less w v) x.leaves }

  stands_less : (base : B) (a : S) (given : ℕ) (v : State) (w : World) → Stands (HoldsMark s holds P base a) given v w → Stands (HoldsMark s holds Q base a) given v w
  stands_less base a given v w st = record {
    mark = mark_less base a (mark_of w) st.mark;
    book = st.book;
    due_is = st.due_is;
    walk_is = st.walk_is;
    each = st.each;
    past = st.past;
    rested = st.rested;
    introduced = st.introduced;
    older = st.older;
    marked = st.marked;
    above = st.above;
  }

  idles_less : (result : Result Outcome TurnErr) (a b : S) → Idles s P result a b → Idles s Q result a b
  idles_less (Ok x) a b i = i
  idles_less (Err Wire) a b i = i
  idles_less (Err Memory) a b i = i
  idles_less (Err Volume) a b i = i
  idles_less (Err Full) a b i = i

  only_less : (result : Result Outcome TurnErr) (a b : S) → OnlyCopied s P result a b → OnlyCopied s Q result a b
  only_less (Ok x) a b i = i
  only_less (Err Wire) a b i = i
  only_less (Err Memory) a b i = i
  only_less (Err Volume) a b i = i
  only_less (Err Full) a b i = i

  ends_less : (result : Result Outcome TurnErr) (base : B) (a : S) (given : ℕ) (b : State) (w v : World) → TurnEnds s P result a (HoldsMark s holds P base a) given b w v → TurnEnds s Q result a (HoldsMark s holds Q base a) given b w v
  ends_less (Ok Went) base a given b w v e = (stands_less base a given b v e.0, e.1, e.2, e.3)
  ends_less (Ok (Gap h f)) base a given b w v e = (stands_less base a given b v e.0, e.1, e.2, e.3)
  ends_less (Ok Shut) base a given b w v e = (stands_less base a given b v e.0, e.1, e.2, e.3)
  ends_less (Err Wire) base a given b w v e = λ o l. log_less (book_of v) o (mark_of v) (e o l)
  ends_less (Err Memory) base a given b w v e = λ o l. logs_less w v o (e o l)
  ends_less (Err Volume) base a given b w v e = λ o l. logs_less w v o (e o l)
  ends_less (Err Full) base a given b w v e = λ o l. logs_less w v o (e o l)

  pub turned_less : (result : Result Outcome TurnErr) (later : List ℕ) (base : B) (old new : S) (given : ℕ) (b : State) (w v : World) (es : List Entry) → Turned s P result later old new (HoldsMark s holds P base new) given b w v es → Turned s Q result later old new (HoldsMark s holds Q base new) given b w v es
  turned_less result later base old new given b w v es t = record {
    asked = t.asked;
    came = t.came;
    fine = t.fine;
    marks = t.marks;
    opens = t.opens;
    ticks = t.ticks;
    moments = two_less old new w v t.moments;
    idle = λ none unlabelled. idles_less result old new (t.idle none unlabelled);
    only = λ none. only_less result old new (t.only none);
    copies = t.copies;
    copied = λ tells. ⊎_elim (λ same. inl same) (λ st. inr (record { contents = wider (s.now new) (mark_of v).contents st.contents; log = st.log })) (t.copied tells);
    late = λ some o l. reopens_less o (mark_of v) (t.late some o l);
    ends = ends_less result base new given b w v t.ends;
  }

module _ {S B : Type 0} (s : space.Ghosts S) (own : ℕ → Type 0) (layout : Files → Layout) (holds : B → Files → Contents → Type 0) (reopens : Files → Contents → Type 0) where
  own_fits : (u : Bool) (l : Frame) → u ≡ false → KeepsFrame own (kept_frame u l) l
  own_fits true l is = absurd cc
  own_fits false l is = frame_refl own l

  round_fits : (u : Bool) (a b : S) → s.tells → Leaves s own layout (u ≡ false) a b → KeepsFrame own (frame_of layout (s.now a)) (kept_frame u (frame_of layout (s.now b)))
  round_fits true a b t l = let n = l.numbered t in record { layout = record { numbers = record { same = n.same; lead = n.lead }; slack = omega arith }; beside = others_beside s own a b t l.others }
  round_fits false a b t l =
      let same = ap (λ (f : Files). (layout f).slack) (λ i g. (l.reads refl).files t g i) in
      record { layout = record { numbers = l.numbered t; slack = omega (arith, same) }; beside = others_beside s own a b t l.others }

  -- what is laid out like what is kept behind a round is laid out like what was before it
  kept_wider : (l : Frame) (u : Bool) (a a1 : S) → s.tells → KeepsFrame own l (frame_of layout (s.now a)) → Leaves s own layout (u ≡ false) a a1 → (files : Files) (c : Contents) → Laid own layout (kept_frame u (frame_of layout (s.now a1))) reopens files c → Laid own layout l reopens files c
  kept_wider l u a a1 t was leaves files c laid =
      let now = kept_frame u (frame_of layout (s.now a1)) in
      laid_then own layout reopens l now files c (frame_then own l (frame_of layout (s.now a)) now was (round_fits u a a1 t leaves)) laid

  -- so it is of what is kept with no update log
  pub kept_like : (l : Frame) (u : Bool) (b1 b2 : B) (a a1 a2 : S) → KeepsFrame own l (frame_of layout (s.now a)) → Leaves s own layout (u ≡ false) a a1 → IsKeptLaid s holds reopens own layout u b1 b2 a1 a2 → IsKept s holds (Laid own layout l reopens) u b1 b2 a1 a2
  kept_like l u b1 b2 a a1 a2 was leaves k = record {
    ready = k.ready;
    untouched = k.untouched;
    marks = λ m h stood.
        let now = kept_frame u (frame_of layout (s.now a1)) in
        mark_less s holds (Laid own layout now reopens) (Laid own layout l reopens) (kept_wider l u a a1 h.held.0 was leaves) b2 a2 m (k.marks m h (λ e. record { stand = (stood e).stand; like = own_fits u (frame_of layout (s.now a1)) e }));
  }

  pub moves_like : (l : Frame) (u : Bool) (b1 : B) (a a1 a2 : S) → KeepsFrame own l (frame_of layout (s.now a)) → Leaves s own layout (u ≡ false) a a1 → MovesLaid s holds reopens own layout u b1 a1 a2 → (m : Mark) → HasMark s holds b1 a1 m → MovesTo s (Laid own layout l reopens) a1 a2 m
  moves_like l u b1 a a1 a2 was leaves moves m h = moves_less s holds (Laid own layout (kept_frame u (frame_of layout (s.now a1))) reopens) (Laid own layout l reopens) (kept_wider l u a a1 h.held.0 was leaves) a1 a2 m (moves m h)

  -- and of what is kept of a round
  pub round_laid : (o : Work) (x y : Option (List ℕ)) (l l1 : Option Logged) (b1 b2 : B) (a a1 a2 : S) (result : Result (Unit {0}) TurnErr) → Leaves s own layout (o.commits ≡ false) a a1 → KeepsLaid s holds reopens own layout o x y l l1 b1 b2 a1 a2 result
      → KeepsRound s holds (Laid own layout (frame_of layout (s.now a)) reopens) o x y l l1 b1 b2 a1 a2 result
  round_laid o x y l l1 b1 b2 a a1 a2 result leaves k = record {
    ticks = k.ticks;
    told = k.told;
    small = k.small;
    few = k.few;
    moments = λ m b later h bk. moves_log_less s holds Kept Was (kept_wider (frame_of layout (s.now a)) o.commits a a1 h.held.0 (frame_refl own (frame_of layout (s.now a))) leaves) a1 a2 _ _ (k.moments m b later h bk);
    kept = kept result k.kept;
    full = k.full;
  }
    where
      Kept : Files → Contents → Type 0
      Kept = Laid own layout (kept_frame o.commits (frame_of layout (s.now a1))) reopens

      Was : Files → Contents → Type 0
      Was = Laid own layout (frame_of layout (s.now a)) reopens

      kept : (r : Result (Unit {0}) TurnErr) → OnOk r (IsRoundKept s holds Kept o k.ticks l l1 b1 b2 a1 a2) → OnOk r (IsRoundKept s holds Was o k.ticks l l1 b1 b2 a1 a2)
      kept (Err e) h = tt
      kept (Ok z) h = record {
        ready = h.ready;
        untouched = h.untouched;
        each = h.each;
        marks = λ m b later has bk stood.
            let n = h.marks m b later has bk (λ e. record { stand = (stood e).stand; like = own_fits o.commits (frame_of layout (s.now a1)) e }) in
            record { holds_it = mark_less s holds Kept Was (kept_wider (frame_of layout (s.now a)) o.commits a a1 has.held.0 (frame_refl own (frame_of layout (s.now a))) leaves) b2 a2 _ n.holds_it; book = n.book };
      }

-- what is laid out like the files before the turn is laid out like whatever they are
module _ {S B W : Type 0} (s : space.Ghosts S) (g : wire.Ghosts W) (holds : B → Files → Contents → Type 0) (reopens : Files → Contents → Type 0) (own : ℕ → Type 0) (layout : Files → Layout) where
  abbrev LaidOn : Frame → Files → Contents → Type 0
  LaidOn l = Laid own layout l reopens

  stands_laid : (b : B) (a : S) (given : ℕ) (v : State) (l : Frame) (w : World) → Stands (HoldsMark s holds (LaidOn l) b a) given v w → Stands (HoldsMark s holds (LaidOn (frame_of layout (s.now a))) b a) given v w
  stands_laid b a given v l w st = record {
    mark = record { has = st.mark.has; stand = record { stand = st.mark.stand.stand; like = frame_refl own (frame_of layout (s.now a)) } };
    book = st.book;
    due_is = st.due_is;
    walk_is = st.walk_is;
    each = st.each;
    past = st.past;
    rested = st.rested;
    introduced = st.introduced;
    older = st.older;
    marked = st.marked;
    above = st.above;
  }

  pub laid_turns : (fills : S → S → Contents → Contents → Type 0) (result : Result Outcome TurnErr) (b b' : B) (a a' : S) (x y : W) (p q : Option (List ℕ)) (v v' : State)
      → TurnsFull s g holds (LaidOn (frame_of layout (s.now a))) fills result b b' a a' x y p q v v' → (l : Frame) → TurnsFull s g holds (LaidOn l) fills result b b' a a' x y p q v v'
  laid_turns fills result b b' a a' x y p q v v' f l =
      let now = frame_of layout (s.now a) in
      let t = f.turns in
      record {
        turns = record {
          entries = t.entries;
          told = t.told;
          plays = t.plays;
          calls = t.calls;
          ticks = t.ticks;
          clocked = t.clocked;
          small = t.small;
          unticked = t.unticked;
          ends = λ w later st on ticks.
              turned_less s holds (LaidOn now) (LaidOn l) (λ files c laid. laid_then own layout reopens l now files c st.mark.stand.like laid) result later b' a a' (g.given y) v' w _ t.entries
              (t.ends w later (stands_laid b a (g.given x) v l w st) on ticks);
        };
        full = λ is. let n = f.full is in record {
          calls = n.calls;
          paused = n.paused;
          busy = n.busy;
          ev = n.ev;
          bytes = n.bytes;
          is = n.is;
          some = λ w later st on ticks. n.some w later (stands_laid b a (g.given x) v l w st) on ticks;
        };
      }
