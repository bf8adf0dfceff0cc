-- Settling, writing the records of a round, and committing.
use Rattle.std.proofs.Common.{◌≡◌, ◌⊎◌, inl, inr, ⊎_elim, ℕ, ◌≤◌, ◌<◌, ◌^◌, Bool, true, false, List, [], ◌∷◌, ◌++◌, length, ◌∙◌, refl, sym, ap, subst, arith, max, suc}
use Rattle.std.proofs.lemmas.List.{append-nil}
use Rattle.std.specs.Prelude.{Option, Some, None, Result, Ok, Err, All, OnOk, option_map, if◌then◌else◌}
use Rattle.tc_base.specs.Files.{Files}
use Rattle.tc_base.specs.declared.kind.Form.{Form}
use Rattle.tc_io.specs.Told.{Adds}
use Rattle.tc_space.specs.Frames.{Keeps}
use Rattle.tc_space.specs.Moments.{LeavesOnly}
use Rattle.tc_space.specs.declared.errors.RecErr.{RecErr}
use Rattle.tc_space.specs.declared.space.Space.{Ghosts}
use Rattle.tc_model.specs.Contents.{Contents}
use Rattle.ty_ulog.specs.declared.record.Record.{Record}
use Rattle.ty_ulog.proofs.Asking.{none_small}
use Rattle.ty_ulog.specs.Holding.{Holds}
use Rattle.ty_ulog.specs.Log.{log_bytes, last_of}
use Rattle.ty_ulog.specs.Noting.{Lacks, record_for, records_of}
use Rattle.ty_world.specs.Logs.{Settings, news, records_after, file_after}
use Rattle.ty_world.specs.World.{Mark}
use Rattle.ty_base.specs.Holding.{AreApart, Frame, IsReady, KeepsLayout, Laid, Layout, NoLogs, SaysAlike, Stays}
use Rattle.ty_rounds.specs.Books.{Book, IsBook, address, settings_of}
use Rattle.ty_rounds.specs.Kept.{HasMark}
use Rattle.ty_rounds.specs.Keeping.{LogLacks, added_to, book_after, mark_after, asks_of, StandsKept, KeepsRound, MovesLog}
use Rattle.ty_rounds.specs.Logging.{LacksRoom}
use Rattle.ty_rounds.specs.Works.{Work, IsFit}
use Rattle.ty_rounds.specs.Writing.{AreWritten, LacksAll, Writes, WritesAll, WroteSo, written}
use Rattle.ty_rounds.specs.declared.logging.Logged.{Logged}
use Rattle.ty_rounds.specs.declared.outcome.TurnErr.{TurnErr}
use Rattle.ty_rounds.specs.declared.outcome.TurnErr.TheVariants.{Full}
use Rattle.ty_rounds.proofs.Keeping.{Settles}
use Rattle.ty_rounds.proofs.Leaving.{book_log}

-- ---- what is added is what is written

-- the clock's later answers don't matter
pub records_front : (own h : ℕ) (ticks later : List ℕ) (asked : List (List ℕ)) → length ticks ≡ length asked → records_of own h (ticks ++ later) asked ≡ records_of own h ticks asked
records_front own h [] later [] e = refl
records_front own h (t ∷ ticks) later [] e = absurd (omega (arith, e))
records_front own h [] later (bytes ∷ asked) e = absurd (omega (arith, e))
records_front own h (t ∷ ticks) later (bytes ∷ asked) e = ap (λ (l : List Record). record_for own h t bytes ∷ l) (records_front own (max (suc h) t) ticks later asked (omega (arith, e)))

-- whatever the clock answers
pub added_written : (x : Logged) (b : Book) (ticks : List ℕ) (o : Work) → b.is ≡ settings_of (Some x) → x.ulog.last ≡ last_of 0 b.records → added_to b ticks o ≡ written x ticks o
added_written x b ticks o is last =
    ap (λ (s : Settings). news s b.records ticks o.updates o.taken) is
    ∙ ap (λ (n : ℕ). records_of x.own n ticks o.updates ++ o.taken) (sym last)

added_logged : (x : Logged) (b : Book) (ticks later : List ℕ) (o : Work) → b.is ≡ settings_of (Some x) → x.ulog.last ≡ last_of 0 b.records → length ticks ≡ length o.updates → added_to b (ticks ++ later) o ≡ written x ticks o
added_logged x b ticks later o is last each = added_written x b (ticks ++ later) o is last ∙ ap (λ (l : List Record). l ++ o.taken) (records_front x.own x.ulog.last ticks later o.updates each)

-- where nothing is to be kept nothing is added
added_none : (b : Book) (ticks : List ℕ) (o : Work) → o.updates ≡ [] → o.taken ≡ [] → added_to b ticks o ≡ []
added_none b ticks o none untaken = ap (λ (u : List (List ℕ)). news b.is b.records ticks u o.taken) none ∙ (ap (λ (t : List Record). news b.is b.records ticks [] t) untaken ∙ go b.is.logs)
  where
    go : (c : Bool) → (if c then records_of b.is.own (last_of 0 b.records) ticks [] ++ [] else []) ≡ []
    go true = refl
    go false = refl

file_same : (is : Settings) (file : List ℕ) → file_after is file [] ≡ file
file_same is file = go is.logs
  where
    go : (c : Bool) → (if c then file ++ [] else file) ≡ file
    go true = append-nil file
    go false = refl

records_same : (is : Settings) (rs : List Record) → records_after is rs [] ≡ rs
records_same is rs = go is.logs
  where
    go : (c : Bool) → (if c then rs ++ [] else rs) ≡ rs
    go true = append-nil rs
    go false = refl

pub same_words : (x y : Logged) → y.own ≡ x.own → y.master ≡ x.master → settings_of (Some x) ≡ settings_of (Some y)
same_words x y own master = λ i. record { logs = true; own = (sym own) i; master = option_map address ((sym master) i) }

-- ---- what has nothing to do with the update log

-- files that differ in the update log alone
abbrev pub AreAlike : Files → Files → Type 0
AreAlike f g = (n : ℕ) → (n ≡ 2 → ⊥) → g n ≡ f n

-- it has nothing to do with what is held, or with how files reopen
abbrev pub Apart : {B : Type 0} → (B → Files → Contents → Type 0) → (Files → Contents → Type 0) → Type 0
Apart {B} holds reopens = (b : B) (f g : Files) (c : Contents) → AreAlike f g → (holds b f c → holds b g c) × (reopens f c → reopens g c)

module _ {S B : Type 0} (s : Ghosts S) (holds : B → Files → Contents → Type 0) (reopens : Files → Contents → Type 0) where
  wrote_each : (o : Work) (ticks : List ℕ) (l l1 : Option Logged) (b d : S) → WroteSo s o ticks l l1 b d → length ticks ≡ asks_of l o
  wrote_each o ticks None None b d w = ap length w.1
  wrote_each o ticks (Some x) (Some y) b d w = w.0.each
  wrote_each o ticks None (Some y) b d w = absurd w
  wrote_each o ticks (Some x) None b d w = absurd w

  wrote_alike : (o : Work) (ticks : List ℕ) (l l1 : Option Logged) (b d : S) → s.tells → WroteSo s o ticks l l1 b d → AreAlike (s.now b) (s.now d)
  wrote_alike o ticks None None b d t w = λ n other. ap (λ (a : S). s.now a n) w.0
  wrote_alike o ticks (Some x) (Some y) b d t w = λ n other. w.0.others.same t n other
  wrote_alike o ticks None (Some y) b d t w = absurd w
  wrote_alike o ticks (Some x) None b d t w = absurd w

  -- a base that was settled and whose records were written
  pub record IsReadyToKeep (o : Work) (ticks : List ℕ) (l l1 : Option Logged) (base base' : B) (a b d : S) : Type 0 where
    pub apart : Apart holds reopens
    pub settled : Settles s holds reopens base base' a b
    pub log : Stays s 2 a b
    pub wrote : WroteSo s o ticks l l1 b d

  -- the update log behind the round
  log_behind : (o : Work) (ticks later : List ℕ) (l l1 : Option Logged) (b d : S) → s.tells → WroteSo s o ticks l l1 b d → (m : Mark) (k : Book) → s.now b 2 ≡ m.log → IsBook l k m.log
      → (s.now d 2 ≡ (mark_after k (ticks ++ later) o m).log) × IsBook l1 (book_after k (ticks ++ later) o) (mark_after k (ticks ++ later) o m).log
  log_behind o ticks later None None b d t w m k was bk =
      let new : List Record = added_to k (ticks ++ later) o in
      let file : file_after k.is m.log new ≡ m.log = ap (λ (is : Settings). file_after is m.log new) bk.is_same in
      (ap (λ (a : S). s.now a 2) w.0 ∙ (was ∙ sym file), record { is_same = bk.is_same; holds = tt })
  log_behind o ticks later (Some x) (Some y) b d t w m k was bk =
      let new : List Record = added_to k (ticks ++ later) o in
      let e : new ≡ written x ticks o = added_logged x k ticks later o bk.is_same bk.holds.last_is w.0.each in
      let file : file_after k.is m.log new ≡ m.log ++ log_bytes new = ap (λ (is : Settings). file_after is m.log new) bk.is_same in
      let recs : records_after k.is k.records new ≡ k.records ++ new = ap (λ (is : Settings). records_after is k.records new) bk.is_same in
      let now2 : s.now d 2 ≡ file_after k.is m.log new = w.0.notes.bytes t ∙ (ap (λ (f : List ℕ). f ++ log_bytes (written x ticks o)) was ∙ (ap (λ (rs : List Record). m.log ++ log_bytes rs) (sym e) ∙ sym file)) in
      let all : k.records ++ written x ticks o ≡ records_after k.is k.records new = ap (λ (rs : List Record). k.records ++ rs) (sym e) ∙ sym recs in
      let held = w.0.notes.writes.means k.records (t, subst (λ (f : List ℕ). Holds x.ulog f k.records) (sym was) bk.holds) in (
        now2,
        record {
          is_same = bk.is_same ∙ same_words x y w.1 w.2;
          holds = subst (λ (f : List ℕ). Holds y.ulog f (records_after k.is k.records new)) now2 (subst (λ (rs : List Record). Holds y.ulog (s.now d 2) rs) all held.1);
        },
      )
  log_behind o ticks later None (Some y) b d t w m k was bk = absurd w
  log_behind o ticks later (Some x) None b d t w m k was bk = absurd w

  -- the mark behind the round is held before it is committed, and its files stand for it
  pub written_stands : (o : Work) (ticks : List ℕ) (l l1 : Option Logged) (base base' : B) (a b d : S) → IsReadyToKeep o ticks l l1 base base' a b d → (m : Mark) (k : Book) (later : List ℕ) → HasMark s holds base a m → IsBook l k m.log
      → StandsKept s holds reopens l1 (book_after k (ticks ++ later) o) base' d (mark_after k (ticks ++ later) o m)
  written_stands o ticks l l1 base base' a b d r m k later h bk =
      let t = h.held.0 in
      let x = r.settled m.contents h.held in
      let same = r.apart base' (s.now b) (s.now d) m.contents (wrote_alike o ticks l l1 b d t r.wrote) in
      let n = log_behind o ticks later l l1 b d t r.wrote m k (r.log.same t ∙ h.log) bk in
      record {
        holds_it = record { has = record { held = (t, same.0 x.0.1); log = n.0 }; stand = same.1 x.1 };
        book = n.1;
      }

  -- a stop in the commit leaves what was kept or what stands for the mark behind the round
  pub commit_moves : (o : Work) (ticks : List ℕ) (l l1 : Option Logged) (base base' : B) (a b d e : S) → IsReadyToKeep o ticks l l1 base base' a b d → Keeps s a d → (s.tells → LeavesOnly s.moment s.left d e (λ p. (p ≡ s.kept d) ⊎ (p ≡ Some (s.now d)))) → (m : Mark) (k : Book) (later : List ℕ)
      → HasMark s holds base a m → IsBook l k m.log → MovesLog s reopens a e (book_after k (ticks ++ later) o) (mark_after k (ticks ++ later) o m)
  commit_moves o ticks l l1 base base' a b d e r keeps commits m k later h bk =
      let t = h.held.0 in
      let st = keeps.steady t in
      let cm = commits t in
      let w = written_stands o ticks l l1 base base' a b d r m k later h bk in
      record {
        leaves = record {
          later = omega (arith, st.leaves.later, cm.later);
          each = λ u p le left. ⊎_elim
              (λ mid. ⊎_elim (λ was. inl was) (λ is. inr (inl is)) (st.leaves.each u p le mid))
              (λ q. inr (⊎_elim (λ is. inl (is ∙ st.same)) (λ is. inr (record {
                reopen = record { files = s.now d; is = is; stand = record { contents = w.holds_it.stand; log = w.holds_it.has.log } };
                log = book_log l1 (book_after k (ticks ++ later) o) (mark_after k (ticks ++ later) o m).log w.book;
              })) q))
              (cm.each u p (omega (arith, le, st.leaves.later)) left);
        };
      }

  known_on : (l : Option Logged) (k : Book) (base : B) (d e : S) (m : Mark) → (s.tells → (g : ℕ) → s.now e g ≡ s.now d g) → StandsKept s holds reopens l k base d m → StandsKept s holds reopens l k base e m
  known_on l k base d e m now w =
      let t = w.holds_it.has.held.0 in
      let same : s.now d ≡ s.now e = λ i f. sym (now t f) i in
      record {
        holds_it = record {
          has = record { held = (t, subst (λ (files : Files). holds base files m.contents) same w.holds_it.has.held.1); log = now t 2 ∙ w.holds_it.has.log };
          stand = subst (λ (files : Files). reopens files m.contents) same w.holds_it.stand;
        };
        book = w.book;
      }

  -- ---- how a keeping ends

  -- nothing is to be kept
  pub nothing_kept_of : (o : Work) (x : Option (List ℕ)) (l : Option Logged) (base : B) (a : S) → Adds x x [] → IsReady s holds base a → s.touched a ≡ false → o.commits ≡ false → IsFit l o → KeepsRound s holds reopens o x x l l base base a a (Ok tt)
  nothing_kept_of o x l base a told ready untouched none fit = record {
    ticks = [];
    told = told;
    small = none_small;
    few = omega arith;
    moments = λ m k later h bk. record { leaves = record { later = omega arith; each = λ u p le left. inl left } };
    kept = record {
      ready = ready;
      untouched = untouched;
      each = sym (asked_none l);
      marks = λ m k later h bk stood. stays m k later h bk (stood none);
    };
    full = λ is. absurd cc;
  }
    where
      asked_none : (l : Option Logged) → asks_of l o ≡ 0
      asked_none None = refl
      asked_none (Some y) = ap length (fit.idle none).0

      stays : (m : Mark) (k : Book) (later : List ℕ) → HasMark s holds base a m → IsBook l k m.log → reopens (s.now a) m.contents → StandsKept s holds reopens l (book_after k later o) base a (mark_after k later o m)
      stays m k later h bk stood =
          let new : added_to k later o ≡ [] = added_none k later o (fit.idle none).0 (fit.idle none).1 in
          let mk : m ≡ mark_after k later o m = λ i. record { contents = m.contents; log = (sym (ap (file_after k.is m.log) new ∙ file_same k.is m.log)) i } in
          let bk1 : k ≡ book_after k later o = λ i. record { is = k.is; records = (sym (ap (records_after k.is k.records) new ∙ records_same k.is k.records)) i } in
          subst (λ (c : Book). StandsKept s holds reopens l c base a (mark_after k later o m)) bk1
          (subst (λ (n : Mark). StandsKept s holds reopens l k base a n) mk (record { holds_it = record { has = h; stand = stood }; book = bk }))

  -- all was done
  pub all_kept : (o : Work) (x y : Option (List ℕ)) (ticks : List ℕ) (l l1 : Option Logged) (base base' : B) (a b d e : S) → Adds x y ticks → All (λ (t : ℕ). t < 2 ^ 64) ticks → IsReadyToKeep o ticks l l1 base base' a b d → Keeps s a d → IsReady s holds base a → s.sound e → s.touched e ≡ false
      → (s.tells → (g : ℕ) → s.now e g ≡ s.now d g) → (s.tells → LeavesOnly s.moment s.left d e (λ p. (p ≡ s.kept d) ⊎ (p ≡ Some (s.now d)))) → KeepsRound s holds reopens o x y l l1 base base' a e (Ok tt)
  all_kept o x y ticks l l1 base base' a b d e told small r keeps ready sound clean now commits = record {
    ticks = ticks;
    told = told;
    small = small;
    few = omega (arith, wrote_each o ticks l l1 b d r.wrote);
    moments = λ m k later h bk. commit_moves o ticks l l1 base base' a b d e r keeps commits m k later h bk;
    kept = record {
      ready = record {
        sound = sound;
        held = λ t.
            let c = ready.held t in
            let st = r.settled c.0 (t, c.1) in
            (c.0, subst (λ (files : Files). holds base' files c.0) (λ i f. sym (now t f) i) ((r.apart base' (s.now b) (s.now d) c.0 (wrote_alike o ticks l l1 b d t r.wrote)).0 st.0.1));
      };
      untouched = clean;
      each = wrote_each o ticks l l1 b d r.wrote;
      marks = λ m k later h bk stood. known_on l1 (book_after k (ticks ++ later) o) base' d e (mark_after k (ticks ++ later) o m) now (written_stands o ticks l l1 base base' a b d r m k later h bk);
    };
    full = λ is. absurd cc;
  }

  -- the commit failed
  pub commit_failed : (o : Work) (x y : Option (List ℕ)) (ticks : List ℕ) (l l1 : Option Logged) (base base' : B) (a b d e : S) (why : TurnErr) → (why ≡ Full → ⊥) → Adds x y ticks → All (λ (t : ℕ). t < 2 ^ 64) ticks → IsReadyToKeep o ticks l l1 base base' a b d → Keeps s a d
      → (s.tells → LeavesOnly s.moment s.left d e (λ p. (p ≡ s.kept d) ⊎ (p ≡ Some (s.now d)))) → KeepsRound s holds reopens o x y l l1 base base' a e (Err why)
  commit_failed o x y ticks l l1 base base' a b d e why other told small r keeps commits = record {
    ticks = ticks;
    told = told;
    small = small;
    few = omega (arith, wrote_each o ticks l l1 b d r.wrote);
    moments = λ m k later h bk. commit_moves o ticks l l1 base base' a b d e r keeps commits m k later h bk;
    kept = tt;
    full = λ is. absurd (other (let e : why ≡ Full = cc in e));
  }

  -- it didn't come to the commit
  pub keep_failed : (o : Work) (x y : Option (List ℕ)) (ticks : List ℕ) (l l1 : Option Logged) (base base' : B) (a d : S) (why : TurnErr) → Adds x y ticks → All (λ (t : ℕ). t < 2 ^ 64) ticks → length ticks ≤ asks_of l o → Keeps s a d
      → (why ≡ Full → (o.commits ≡ true) × ((s.tells → s.log_full d) ⊎ ((m : Mark) (k : Book) (later : List ℕ) → HasMark s holds base a m → IsBook l k m.log → LogLacks s d k m.log (ticks ++ later) o))) → KeepsRound s holds reopens o x y l l1 base base' a d (Err why)
  keep_failed o x y ticks l l1 base base' a d why told small few keeps full = record {
    ticks = ticks;
    told = told;
    small = small;
    few = few;
    moments = λ m k later h bk. let st = keeps.steady h.held.0 in record { leaves = record { later = st.leaves.later; each = λ u p le left. ⊎_elim (λ was. inl was) (λ is. inr (inl is)) (st.leaves.each u p le left) } };
    kept = tt;
    full = λ is. full (let e : why ≡ Full = cc in e);
  }

  -- a record had no room, told by the file as it was before the round was settled
  pub write_lacks : (x : Logged) (o : Work) (ticks : List ℕ) (base : B) (a b d : S) → Stays s 2 a b → (s.tells → (later : List ℕ) → LacksRoom (Lacks s d) (length (s.now b 2)) (written x (ticks ++ later) o)) → (m : Mark) (k : Book) (later : List ℕ) → HasMark s holds base a m → IsBook (Some x) k m.log
      → LogLacks s d k m.log (ticks ++ later) o
  write_lacks x o ticks base a b d log lacks m k later h bk =
      let t = h.held.0 in
      let long : length (s.now b 2) ≡ length m.log = ap length (log.same t ∙ h.log) in
      subst (λ (n : ℕ). LacksRoom (Lacks s d) n (added_to k (ticks ++ later) o)) long
      (subst (λ (rs : List Record). LacksRoom (Lacks s d) (length (s.now b 2)) rs) (sym (added_written x k (ticks ++ later) o bk.is_same bk.holds.last_is)) (lacks t later))

  pub all_lack : (l : Option Logged) (o : Work) (ticks : List ℕ) (base : B) (a b d : S) → Stays s 2 a b → (s.tells → (later : List ℕ) → LacksAll s l d (length (s.now b 2)) (ticks ++ later) o) → (m : Mark) (k : Book) (later : List ℕ) → HasMark s holds base a m → IsBook l k m.log
      → LogLacks s d k m.log (ticks ++ later) o
  all_lack None o ticks base a b d log lacks m k later h bk = absurd (lacks h.held.0 later)
  all_lack (Some x) o ticks base a b d log lacks m k later h bk = write_lacks x o ticks base a b d log lacks m k later h bk

-- ---- where an update log is kept

-- its records were written
pub all_written : {S : Type 0} (s : Ghosts S) (o : Work) (x y : Option (List ℕ)) (l m : Option Logged) (a b : Logged) (old new : S) (result : Result (Unit {0}) RecErr) → l ≡ Some a → m ≡ Some b → Writes s o x y a b old new result → WritesAll s o x y l m old new result
all_written s o x y l m a b old new result e f w =
    subst (λ (k : Option Logged). WritesAll s o x y k m old new result) (sym e) (subst (λ (k : Option Logged). WritesAll s o x y (Some a) k old new result) (sym f) (record {
      ticks = w.ticks;
      told = w.told;
      small = w.small;
      few = w.few;
      same = sym (same_words a b w.own_is w.master_is);
      wrote = go result w.wrote;
      full = w.full;
    }))
  where
    go : (r : Result (Unit {0}) RecErr) → OnOk r (AreWritten s o w.ticks a b old new) → OnOk r (WroteSo s o w.ticks (Some a) (Some b) old new)
    go (Ok u) h = (h, w.own_is, w.master_is)
    go (Err z) h = tt

-- none is kept
pub none_written : {S : Type 0} (s : Ghosts S) (o : Work) (x : Option (List ℕ)) (l : Option Logged) (a : S) → l ≡ None → Adds x x [] → WritesAll s o x x l l a a (Ok tt)
none_written s o x l a e told = subst (λ (k : Option Logged). WritesAll s o x x k k a a (Ok tt)) (sym e) (record {
  ticks = [];
  told = told;
  small = none_small;
  few = omega arith;
  same = refl;
  wrote = (refl, refl);
  full = λ is. absurd cc;
})

-- ---- what is apart

pub storage_apart : {B : Type 0} (holds : B → Files → Contents → Type 0) (reopens : Files → Contents → Type 0) (own : ℕ → Type 0) (layout : Files → Layout) (packed : Files → Form → Files → Type 0) (lines : Files → List ℕ → Type 0) → NoLogs own
    → ((b : B) (f g : Files) → AreApart own f g → SaysAlike (holds b) reopens layout packed lines f g) → Apart holds reopens
storage_apart holds reopens own layout packed lines logs apart b f g c alike =
    let same = apart b f g (λ n owned. alike n (λ e. logs.1 (subst own e owned))) in
    (same.held c, same.stand c)

-- nor has it with how files are laid out
pub laid_apart : {B : Type 0} (holds : B → Files → Contents → Type 0) (reopens : Files → Contents → Type 0) (own : ℕ → Type 0) (layout : Files → Layout) (packed : Files → Form → Files → Type 0) (lines : Files → List ℕ → Type 0) (l : Frame) → NoLogs own
    → ((b : B) (f g : Files) → AreApart own f g → SaysAlike (holds b) reopens layout packed lines f g) → Apart holds (Laid own layout l reopens)
laid_apart holds reopens own layout packed lines l logs apart b f g c alike =
    let same = apart b f g (λ n owned. alike n (λ e. logs.1 (subst own e owned))) in (
      same.held c,
      λ laid. record {
        stand = same.stand c laid.stand;
        like = record {
          layout = subst (λ (k : Layout). KeepsLayout l.layout k) (sym same.laid) laid.like.layout;
          beside = λ n other log. alike n log ∙ laid.like.beside n other log;
        };
      },
    )
