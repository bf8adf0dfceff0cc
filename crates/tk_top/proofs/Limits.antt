-- A limit that was reached, by the kind of the files.
use Rattle.std.proofs.Common.{◌≡◌, ◌^◌, ◌⊎◌, inl, inr, ⊎_elim, ℕ, List, [], length, refl, ap, subst}
use Rattle.tc_base.specs.Files.{Files}
use Rattle.tc_base.specs.Maps.{Map}
use Rattle.tc_io.specs.Images.{now}
use Rattle.tc_io.specs.declared.volume.Volume as volume
use Rattle.tc_space.specs.declared.space.Space as space
use Rattle.ud_log.specs.Undo.{recovered}
use Rattle.tc_model.specs.Contents.{Contents, fixed, hash, table, tree}
use Rattle.tc_hash.specs.Creating.{HasNoRoom}
use Rattle.tc_hashdb.specs.Filling.{LacksLargeAt as LacksAt, LacksOne, WantsAny}
use Rattle.tc_tabledb.specs.Filling.{LacksIndex, LacksRow}
use Rattle.tc_treedb.specs.Filling.{fills_moved}
use Rattle.tc_treedb.specs.Shapes.{new_moved}
use Rattle.ty_ulog.specs.Noting.{Lacks}
use Rattle.ty_world.specs.Logs.{Settings, plain}
use Rattle.ty_rounds.specs.Turns.{Told}
use Rattle.tk_mgr.specs.Managing.{FillsTask, task_less}
use Rattle.tk_mgr.specs.declared.task.Task.{Task}
use Rattle.tk_top.specs.Making.{FilesLack}
use Rattle.tk_top.specs.Logging.{opens_logged}
use Rattle.tk_top.specs.Over.{BeginsAt, CanStand, FilesFull, FullFiles, FullPlain, MainIsBare}
use Rattle.tk_top.specs.Runs.{FullRun}
use Rattle.tk_top.specs.Stored.{fills_of, lacks_large_of, lacks_of, usual_of}
use Rattle.tk_top.specs.Tasks.{FilesFullTask, FullTask}
use Rattle.tk_top.specs.Top.{FillsAt, FillsTaskAt, IsFull, IsFullTask, IsLacking, LacksLargeAt, LacksLog, LacksUsual, LogIsFull, Opens, files_in}
use Rattle.tk_top.specs.Volumes.{ShowsNow}
use Rattle.tk_top.specs.declared.words.Shape.{Shape}
use Rattle.tk_top.specs.declared.words.Shape.TheVariants as shapes
use Rattle.tk_top.specs.declared.words.Stored.{Stored}
use Rattle.tk_top.specs.declared.words.Stored.TheVariants.{Fixed, Hash, Table, Tree}
use Rattle.tk_top.proofs.Kept.{full_lacks, full_opened}

-- files that were brought to where they are kept are those there, and so it is of the undo log
fills_shown : (stored : Stored) (limits : ℕ → ℕ) (log full brought : Type 0) (files shown : Files) → (log → full) → (brought → files ≡ shown) → (c d : Contents) → fills_of stored limits log brought files c d → fills_of stored limits full (Unit {0}) shown c d
fills_shown Hash limits log full brought files shown wide same c d fills = ⊎_elim (λ l. inl (wide l)) (λ x. inr (tt, subst (λ (fs : Files). WantsAny (limits 0) (fs 0) c d) (same x.0) x.1)) fills
fills_shown Tree limits log full brought files shown wide same c d fills = ⊎_elim (λ l. inl (wide l)) (λ x. inr x) (fills_moved (limits 0) log brought (Unit {0}) (files 0) (shown 0) (λ all. tt) (λ all. ap (λ (fs : Files). fs 0) (same all)) c d fills)
fills_shown Fixed limits log full brought files shown wide same c d fills = ⊎_elim (λ passes. inl passes) (λ l. inr (wide l)) fills
fills_shown Table limits log full brought files shown wide same c d fills =
    ⊎_elim (λ l. inl (wide l)) (λ x. inr (⊎_elim (λ sections. inl sections) (λ y. inr (tt, subst (λ (fs : Files). LacksRow (limits 0) (fs 0) c d ⊎ LacksIndex limits fs c d) (same y.0) y.1)) x)) fills

large_at : (limit : ℕ) (brought : Type 0) (bytes shown first : List ℕ) (held : Map) → (brought → bytes ≡ shown) → LacksAt limit (length bytes) brought first held → LacksAt limit (length shown) (Unit {0}) first held
large_at limit brought bytes shown first held same x = record {
  own = x.own;
  numbers = x.numbers;
  small = x.small;
  pool = x.pool;
  has = x.has;
  head = x.head;
  is_new = x.is_new;
  lacks = ⊎_elim (λ less. inl less) (λ y. inr (⊎_elim (λ wide. inl wide) (λ z. inr (tt, subst (λ (bytes : List ℕ). LacksOne limit (length bytes) x.head held) (same z.0) z.1)) y)) x.lacks;
}

large_shown : (stored : Stored) (limits : ℕ → ℕ) (brought : Type 0) (files shown first : Files) → (brought → files 0 ≡ shown 0) → (c : Contents) → lacks_large_of stored limits (λ f. length (files f)) brought first c → lacks_large_of stored limits (λ f. length (shown f)) (Unit {0}) first c
large_shown Fixed limits brought files shown first same c lacks = lacks
large_shown Hash limits brought files shown first same (hash a held) x = large_at (limits 0) brought (files 0) (shown 0) (first 0) held same x
large_shown Hash limits brought files shown first same (tree a decimal ps) x = absurd x
large_shown Hash limits brought files shown first same (fixed width most ids) x = absurd x
large_shown Hash limits brought files shown first same (table rows indexes) x = absurd x
large_shown Tree limits brought files shown first same (tree a decimal ps) x = record { held = x.held; pages = x.pages; lacks = large_at (limits 0) brought (files 0) (shown 0) (first 0) x.held same x.lacks }
large_shown Tree limits brought files shown first same (hash a held) x = absurd x
large_shown Tree limits brought files shown first same (fixed width most ids) x = absurd x
large_shown Tree limits brought files shown first same (table rows indexes) x = absurd x
large_shown Table limits brought files shown first same (table rows indexes) x = record { held = x.held; spelled = x.spelled; lacks = large_at (limits 0) brought (files 0) (shown 0) (first 0) x.held same x.lacks }
large_shown Table limits brought files shown first same (hash a held) x = absurd x
large_shown Table limits brought files shown first same (tree a decimal ps) x = absurd x
large_shown Table limits brought files shown first same (fixed width most ids) x = absurd x

-- so it is where there is no room for a file that is made
sections_wider : (limit long : ℕ) (log full : Type 0) → (log → full) → HasNoRoom limit log long → HasNoRoom limit full long
sections_wider limit long log full wide none = ⊎_elim (λ passes. inl passes) (λ y. inr (⊎_elim (λ far. inl far) (λ l. inr (wide l)) y)) none

lacks_shown : (shape : Shape) (limit : ℕ) (log full brought : Type 0) (bytes shown : List ℕ) → (log → full) → (brought → bytes ≡ shown) → lacks_of shape limit log brought bytes → lacks_of shape limit full (Unit {0}) shown
lacks_shown (shapes.Hash shape) limit log full brought bytes shown wide same lacks = record { head = lacks.head; new = lacks.new; passes = sections_wider limit lacks.head.first log full wide lacks.passes }
lacks_shown (shapes.Tree shape) limit log full brought bytes shown wide same lacks =
    let there = new_moved limit log brought (Unit {0}) bytes shown shape (λ all. tt) same lacks in
    record { head = there.head; new = there.new; passes = ⊎_elim (λ none. inl (sections_wider limit there.head.first log full wide none)) (λ lone. inr lone) there.passes }
lacks_shown (shapes.Fixed shape) limit log full brought bytes shown wide same lacks = ⊎_elim (λ passes. inl passes) (λ l. inr (wide l)) lacks
lacks_shown (shapes.Table shape) limit log full brought bytes shown wide same lacks = record { head = lacks.head; new = lacks.new; passes = sections_wider limit lacks.head.first log full wide lacks.passes }

-- and along a task
task_shown : (log full : Type 0) (fills : Contents → Contents → Type 0) (large : Contents → Type 0) (task : Task) (c : Contents) → (log → full) → FillsTask log fills large task c → FillsTask full fills large task c
task_shown log full fills large task c wide x = record { step = x.step; within = x.within; by = ⊎_elim (λ y. inl y) (λ y. inr (⊎_elim (λ l. inl (wide l)) (λ lacks. inr lacks) y)) x.by }

-- a limit that was reached over a space, in its own files
module _ {S : Type 0} (s : space.Ghosts S) where
  abbrev pub FillsTold : Stored → S → Contents → Contents → Type 0
  FillsTold stored x = fills_of stored (s.limit x) (s.log_full x) (s.brought x) (s.now x)

  abbrev pub LacksLargeTold : Stored → S → S → Contents → Type 0
  LacksLargeTold stored z x = lacks_large_of stored (s.limit x) (λ f. length (s.now x f)) (s.brought x) (s.now z)

  abbrev pub LacksTold : Shape → S → Type 0
  LacksTold shape x = lacks_of shape (s.limit x 0) (s.log_full x) (s.brought x) (s.now x 0)

module _ {S V : Type 0} (v : volume.Ghosts V) (s : space.Ghosts S) (under : S → V) (log_is : (x : S) → s.log_full x → LogIsFull v (under x)) where
  -- so it is in the volume under it
  lacks_under : (shape : Shape) (x : S) → (s.brought x → ShowsNow (v.calls (under x)) (s.now x)) → LacksTold s shape x → lacks_of shape (s.limit x 0) (LogIsFull v (under x)) (Unit {0}) (files_in v (under x) 0)
  lacks_under shape x shows lacks = lacks_shown shape (s.limit x 0) (s.log_full x) (LogIsFull v (under x)) (s.brought x) (s.now x 0) (files_in v (under x) 0) (log_is x) (λ all. (shows all).same 0) lacks

  fills_under : (stored : Stored) (x : S) → (s.brought x → ShowsNow (v.calls (under x)) (s.now x)) → (c d : Contents) → FillsTold s stored x c d → FillsAt v stored (s.limit x) (under x) c d
  fills_under stored x shows c d fills = fills_shown stored (s.limit x) (s.log_full x) (LogIsFull v (under x)) (s.brought x) (s.now x) (files_in v (under x)) (log_is x) (λ all i f. (shows all).same f i) c d fills

  module _ (stored : Stored) {vol w : V} where
    -- of what was full behind the opening: so it is of the volume
    is_full_as : (behind : S → S → Type 0) (told : (ℕ → ℕ) → V → Type 0) → ((z x : S) → (s.brought x → ShowsNow (v.calls (under x)) (s.now x)) → behind z x → told (s.limit x) (under x)) → {most : ℕ} → FilesFull s under v.calls v.tells (λ x. LacksTold s (usual_of stored) x) behind most (v.calls vol) w → IsFull v stored most vol w (λ limits. told limits w)
    is_full_as behind told shown x =
        let limits = s.limit x.space in
        record {
          limits = limits;
          limits_are = x.limits;
          full = subst (λ (z : V). FullFiles v.tells (MainIsBare (recovered (now (v.calls vol)))) (LacksUsual v stored limits z) (told limits z)) x.vol_is
              (record { which = ⊎_elim (λ y. inl (λ t. ((y t).0, lacks_under (usual_of stored) x.space x.shows (y t).1))) (λ y. inr (shown x.begin x.space x.shows y)) x.full.which });
        }

    pub is_full : (a b : Told) {most : ℕ} → FilesFull s under v.calls v.tells (λ x. LacksTold s (usual_of stored) x) (λ z x. FullPlain (FillsTold s stored x) (BeginsAt v.tells (Opens stored) (v.calls vol)) a b) most (v.calls vol) w → IsFull v stored most vol w (λ limits. FullPlain (FillsAt v stored limits w) (BeginsAt v.tells (Opens stored) (v.calls vol)) a b)
    is_full a b x =
        let start = BeginsAt v.tells (Opens stored) (v.calls vol) in
        is_full_as (λ z x. FullPlain (FillsTold s stored x) start a b) (λ limits z. FullPlain (FillsAt v stored limits z) start a b)
        (λ z x shows full. full_opened (FillsTold s stored x) (FillsAt v stored (s.limit x) (under x)) (λ at size. ⊥) plain start start [] a b (λ m h. h) (λ m h c d fills. fills_under stored x shows c d fills) full) x

    -- with an update log
    pub is_full_logged : (is : Settings) (ticks : List ℕ) (a b : Told) {most : ℕ} → FilesFull s under v.calls v.tells (λ x. LacksTold s (usual_of stored) x) (λ z x. FullRun (FillsTold s stored x) (Lacks s x) is (BeginsAt v.tells (opens_logged (Opens stored)) (v.calls vol)) [] ticks a b × CanStand v (opens_logged (Opens stored)) vol) most (v.calls vol) w
        → IsFull v stored most vol w (λ limits. FullRun (FillsAt v stored limits w) (LacksLog v limits w) is (BeginsAt v.tells (opens_logged (Opens stored)) (v.calls vol)) [] ticks a b × CanStand v (opens_logged (Opens stored)) vol)
    is_full_logged is ticks a b x =
        let start = BeginsAt v.tells (opens_logged (Opens stored)) (v.calls vol) in
        let stood = CanStand v (opens_logged (Opens stored)) vol in
        is_full_as (λ z x. FullRun (FillsTold s stored x) (Lacks s x) is start [] ticks a b × stood) (λ limits z. FullRun (FillsAt v stored limits z) (LacksLog v limits z) is start [] ticks a b × stood)
        (λ z x shows full. (
          full_lacks (FillsAt v stored (s.limit x) (under x)) (Lacks s x) (LacksLog v (s.limit x) (under x)) is start [] ticks a b (λ at size lacks. ⊎_elim (λ passes. inl passes) (λ l. inr (log_is x l)) lacks)
              (full_opened (FillsTold s stored x) (FillsAt v stored (s.limit x) (under x)) (Lacks s x) is start start ticks a b (λ m h. h) (λ m h i j fills. fills_under stored x shows i j fills) full.0),
          full.1,
        )) x

    pub is_full_task : (task : Task) → FilesFullTask s under v.calls v.tells (λ x. LacksTold s (usual_of stored) x) (λ z x t c. FillsTask (s.log_full x) (FillsTold s stored x) (LacksLargeTold s stored z x) t c) (Opens stored) task (2 ^ 40) (v.calls vol) w → IsFullTask v stored task vol w
    is_full_task task x =
        let limits = s.limit x.space in
        let log = LogIsFull v (under x.space) in
        let shown : s.brought x.space → s.now x.space ≡ files_in v (under x.space) = λ all i f. (x.shows all).same f i in
        record {
          limits = limits;
          limits_are = x.limits;
          full = subst (λ (z : V). FullTask v.tells (MainIsBare (recovered (now (v.calls vol)))) (LacksUsual v stored limits z) (FillsTaskAt v stored limits vol z) (BeginsAt v.tells (Opens stored) (v.calls vol)) task) x.vol_is
              (record {
                writes = x.full.writes;
                which = ⊎_elim (λ y. inl (λ t. ((y t).0, lacks_under (usual_of stored) x.space x.shows (y t).1))) (λ y. inr (λ first h.
                    task_shown (s.log_full x.space) log (FillsAt v stored limits (under x.space)) (LacksLargeAt v stored limits vol (under x.space)) task first.contents (log_is x.space)
                    (task_less (s.log_full x.space) (FillsTold s stored x.space) (FillsAt v stored limits (under x.space)) (LacksLargeTold s stored x.begin x.space) (LacksLargeAt v stored limits vol (under x.space)) task first.contents
                    (fills_shown stored limits (s.log_full x.space) log (s.brought x.space) (s.now x.space) (files_in v (under x.space)) (log_is x.space) shown)
                    (λ packs c lacks. record { first = s.now x.begin; is = x.first h.0; lacks = large_shown stored limits (s.brought x.space) (s.now x.space) (files_in v (under x.space)) (s.now x.begin) (λ all. (x.shows all).same 0) c lacks })
                    (y first h)))) x.full.which;
              });
        }

  pub is_lacking : (shape : Shape) {vol w : V} → FilesLack s under v.calls v.tells (λ x. LacksTold s shape x) (2 ^ 40) (v.calls vol) w → IsLacking v shape vol w
  is_lacking shape {vol} {w} x = record {
    limit = s.limit x.space 0;
    limit_is = λ t files are. x.limits t files are 0 refl;
    lack = λ t. subst (λ (z : V). lacks_of shape (s.limit x.space 0) (LogIsFull v z) (Unit {0}) (files_in v z 0)) x.vol_is (lacks_under shape x.space x.shows (x.lack t));
  }
