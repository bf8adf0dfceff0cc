-- What tasks leave, by what their requests left.
use Rattle.std.proofs.Common.{◌≡◌, ◌⊎◌, inl, inr, ⊎_elim, ℕ, Bool, true, false, List, [], ◌∷◌, refl, sym, ap, subst, ◌∙◌, arith, Ok, Err}
use Rattle.std.specs.Prelude.{◌&&◌, Option, Some, None, Result, OnOk, IsErrOf, map, unwrap_or}
use Rattle.std.specs.Result.{IsErrAnd}
use Rattle.std.proofs.lemmas.Result.{err_from_is_err_and}
use Rattle.std.proofs.lemmas.Bool.{or_from}
use Rattle.tc_base.specs.Files.{Files}
use Rattle.tc_base.specs.declared.kind.Form.{Form}
use Rattle.tc_base.specs.declared.kind.Form.TheVariants as form
use Rattle.tc_base.specs.declared.request.Request.{Request}
use Rattle.tc_io.specs.declared.sink.Sink as sink
use Rattle.tc_space.specs.Frames.{Follows, Keeps}
use Rattle.tc_space.specs.declared.errors.RecErr.{RecErr}
use Rattle.tc_space.specs.declared.errors.RecErr.TheVariants as rec
use Rattle.tc_space.specs.declared.space.Space as space
use Rattle.tc_model.specs.Contents.{Contents}
use Rattle.tc_model.specs.Apply.{apply, updates}
use Rattle.tc_model.specs.Packing.{is_optimize}
use Rattle.tc_model.specs.declared.applied.Applied.{Applied}
use Rattle.tc_model.proofs.Idle.{apply_idle}
use Rattle.ty_world.specs.World.{Mark}
use Rattle.ty_base.specs.Holding.{Frame, Held, IsReady, Laid, Layout, Leaves, may_write, numbers_stay}
use Rattle.ty_base.proofs.Refusals.{cause_is}
use Rattle.ty_rounds.specs.Kept.{HasMark, HoldsMark, LeavesMarks, LeavesTwo, MovesTo, Reopens}
use Rattle.ty_rounds.proofs.Leaving.{IsClean, Earlier, kept_stands, was_kept, left_stands, none_two, steady_two, moved_two}
use Rattle.ty_rounds.proofs.Telling.{Adds-none}
use Rattle.tk_mgr.specs.declared.errors.MgrErr.{MgrErr}
use Rattle.tk_mgr.specs.declared.errors.MgrErr.TheVariants as err
use Rattle.tk_mgr.specs.declared.task.Task.{Task}
use Rattle.tk_mgr.specs.declared.task.Task.TheVariants.{Optimize}
use Rattle.tk_mgr.specs.Errors.{mgr_of}
use Rattle.tk_mgr.specs.Tasks.{Prints, after, all_marks, answered, asked, at_step, before_last, ok_of, steps_of}
use Rattle.tk_mgr.specs.Managing.{ArePacked, FillsTask, IsThrough, LacksKeeping, Manages, MayManage, PacksTask, form_for, last_mark, packing, said_by, with_contents}
use Rattle.tk_mgr.specs.Asking.{Answers, Carries, IsIdle, Looks}
use Rattle.tk_mgr.specs.Showing.{Shows}

pub keeps_follows : {S : Type 0} (s : space.Ghosts S) (a b : S) → Keeps s a b → Follows s a b
keeps_follows s a b k = record { later = k.later; same_limit = k.same_limit; same_names = k.same_names }

pub full_rec : (e : RecErr) → mgr_of e ≡ err.Full → e ≡ rec.Full
full_rec rec.Full is = refl
full_rec rec.Fault is = absurd cc
full_rec rec.Memory is = absurd cc

pub mgr_not_sink : (e : RecErr) → mgr_of e ≡ err.Sink → ⊥
mgr_not_sink rec.Full is = absurd cc
mgr_not_sink rec.Fault is = absurd cc
mgr_not_sink rec.Memory is = absurd cc

-- where it is an `Ok` both hold
pub on_ok_both : {T E P Q R : Type 0} (r : Result T E) → (P → Q → R) → OnOk r P → OnOk r Q → OnOk r R
on_ok_both (Ok x) f p q = f p q
on_ok_both (Err e) f p q = tt

-- a refusal for want of room, at the exit of a `?`
pub full_at : {T U : Type 0} (r : Result T MgrErr) (e : RecErr) → IsErrAnd r (λ f. f ≡ mgr_of e) → IsErrOf r err.Full → IsErrOf {T = U} (Err e) rec.Full
full_at r e is full = let p = err_from_is_err_and r is in ap (λ x. Err x) (full_rec e (sym p.2 ∙ cause_is p.0 err.Full (sym p.1 ∙ full)))

pub not_both : {b : Bool} → b ≡ true → b ≡ false → ⊥
not_both writes reads = let both = sym writes ∙ reads in cc

-- ---- requests

and_none : (b u : Bool) → u ≡ false → (b && u) ≡ false
and_none true u e = e
and_none false u e = refl

-- a request that is idle leaves contents
pub idle_stays : (r : Request) (c : Contents) → IsIdle r → (apply false r c None).contents ≡ c
idle_stays r c h = apply_idle false r c None (and_none (apply false r c None).ok (updates r) h.updates_none)

-- nor may it write
pub idle_writes_none : (r : Request) → IsIdle r → may_write r ≡ true → ⊥
idle_writes_none r h writes = let none = or_from (updates r) (is_optimize r) h.updates_none h.packs_none in absurd (let both = sym writes ∙ none in cc)

module _ {S B : Type 0} (s : space.Ghosts S) (holds : B → Files → Contents → Type 0) where
  pub ready_may : (reopens : Files → Contents → Type 0) (b : B) (a : S) → MayManage s holds reopens b a → IsReady s holds b a
  ready_may reopens b a h = record { sound = h.sound; held = λ t. let x = h.stands t in (x.0, x.1) }

  pub ready_looks : (b b' : B) (a a' : S) → IsReady s holds b a → Looks s holds b b' a a' → IsReady s holds b' a'
  ready_looks b b' a a' is l = record { sound = l.sound; held = λ t. let x = is.held t in (x.0, (l.held x.0 (t, x.1)).1) }

  pub settled_looks : (reopens : Files → Contents → Type 0) (b b' : B) (a a' : S) → MayManage s holds reopens b a → Looks s holds b b' a a' → s.tells → (c : Contents) × holds b' (s.now a') c × reopens (s.now a') c
  settled_looks reopens b b' a a' h l t =
      let x = h.stands t in
      (x.0, (l.held x.0 (t, x.1)).1, subst (λ (files : Files). reopens files x.0) (λ i f. sym (l.files t f) i) x.2)

  -- an idle request
  pub asked_looks : {own : ℕ → Type 0} {layout : Files → Layout} (r : Request) (x : Applied) (b b' : B) (a a' : S) (reply : List ℕ) → IsIdle r → IsReady s holds b a → Keeps s a a' → Leaves s own layout ((x.updated ≡ false) × (is_optimize r ≡ false)) a a'
      → ((c : Contents) → Held s holds b a c → Answers s holds r x c b' a' reply) → Looks s holds b b' a a'
  asked_looks r x b b' a a' reply idle is keeps leaves answers = record {
    keeps = keeps;
    sound = leaves.sound;
    files = λ t. let h = is.held t in let w = answers h.0 (t, h.1) in (leaves.reads (w.updated ∙ and_none (apply false r h.0 None).ok (updates r) idle.updates_none, idle.packs_none)).files t;
    held = λ c h. let w = answers c h in subst (λ (d : Contents). Held s holds b' a' d) (idle_stays r c idle) w.held;
  }

  -- nothing was written
  pub looks_leaves : (own : ℕ → Type 0) (layout : Files → Layout) (b b' : B) (a a' : S) → Looks s holds b b' a a' → Leaves s own layout ⊥ a a'
  looks_leaves own layout b b' a a' l = record {
    sound = l.sound;
    others = record { same = λ t g other. l.files t g };
    numbered = λ t. numbers_stay (layout (s.now a)) (layout (s.now a')) (λ i. layout (λ g. l.files t g i));
    reads = λ never. absurd never;
  }

-- ---- marks

module _ {S : Type 0} (s : space.Ghosts S) (reopens : Files → Contents → Type 0) where
  two_marks : (a b : S) (m n : Mark) → LeavesTwo s reopens a b m n → LeavesMarks s reopens a b (n ∷ m ∷ [])
  two_marks a b m n two = record {
    leaves = record {
      later = two.leaves.later;
      each = λ t o le l. ⊎_elim (λ was. inl was) (λ p. inr (⊎_elim (λ x. record { mark = m; listed = inr (inl refl); reopen = x }) (λ y. record { mark = n; listed = inl refl; reopen = y }) p)) (two.leaves.each t o le l);
    };
  }

  -- nothing was kept
  kept_marks : (a b : S) (m n : Mark) (rest : List Mark) → n ≡ m → s.tells → Reopens reopens (s.kept a) m → Keeps s a b → LeavesMarks s reopens a b (n ∷ rest)
  kept_marks a b m n rest same t k keeps =
      let st = keeps.steady t in
      record { leaves = record { later = st.leaves.later; each = λ u o le l. ⊎_elim (λ was. inl was) (λ is. inr (record { mark = m; listed = inl (sym same); reopen = was_kept s reopens a o m k is })) (st.leaves.each u o le l) } }

  kept_exit : (a b : S) (m : Mark) → IsClean s a → Earlier s b → s.tells → Reopens reopens (s.kept a) m → Keeps s a b → (o : Option Files) → s.left b (s.moment b) o → Reopens reopens o m
  kept_exit a b m is earlier t k keeps o l =
      let st = keeps.steady t in
      was_kept s reopens a o m k (⊎_elim (λ was. is.only o t was) (λ x. x) (st.leaves.each (s.moment a) o (omega arith) (earlier (s.moment a) (s.moment b) o st.leaves.later l)))

  -- a task that only read
  pub shows_manages : {B O : Type 0} (g : sink.Ghosts O) (holds : B → Files → Contents → Type 0) (lines : Files → List ℕ → Type 0) (task : Task) (result : Result Bool MgrErr) (base : B) (a b : S) (p q : O)
      → ((c : Contents) → after task c ≡ c) → IsClean s a → Earlier s b → Keeps s a b → Shows s holds lines task result base a (g.taken p) (g.taken q) → Manages s g holds reopens lines task result base a b p q
  shows_manages g holds lines task result base a b p q stays is earlier keeps x = record {
    taken = x.taken;
    told = x.told;
    none = x.none;
    by = λ m h.
        let y = x.by m.contents h.has.held in
        let t = h.has.held.0 in
        let k = kept_stands s reopens holds base a m is h in
        let same : last_mark task m ≡ m = ap (λ (c : Contents). with_contents m c) (stays m.contents) in
        record {
          ok = y.ok;
          printed = y.printed;
          whole = y.whole;
          moments = kept_marks a b m (last_mark task m) (map (λ (c : Contents). with_contents m c) (before_last task m.contents)) same t k keeps;
          last = λ i o l. subst (λ (n : Mark). Reopens reopens o n) (sym same) (kept_exit a b m is earlier t k keeps o l);
        };
  }

  -- a task that printed nothing
  pub carries_manages : {B O : Type 0} (g : sink.Ghosts O) (holds : B → Files → Contents → Type 0) (lines : Files → List ℕ → Type 0) (task : Task) (r : Option Request) (result : Result Bool MgrErr) (base : B) (a b : S) (p : O)
      → ((c : Contents) → all_marks task c ≡ asked r c ∷ c ∷ []) → ((c : Contents) → ok_of task c ≡ answered r c) → ((files : Files) (c : Contents) → Prints lines task files c [])
      → ((m : Mark) → HoldsMark s holds reopens base a m → Carries s reopens r result a b m) → Manages s g holds reopens lines task result base a b p p
  carries_manages g holds lines task r result base a b p marks ok prints carries = record {
    taken = [];
    told = Adds-none (g.taken p);
    none = λ e. refl;
    by = λ m h.
        let x = carries m h in
        let listed : all_marks task m.contents ≡ asked r m.contents ∷ m.contents ∷ [] = marks m.contents in
        let last : after task m.contents ≡ asked r m.contents = cc in
        record {
          ok = λ y e. x.ok y e ∙ sym (ok m.contents);
          printed = inl refl;
          whole = λ e. prints (s.now a) m.contents;
          moments = subst (λ (cs : List Contents). LeavesMarks s reopens a b (map (λ (c : Contents). with_contents m c) cs)) (sym listed) (two_marks a b m (with_contents m (asked r m.contents)) x.moments);
          last = λ i o l. subst (λ (c : Contents). Reopens reopens o (with_contents m c)) (sym last) (x.last (⊎_elim (λ y. y) (λ some. absurd (some refl)) i) o l);
        };
  }

  -- a packing that was kept
  pub packs_left : (packed : Form → Files → Type 0) (large : Bool) (f : Form) (a : S) → packing (Optimize large) ≡ Some f → s.tells → IsClean s a → packed (form_for large) (s.now a) → (o : Option Files) → s.left a (s.moment a) o → ArePacked packed f o
  packs_left packed large f a is t clean p o l = subst (λ (g : Form). ArePacked packed g o) (ap (λ (x : Option Form). unwrap_or x form.Keep) is) (record { files = s.now a; is = clean.only o t l ∙ clean.clean t; are = p })

  pub packs_as : (packed : Form → Files → Type 0) (now task : Task) (result : Result Bool MgrErr) (a : S) → now ≡ task → PacksTask s packed task result a → PacksTask s packed now result a
  packs_as packed now task result a is h = subst (λ (t : Task). PacksTask s packed t result a) (sym is) h

  -- laid out like what was there, as far as a task leaves that
  pub laid_as : {B O : Type 0} (g : sink.Ghosts O) (holds : B → Files → Contents → Type 0) (lines : Files → List ℕ → Type 0) (own : ℕ → Type 0) (layout : Files → Layout) (l : Frame) (now task : Task) (result : Result Bool MgrErr) (base : B) (a b : S) (p q : O) → now ≡ task
      → Manages s g holds (Laid own (said_by (packing task) layout) l reopens) lines task result base a b p q → Manages s g holds (Laid own (said_by (packing now) layout) l reopens) lines now result base a b p q
  laid_as g holds lines own layout l now task result base a b p q is h = subst (λ (t : Task). Manages s g holds (Laid own (said_by (packing t) layout) l reopens) lines t result base a b p q) (sym is) h

  pub manages_as : {B O : Type 0} (g : sink.Ghosts O) (holds : B → Files → Contents → Type 0) (lines : Files → List ℕ → Type 0) (now task : Task) (result : Result Bool MgrErr) (base : B) (a b : S) (p q : O) → now ≡ task
      → Manages s g holds reopens lines task result base a b p q → Manages s g holds reopens lines now result base a b p q
  manages_as g holds lines now task result base a b p q is h = subst (λ (t : Task). Manages s g holds reopens lines t result base a b p q) (sym is) h

  -- ---- what a request left

  not_through : (e : MgrErr) (b : S) (n : Mark) → (e ≡ err.Sink → ⊥) → IsThrough (Err e) → (o : Option Files) → s.left b (s.moment b) o → Reopens reopens o n
  not_through err.Full b n not_sink i o l = absurd i
  not_through err.Fault b n not_sink i o l = absurd i
  not_through err.Sink b n not_sink i o l = absurd (not_sink refl)
  not_through err.Memory b n not_sink i o l = absurd i

  -- nothing was done
  pub carries_none : (r : Option Request) (a : S) (m : Mark) → Carries s reopens r (Err err.Memory) a a m
  carries_none r a m = record { ok = λ y e. absurd cc; moments = none_two s reopens a m (with_contents m (asked r m.contents)); last = λ i. absurd i }

  -- it was refused
  pub carries_refused : {B : Type 0} (holds : B → Files → Contents → Type 0) (r : Option Request) (e : MgrErr) (base : B) (a b : S) (m : Mark) → (e ≡ err.Sink → ⊥) → IsClean s a → Keeps s a b → HoldsMark s holds reopens base a m → Carries s reopens r (Err e) a b m
  carries_refused holds r e base a b m not_sink is keeps h = record {
    ok = λ y e. absurd cc;
    moments = steady_two s reopens a b m (with_contents m (asked r m.contents)) (kept_stands s reopens holds base a m is h) (keeps.steady h.has.held.0);
    last = not_through e b (with_contents m (asked r m.contents)) not_sink;
  }

  -- it wasn't kept
  pub carries_unkept : {B : Type 0} (holds : B → Files → Contents → Type 0) (r : Option Request) (e : MgrErr) (base : B) (a b d : S) (m : Mark) → (e ≡ err.Sink → ⊥) → IsClean s a → Keeps s a b → MovesTo s reopens b d (with_contents m (asked r m.contents))
      → HoldsMark s holds reopens base a m → Carries s reopens r (Err e) a d m
  carries_unkept holds r e base a b d m not_sink is keeps moves h = record {
    ok = λ y e. absurd cc;
    moments = moved_two s reopens a b d m (with_contents m (asked r m.contents)) (kept_stands s reopens holds base a m is h) (keeps.steady h.has.held.0) moves;
    last = not_through e d (with_contents m (asked r m.contents)) not_sink;
  }

  -- it was
  pub carries_kept : {B : Type 0} (holds : B → Files → Contents → Type 0) (r : Option Request) (ok : Bool) (base base' : B) (a b d : S) (m : Mark) → ok ≡ answered r m.contents → IsClean s a → IsClean s d → Keeps s a b
      → MovesTo s reopens b d (with_contents m (asked r m.contents)) → HoldsMark s holds reopens base' d (with_contents m (asked r m.contents)) → HoldsMark s holds reopens base a m → Carries s reopens r (Ok ok) a d m
  carries_kept holds r ok base base' a b d m is_ok is after keeps moves now h = record {
    ok = λ y e. let same : ok ≡ y = cc in sym same ∙ is_ok;
    moments = moved_two s reopens a b d m (with_contents m (asked r m.contents)) (kept_stands s reopens holds base a m is h) (keeps.steady h.has.held.0) moves;
    last = λ i o l. left_stands s reopens holds base' d (with_contents m (asked r m.contents)) after now o l;
  }

  module _ {B : Type 0} (holds : B → Files → Contents → Type 0) where
    -- the mark that is held behind a request
    pub asked_mark : {own : ℕ → Type 0} {layout : Files → Layout} (r : Request) (x : Applied) (base base' : B) (a b : S) (reply : List ℕ) (m : Mark) → (own 2 → ⊥) → Leaves s own layout ((x.updated ≡ false) × (is_optimize r ≡ false)) a b → Answers s holds r x m.contents base' b reply → HasMark s holds base a m
        → HasMark s holds base' b (with_contents m (asked (Some r) m.contents))
    asked_mark r x base base' a b reply m other leaves answers h = record { held = answers.held; log = leaves.others.same h.held.0 2 other ∙ h.log }

    -- and it stood in the files already where nothing is to be kept
    pub asked_stood : {own : ℕ → Type 0} {layout : Files → Layout} (r : Request) (x : Applied) (base base' : B) (a b : S) (reply : List ℕ) (m : Mark) → is_optimize r ≡ false → Leaves s own layout ((x.updated ≡ false) × (is_optimize r ≡ false)) a b → Answers s holds r x m.contents base' b reply → HoldsMark s holds reopens base a m
        → x.updated ≡ false → reopens (s.now b) (asked (Some r) m.contents)
    asked_stood r x base base' a b reply m packs leaves answers h idle =
        let only = leaves.reads (idle, packs) in
        let files : s.now a ≡ s.now b = λ i f. sym (only.files h.has.held.0 f) i in
        let same : (apply false r m.contents None).contents ≡ m.contents = apply_idle false r m.contents None (sym answers.updated ∙ idle) in
        subst (λ (c : Contents). reopens (s.now b) c) (sym same) (subst (λ (fs : Files). reopens fs m.contents) files h.stand)

-- ---- limits

module _ (log_is_full : Type 0) (fills : Contents → Contents → Type 0) (lacks_large : Contents → Type 0) where
  pub fills_as : (now task : Task) (c : Contents) → now ≡ task → FillsTask log_is_full fills lacks_large task c → FillsTask log_is_full fills lacks_large now c
  fills_as now task c is h = subst (λ (t : Task). FillsTask log_is_full fills lacks_large t c) (sym is) h

  -- before its first request
  pub fills_before : (task : Task) (c : Contents) → at_step task c 0 ≡ c → LacksKeeping log_is_full lacks_large task c → FillsTask log_is_full fills lacks_large task c
  fills_before task c start h = record { step = 0; within = omega arith; by = inr (subst (λ (d : Contents). LacksKeeping log_is_full lacks_large task d) (sym start) h) }

  -- at its only one
  pub fills_asked : (task : Task) (r : Option Request) (c : Contents) → steps_of task ≡ 1 → at_step task c 0 ≡ c → at_step task c 1 ≡ asked r c → fills c (asked r c) → FillsTask log_is_full fills lacks_large task c
  fills_asked task r c one start end h = record { step = 0; within = omega arith; by = inl (omega (arith, one), subst (λ (d : Contents). fills d (at_step task c 1)) (sym start) (subst (λ (d : Contents). fills c d) (sym end) h)) }

-- the form in which a task packs files is the large one
pub packs_large : (log_is_full : Type 0) (lacks_large : Contents → Type 0) (large : Bool) (c : Contents) → log_is_full ⊎ ((form_for large ≡ form.Large) × lacks_large c) → LacksKeeping log_is_full lacks_large (Optimize large) c
packs_large log_is_full lacks_large large c full = ⊎_elim (λ log. inl log) (λ lacks. inr (ap Some lacks.0, lacks.1)) full
