-- Files that stay as they are, from a space to its volume.
use Rattle.std.proofs.Common.{◌≡◌, ◌⊎◌, inl, inr, ⊎_elim, ℕ, false, List, [], length, refl, sym, ap, subst, ◌∙◌}
use Rattle.std.specs.Prelude.{Some}
use Rattle.tc_base.specs.Files.{Files}
use Rattle.tc_base.specs.declared.kind.Rule.{Rule}
use Rattle.tc_io.specs.Images.{Calls, now, Images, ImagesSince}
use Rattle.tc_io.specs.declared.volume.Volume as volume
use Rattle.tc_space.specs.Frames.{Keeps, OnlyReads, only_reads_refl}
use Rattle.tc_space.specs.declared.space.Space as space
use Rattle.tc_undo.specs.Errors.{OnRule}
use Rattle.tc_undo.specs.declared.errors.UndoErr.{UndoErr}
use Rattle.tc_undo.specs.declared.errors.UndoErr.TheVariants as undo_err
use Rattle.ud_log.specs.Undo.{recovered}
use Rattle.ud_state.specs.State.{IsSettled}
use Rattle.ty_base.specs.Opening.{Breaks}
use Rattle.ty_base.specs.declared.errors.AnyErr.{AnyErr}
use Rattle.ty_base.specs.declared.errors.AnyErr.TheVariants as any
use Rattle.tk_top.specs.declared.ends.End.{End}
use Rattle.tk_top.specs.declared.ends.End.TheVariants.{Refused}
use Rattle.tk_top.specs.Ends.{end_of_undo}
use Rattle.tk_top.specs.Making.{JudgedMaking, MainIsThere}
use Rattle.tk_top.specs.Naming.{EndsUnopened, OpensNamed, OpensOver}
use Rattle.tk_top.specs.Over.{BreaksAt, Judged}
use Rattle.tk_top.specs.Staying.{AsOpening, BreaksLog, BreaksOver, IsHindered}
use Rattle.tk_top.specs.Stops.{LeavesAlone, Spares}
use Rattle.tk_top.specs.Tasks.{JudgedTask}
use Rattle.tk_top.proofs.Fresh.{Earlier, Fresh, still_left}
use Rattle.tk_top.proofs.Named.{early_of, no_files, same_files}
use Rattle.tk_top.proofs.Stops.{Closes, exit_left}

pub breaks_over : {S : Type 0} (s : space.Ghosts S) (breaks : Files → ℕ → Rule → Type 0) (e : AnyErr) (old new : S) → Breaks e (λ file rule. s.tells → breaks (s.now old) file rule) → Breaks e (λ file rule. OnlyReads s old new) → Breaks e (BreaksOver s breaks old new)
breaks_over s breaks (any.Broken file rule) old new is reads = record { is = is; reads = reads }
breaks_over s breaks any.Full old new is reads = tt
breaks_over s breaks any.Fault old new is reads = tt
breaks_over s breaks any.Memory old new is reads = tt

-- ---- a volume over which a space was opened

module _ {S V : Type 0} {s : space.Ghosts S} {v : volume.Ghosts V} {most : ℕ} {old : Calls} {a t : S} {w : V} (o : OpensOver s most old a) (closed : Closes s v t w) where
  reads_exit : Fresh s t → OnlyReads s a t → (files : Files) → recovered (now old) ≡ Some files → (ims : Files) → Images (v.calls w) ims → recovered ims ≡ Some files
  reads_exit fresh reads files is ims are =
      let f = fresh o.tells in
      let same : s.now t ≡ s.now a = λ i g. reads.files o.tells g i in
      f.0 (recovered ims) (exit_left closed ims are)
      ∙ f.1 ∙ ap (λ (fs : Files). Some fs) same ∙ sym o.files ∙ is

  -- a stop leaves what it left of the opening, or what was kept then
  pub keeps_moments : Fresh s a → Keeps s a t → Images old (now old) → IsSettled old → (ims : Files) → ImagesSince (v.calls w) (length old) ims → AsOpening old (recovered ims)
  keeps_moments fresh keeps image settled ims some = ⊎_elim
      (λ was. o.moments settled (recovered ims) was)
      (λ kept. record { image = now old; is_one = image; same = kept ∙ (fresh o.tells).1 ∙ sym o.files })
      ((keeps.steady o.tells).leaves.each (length old) (recovered ims) o.later (closed.leaves (length old) ims some))

module _ {S V : Type 0} {s : space.Ghosts S} {v : volume.Ghosts V} {name : List ℕ} {most : ℕ} {vol w : V} {a t : S} (o : OpensNamed s v name most vol a) (closed : Closes s v t w) (laws : (x : S) → s.sound x → s.touched x ≡ false → Fresh s x) where
  pub breaks_so : (v.tells → Images (v.calls vol) (now (v.calls vol))) → (breaks : Files → ℕ → Rule → Type 0) (file : ℕ) (rule : Rule) → BreaksOver s breaks a t file rule → v.tells → BreaksAt breaks (v.calls vol) (v.calls w) file rule
  breaks_so image breaks file rule broken told = let b = o.over told in record {
    which = inr (s.now a, b.files, broken.is b.tells);
    stays = record {
      stay = λ settled files is.
          let r = broken.reads in
          record { exit = reads_exit b closed (laws t r.is_sound (r.untouched ∙ o.untouched)) r files is; moments = keeps_moments b closed (laws a o.sound o.untouched) r.keeps (image told) settled };
    };
  }

  -- where nothing is written
  pub spares_so : (v.tells → Images (v.calls vol) (now (v.calls vol))) → (which : Files → Type 0) (end : End) → (s.tells → which (s.now a) → OnlyReads s a t) → v.tells → Spares which end (v.calls vol) (v.calls w)
  spares_so image which end spared told =
      let b = o.over told in
      let reads = λ (files : Files) (is : recovered (now (v.calls vol)) ≡ Some files) (holds : which files). spared b.tells (subst (λ (f : Files). which f) (same_files o files told is) holds) in
      record {
        stays = λ settled files is holds ims are. let r = reads files is holds in inl (reads_exit b closed (laws t r.is_sound (r.untouched ∙ o.untouched)) r files is ims are);
        moments = λ settled files is holds. keeps_moments b closed (laws a o.sound o.untouched) (reads files is holds).keeps (image told) settled;
      }

  -- where nothing is kept of what is written
  pub spares_kept : Earlier s t → (v.tells → Images (v.calls vol) (now (v.calls vol))) → (which : Files → Type 0) (end : End) → (s.tells → which (s.now a) → Keeps s a t) → v.tells → Spares which end (v.calls vol) (v.calls w)
  spares_kept earlier image which end kept told =
      let b = o.over told in
      let keeps = λ (files : Files) (is : recovered (now (v.calls vol)) ≡ Some files) (holds : which files). kept b.tells (subst (λ (f : Files). which f) (same_files o files told is) holds) in
      record {
        stays = λ settled files is holds ims are. inl (still_left s a t (recovered ims) (laws a o.sound o.untouched) earlier b.tells ((keeps files is holds).steady b.tells) (exit_left closed ims are) ∙ sym b.files ∙ is);
        moments = λ settled files is holds. keeps_moments b closed (laws a o.sound o.untouched) (keeps files is holds) (image told) settled;
      }

  -- the space is as it was
  module _ (same : t ≡ a) (told : v.tells) where
    same_exit : (files : Files) → recovered (now (v.calls vol)) ≡ Some files → (ims : Files) → Images (v.calls w) ims → recovered ims ≡ Some files
    same_exit files is = reads_exit (o.over told) closed
        (subst (λ (x : S). Fresh s x) (sym same) (laws a o.sound o.untouched))
        (subst (λ (x : S). OnlyReads s a x) (sym same) (only_reads_refl s a o.sound)) files is

    same_moments : IsSettled (v.calls vol) → (ims : Files) → ImagesSince (v.calls w) (length (v.calls vol)) ims → AsOpening (v.calls vol) (recovered ims)
    same_moments settled ims some = (o.over told).moments settled (recovered ims) (subst (λ (x : S). s.left x (length (v.calls vol)) (recovered ims)) same (closed.leaves (length (v.calls vol)) ims some))

  pub left_alone_so : (wrong : Files → Type 0) (end : End) → (s.tells → wrong (s.now a) → (end ≡ Refused) × (t ≡ a)) → v.tells → LeavesAlone wrong end (v.calls vol) (v.calls w)
  left_alone_so wrong end alone told =
      let b = o.over told in
      let looked = λ (files : Files) (is : recovered (now (v.calls vol)) ≡ Some files) (not : wrong files). alone b.tells (subst (λ (f : Files). wrong f) (same_files o files told is) not) in
      record {
        ends = λ files is not. inl (looked files is not).0;
        spares = record {
          stays = λ settled files is not ims are. inl (same_exit (looked files is not).1 told files is ims are);
          moments = λ settled files is not. same_moments (looked files is not).1 told settled;
        };
      }

  pub there_so : (s.tells → s.now a 0 ≡ [] → ⊥) × (t ≡ a) → v.tells → MainIsThere (v.calls vol) (v.calls w)
  there_so h told = let b = o.over told in record { files = s.now a; is = b.files; some = h.0 b.tells; stay = λ settled. record { exit = same_exit h.1 told (s.now a) b.files; moments = same_moments h.1 told settled } }

-- ---- one over which none was opened

module _ {V : Type 0} {v : volume.Ghosts V} {name : List ℕ} {end : End} {old new : V} (u : EndsUnopened v name end old new) where
  log_breaks : (breaks : Files → ℕ → Rule → Type 0) (rule : Rule) → (v.tells → BreaksLog (v.calls old) (v.calls new) rule) → v.tells → BreaksAt breaks (v.calls old) (v.calls new) 1 rule
  log_breaks breaks rule broken told = record { which = inl (refl, broken told); stays = record { stay = λ settled files is. absurd (no_files (v.calls old) rule files (broken told).broken is) } }

  -- the same of each way in which ends are judged, where what it asks of an end that is none of these is nothing
  of_rule : (J : End → Type 0) → ((why : UndoErr) → OnRule why (λ rule. v.tells → BreaksLog (v.calls old) (v.calls new) rule) → J (end_of_undo why)) → J end
  of_rule J which = subst J (sym u.is) (which u.why u.broken)

  module _ (breaks : Files → ℕ → Rule → Type 0) where
    pub judged_unnamed : (stand : Type 0) → Judged end stand (λ file rule. v.tells → BreaksAt breaks (v.calls old) (v.calls new) file rule)
    judged_unnamed stand = of_rule (λ (e : End). Judged e stand (λ file rule. v.tells → BreaksAt breaks (v.calls old) (v.calls new) file rule)) which
      where
        which : (why : UndoErr) → OnRule why (λ rule. v.tells → BreaksLog (v.calls old) (v.calls new) rule) → Judged (end_of_undo why) stand (λ file rule. v.tells → BreaksAt breaks (v.calls old) (v.calls new) file rule)
        which undo_err.Fault b = tt
        which (undo_err.Broken rule) b = log_breaks breaks rule b
        which undo_err.Memory b = tt

    pub task_unnamed : (stand reason : Type 0) → JudgedTask end stand (λ file rule. v.tells → BreaksAt breaks (v.calls old) (v.calls new) file rule) reason
    task_unnamed stand reason = of_rule (λ (e : End). JudgedTask e stand (λ file rule. v.tells → BreaksAt breaks (v.calls old) (v.calls new) file rule) reason) which
      where
        which : (why : UndoErr) → OnRule why (λ rule. v.tells → BreaksLog (v.calls old) (v.calls new) rule) → JudgedTask (end_of_undo why) stand (λ file rule. v.tells → BreaksAt breaks (v.calls old) (v.calls new) file rule) reason
        which undo_err.Fault b = tt
        which (undo_err.Broken rule) b = log_breaks breaks rule b
        which undo_err.Memory b = tt

    pub made_unnamed : (empty some : Type 0) → JudgedMaking end empty (λ file rule. v.tells → BreaksAt breaks (v.calls old) (v.calls new) file rule) some
    made_unnamed empty some = of_rule (λ (e : End). JudgedMaking e empty (λ file rule. v.tells → BreaksAt breaks (v.calls old) (v.calls new) file rule) some) which
      where
        which : (why : UndoErr) → OnRule why (λ rule. v.tells → BreaksLog (v.calls old) (v.calls new) rule) → JudgedMaking (end_of_undo why) empty (λ file rule. v.tells → BreaksAt breaks (v.calls old) (v.calls new) file rule) some
        which undo_err.Fault b = tt
        which (undo_err.Broken rule) b = log_breaks breaks rule b
        which undo_err.Memory b = tt

  pub spares_unnamed : (which : Files → Type 0) → v.tells → Spares which end (v.calls old) (v.calls new)
  spares_unnamed which told = record {
    stays = λ settled files is holds ims are. ⊎_elim (λ same. inl (same ∙ is)) (λ lost. inr (early_of u, lost.0, lost.1)) ((u.leaves told settled).exit ims are);
    moments = λ settled files is holds. (u.leaves told settled).moments;
  }

  pub left_alone_unnamed : (wrong : Files → Type 0) → v.tells → LeavesAlone wrong end (v.calls old) (v.calls new)
  left_alone_unnamed wrong told = record {
    ends = λ files is not. of_rule (λ (e : End). (e ≡ Refused) ⊎ IsHindered e) (λ why b. which files is why b);
    spares = spares_unnamed wrong told;
  }
    where
      which : (files : Files) → recovered (now (v.calls old)) ≡ Some files → (why : UndoErr) → OnRule why (λ rule. v.tells → BreaksLog (v.calls old) (v.calls new) rule) → (end_of_undo why ≡ Refused) ⊎ IsHindered (end_of_undo why)
      which files is undo_err.Fault b = inr tt
      which files is (undo_err.Broken rule) b = absurd (no_files (v.calls old) rule files (b told).broken is)
      which files is undo_err.Memory b = inr tt
