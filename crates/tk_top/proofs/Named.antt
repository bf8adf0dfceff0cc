-- A volume that is named and opened.
use Rattle.std.proofs.Common.{◌≡◌, ◌⊎◌, ◌≢◌, ◌≤◌, inl, inr, ⊎_elim, ℕ, Bool, cond, max, true, false, List, [], ◌∷◌, length, refl, sym, ap, subst, ◌∙◌, arith}
use Rattle.std.specs.Prelude.{Option, Some, Result, Ok, Err, IfOk, IfErr, MatchResult}
use Rattle.tc_base.specs.Files.{Files}
use Rattle.tc_base.specs.declared.kind.Kind.{Kind}
use Rattle.tc_base.specs.declared.kind.Rule.{Rule}
use Rattle.tc_io.specs.Copies.{Named}
use Rattle.tc_io.specs.Images.{Calls, synced, now, Images, ImagesSince, IsLostSync}
use Rattle.tc_io.specs.Told.{Adds}
use Rattle.tc_io.specs.declared.volume.Volume as volume
use Rattle.tc_space.specs.declared.space.Space as space
use Rattle.tc_undo.specs.Opening.{IsRefused, OpensKept}
use Rattle.tc_undo.specs.Errors.{OnRule}
use Rattle.tc_undo.specs.declared.errors.UndoErr.{UndoErr}
use Rattle.tc_undo.specs.declared.errors.UndoErr.TheVariants as undo_err
use Rattle.tc_space.specs.Ranges.{IsDataFile}
use Rattle.tc_undo.specs.Usable.{data_file}
use Rattle.ud_log.specs.Undo.{data_of, files_of, is_data, recovered, undo}
use Rattle.ud_state.specs.Recovery.{StaysSettled, FromTheSync, not_yet, since, Recovers}
use Rattle.ud_state.specs.Since.{LeftSince, Since, quiet_calm, since_later}
use Rattle.ud_state.specs.State.{IsSettled}
use Rattle.ud_state.proofs.Leaving.{images_left, left_leads}
use Rattle.ud_state.proofs.Replaying.{sync_log_calm}
use Rattle.ud_state.proofs.Runs.{sync_reads}
use Rattle.tc_model.specs.Contents.{Contents}
use Rattle.ty_base.specs.Opening.{OpensTo}
use Rattle.ty_world.specs.World.{Mark}
use Rattle.ty_rounds.specs.Kept.{StandFor, Reopens}
use Rattle.ty_rounds.proofs.Telling.{Adds-none}
use Rattle.tk_top.specs.declared.ends.End.{End}
use Rattle.tk_top.specs.declared.ends.End.TheVariants.{Done, NoMemory, TurnsSpent}
use Rattle.tk_top.specs.Ends.{end_of_undo}
use Rattle.tk_top.specs.Naming.{EndsUnopened, LeavesOpening, NamesOnce, NamesTold, OpensNamed, OpensOver}
use Rattle.tk_top.specs.Over.{BeginsAt, IsOver, MainIsBare, StandsFor, StaysWithin}
use Rattle.tk_top.specs.Serving.{Begins}
use Rattle.tk_top.specs.Staying.{AsOpening, BreaksLog, LeavesBroken}
use Rattle.tk_top.specs.Stops.{IsEarly}
use Rattle.tk_top.specs.Volumes.{longer}

-- what is so of any that it may be
pub ok_any : {T E : Type 0} (r : Result T E) (P : T → Type 0) → ((x : T) → P x) → IfOk r P
ok_any (Ok x) P each = each x
ok_any (Err e) P each = tt

-- of a refusal
pub err_of_both : {T E : Type 0} (r : Result T E) (P : T → Type 0) (Q R : E → Type 0) → MatchResult r P Q → ((e : E) → Q e → R e) → IfErr r R
err_of_both (Ok x) P Q R both each = tt
err_of_both (Err e) P Q R both each = each e both

at_moment : (cs : Calls) (ims : Files) → ImagesSince cs (length cs) ims → Images cs ims
at_moment [] ims some = some
at_moment (c ∷ cs) ims some = ⊎_elim (λ at_once. at_once) (λ earlier. absurd (omega (arith, earlier.0))) some

pub at_exit : (cs : Calls) (ims : Files) → Images cs ims → ImagesSince cs (length cs) ims
at_exit [] ims are = are
at_exit (c ∷ cs) ims are = inl are

-- at each moment of recovery, as an opening image
leads_back : (old new : Calls) → IsSettled old → Since (StaysSettled old) old new → (o : Option Files) → LeftSince new (length old) o → AsOpening old o
leads_back old new settled moments o left = let x = left_leads old new o settled moments left in record { image = x.0; is_one = x.1; same = x.2 }

some_is : (a b : Files) → Some a ≡ Some b → a ≡ b
some_is a b e = cc

pub no_files : (old : Calls) (rule : Rule) (files : Files) → undo (now old 1) (now old) ≡ Err rule → recovered (now old) ≡ Some files → ⊥
no_files old rule files broken is = absurd (let both = sym (ap (λ (r : Result Files Rule). files_of r) broken) ∙ is in cc)

-- ---- it was refused

-- nothing was called but `bind`
pub unbound_leaves : (old new : Calls) → new ≡ old → LeavesOpening old new
unbound_leaves old new same = subst (λ (cs : Calls). LeavesOpening old cs) (sym same) (record {
  exit = λ ims are. inr (inl refl, record { image = ims; is_one = are; same = refl });
  moments = λ ims some. record { image = ims; is_one = at_moment old ims some; same = refl };
})

pub refused_leaves : (old bound new : Calls) → bound ≡ old → Images old (now old) → (IsSettled bound → Recovers bound new) → IsSettled old → LeavesOpening old new
refused_leaves old bound new same image recovers settled =
    let r : Recovers old new = subst (λ (cs : Calls). IsSettled cs → Recovers cs new) same recovers settled in
    record {
      exit = λ ims are. which r r.from ims are;
      moments = λ ims some. leads_back old new settled r.moments (recovered ims) (images_left new (length old) ims some);
    }
  where
    which : Recovers old new → FromTheSync old new → (ims : Files) → Images new ims → (recovered ims ≡ recovered (now old)) ⊎ (IsLostSync old new 1 × AsOpening old (recovered ims))
    which r (not_yet lost) ims are = inr (lost, leads_back old new settled r.moments (recovered ims) (images_left new (length old) ims (longer new (length old) (length new) ims (since_later (StaysSettled old) old new r.moments) (at_exit new ims are))))
    which r (since quiet) ims are =
        let calm = quiet_calm ((1, synced) ∷ old) new (sync_log_calm old settled image) quiet in
        inl (calm.all ims are ∙ quiet.kept ∙ ap recovered (λ i f. sync_reads old 1 f i))

early_undo : (why : UndoErr) → IsEarly (end_of_undo why)
early_undo undo_err.Fault = tt
early_undo (undo_err.Broken rule) = tt
early_undo undo_err.Memory = tt

pub refused_rule : (why : UndoErr) (told : Type 0) (old bound new : Calls) → (told → bound ≡ old) → (told → IsRefused why bound new) → OnRule why (λ rule. told → BreaksLog old new rule)
refused_rule undo_err.Fault told old bound new same refused = tt
refused_rule (undo_err.Broken rule) told old bound new same refused = λ t. subst (λ (cs : Calls). BreaksLog cs new rule) (same t) (let b = (refused t).broken in record { broken = b.0; only = b.1 })
refused_rule undo_err.Memory told old bound new same refused = tt

pub refused_spares : (told : Type 0) (why : UndoErr) (old bound new : Calls) → (told → bound ≡ old) → (told → IsRefused why bound new) → told → LeavesBroken old new
refused_spares told why old bound new same refused t = subst (λ (cs : Calls). LeavesBroken cs new) (same t) (record { stays = (refused t).spares.spares })

-- there was no memory before any call
pub ends_unnamed : {V : Type 0} (v : volume.Ghosts V) (name : List ℕ) (vol : V) → EndsUnopened v name NoMemory vol vol
ends_unnamed v name vol = record { why = undo_err.Memory; is = refl; broken = tt; spares = λ t. record { stays = λ rule broken. inr (inl refl) }; no_memory = λ is t. refl; names = record { told = inr (Adds-none (v.names vol).told); copies = λ t. refl }; caused = λ count count'. tt; leaves = λ t settled. unbound_leaves (v.calls vol) (v.calls vol) refl }

module _ {V : Type 0} {v : volume.Ghosts V} {name : List ℕ} {end : End} {old new : V} (u : EndsUnopened v name end old new) where
  pub early_of : IsEarly end
  early_of = subst IsEarly (sym u.is) (early_undo u.why)

  pub not_ended : (end ≢ Done) × (end ≢ TurnsSpent)
  not_ended = (λ is. subst IsEarly is early_of, λ is. subst IsEarly is early_of)

  pub unopened_broken : v.tells → LeavesBroken (v.calls old) (v.calls new)
  unopened_broken = u.spares

-- ---- it was opened

pub opens_over : {S : Type 0} (s : space.Ghosts S) (told : Type 0) (most : ℕ) (old bound ca : Calls) (a : S) (names given : Named) (faults count : ℕ) → bound ≡ old → OpensKept bound ca → ((f : ℕ) → is_data f ≡ true → s.limit a f ≡ max most (length (s.now a f)))
    → s.sound a → s.touched a ≡ false → s.moment a ≡ length ca → IsOver s.tells told (s.sound a) ca (s.touched a) (s.moment a) (s.left a) (s.now a) names given faults count → told → OpensOver s most old a
opens_over s told most old bound ca a names given faults count same kept limits sound untouched moments over t =
    let k : OpensKept old ca = subst (λ (cs : Calls). OpensKept cs ca) same kept in
    record {
      tells = over.from t;
      files = ap (λ (r : Result Files Rule). files_of r) k.undone ∙ ap (λ (f : Files). Some f) (sym (over.now_is sound untouched));
      limits = limits;
      later = let long = k.grows in omega (arith, long, over.moment_later);
      moments = λ settled o l. leads_back old ca settled (k.stops settled).moments o (over.left_is moments (length old) o k.grows l);
    }

module _ {S V : Type 0} {s : space.Ghosts S} {v : volume.Ghosts V} {name : List ℕ} {most : ℕ} {vol : V} {a : S} (o : OpensNamed s v name most vol a) where
  pub same_files : (files : Files) → v.tells → recovered (now (v.calls vol)) ≡ Some files → files ≡ s.now a
  same_files files t is = some_is files (s.now a) (sym is ∙ (o.over t).files)

  -- at the exit the volume has the names of the space
  pub names_so : (t : S) (w : V) → v.names w ≡ s.names t → s.names t ≡ s.names a → NamesOnce v name vol w
  names_so t w given same = let is : v.names w ≡ s.names a = given ∙ same in record {
    told = inl (subst (λ (n : Named). Adds (v.names vol).told n.told (name ∷ [])) (sym is) o.names);
    copies = λ told. ap (λ (n : Named). n.copies) is ∙ o.copies told;
  }

  -- where copies may have been made
  pub told_so : (t : S) (w : V) → v.names w ≡ s.names t → (s.names t).told ≡ (s.names a).told → NamesTold v name vol w
  told_so t w given same = record { told = inl (subst (λ (told : Option (List (List ℕ))). Adds (v.names vol).told told (name ∷ [])) (sym (ap (λ (n : Named). n.told) given ∙ same)) o.names) }

  -- over a broken log none is opened
  pub opened_whole : (new : Calls) → v.tells → LeavesBroken (v.calls vol) new
  opened_whole new t = record { stays = λ rule broken. absurd (no_files (v.calls vol) rule (s.now a) broken (o.over t).files) }

  pub limits_so : (limit : ℕ → ℕ) → limit ≡ s.limit a → v.tells → (files : Files) → recovered (now (v.calls vol)) ≡ Some files → (f : ℕ) → is_data f ≡ true → limit f ≡ max most (length (files f))
  limits_so limit same t files is f isd = ap (λ (l : ℕ → ℕ). l f) same ∙ (o.over t).limits f isd ∙ ap (λ (fs : Files). max most (length (fs f))) (sym (same_files files t is))

  -- no file has passed its limit
  pub within_so : (t : S) (limit : ℕ → ℕ) → limit ≡ s.limit a → v.tells → {new calls : Calls} → new ≡ calls → s.now t ≡ data_of (now calls) → ((f : ℕ) → IsDataFile f → length (s.now t f) ≤ limit f) → StaysWithin most (v.calls vol) new
  within_so t limit same told {new} {calls} is now_is short = record {
    each = λ files recovers f is_file.
        let isd : is_data f ≡ true = data_file f is_file in
        let len : length (s.now t f) ≡ length (now new f) = ap (λ (fs : Files). length (fs f)) now_is ∙ ap (λ (b : Bool). length (cond b (now calls f) [])) isd ∙ ap (λ (cs : Calls). length (now cs f)) (sym is) in
        let most_is = limits_so limit same told files recovers f isd in
        omega (arith, short f is_file, len, most_is);
  }

  module _ (opens : Files → Contents → Type 0) where
    pub begins_so : (first : Mark) → BeginsAt v.tells opens (v.calls vol) first → Begins s opens a first
    begins_so first h = ((o.over h.0).tells, subst (λ (f : Files). StandFor opens f first) (same_files h.1.files h.0 h.1.is) h.1.stand)

    pub stands_so : (s.tells → (c : Contents) × opens (s.now a) c) → v.tells → StandsFor opens (v.calls vol)
    stands_so stands t = let b = o.over t in let x = stands b.tells in record { contents = x.0; stand = record { files = s.now a; is = b.files; stand = x.1 } }

    -- a limit was reached where the main file was made
    pub bare_so : {lacks : Type 0} → (s.tells → (s.now a 0 ≡ []) × lacks) → v.tells → MainIsBare (recovered (now (v.calls vol))) × lacks
    bare_so lacking t = let b = o.over t in let x = lacking b.tells in ((s.now a, b.files, x.0), x.1)

-- what was opened as contents of a kind
pub reopens_as : (opens reopens : Files → Contents → Type 0) → ((files : Files) (c : Contents) → opens files c → reopens files c) → (o : Option Files) (first : Mark) → Reopens opens o first → Reopens reopens o first
reopens_as opens reopens stand o first k = record { files = k.files; is = k.is; stand = record { contents = stand k.files first.contents k.stand.contents; log = k.stand.log } }

pub of_kind : (kind : Kind) (reopens : Files → Contents → Type 0) (o : Option Files) (first : Mark) → Reopens (OpensTo kind reopens) o first → Reopens reopens o first
of_kind kind reopens o first k = reopens_as (OpensTo kind reopens) reopens (λ files c h. h.stand) o first k
