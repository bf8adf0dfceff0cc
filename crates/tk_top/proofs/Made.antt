-- A file made anew over a space, and over its volume.
use Rattle.std.proofs.Common.{◌≡◌, ◌≢◌, inl, inr, ⊎_elim, ℕ, List, [], ◌∷◌, refl, arith}
use Rattle.std.specs.Prelude.{Option}
use Rattle.tc_base.specs.Files.{Files}
use Rattle.tc_base.specs.declared.kind.Rule.{Rule}
use Rattle.tc_io.specs.declared.volume.Volume as volume
use Rattle.tc_space.specs.declared.space.Space as space
use Rattle.tc_model.specs.Contents.{Contents}
use Rattle.ty_world.specs.World.{Mark}
use Rattle.ty_base.specs.Opening.{Breaks, DoStand}
use Rattle.ty_base.specs.declared.errors.AnyErr.{AnyErr}
use Rattle.ty_base.specs.declared.errors.AnyErr.TheVariants as any
use Rattle.ty_rounds.specs.Kept.{AtMark, LeavesMarks, MovesTo, Reopens}
use Rattle.tk_mgr.specs.Managing.{with_contents}
use Rattle.tk_top.specs.declared.ends.End.{End}
use Rattle.tk_top.specs.declared.ends.End.TheVariants.{Done, Words, Refused, VolumeFault, Broken, NoMemory, Full, WireFault, TurnsSpent}
use Rattle.tk_top.specs.Ends.{end_of}
use Rattle.tk_top.specs.Making.{CanBeMade, ExitsMaking, FilesMade, IsMade, JudgedMaking, MakingOver}
use Rattle.tk_top.specs.Naming.{EndsUnopened, OpensNamed}
use Rattle.tk_top.specs.Serving.{Begins}
use Rattle.tk_top.proofs.Fresh.{Earlier, Fresh}
use Rattle.tk_top.proofs.Kept.{kept_stands, moved}
use Rattle.tk_top.proofs.Managed.{IsUnbegun, unbegun_early}
use Rattle.tk_top.proofs.Named.{begins_so, early_of, opened_whole, unopened_broken}
use Rattle.tk_top.proofs.Stops.{Closes, stops_run, stops_unopened}

pub judged_made : (end : End) (empty some empty' some' : Type 0) (breaks breaks' : ℕ → Rule → Type 0) → (empty → empty') → (some → some') → ((file : ℕ) (rule : Rule) → breaks file rule → breaks' file rule) → JudgedMaking end empty breaks some → JudgedMaking end empty' breaks' some'
judged_made Done empty some empty' some' breaks breaks' f g h j = f j
judged_made Words empty some empty' some' breaks breaks' f g h j = j
judged_made Refused empty some empty' some' breaks breaks' f g h j = g j
judged_made VolumeFault empty some empty' some' breaks breaks' f g h j = tt
judged_made (Broken file rule) empty some empty' some' breaks breaks' f g h j = h file rule j
judged_made NoMemory empty some empty' some' breaks breaks' f g h j = tt
judged_made Full empty some empty' some' breaks breaks' f g h j = f j
judged_made WireFault empty some empty' some' breaks breaks' f g h j = j
judged_made TurnsSpent empty some empty' some' breaks breaks' f g h j = j

pub making_err : (e : AnyErr) (empty some : Type 0) (breaks : ℕ → Rule → Type 0) → (e ≡ any.Full → empty) → Breaks e breaks → JudgedMaking (end_of e) empty breaks some
making_err (any.Broken file rule) empty some breaks is broken = broken
making_err any.Full empty some breaks is broken = is refl
making_err any.Fault empty some breaks is broken = tt
making_err any.Memory empty some breaks is broken = tt

-- where the main file is empty, and the files stood for contents
pub can_be_made : {S : Type 0} (s : space.Ghosts S) (reopens : Files → Contents → Type 0) (a : S) → (s.tells → s.now a 0 ≡ []) → DoStand s reopens a → s.tells → CanBeMade reopens (s.now a)
can_be_made s reopens a empty stood = λ t. record { none = empty t; contents = (stood t).0; stand = (stood t).1 }

module _ (reopens : Files → Contents → Type 0) (numbers : Files → Type 0) (anew : Contents) where
  at_first : (first : Mark) (o : Option Files) → Reopens reopens o first → AtMark reopens o (with_contents first anew ∷ first ∷ [])
  at_first first o r = record { mark = first; listed = inr (inl refl); reopen = r }

  exits_unbegun : (end : End) (first : Mark) (o : Option Files) → IsUnbegun end → Reopens reopens o first → ExitsMaking reopens numbers anew end first o
  exits_unbegun end first o un r = record { at = at_first first o r; done = λ is. absurd (un.not_done is); stay = λ is. r }

  module _ {S : Type 0} (s : space.Ghosts S) where
    making_moments : (old new : S) (first : Mark) → Reopens reopens (s.kept old) first → MovesTo s reopens old new (with_contents first anew) → LeavesMarks s reopens old new (with_contents first anew ∷ first ∷ [])
    making_moments old new first k mv = record {
      leaves = record {
        later = mv.leaves.later;
        each = λ t o le l. ⊎_elim
            (λ was. inl was)
            (λ p. inr (⊎_elim (λ is. at_first first o (moved k is)) (λ r. record { mark = with_contents first anew; listed = inl refl; reopen = r }) p))
            (mv.leaves.each t o le l);
      };
    }

    pub making_over : (end : End) (old new : S) (first : Mark) → Fresh s old → Earlier s new → Begins s reopens old first → MovesTo s reopens old new (with_contents first anew) → end ≢ Refused → (end ≡ Done → (o : Option Files) → s.left new (s.moment new) o → IsMade reopens numbers (with_contents first anew) o) → MakingOver s reopens numbers anew end old new first
    making_over end old new first fresh earlier h mv other done =
        let k = kept_stands s reopens reopens (λ files c stand. stand) old first fresh h in
        let m = making_moments old new first k mv in
        record {
          exit = λ o l. record {
            at = ⊎_elim
                (λ was. at_first first o (moved k ((fresh h.0).0 o was)))
                (λ marked. marked)
                (m.leaves.each (s.moment old) o (omega arith) (earlier (s.moment old) (s.moment new) o m.leaves.later l));
            done = λ is. done is o l;
            stay = λ is. absurd (other is);
          };
          moments = m;
        }

  -- the run never came to an open space
  pub made_unopened : {V : Type 0} {v : volume.Ghosts V} {name : List ℕ} (end : End) {old new : V} → EndsUnopened v name end old new → FilesMade v.tells reopens reopens numbers anew end (v.calls old) (v.calls new)
  made_unopened {V} {v} end {old} {new} u = record { broken = unopened_broken u; ends = λ settled first h. stops_unopened reopens _ _ _ (v.calls old) (v.calls new) first (early_of u) (u.leaves h.0 settled) h.1 (λ o r. exits_unbegun end first o (unbegun_early end (early_of u)) r) }

  pub made_run : {S V : Type 0} {s : space.Ghosts S} {v : volume.Ghosts V} {name : List ℕ} {most : ℕ} {vol w : V} {a t : S} {end : End} → OpensNamed s v name most vol a → Closes s v t w → ((first : Mark) → Begins s reopens a first → MakingOver s reopens numbers anew end a t first) → FilesMade v.tells reopens reopens numbers anew end (v.calls vol) (v.calls w)
  made_run {S} {V} {s} {v} {name} {most} {vol} {w} {a} {t} {end} o closed run = record { broken = opened_whole o (v.calls w); ends = λ settled first h. stops_run reopens _ _ _ (o.over h.0) closed settled (run first (begins_so o reopens first h)) }
