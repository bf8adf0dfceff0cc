-- What the check is told of a store, and what it leaves of the store and its space.
use Rattle.std.specs.Prelude.{◌≡◌, ℕ, ◌+◌, ◌*◌, ◌≤◌, List, Option, Result, IfOk, IsErrOf, length}
use Rattle.std.specs.FinMap.{get, len}
use Rattle.std.proofs.Common.{arith, refl, ◌∙◌}
use Rattle.tc_base.specs.Maps.{Map}
use Rattle.tc_io.specs.Causes.{Rose}
use Rattle.tc_space.specs.Frames.{In, Keeps, Reads, keeps_refl, keeps_then, reads_refl, reads_then}
use Rattle.tc_space.specs.Stores.{IsReady, KeepsTight}
use Rattle.tc_space.specs.declared.errors.OpenErr.{OpenErr}
use Rattle.tc_space.specs.declared.errors.OpenErr.TheVariants.{Fault}
use Rattle.tc_space.specs.declared.records.Records.{Ghosts as Store}
use Rattle.tc_space.specs.declared.space.Space.{Ghosts}
use Rattle.bt_rows.specs.declared.page.Slot.{Slot}

-- nothing is written: the map, the region, the file, its type and its numbers stay, no more lies free in front of its first block, and what was packed is so still
pub record Looks {S V : Type 0} (s : Ghosts S) (r : Store V S) (v v' : V) (old new : S) : Type 0 where
  pub reads : Reads s (In s r.file_of r.holds) v v' old new
  pub keeps : Keeps s old new
  pub file : r.file_of v' ≡ r.file_of v
  pub sort_same : r.sort v' ≡ r.sort v
  pub numbers_same : r.numbers v' ≡ r.numbers v
  pub region_same : r.region v' ≡ r.region v
  pub leads : r.lead v' ≤ r.lead v
  pub tight : KeepsTight r.tight v v'

-- a fault comes only where a call of the volume failed
abbrev pub OnOpenFault : {S T : Type 0} → Ghosts S → Result T OpenErr → S → S → Type 0
OnOpenFault s result old new = IsErrOf result Fault → Rose (s.faults old) (s.faults new)

abbrev pub IsValueOf : List ℕ → Option (List ℕ) → Map → Type 0
IsValueOf key found m = found ≡ get m key

-- of so many places each is kept, or the store is asked for it once at most
abbrev pub AsksOrKeeps : {S V : Type 0} → Store V S → ℕ → V → V → List Slot → List Slot → Type 0
AsksOrKeeps r n v v' kept kept' = r.gets v' + length kept' ≤ r.gets v + length kept + n

module _ {S V : Type 0} (s : Ghosts S) (r : Store V S) where
  -- a store holds this map
  abbrev pub Holds : V → S → Map → Type 0
  Holds v space m = In s r.file_of r.holds v space m

  abbrev pub MayLook : V → S → Type 0
  MayLook v space = IsReady s (In s r.file_of r.holds) v space

  -- an answer is this of whatever map the store holds
  abbrev pub Gives : {A E : Type 0} → Result A E → V → S → (A → Map → Type 0) → Type 0
  Gives result v space Is = IfOk result (λ x. (m : Map) → In s r.file_of r.holds v space m → Is x m)

  -- it was asked at most so often for each key that it holds
  abbrev pub AsksFor : ℕ → V → V → S → Type 0
  AsksFor n v v' space = (m : Map) → In s r.file_of r.holds v space m → r.gets v' ≤ r.gets v + n * len m

  pub looks_refl : (v : V) (a : S) → s.sound a → Looks s r v v a a
  looks_refl v a sound = record { reads = reads_refl s (In s r.file_of r.holds) v a sound; keeps = keeps_refl s a; file = refl; sort_same = refl; numbers_same = refl; region_same = refl; leads = omega arith; tight = λ from form bytes is. is }

  pub looks_then : (u v w : V) (a b c : S) → Looks s r u v a b → Looks s r v w b c → Looks s r u w a c
  looks_then u v w a b c first second = record {
    reads = reads_then s (In s r.file_of r.holds) u v w a b c first.reads second.reads;
    keeps = keeps_then s a b c first.keeps second.keeps;
    file = second.file ∙ first.file;
    sort_same = second.sort_same ∙ first.sort_same;
    numbers_same = second.numbers_same ∙ first.numbers_same;
    region_same = second.region_same ∙ first.region_same;
    leads = omega (arith, first.leads, second.leads);
    tight = λ from form bytes is. second.tight from form bytes (first.tight from form bytes is);
  }
