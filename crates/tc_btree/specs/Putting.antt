-- What a put is to give, and what looking for it leaves.
use Rattle.std.specs.Prelude.{◌≡◌, ℕ, List, Option, None, IsSome, Result, IsErrOf, IfOk, unwrap_or}
use Rattle.tc_base.specs.Lists.{first}
use Rattle.tc_base.specs.declared.kind.Mode.{Mode}
use Rattle.tc_base.specs.declared.kind.Mode.TheVariants.{Keep}
use Rattle.tc_base.specs.declared.order.Order.{Ghosts as Orders}
use Rattle.tc_base.specs.declared.seq.Pair.{Pair}
use Rattle.tc_io.specs.Causes.{Rose}
use Rattle.tc_space.specs.Changes.{put_value}
use Rattle.tc_space.specs.Frames.{Reads}
use Rattle.tc_space.specs.declared.errors.PutErr.{PutErr}
use Rattle.tc_space.specs.declared.errors.PutErr.TheVariants.{Exists, Fault, Full}
use Rattle.tc_space.specs.declared.records.Records.{Ghosts as Stores}
use Rattle.tc_space.specs.declared.space.Space.{Ghosts}
use Rattle.bt_tree.specs.Meaning.{Means}
use Rattle.bt_tree.specs.Visits.{LooksAt, StaysTree}
use Rattle.tc_btree.specs.declared.btree.Btree.{Btree}

-- in place of the first value of a key a put in this mode gives what was joined, or else the value itself; with Keep the key isn't held
pub record IsGiven (mode : Mode) (key value : List ℕ) (joined : Option (List ℕ)) (ps : List Pair) : Type 0 where
  pub is : unwrap_or joined value ≡ put_value mode (first ps key) value
  pub absent : mode ≡ Keep → first ps key ≡ None

module _ {S V O : Type 0} (s : Ghosts S) (R : Stores V S) (o : Orders O) where
  -- the tree was looked at, or not even that: nothing is written, and the pairs stay
  pub record Looked (b c : Btree V O) (old new : S) : Type 0 where
    pub looks : LooksAt s R b.tree c.tree old new
    pub stays : StaysTree b.tree c.tree
    pub reads : Reads s (Means s R o) b.tree c.tree old new

  -- the key is held, and to be kept
  pub record IsKept (mode : Mode) (key : List ℕ) (b : Btree V O) (space : S) : Type 0 where
    pub keep : mode ≡ Keep
    pub there : (ps : List Pair) → Means s R o b.tree space ps → IsSome (first ps key)

  -- what a put is to give, of whatever pairs the tree means; or that it is refused since the key is held
  abbrev pub TellsPut : Mode → List ℕ → List ℕ → Result (Option (List ℕ)) PutErr → Btree V O → S → Type 0
  TellsPut mode key value result b space = IfOk result (λ joined. (ps : List Pair) → Means s R o b.tree space ps → IsGiven mode key value joined ps) × (IsErrOf result Exists → IsKept mode key b space)

-- what only looked: a fault comes only where a call of the volume failed, and no limit is named
abbrev pub BlamesLook : {S T : Type 0} → Ghosts S → Result T PutErr → S → S → Type 0
BlamesLook s result old new = (IsErrOf result Fault → Rose (s.faults old) (s.faults new)) × (IsErrOf result Full → ⊥)
