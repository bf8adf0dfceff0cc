-- What a call that only reads does to a tree.
use Rattle.std.specs.Prelude.{◌≡◌, ℕ}
use Rattle.std.proofs.Common.{◌∙◌}
use Rattle.tc_base.specs.declared.order.Order.{Ghosts as Orders}
use Rattle.tc_space.specs.Frames.{Reads}
use Rattle.tc_space.specs.declared.records.Records.{Ghosts as Stores}
use Rattle.tc_space.specs.declared.space.Space.{Ghosts}
use Rattle.bt_cache.specs.Effects.{Looks}
use Rattle.bt_tree.specs.declared.tree.Tree.{Tree}
use Rattle.bt_tree.specs.Costs.{ReadsPages}
use Rattle.bt_tree.specs.Meaning.{Means}

-- the numbers of the tree stay, and the record `column` that it tells
pub record StaysTree {V O : Type 0} (old new : Tree V O) : Type 0 where
  pub head : new.head ≡ old.head
  pub height : new.height ≡ old.height
  pub column : new.column ≡ old.column

-- nothing is written
abbrev pub LooksAt : {S V O : Type 0} → Ghosts S → Stores V S → Tree V O → Tree V O → S → S → Type 0
LooksAt s R t u old new = Looks s R t.cache u.cache t.store u.store old new

-- besides, at most so many pages are read
pub record Visits {S V O : Type 0} (s : Ghosts S) (R : Stores V S) (most : ℕ) (t u : Tree V O) (steps steps' : ℕ) (old new : S) : Type 0 where
  pub looks : LooksAt s R t u old new
  pub pages : ReadsPages R most t.store u.store steps steps'
  pub stays : StaysTree t u

-- so it is seen from outside: the pairs stay
pub record Asks {S V O : Type 0} (s : Ghosts S) (R : Stores V S) (o : Orders O) (most : ℕ) (t u : Tree V O) (steps steps' : ℕ) (old new : S) : Type 0 where
  pub reads : Reads s (Means s R o) t u old new
  pub looks : LooksAt s R t u old new
  pub pages : ReadsPages R most t.store u.store steps steps'
  pub stays : StaysTree t u

pub stays_then : {V O : Type 0} (t u v : Tree V O) → StaysTree t u → StaysTree u v → StaysTree t v
stays_then t u v first second = record { head = second.head ∙ first.head; height = second.height ∙ first.height; column = second.column ∙ first.column }
