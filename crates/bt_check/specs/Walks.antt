-- Rows that were walked.
use Rattle.std.specs.Prelude.{◌≡◌, ◌⊎◌, ℕ, suc, ◌+◌, ◌≤◌, ◌<◌, List, [], ◌∷◌, ◌++◌, true, false, length, nat_lt, Option, IfSome, MatchOption, if◌then◌else◌}
use Rattle.std.specs.BTreeSet.{BTreeSet}
use Rattle.tc_base.specs.Maps.{Map as Stored}
use Rattle.bt_page.specs.Keys.{node_offset}
use Rattle.bt_rows.specs.declared.page.Slot.{Slot}
use Rattle.bt_rows.specs.Pages.{PageMap}
use Rattle.bt_rows.specs.Rows.{root_slot, children_at, next_row, row, leaves_among, leaves_in, times, held}
use Rattle.bt_rows.specs.Rules.{IsReached, B3, B4}
use Rattle.bt_check.specs.Collected.{has}
use Rattle.bt_check.specs.ReadPages.{OfPages}
use Rattle.bt_check.specs.declared.rows.Naming.{Naming}
use Rattle.bt_check.specs.declared.rows.Walked.{Walked}

-- each page that a row names is held
abbrev pub AreThere : PageMap → List Slot → Type 0
AreThere pages slots = (id : ℕ) → 0 < times id slots → held pages id ≡ 1

-- the ids of a row were taken out of a set
abbrev pub IsTakenOut : List Slot → BTreeSet ℕ → BTreeSet ℕ → Type 0
IsTakenOut slots old new = (id : ℕ) → has new id + times id slots ≡ has old id

-- an id of the row isn't in the set
abbrev pub IsStuck : BTreeSet ℕ → List Slot → Type 0
IsStuck ids slots = ((id : ℕ) → times id slots ≤ has ids id) → ⊥

-- the places whose ids are those of leaves
abbrev pub leaf_places : List Slot → List Slot
leaf_places [] = []
leaf_places (s ∷ ss) = (if nat_lt s.id node_offset then s ∷ [] else []) ++ leaf_places ss

-- it has no more places than there may be
abbrev pub IsWithin : Naming → Type 0
IsWithin n = length n.places ≤ n.room

-- what a page names was added to the next row, if it is a node and there was room
pub record SpreadsOn (children : List Slot) (old new : Naming) : Type 0 where
  pub added : new.full ≡ false → (old.full ≡ false) × (new.places ≡ old.places ++ children)
  pub over : new.full ≡ true → (old.full ≡ true) ⊎ (old.room < length (old.places ++ children))

abbrev pub Spreads : Slot → Naming → Naming → Stored → Type 0
Spreads s old new m = OfPages m (λ pages. held pages s.id ≡ 1 → SpreadsOn (children_at s (pages s.id)) old new)

-- the row below a row, or it has more places than this
pub record IsNextOf (row : List Slot) (room : ℕ) (next : Naming) : Type 0 where
  pub all : next.full ≡ false → next.places ≡ row
  pub over : next.full ≡ true → room < length row

abbrev pub IsNextRow : List Slot → ℕ → Naming → Stored → Type 0
IsNextRow slots room next m = OfPages m (λ pages. AreThere pages slots → IsNextOf (next_row pages slots) room next)

-- so many rows are all: the last of them isn't empty, and nothing stands below it
pub record IsHigh (pages : PageMap) (root height : ℕ) : Type 0 where
  pub ends : row pages height (root_slot root ∷ []) ≡ []
  pub last : (k : ℕ) → height ≡ suc k → 0 < length (row pages k (root_slot root ∷ []))

-- all rows were walked
pub record IsWalked (pages : PageMap) (root : ℕ) (w : Walked) : Type 0 where
  pub reach : IsReached pages root w.height
  pub high : IsHigh pages root w.height
  pub even : w.uneven ≡ false → B4 pages root
  pub odd : w.uneven ≡ true → B4 pages root → ⊥
  pub placed : AreThere pages w.leaves
  pub leaves_are : leaves_in pages w.height (root_slot root ∷ []) ≡ leaves_among pages w.leaves

-- where these are the ids of all pages, all rows were walked, or not each page is reached once
abbrev pub Walks : ℕ → BTreeSet ℕ → Option Walked → Stored → Type 0
Walks root ids walked m = OfPages m (λ pages. ((id : ℕ) → has ids id ≡ held pages id) → MatchOption walked (B3 pages root → ⊥) (IsWalked pages root))

-- there is room for a question for each leaf
abbrev pub LeavesRoom : ℕ → ℕ → Option Walked → Type 0
LeavesRoom asked most walked = IfSome walked (λ w. asked + length w.leaves ≤ most)
