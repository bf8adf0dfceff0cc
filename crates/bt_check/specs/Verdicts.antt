-- What the check of a tree answers.
use Rattle.std.specs.Prelude.{◌≡◌, ◌⊎◌, ℕ, ◌+◌, ◌*◌, ◌≤◌, List, length, [], ◌∷◌, Bool, Option, Result, MatchOption}
use Rattle.std.specs.FinMap.{get, len}
use Rattle.std.specs.BTreeSet.{BTreeSet, btree_set_len}
use Rattle.tc_base.specs.Maps.{Map as stored}
use Rattle.tc_base.specs.declared.kind.Rule.{Rule}
use Rattle.tc_space.specs.declared.records.Records.{Ghosts as Store}
use Rattle.tc_space.specs.declared.space.Space.{Ghosts}
use Rattle.tc_space.specs.declared.errors.OpenErr.{OpenErr}
use Rattle.tc_space.specs.declared.errors.OpenErr.TheVariants as open_err
use Rattle.tc_space.specs.declared.errors.RecErr.{RecErr}
use Rattle.tc_space.specs.declared.errors.RecErr.TheVariants as rec
use Rattle.bt_rows.specs.declared.head.TreeHead.{TreeHead}
use Rattle.bt_rows.specs.declared.page.LeafAt.{LeafAt}
use Rattle.bt_rows.specs.Heads.{head_of}
use Rattle.bt_rows.specs.Orders.{Before}
use Rattle.bt_rows.specs.Pages.{Map, PageMap, AreHeld}
use Rattle.bt_rows.specs.Rows.{root_slot, leaves_in, leaves_among}
use Rattle.bt_rows.specs.Rules.{B1, B2, B3, B4, B5, B6, B7, B8, IsReached}
use Rattle.bt_rows.specs.Standing.{PagesStand, TreeStands, leaves_of}
use Rattle.bt_check.specs.Collected.{IsCollected}
use Rattle.bt_check.specs.Keys.{IsListed}
use Rattle.bt_check.specs.Leaves.{OfSeen}
use Rattle.bt_check.specs.Looks.{Gives, Holds}
use Rattle.bt_check.specs.Walks.{AreThere, IsHigh}
use Rattle.bt_check.specs.declared.collecting.Collected.{Collected}
use Rattle.bt_check.specs.declared.leaves.Seen.{Seen}
use Rattle.bt_check.specs.declared.rows.Walked.{Walked}

abbrev pub rule_b : ℕ → Rule
rule_b number = record { letter = 66; number = number }

-- the rules of leaves
pub record LeavesHold (before : Before) (h : TreeHead) (leaves : List LeafAt) : Type 0 where
  pub order : B6 before leaves
  pub links : B7 h leaves
  pub count : B8 h leaves

-- the first of them that doesn't hold
abbrev pub LeavesBreak : Before → TreeHead → List LeafAt → Rule → Type 0
LeavesBreak before h leaves rule =
    ((rule ≡ rule_b 6) × ¬ B6 before leaves)
    ⊎ (B6 before leaves × (((rule ≡ rule_b 7) × ¬ B7 h leaves)
    ⊎ (B7 h leaves × (rule ≡ rule_b 8) × ¬ B8 h leaves)))

-- the first of the rules of pages
abbrev pub PagesBreak : Before → TreeHead → PageMap → Rule → Type 0
PagesBreak before h pages rule =
    ((rule ≡ rule_b 3) × ¬ B3 pages h.root)
    ⊎ ((depth : ℕ) × IsReached pages h.root depth × (((rule ≡ rule_b 4) × ¬ B4 pages h.root)
    ⊎ (B4 pages h.root × (((rule ≡ rule_b 5) × ¬ B5 h pages)
    ⊎ (B5 h pages × LeavesBreak before h (leaves_in pages depth (root_slot h.root ∷ [])) rule)))))

-- the first of all rules that doesn't hold
abbrev pub IsFirstBroken : Before → TreeHead → Bool → Map → Rule → Type 0
IsFirstBroken before h index m rule =
    ((rule ≡ rule_b 1) × ¬ B1 h)
    ⊎ (B1 h × (((rule ≡ rule_b 2) × ¬ B2 h index m)
    ⊎ (B2 h index m × (pages : PageMap) × AreHeld h m pages × PagesBreak before h pages rule)))

-- a refusal that names a rule names the store's file and, of what the store holds, the first rule that doesn't hold
abbrev pub Breaks : Before → TreeHead → Bool → ℕ → (stored → Type 0) → OpenErr → Type 0
Breaks before h index file Holds e = (f : ℕ) (rule : Rule) → e ≡ open_err.Broken f rule → (f ≡ file) × ((m : stored) → Holds m → IsFirstBroken before h index (get m) rule)

-- a rule that doesn't speak of the order
abbrev pub BreaksEarly : TreeHead → Bool → ℕ → (stored → Type 0) → OpenErr → Type 0
BreaksEarly h index file Holds e = (before : Before) → Breaks before h index file Holds e

abbrev pub BreaksFirst : {S V : Type 0} → Ghosts S → Store V S → TreeHead → Bool → V → S → OpenErr → Type 0
BreaksFirst s r h index v space e = BreaksEarly h index (r.file_of v) (Holds s r v space) e

-- so it is of the tree whose head stands in a store's region
abbrev pub BreaksIn : {S V : Type 0} → Ghosts S → Store V S → Before → Bool → V → S → OpenErr → Type 0
BreaksIn s r before index v space e = Breaks before (head_of (r.region v)) index (r.file_of v) (Holds s r v space) e

abbrev pub broken_at : ℕ → ℕ → OpenErr
broken_at file number = open_err.Broken file (rule_b number)

-- the same cause; a store that is only read isn't full
abbrev pub open_of : RecErr → OpenErr
open_of rec.Full = open_err.Memory
open_of rec.Fault = open_err.Fault
open_of rec.Memory = open_err.Memory

-- the keys are those of pages, and the pages were collected
abbrev pub Gathered : TreeHead → Bool → Map → BTreeSet ℕ → Bool → Type 0
Gathered h index m ids within = B2 h index m × ((pages : PageMap) → AreHeld h m pages → IsCollected h m ids within pages)

abbrev pub Gathers : TreeHead → Bool → Collected → stored → Type 0
Gathers h index c m = Gathered h index (get m) c.ids c.within

-- so many ids aren't more than keys
abbrev pub HasFew : Collected → stored → Type 0
HasFew c m = btree_set_len c.ids ≤ len m

-- where these are the keys of a map its pages were collected, or a key is none of theirs
abbrev pub GathersAll : TreeHead → Bool → List (List ℕ) → Option Collected → stored → Type 0
GathersAll h index keys collected m = IsListed (get m) keys → MatchOption collected (B2 h index (get m) → ⊥) (λ c. Gathers h index c m)

-- so many rows of pages are all, and the leaves stand in these places
pub record HasPlaces (h : TreeHead) (index : Bool) (m : Map) (s : PagesStand h index m) (w : Walked) : Type 0 where
  pub high : IsHigh s.pages h.root w.height
  pub placed : AreThere s.pages w.leaves
  pub leaves_are : leaves_of s ≡ leaves_among s.pages w.leaves

abbrev pub StandsPlaced : TreeHead → Bool → Walked → stored → Type 0
StandsPlaced h index w m = (s : PagesStand h index (get m)) × HasPlaces h index (get m) s w

-- each key may be asked for twice, the leaves not yet
abbrev pub LeavesSome : ℕ → ℕ → Walked → stored → Type 0
LeavesSome gets gets' w m = gets' + length w.leaves ≤ gets + 2 * len m

-- all rules hold, and so many rows are all
abbrev pub StandsHigh : Before → TreeHead → Bool → ℕ → stored → Type 0
StandsHigh before h index height m = (s : TreeStands before h index (get m)) × IsHigh s.stand.pages h.root height

module _ {S V : Type 0} (s : Ghosts S) (r : Store V S) where
  -- of the tree whose head stands in a store's region it answers how many rows are all, and all rules hold
  abbrev pub Measures : Result ℕ OpenErr → Before → Bool → V → S → Type 0
  Measures result before index v space = Gives s r result v space (StandsHigh before (head_of (r.region v)) index)

  abbrev pub KeepsRules : Before → Bool → V → S → Type 0
  KeepsRules before index v space = (m : stored) → Holds s r v space m → TreeStands before (head_of (r.region v)) index (get m)

-- what was seen of leaves tells that all rules of leaves hold, or the first that doesn't
abbrev pub Judges : TreeHead → Seen → Option ℕ → Type 0
Judges h s number = MatchOption number (OfSeen h s (λ before. LeavesHold before h)) (λ n. OfSeen h s (λ before ls. LeavesBreak before h ls (rule_b n)))

-- a tree breaks none of its rules
abbrev pub TreesBreakNoRule : Type 0
TreesBreakNoRule = (before : Before) (h : TreeHead) (index : Bool) (m : Map) (rule : Rule) → TreeStands before h index m → IsFirstBroken before h index m rule → ⊥
