-- What the keys of a map are, one by one.
use Rattle.std.specs.Prelude.{◌≡◌, ℕ, ◌⊎◌, List, Bool, true, false, Option, Some, None, ◌==◌, ◌&&◌, if◌then◌else◌}
use Rattle.std.specs.Ordering.{nat_cmp}
use Rattle.std.specs.BTreeSet.{BTreeSet, contains}
use Rattle.std.specs.FinMap.{get}
use Rattle.tc_base.specs.Maps.{Map as Stored}
use Rattle.bt_page.specs.Keys.{key_of}
use Rattle.bt_rows.specs.declared.head.TreeHead.{TreeHead}
use Rattle.bt_rows.specs.declared.page.Page.{Page}
use Rattle.bt_rows.specs.Pages.{Map, PageMap, IsGiven, IsPage}
use Rattle.bt_rows.specs.Rows.{held}
use Rattle.bt_rows.specs.Rules.{B5, IsPageAt, IsWithin, column}
use Rattle.bt_check.specs.declared.collecting.Collected.{Collected}
use Rattle.bt_check.specs.declared.collecting.Found.{Found}
use Rattle.bt_check.specs.declared.collecting.Found.TheVariants.{Page as found_page, Column, Nothing}

-- whether a set has an id
unfoldable pub has : BTreeSet ℕ → ℕ → ℕ
has ids id = if contains nat_cmp ids id then 1 else 0

-- it has an id so often, and all others as before
abbrev pub IsSetTo : ℕ → ℕ → BTreeSet ℕ → BTreeSet ℕ → Type 0
IsSetTo id n old new = (x : ℕ) → has new x ≡ (if x == id then n else has old x)

-- the bytes are one page, within the limits or not
pub record IsOnePage (h : TreeHead) (id : ℕ) (bytes : List ℕ) (within : Bool) : Type 0 where
  pub page : Page
  pub is : IsPage id bytes page
  pub only : (p : Page) → IsPage id bytes p → p ≡ page
  pub inside : within ≡ true → IsWithin h id (Some page)
  pub outside : within ≡ false → IsWithin h id (Some page) → ⊥

-- the bytes were told to be one page, within the limits or not, or none
abbrev pub IsJudged : TreeHead → ℕ → List ℕ → Option Bool → Type 0
IsJudged h id bytes None = (p : Page) → IsPage id bytes p → ⊥
IsJudged h id bytes (Some within) = IsOnePage h id bytes within

-- what a key that is held was found to be
abbrev pub IsFound : TreeHead → Bool → Map → List ℕ → Found → Type 0
IsFound h index m key (found_page id within) = IsGiven h id × (key ≡ key_of id) × ((bytes : List ℕ) → m key ≡ Some bytes → IsOnePage h id bytes within)
IsFound h index m key Column = (index ≡ true) × (key ≡ column) × ((id : ℕ) → IsGiven h id → key ≡ key_of id → ⊥)
IsFound h index m key Nothing = (bytes : List ℕ) → m key ≡ Some bytes → IsPageAt h key bytes ⊎ ((index ≡ true) × (key ≡ column)) → ⊥

abbrev pub IsFoundAt : TreeHead → Bool → List ℕ → Found → Stored → Type 0
IsFoundAt h index key found m = IsFound h index (get m) key found

-- what was found is noted, or can't be
abbrev pub IsNoted : Found → Bool → Collected → Collected → Type 0
IsNoted (found_page id inside) b old new = (b ≡ true) × IsSetTo id 1 old.ids new.ids × (new.within ≡ (old.within && inside))
IsNoted Column b old new = (b ≡ true) × (new.ids ≡ old.ids) × (new.within ≡ old.within)
IsNoted Nothing b old new = b ≡ false

-- the ids are those of all pages, and all pages are within the limits or not
pub record IsCollected (h : TreeHead) (m : Map) (ids : BTreeSet ℕ) (within : Bool) (pages : PageMap) : Type 0 where
  pub all : (id : ℕ) → has ids id ≡ held pages id
  pub inside : within ≡ true → B5 h pages
  pub outside : within ≡ false → B5 h pages → ⊥
