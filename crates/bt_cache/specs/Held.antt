-- The pages that a cache holds beside a store. `Stores V S` are the members of the store, as one.
use Rattle.std.specs.Prelude.{◌≡◌, ℕ, ◌<◌, ◌^◌, List, ◌∷◌, Some, nat_eq}
use Rattle.std.specs.FinMap.{get}
use Rattle.std.specs.List.{AllByRecursion}
use Rattle.std.specs.Map.{keys_of, lookup}
use Rattle.lru.specs.LruCache.{LruCache}
use Rattle.tc_base.specs.Maps.{Map}
use Rattle.tc_space.specs.Frames.{In}
use Rattle.tc_space.specs.Stores.{IsReady}
use Rattle.tc_space.specs.declared.records.Records.{Ghosts as Stores}
use Rattle.tc_space.specs.declared.space.Space.{Ghosts}
use Rattle.bt_page.specs.Keys.{key_of}
use Rattle.bt_page.specs.declared.page.Leaf.{Leaf}
use Rattle.bt_rows.specs.declared.page.Page.{Page}
use Rattle.bt_rows.specs.declared.page.Page.TheVariants.{Leaf as leaf_page}
use Rattle.bt_rows.specs.Pages.{IsHeldAs}
use Rattle.bt_cache.specs.declared.cache.Cache.{Cache}
use Rattle.bt_cache.specs.declared.shared.SharedPage.{SharedPage}
use Rattle.bt_cache.specs.Ids.{used, without}
use Rattle.bt_cache.specs.Shared.{page_of}

-- by id, the latest used first, and how many there may be
abbrev pub Pages : Type 0
Pages = LruCache ℕ SharedPage

abbrev pub ids : Pages → List ℕ
ids c = keys_of c.entries

-- under the key of an id the map has the bytes of this page
pub record HasPage (m : Map) (id : ℕ) (p : Page) : Type 0 where
  pub fits : id < 2 ^ 64
  pub page : IsHeldAs id (get m (key_of id)) (Some p)

-- each page is the map's
abbrev pub AreSame : Map → List (ℕ × SharedPage) → Type 0
AreSame m es = AllByRecursion (λ e. HasPage m e.0 (page_of e.1)) es

-- a store holds this map
abbrev pub Holds : {S V : Type 0} → Ghosts S → Stores V S → V → S → Map → Type 0
Holds s R v space m = In s R.file_of R.holds v space m

-- and each page of the cache beside it is the map's
abbrev pub Beside : {S V : Type 0} → Ghosts S → Stores V S → Pages × V → S → Map → Type 0
Beside s R x space m = Holds s R x.1 space m × AreSame m x.0.entries

module _ {S V : Type 0} (s : Ghosts S) (R : Stores V S) where
  -- it may be called
  abbrev pub ReadyBeside : Cache V → V → S → Type 0
  ReadyBeside c v space = IsReady s (Beside s R) (c.pages, v) space

  -- where files are told, the store has such a page under an id
  abbrev pub IsThere : (Page → Type 0) → ℕ → Cache V → V → S → Type 0
  IsThere Sort id c v space = s.tells → (m : Map) × (p : Page) × Beside s R (c.pages, v) space m × HasPage m id p × Sort p

  -- where the map has a page of this sort under an id, it is this one
  abbrev pub ReadsAs : {X : Type 0} → (X → Page) → ℕ → Cache V → V → S → X → Type 0
  ReadsAs {X} page id c v space x = (m : Map) (y : X) → Beside s R (c.pages, v) space m → HasPage m id (page y) → x ≡ y

-- this leaf is held under an id
pub record HoldsLeaf (id : ℕ) (l : Leaf) (c : Pages) : Type 0 where
  pub page : SharedPage
  pub there : lookup (nat_eq id) c.entries ≡ Some page
  pub is : page_of page ≡ leaf_page l

-- ---- the list of those that are held

-- an id is in front, as the one used last
abbrev pub IsUsed : {V : Type 0} → ℕ → Cache V → Cache V → Type 0
IsUsed id old new = ids new.pages ≡ used old.pages.cap id (ids old.pages)

abbrev pub IsFirst : {V : Type 0} → ℕ → Cache V → Type 0
IsFirst id c = (rest : List ℕ) × (ids c.pages ≡ id ∷ rest)

-- an id is gone
abbrev pub IsWithout : {V : Type 0} → ℕ → Cache V → Cache V → Type 0
IsWithout id old new = ids new.pages ≡ without id (ids old.pages)
