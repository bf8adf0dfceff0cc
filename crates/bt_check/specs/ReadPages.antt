-- Pages as they are read.
use Rattle.std.specs.Prelude.{◌≡◌, ℕ, List, Option, Some, None, ⊤, option_map}
use Rattle.std.specs.FinMap.{get}
use Rattle.tc_base.specs.Maps.{Map as Stored}
use Rattle.bt_page.specs.Keys.{key_of}
use Rattle.bt_rows.specs.declared.head.TreeHead.{TreeHead}
use Rattle.bt_page.specs.declared.page.Leaf.{Leaf}
use Rattle.bt_page.specs.declared.page.Node.{Node}
use Rattle.bt_rows.specs.declared.page.Page.{Page}
use Rattle.bt_rows.specs.declared.page.Page.TheVariants.{Leaf as leaf_page, Node as node_page}
use Rattle.bt_rows.specs.Pages.{AreHeld, IsPage, PageMap}

-- the bytes are that page and no other, or none
abbrev pub IsParsed : ℕ → List ℕ → Option Page → Type 0
IsParsed id bytes None = (p : Page) → IsPage id bytes p → ⊥
IsParsed id bytes (Some p) = IsPage id bytes p × ((q : Page) → IsPage id bytes q → q ≡ p)

-- a leaf or a node as a page
abbrev pub leaf_or_none : Option Leaf → Option Page
leaf_or_none leaf = option_map (λ l. leaf_page l) leaf

abbrev pub node_or_none : Option Node → Option Page
node_or_none node = option_map (λ n. node_page n) node

-- what stands under the key of an id is that page, or none
abbrev pub IsReadAs : ℕ → Option (List ℕ) → Option Page → Type 0
IsReadAs id None None = ⊤
IsReadAs id None (Some p) = ⊥
IsReadAs id (Some bytes) p = IsParsed id bytes p

abbrev pub IsReadOf : ℕ → Option Page → Stored → Type 0
IsReadOf id p m = IsReadAs id (get m (key_of id)) p

-- it is so of the pages that a map holds
abbrev pub OfPages : Stored → (PageMap → Type 0) → Type 0
OfPages m Is = (h : TreeHead) (pages : PageMap) → AreHeld h (get m) pages → Is pages
