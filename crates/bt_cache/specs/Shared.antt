-- Pages that are held in more than one place.
use Rattle.std.specs.Prelude.{◌≡◌, ⊤}
use Rattle.bt_page.specs.declared.page.Leaf.{Leaf}
use Rattle.bt_page.specs.declared.page.Node.{Node}
use Rattle.bt_rows.specs.declared.page.Page.{Page}
use Rattle.bt_rows.specs.declared.page.Page.TheVariants.{Leaf as leaf_page, Node as node_page}
use Rattle.bt_cache.specs.declared.shared.SharedPage.{SharedPage}
use Rattle.bt_cache.specs.declared.shared.SharedPage.TheVariants.{Leaf as shared_leaf, Node as shared_node}

abbrev pub page_of : SharedPage → Page
page_of (shared_leaf l) = leaf_page l
page_of (shared_node n) = node_page n.value

-- where the page is a leaf, it is this one
abbrev pub IsLeaf : Page → Leaf → Type 0
IsLeaf p l = (k : Leaf) → p ≡ leaf_page k → l ≡ k

abbrev pub IsNode : Page → Node → Type 0
IsNode p n = (k : Node) → p ≡ node_page k → n ≡ k

-- ---- sorts of pages

abbrev pub IsAny : Page → Type 0
IsAny p = ⊤

abbrev pub IsSomeLeaf : Page → Type 0
IsSomeLeaf p = (l : Leaf) × (p ≡ leaf_page l)

abbrev pub IsSomeNode : Page → Type 0
IsSomeNode p = (n : Node) × (p ≡ node_page n)
