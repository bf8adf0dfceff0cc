-- Pages of a tree in the store.
use Rattle.std.proofs.Common.{◌≡◌, ℕ, List, ◌∷◌, Option, Some, None, sym, ap, ◌∙◌, subst, ⊎_elim, arith}
use Rattle.std.specs.FinMap.{get}
use Rattle.tc_base.specs.Maps.{Map}
use Rattle.bt_page.specs.Keys.{key_of}
use Rattle.bt_rows.specs.declared.head.TreeHead.{TreeHead}
use Rattle.bt_rows.specs.declared.page.LeafAt.{LeafAt}
use Rattle.bt_rows.specs.declared.page.Page.{Page}
use Rattle.bt_rows.specs.declared.page.Page.TheVariants.{Leaf as leaf_page}
use Rattle.bt_rows.specs.Orders.{Before}
use Rattle.bt_rows.specs.Pages.{PageMap, IsGiven, IsHeldAs, AreHeld}
use Rattle.bt_rows.specs.Rules.{B1}
use Rattle.bt_rows.specs.Levels.{NodeAt, LeavesHeld, Stands}
use Rattle.bt_rows.proofs.Held.{given_small, decided}
use Rattle.bt_cache.specs.Held.{HasPage}
use Rattle.bt_ways.specs.Ways.{Found}
use Rattle.bt_ways.proofs.Rows.{leaves_part}

none_some : (p : Page) → None ≡ Some p → ⊥
none_some p e = cc

-- a page of the map is the store's
pub has_page : (h : TreeHead) (m : Map) (pages : PageMap) (id : ℕ) (p : Page) → B1 h → AreHeld h (get m) pages → pages id ≡ Some p → HasPage m id p
has_page h m pages id p head held is =
    ⊎_elim
    (λ (given : IsGiven h id). record { fits = omega (arith, given_small h id head given); page = subst (λ (o : Option Page). IsHeldAs id (get m (key_of id)) o) is (held.given id given) })
    (λ (other : IsGiven h id → ⊥). absurd (none_some p (sym (held.others id other) ∙ is)))
    (decided h id)

-- the leaf that was found is held
pub found_leaf : (before : Before) (pages : PageMap) (root : ℕ) (key : List ℕ) (leaves : List LeafAt) (levels : List (List NodeAt)) (path : List (ℕ × ℕ)) (id : ℕ)
    → Stands before pages root leaves levels → (f : Found before root key leaves levels path id) → pages id ≡ Some (leaf_page f.leaf.leaf)
found_leaf before pages root key leaves levels path id st f =
    ap pages (sym f.is) ∙ (leaves_part pages f.front (f.leaf ∷ f.back) (subst (λ (t : List LeafAt). LeavesHeld pages t) f.parts st.leaves_held)).1.0
