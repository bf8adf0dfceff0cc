-- Ways whose nodes are held, before and behind the writes along them, and what stands beside the leaf that they lead to.
use Rattle.std.proofs.Common.{◌≡◌, ℕ, ◌+◌, ◌≤◌, List, [], ◌∷◌, ◌++◌, Some, None, length, map, refl, sym, ap, ◌∙◌, subst, arith, length-append}
use Rattle.std.proofs.lemmas.List.{length-map}
use Rattle.std.specs.List.{AllByRecursion}
use Rattle.bt_page.specs.declared.page.Leaf.{Leaf}
use Rattle.bt_page.specs.declared.page.Node.{Node}
use Rattle.bt_rows.specs.declared.page.LeafAt.{LeafAt}
use Rattle.bt_rows.specs.declared.page.Page.TheVariants.{Leaf as leaf_page, Node as node_page}
use Rattle.bt_rows.specs.declared.page.Slot.{Slot}
use Rattle.bt_rows.specs.Orders.{Before}
use Rattle.bt_rows.specs.Pages.{PageMap}
use Rattle.bt_rows.specs.Rows.{root_slot, entry_slot, last_id}
use Rattle.bt_rows.specs.Levels.{NodeAt, node_slot, LeadsUp, LevelsHeld, LeavesHeld, Stands}
use Rattle.bt_ways.specs.Climbs.{IsHeldWay}
use Rattle.bt_ways.specs.Ways.{Crumb, Found, rows_of, path_of}
use Rattle.bt_ways.specs.Writes.{drop_at, put_at}
use Rattle.bt_ways.proofs.Climbing.{SameStep, same_step, held_in_row}
use Rattle.bt_ways.proofs.Counts.{Drops, Puts, drops, puts}
use Rattle.bt_ways.proofs.Growing.{above_held, above_once}
use Rattle.bt_ways.proofs.Halves.{half_of}
use Rattle.bt_ways.proofs.Links.{first_or}
use Rattle.bt_ways.proofs.Parting.{half_way}
use Rattle.bt_ways.proofs.Removing.{cut_above, cut_once}
use Rattle.bt_ways.proofs.RemovingLinks.{here_held, links_are}
use Rattle.bt_ways.proofs.Rows.{leaves_part}

-- ---- the lowest node of a way

-- it is held, and has the place that the way goes on from
pub way_node : (pages : PageMap) (root id place : ℕ) (path : List (ℕ × ℕ)) (cs : List Crumb) (s : Slot) → (id, place) ∷ path ≡ path_of cs → IsHeldWay pages root cs s → (n : Node) × (pages id ≡ Some (node_page n)) × (place ≤ length n.entries)
way_node pages root id place path [] s e w = absurd (cc)
way_node pages root id place path (c ∷ cs) s e w =
    let step : SameStep c cs id place path = same_step c cs id place path e in (
      c.node.node,
      ap pages step.step_id ∙ held_in_row pages c (rows_of cs) w.nodes,
      omega (arith, step.step_place, ap length w.leads.0, length-append c.a (s ∷ c.b), length-map c.node.node.entries entry_slot),
    )

-- the way above it, as far as it is held
pub record WayAbove (pages : PageMap) (root : ℕ) (path : List (ℕ × ℕ)) : Type 0 where
  pub crumbs : List Crumb
  pub place : Slot
  pub along : path ≡ path_of crumbs
  pub way : IsHeldWay pages root crumbs place

-- once it is cut in two
pub way_parted : (old : PageMap) (root id place second : ℕ) (path : List (ℕ × ℕ)) (left right : Node) (cs : List Crumb) (s : Slot) → (id, place) ∷ path ≡ path_of cs → IsHeldWay old root cs s → old second ≡ None
    → WayAbove (put_at id (node_page left) (put_at second (node_page right) old)) root path
way_parted old root id place second path left right [] s e w fresh = absurd (cc)
way_parted old root id place second path left right (c ∷ cs) s e w fresh =
    let step : SameStep c cs id place path = same_step c cs id place path e in
    let middle : PageMap = put_at second (node_page right) old in
    let low : PageMap = put_at id (node_page left) middle in
    let put : Puts middle low c.node.slot.id (node_page left) = subst (λ i. Puts middle low i (node_page left)) step.step_id (puts id (node_page left) middle) in
    record {
      crumbs = cs;
      place = c.node.slot;
      along = step.rest;
      way = record {
        leads = w.leads.3;
        nodes = above_held old middle low (rows_of cs) c.left c.right c.node left right [] second w.nodes w.once fresh (puts second (node_page right) old) put;
        once = above_once old middle low (rows_of cs) c.left c.right c.node left right [] second w.nodes w.once fresh (puts second (node_page right) old) put;
      };
    }

-- and its nodes are as they were
rows_same : (old new : PageMap) (cs : List Crumb) → LevelsHeld old (rows_of cs) → LevelsHeld new (rows_of cs) → AllByRecursion (λ (step : ℕ × ℕ). new step.0 ≡ old step.0) (path_of cs)
rows_same old new [] h k = tt
rows_same old new (c ∷ cs) h k = (held_in_row new c (rows_of cs) k ∙ sym (held_in_row old c (rows_of cs) h), rows_same old new cs h.1 k.1)

pub way_same : (old : PageMap) (root id place second : ℕ) (path : List (ℕ × ℕ)) (left right : Node) (cs : List Crumb) (s : Slot) → (id, place) ∷ path ≡ path_of cs → IsHeldWay old root cs s → old second ≡ None
    → AllByRecursion (λ (step : ℕ × ℕ). put_at id (node_page left) (put_at second (node_page right) old) step.0 ≡ old step.0) path
way_same old root id place second path left right [] s e w fresh = absurd (cc)
way_same old root id place second path left right (c ∷ cs) s e w fresh =
    let step : SameStep c cs id place path = same_step c cs id place path e in
    let middle : PageMap = put_at second (node_page right) old in
    let low : PageMap = put_at id (node_page left) middle in
    let put : Puts middle low c.node.slot.id (node_page left) = subst (λ i. Puts middle low i (node_page left)) step.step_id (puts id (node_page left) middle) in
    let above : LevelsHeld low (rows_of cs) = above_held old middle low (rows_of cs) c.left c.right c.node left right [] second w.nodes w.once fresh (puts second (node_page right) old) put in
    subst (λ (p : List (ℕ × ℕ)). AllByRecursion (λ (step : ℕ × ℕ). low step.0 ≡ old step.0) p) (sym step.rest) (rows_same old low cs w.nodes.1 above)

-- once it is dropped
pub way_dropped : (old : PageMap) (root id place : ℕ) (path : List (ℕ × ℕ)) (cs : List Crumb) (s : Slot) → (id, place) ∷ path ≡ path_of cs → IsHeldWay old root cs s → WayAbove (drop_at id old) root path
way_dropped old root id place path [] s e w = absurd (cc)
way_dropped old root id place path (c ∷ cs) s e w =
    let step : SameStep c cs id place path = same_step c cs id place path e in
    let gone : Drops old (drop_at id old) c.node.slot.id = subst (λ i. Drops old (drop_at id old) i) step.step_id (drops id old) in
    record {
      crumbs = cs;
      place = c.node.slot;
      along = step.rest;
      way = record {
        leads = w.leads.3;
        nodes = cut_above old (drop_at id old) (rows_of cs) c.left c.right c.node w.nodes w.once gone;
        once = cut_once old (drop_at id old) (rows_of cs) c.left c.right c.node w.nodes w.once gone;
      };
    }

-- ---- the leaf that a way leads to

module _ (before : Before) (pages : PageMap) (root : ℕ) (key : List ℕ) (leaves : List LeafAt) (levels : List (List NodeAt)) (path : List (ℕ × ℕ)) (id : ℕ) (st : Stands before pages root leaves levels) (f : Found before root key leaves levels path id) where
  around : Stands before pages root (f.front ++ f.leaf ∷ f.back) levels
  around = subst (λ (t : List LeafAt). Stands before pages root t levels) f.parts st

  pub found_way : IsHeldWay pages root f.crumbs f.leaf.slot
  found_way = half_way before pages root key leaves leaves levels path id f (half_of before pages root leaves levels st)

  pub found_page : pages id ≡ Some (leaf_page f.leaf.leaf)
  found_page = ap pages (sym f.is) ∙ here_held pages f.front f.leaf f.back around.leaves_held

  -- where it names one before it, a leaf stands there
  pub before_there : pages 0 ≡ None → (f.leaf.leaf.prev ≡ 0 → ⊥) → (l : Leaf) × (pages f.leaf.leaf.prev ≡ Some (leaf_page l))
  before_there none some = go f.front refl
    where
      last_there : (x : LeafAt) (xs : List LeafAt) → LeavesHeld pages (x ∷ xs) → (l : Leaf) × (pages (last_id x.slot.id xs) ≡ Some (leaf_page l))
      last_there x [] h = (x.leaf, h.0)
      last_there x (y ∷ ys) h = last_there y ys h.1

      links : (f.leaf.leaf.prev ≡ last_id 0 f.front) × (f.leaf.leaf.next ≡ first_or f.back 0)
      links = links_are pages f.front f.leaf f.back around.leaves_held around.links none

      go : (xs : List LeafAt) → f.front ≡ xs → (l : Leaf) × (pages f.leaf.leaf.prev ≡ Some (leaf_page l))
      go [] is = absurd (some (links.0 ∙ ap (last_id 0) is))
      go (x ∷ xs) is =
          let there = last_there x xs (subst (λ (t : List LeafAt). LeavesHeld pages t) is (leaves_part pages f.front (f.leaf ∷ f.back) around.leaves_held).0) in
          (there.0, ap pages (links.0 ∙ ap (last_id 0) is) ∙ there.1)

  -- and where it names one behind it
  pub behind_there : pages 0 ≡ None → (f.leaf.leaf.next ≡ 0 → ⊥) → (l : Leaf) × (pages f.leaf.leaf.next ≡ Some (leaf_page l))
  behind_there none some = go f.back refl
    where
      links : (f.leaf.leaf.prev ≡ last_id 0 f.front) × (f.leaf.leaf.next ≡ first_or f.back 0)
      links = links_are pages f.front f.leaf f.back around.leaves_held around.links none

      go : (xs : List LeafAt) → f.back ≡ xs → (l : Leaf) × (pages f.leaf.leaf.next ≡ Some (leaf_page l))
      go [] is = absurd (some (links.1 ∙ ap (λ (t : List LeafAt). first_or t 0) is))
      go (x ∷ xs) is =
          let there : LeavesHeld pages (x ∷ xs) = subst (λ (t : List LeafAt). LeavesHeld pages t) is (leaves_part pages f.front (f.leaf ∷ f.back) around.leaves_held).1.1 in
          (x.leaf, ap pages (links.1 ∙ ap (λ (t : List LeafAt). first_or t 0) is) ∙ there.0)

-- ---- the root

-- where there are nodes, it is one
pub root_node : (pages : PageMap) (root : ℕ) (L : List NodeAt) (Ls : List (List NodeAt)) (slots : List Slot) → LeadsUp root (L ∷ Ls) slots → LevelsHeld pages (L ∷ Ls) → (n : Node) × (pages root ≡ Some (node_page n))
root_node pages root [] [] slots up h = absurd (none up.1)
  where
    none : [] ≡ root_slot root ∷ [] → ⊥
    none e = cc
root_node pages root (t ∷ L) [] slots up h =
    let top : t.slot ≡ root_slot root = head (map node_slot L) up.1 in
    (t.node, ap (λ (x : Slot). pages x.id) (sym top) ∙ h.0.0)
  where
    head : (rest : List Slot) → t.slot ∷ rest ≡ root_slot root ∷ [] → t.slot ≡ root_slot root
    head rest e = cc
root_node pages root L (M ∷ Ls) slots up h = root_node pages root M Ls (map node_slot L) up.1 h.1
