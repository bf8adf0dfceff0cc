-- The way down to a key.
use Rattle.std.proofs.Common.{◌≡◌, ◌≢◌, ℕ, zero, suc, ◌+◌, ◌<◌, ◌≤◌, List, [], ◌∷◌, ◌++◌, Option, Some, None, length, map, refl, sym, ap, ◌∙◌, subst, arith}
use Rattle.std.specs.Prelude.{⊤}
use Rattle.bt_page.specs.declared.page.NodeEntry.{NodeEntry}
use Rattle.bt_page.specs.declared.page.Node.{Node}
use Rattle.bt_rows.specs.declared.page.LeafAt.{LeafAt}
use Rattle.bt_rows.specs.declared.page.Page.TheVariants.{Node as node_page}
use Rattle.bt_rows.specs.declared.page.Slot.{Slot}
use Rattle.bt_rows.specs.Orders.{Before}
use Rattle.bt_rows.specs.Pages.{PageMap}
use Rattle.bt_rows.specs.Rows.{root_slot, entry_slot}
use Rattle.bt_rows.specs.Rules.{AtLeast, Under}
use Rattle.bt_rows.specs.Levels.{NodeAt, leaf_slot, node_slot, all_children, LeadsDown, NodesHeld, LevelsHeld, Stands}
use Rattle.bt_ways.specs.Searches.{IsRoute, child_at}
use Rattle.bt_ways.specs.Ways.{Crumb, row_of, rows_of, front_of, back_of, Leads, path_of, IsBehind, Found, node_children}
use Rattle.bt_ways.proofs.Rows.{turned, turn, turned_twice, length-turned, nil_end, levels_turn, nodes_part, Part, part_at, same_node, children_around}

-- on the way down: rows above with the way through them, rows still below, lowest last
pub record Walk (before : Before) (pages : PageMap) (root : ℕ) (key : List ℕ) (levels : List (List NodeAt)) (bottom : List Slot) (path : List (ℕ × ℕ)) (id todo : ℕ) : Type 0 where
  pub crumbs : List Crumb
  pub lowers : List (List NodeAt)
  pub s : Slot
  pub is : s.id ≡ id
  pub left_to_go : length lowers ≡ todo
  pub along : path ≡ path_of crumbs
  pub leads : Leads root crumbs s
  pub down : LeadsDown lowers (front_of crumbs ++ s ∷ back_of crumbs) bottom
  pub held : LevelsHeld pages lowers
  pub whole : turned lowers (rows_of crumbs) ≡ levels
  pub low : AtLeast before s.bound key
  pub high : IsBehind before key (back_of crumbs)

-- what a route finds among the places of a node
record Routed (before : Before) (key : List ℕ) (slots : List Slot) (place child : ℕ) : Type 0 where
  a : List Slot
  s : Slot
  b : List Slot
  parts : slots ≡ a ++ s ∷ b
  at : length a ≡ place
  is : s.id ≡ child
  low : AtLeast before s.bound key
  high : IsBehind before key b

routed : (before : Before) (key : List ℕ) (bound : Option (List ℕ)) (heir : ℕ) (entries : List NodeEntry) (place : ℕ) → AtLeast before bound key → IsRoute before entries key place
    → Routed before key (record { bound = bound; id = heir } ∷ map entry_slot entries) place (child_at heir entries place)
routed before key bound heir [] zero low r = record { a = []; s = record { bound = bound; id = heir }; b = []; parts = refl; at = refl; is = refl; low = low; high = tt }
routed before key bound heir (e ∷ es) zero low r = record { a = []; s = record { bound = bound; id = heir }; b = map entry_slot (e ∷ es); parts = refl; at = refl; is = refl; low = low; high = r.high e (omega arith) }
routed before key bound heir [] (suc i) low r = absurd (omega (arith, r.within))
routed before key bound heir (e ∷ es) (suc i) low r =
    let rest : Routed before key (record { bound = Some e.key; id = e.child } ∷ map entry_slot es) i (child_at e.child es i) =
    routed before key (Some e.key) e.child es i (r.low 0 e (omega arith))
    (record { within = omega (arith, r.within); low = λ j d lt. r.low (suc j) d (omega (arith, lt)); high = λ d lt. r.high d (omega (arith, lt)) }) in
    let first : Slot = record { bound = bound; id = heir } in
    record { a = first ∷ rest.a; s = rest.s; b = rest.b; parts = ap (λ (t : List Slot). first ∷ t) rest.parts; at = ap suc rest.at; is = rest.is; low = rest.low; high = rest.high }

head_on : (before : Before) (key : List ℕ) (b : List Slot) (right : List NodeAt) → IsBehind before key b → IsBehind before key (map node_slot right) → IsBehind before key (b ++ all_children right)
head_on before key [] [] h k = tt
head_on before key [] (r ∷ rs) h k = k
head_on before key (x ∷ b) right h k = h

-- it begins at the root, whatever order it goes by
pub walk_start : (before by : Before) (pages : PageMap) (root : ℕ) (key : List ℕ) (leaves : List LeafAt) (levels : List (List NodeAt)) → Stands before pages root leaves levels
    → Walk by pages root key levels (map leaf_slot leaves) [] root (length levels)
walk_start before by pages root key leaves levels st = record {
  crumbs = [];
  lowers = turned levels [];
  s = root_slot root;
  is = refl;
  left_to_go = length-turned levels [] ∙ omega arith;
  along = refl;
  leads = refl;
  down = turn root levels [] (map leaf_slot leaves) (map leaf_slot leaves) st.up refl;
  held = levels_turn pages levels [] st.nodes_held tt;
  whole = turned_twice levels [] [] ∙ nil_end levels;
  low = tt;
  high = tt;
}

-- the node that it stands at
pub record AtNode (pages : PageMap) (levels : List (List NodeAt)) (id : ℕ) : Type 0 where
  pub above : List (List NodeAt)
  pub left : List NodeAt
  pub at : NodeAt
  pub right : List NodeAt
  pub under : List (List NodeAt)
  pub level : levels ≡ above ++ (left ++ at ∷ right) ∷ under
  pub is : pages id ≡ Some (node_page at.node)

module _ (before : Before) (pages : PageMap) (root : ℕ) (key : List ℕ) (levels : List (List NodeAt)) (bottom : List Slot) (path : List (ℕ × ℕ)) (id todo : ℕ) (w : Walk before pages root key levels bottom path id (suc todo)) where
  pub walk_node : AtNode pages levels id
  walk_node = go w.lowers w.left_to_go w.held w.down w.whole
    where
      go : (lowers : List (List NodeAt)) → length lowers ≡ suc todo → LevelsHeld pages lowers → LeadsDown lowers (front_of w.crumbs ++ w.s ∷ back_of w.crumbs) bottom → turned lowers (rows_of w.crumbs) ≡ levels → AtNode pages levels id
      go [] len held down whole = absurd (omega (arith, len))
      go (L ∷ lowers) len held down whole =
          let p : Part node_slot L (front_of w.crumbs) w.s (back_of w.crumbs) = part_at node_slot L (front_of w.crumbs) w.s (back_of w.crumbs) down.0 in
          let h : NodesHeld pages (p.left ++ p.at ∷ p.right) = subst (λ (M : List NodeAt). NodesHeld pages M) p.level held.0 in
          let at : id ≡ p.at.slot.id = sym w.is ∙ ap (λ (x : Slot). x.id) (sym p.slot) in
          record {
            above = turned lowers [];
            left = p.left;
            at = p.at;
            right = p.right;
            under = rows_of w.crumbs;
            level = sym whole ∙ turned_onto lowers (L ∷ rows_of w.crumbs) ∙ ap (λ (M : List NodeAt). turned lowers [] ++ M ∷ rows_of w.crumbs) p.level;
            is = ap pages at ∙ (nodes_part pages p.left (p.at ∷ p.right) h).1.0;
          }
        where
          turned_onto : (xs ys : List (List NodeAt)) → turned xs ys ≡ turned xs [] ++ ys
          turned_onto xs ys = onto xs [] ys
            where
              onto : (xs zs ys : List (List NodeAt)) → turned xs (zs ++ ys) ≡ turned xs zs ++ ys
              onto [] zs ys = refl
              onto (x ∷ xs) zs ys = onto xs (x ∷ zs) ys

  -- one step down
  pub walk_step : (read : Node) (place : ℕ) → pages id ≡ Some (node_page read) → IsRoute before read.entries key place
      → Walk before pages root key levels bottom ((id, place) ∷ path) (child_at read.heir read.entries place) todo
  walk_step read place is route = go w.lowers w.left_to_go w.held w.down w.whole
    where
      go : (lowers : List (List NodeAt)) → length lowers ≡ suc todo → LevelsHeld pages lowers → LeadsDown lowers (front_of w.crumbs ++ w.s ∷ back_of w.crumbs) bottom → turned lowers (rows_of w.crumbs) ≡ levels
          → Walk before pages root key levels bottom ((id, place) ∷ path) (child_at read.heir read.entries place) todo
      go [] len held down whole = absurd (omega (arith, len))
      go (L ∷ lowers) len held down whole =
          let p : Part node_slot L (front_of w.crumbs) w.s (back_of w.crumbs) = part_at node_slot L (front_of w.crumbs) w.s (back_of w.crumbs) down.0 in
          let h : NodesHeld pages (p.left ++ p.at ∷ p.right) = subst (λ (M : List NodeAt). NodesHeld pages M) p.level held.0 in
          let at : id ≡ p.at.slot.id = sym w.is ∙ ap (λ (x : Slot). x.id) (sym p.slot) in
          let same : read ≡ p.at.node = same_node pages p.at id read (nodes_part pages p.left (p.at ∷ p.right) h).1.0 at is in
          let low : AtLeast before p.at.slot.bound key = subst (λ (x : Slot). AtLeast before x.bound key) (sym p.slot) w.low in
          let found : Routed before key (node_children p.at) place (child_at read.heir read.entries place) =
          subst (λ (n : Node). Routed before key (record { bound = p.at.slot.bound; id = n.heir } ∷ map entry_slot n.entries) place (child_at read.heir read.entries place)) same
          (routed before key p.at.slot.bound read.heir read.entries place low route) in
          let c : Crumb = record { left = p.left; node = p.at; right = p.right; a = found.a; b = found.b } in
          let row : all_children L ≡ (all_children p.left ++ found.a) ++ found.s ∷ (found.b ++ all_children p.right) = ap all_children p.level ∙ children_around p.left p.at p.right found.a found.s found.b found.parts in
          record {
            crumbs = c ∷ w.crumbs;
            lowers = lowers;
            s = found.s;
            is = found.is;
            left_to_go = omega (arith, len);
            along = pair_path id p.at.slot.id place (length found.a) path (path_of w.crumbs) at (sym found.at) w.along;
            leads = (found.parts, p.before, p.behind, subst (λ (x : Slot). Leads root w.crumbs x) (sym p.slot) w.leads);
            down = subst (λ (t : List Slot). LeadsDown lowers t bottom) row down.1;
            held = held.1;
            whole = ap (λ (M : List NodeAt). turned lowers (M ∷ rows_of w.crumbs)) (sym p.level) ∙ whole;
            low = found.low;
            high = head_on before key found.b p.right found.high (subst (λ (t : List Slot). IsBehind before key t) (sym p.behind) w.high);
          }
        where
          pair_path : (i j p q : ℕ) (t u : List (ℕ × ℕ)) → i ≡ j → p ≡ q → t ≡ u → (i, p) ∷ t ≡ (j, q) ∷ u
          pair_path i j p q t u e f g = ap (λ (x : ℕ). (x, p) ∷ t) e ∙ ap (λ (x : ℕ). (j, x) ∷ t) f ∙ ap (λ (x : List (ℕ × ℕ)). (j, q) ∷ x) g

-- it ends at a leaf
pub walk_end : (before : Before) (pages : PageMap) (root : ℕ) (key : List ℕ) (leaves : List LeafAt) (levels : List (List NodeAt)) (path : List (ℕ × ℕ)) (id : ℕ)
    → Walk before pages root key levels (map leaf_slot leaves) path id 0 → Found before root key leaves levels path id
walk_end before pages root key leaves levels path id w = go w.lowers w.left_to_go w.down w.whole
  where
    go : (lowers : List (List NodeAt)) → length lowers ≡ 0 → LeadsDown lowers (front_of w.crumbs ++ w.s ∷ back_of w.crumbs) (map leaf_slot leaves) → turned lowers (rows_of w.crumbs) ≡ levels
        → Found before root key leaves levels path id
    go (L ∷ lowers) len down whole = absurd (omega (arith, len))
    go [] len down whole =
        let p : Part leaf_slot leaves (front_of w.crumbs) w.s (back_of w.crumbs) = part_at leaf_slot leaves (front_of w.crumbs) w.s (back_of w.crumbs) (sym down) in
        record {
          crumbs = w.crumbs;
          front = p.left;
          leaf = p.at;
          back = p.right;
          is = ap (λ (x : Slot). x.id) p.slot ∙ w.is;
          along = w.along;
          leads = subst (λ (x : Slot). Leads root w.crumbs x) (sym p.slot) w.leads;
          whole = whole;
          parts = p.level;
          in_front = p.before;
          behind = p.behind;
          low = subst (λ (x : Slot). AtLeast before x.bound key) (sym p.slot) w.low;
          high = subst (λ (t : List Slot). IsBehind before key t) (sym p.behind) w.high;
        }
