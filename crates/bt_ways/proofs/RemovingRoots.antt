-- A root that gives way to its heir, and the only leaf once it is empty.
use Rattle.std.proofs.Common.{◌≡◌, ℕ, suc, ◌+◌, ◌<◌, List, [], ◌∷◌, ◌++◌, Some, None, length, map, refl, sym, ap, ◌∙◌, subst, ⊎_elim, arith}
use Rattle.std.proofs.lemmas.Bool.{cases_eq}
use Rattle.bt_page.specs.declared.page.NodeEntry.{NodeEntry}
use Rattle.bt_page.specs.declared.page.Leaf.{Leaf}
use Rattle.bt_page.specs.declared.page.Node.{Node}
use Rattle.bt_rows.specs.declared.page.LeafAt.{LeafAt}
use Rattle.bt_rows.specs.declared.page.Page.TheVariants.{Leaf as leaf_page, Node as node_page}
use Rattle.bt_rows.specs.declared.page.Slot.{Slot}
use Rattle.bt_rows.specs.Pages.{PageMap}
use Rattle.bt_rows.specs.Rows.{root_slot, entry_slot, children_of, times, held}
use Rattle.bt_rows.specs.Levels.{NodeAt, leaf_slot, node_slot, all_children, LeadsUp, level_times, LevelsHeld, LeavesHeld, Stands}
use Rattle.bt_rows.proofs.Building.{held_most}
use Rattle.bt_ways.specs.Removals.{OnlyLeafEmpties, RootGivesWay, no_items, without_way}
use Rattle.bt_ways.specs.Ways.{Crumb, row_of, rows_of, front_of, back_of, Leads, path_of}
use Rattle.bt_ways.specs.Writes.{put_at, drop_at}
use Rattle.bt_ways.proofs.Counts.{times_around, times_one, times_none, held_some, held_none, held_same, levels_frame, leaves_frame, puts, drops}
use Rattle.bt_ways.proofs.RemovingLinks.{none_back, none_front}

-- ---- the root gives way

-- the rows below the highest, which is the root's
record BelowRoot (pages : PageMap) (root heir : ℕ) (levels : List (List NodeAt)) (slots : List Slot) : Type 0 where
  rows : List (List NodeAt)
  up : LeadsUp heir rows slots
  held_rows : LevelsHeld pages rows
  count : (id : ℕ) → level_times id levels ≡ level_times id rows + times id (root_slot root ∷ [])
  one : length levels ≡ suc (length rows)

node_same : (n m : Node) → Some (node_page n) ≡ Some (node_page m) → n ≡ m
node_same n m e = cc

leaf_node : (l : Leaf) (n : Node) → Some (leaf_page l) ≡ Some (node_page n) → ⊥
leaf_node l n e = cc

module _ (pages : PageMap) (root : ℕ) (n : Node) (is : pages root ≡ Some (node_page n)) (none : n.entries ≡ []) where
  below_root : (L : List NodeAt) (Ls : List (List NodeAt)) (slots : List Slot) → LeadsUp root (L ∷ Ls) slots → LevelsHeld pages (L ∷ Ls) → BelowRoot pages root n.heir (L ∷ Ls) slots
  below_root [] [] slots up h = absurd (empty up.1)
    where
      empty : [] ≡ root_slot root ∷ [] → ⊥
      empty e = cc
  below_root (t ∷ []) [] slots up h =
      let top : t.slot ≡ root_slot root = cc up.1 in
      let same : t.node ≡ n = node_same t.node n (sym h.0.0 ∙ ap (λ (s : Slot). pages s.id) top ∙ is) in
      record {
        rows = [];
        up = up.0 ∙ ap (λ (s : Slot). children_of s.bound t.node ++ []) top ∙ ap (λ (m : Node). children_of None m ++ []) same
            ∙ ap (λ (es : List NodeEntry). (root_slot n.heir ∷ map entry_slot es) ++ []) none;
        held_rows = tt;
        count = λ id. omega (arith, ap (λ (s : Slot). times id (s ∷ [])) top);
        one = omega arith;
      }
  below_root (t ∷ u ∷ L) [] slots up h = absurd (two up.1)
    where
      two : t.slot ∷ u.slot ∷ map node_slot L ≡ root_slot root ∷ [] → ⊥
      two e = cc
  below_root L (M ∷ Ls) slots up h =
      let rest : BelowRoot pages root n.heir (M ∷ Ls) (map node_slot L) = below_root M Ls (map node_slot L) up.1 h.1 in
      record { rows = L ∷ rest.rows; up = (up.0, rest.up); held_rows = (h.0, rest.held_rows); count = λ id. omega (arith, rest.count id); one = omega (arith, rest.one) }

  -- some row is above the leaves
  root_below : (leaves : List LeafAt) (levels : List (List NodeAt)) → LeadsUp root levels (map leaf_slot leaves) → LevelsHeld pages levels → LeavesHeld pages leaves → BelowRoot pages root n.heir levels (map leaf_slot leaves)
  root_below leaves (L ∷ Ls) up h v = below_root L Ls (map leaf_slot leaves) up h
  root_below [] [] up h v = absurd (empty up)
    where
      empty : [] ≡ root_slot root ∷ [] → ⊥
      empty e = cc
  root_below (l ∷ ls) [] up h v =
      let top : l.slot ≡ root_slot root = cc up in
      absurd (leaf_node l.leaf n (sym v.0 ∙ ap (λ (s : Slot). pages s.id) top ∙ is))

pub root_gives_way : RootGivesWay
root_gives_way before pages root leaves levels n st is none =
    let b : BelowRoot pages root n.heir levels (map leaf_slot leaves) = root_below pages root n is none leaves levels st.up st.nodes_held st.leaves_held in
    let count : (j : ℕ) → times j (map leaf_slot leaves) + (level_times j b.rows + times j (root_slot root ∷ [])) ≡ held pages j = λ j. omega (arith, st.once j, b.count j) in
    let other : (j : ℕ) → 0 < times j (map leaf_slot leaves) + level_times j b.rows → drop_at root pages j ≡ pages j =
    λ j lt. (drops root pages).others j (λ e. absurd (omega (arith, lt, count j, held_most pages j, times_one j (root_slot root) (sym e)))) in (
      b.rows,
      record {
        up = b.up;
        leaves_held = leaves_frame pages (drop_at root pages) leaves (λ j lt. other j (omega (arith, lt))) st.leaves_held;
        nodes_held = levels_frame pages (drop_at root pages) b.rows (λ j lt. other j (omega (arith, lt))) b.held_rows;
        once = λ j. ⊎_elim
            (λ (e : j ≡ root). omega (arith, count j, held_most pages j, times_one j (root_slot root) (sym e), subst (λ k. held (drop_at root pages) k ≡ 0) (sym e) (held_none (drop_at root pages) root (drops root pages).gone)))
            (λ (ne : j ≡ root → ⊥). omega (arith, count j, times_none j (root_slot root) (λ e. ne (sym e)), held_same pages (drop_at root pages) j ((drops root pages).others j ne)))
            (cases_eq j root);
        order = st.order;
        links = st.links;
      },
      b.one,
    )

-- ---- the only leaf

no_nodes : (L : List NodeAt) (a : List Slot) → [] ≡ all_children L ++ a → (L ≡ []) × (a ≡ [])
no_nodes [] a e = (refl, sym e)
no_nodes (n ∷ L) a e = absurd (cc)

no_places : (a : List Slot) (L : List NodeAt) → [] ≡ a ++ all_children L → (a ≡ []) × (L ≡ [])
no_places [] [] e = (refl, refl)
no_places [] (n ∷ L) e = absurd (cc)
no_places (x ∷ a) L e = absurd (cc)

-- where nothing stands beside a way and no page is held but its nodes, none is left without them
way_gone : (root : ℕ) (cs : List Crumb) (s : Slot) (pages : PageMap) (j : ℕ) → Leads root cs s → [] ≡ front_of cs → [] ≡ back_of cs → held pages j ≡ level_times j (rows_of cs) → held (without_way (path_of cs) pages) j ≡ 0
way_gone root [] s pages j l f b h = h
way_gone root (c ∷ cs) s pages j l f b h =
    let first = no_nodes c.left c.a f in
    let last = no_places c.b c.right b in
    let row : times j (map node_slot (row_of c)) ≡ times j (c.node.slot ∷ []) =
    omega (arith, times_around node_slot j c.left c.right c.node, ap (λ (t : List NodeAt). times j (map node_slot t)) first.0, ap (λ (t : List NodeAt). times j (map node_slot t)) last.1) in
    let low : PageMap = drop_at c.node.slot.id pages in
    let left : held low j ≡ level_times j (rows_of cs) = ⊎_elim
    (λ (e : j ≡ c.node.slot.id). omega (arith, h, row, held_most pages j, times_one j c.node.slot (sym e), subst (λ k. held low k ≡ 0) (sym e) (held_none low c.node.slot.id (drops c.node.slot.id pages).gone)))
    (λ (ne : j ≡ c.node.slot.id → ⊥). omega (arith, h, row, times_none j c.node.slot (λ e. ne (sym e)), held_same pages low j ((drops c.node.slot.id pages).others j ne)))
    (cases_eq j c.node.slot.id) in
    way_gone root cs c.node.slot low j l.3 (ap (λ (t : List NodeAt). map node_slot t) (sym first.0) ∙ l.1) (ap (λ (t : List NodeAt). map node_slot t) (sym last.1) ∙ l.2) left

pub only_leaf_empties : OnlyLeafEmpties
only_leaf_empties before pages root key leaves levels path id st f none alone =
    let whole : Stands before pages root (f.front ++ f.leaf ∷ f.back) levels = subst (λ (t : List LeafAt). Stands before pages root t levels) f.parts st in
    let front : f.front ≡ [] = none_front pages f.front f.leaf f.back whole.leaves_held whole.links none alone.0 in
    let back : f.back ≡ [] = none_back pages f.front f.leaf f.back whole.leaves_held whole.links none alone.1 in
    let low : PageMap = without_way path pages in
    let count : (j : ℕ) → times j (f.leaf.slot ∷ []) + level_times j (rows_of f.crumbs) ≡ held pages j =
    λ j. omega (
      arith,
      whole.once j,
      times_around leaf_slot j f.front f.back f.leaf,
      ap (λ (t : List LeafAt). times j (map leaf_slot t)) front,
      ap (λ (t : List LeafAt). times j (map leaf_slot t)) back,
      ap (λ (t : List (List NodeAt)). level_times j t) f.whole,
    ) in
    let gone : (j : ℕ) → (j ≡ id → ⊥) → held low j ≡ 0 =
    λ j ne. subst (λ (t : List (ℕ × ℕ)). held (without_way t pages) j ≡ 0) (sym f.along)
    (way_gone root f.crumbs f.leaf.slot pages j f.leads (ap (λ (t : List LeafAt). map leaf_slot t) (sym front) ∙ f.in_front) (ap (λ (t : List LeafAt). map leaf_slot t) (sym back) ∙ f.behind)
    (omega (arith, count j, times_none j f.leaf.slot (λ e. ne (sym e ∙ f.is))))) in
    let P = puts id (leaf_page no_items) low in
    record {
      up = refl;
      leaves_held = (P.put, tt);
      nodes_held = tt;
      once = λ j. ⊎_elim
          (λ (e : j ≡ id). omega (arith, times_one j (root_slot id) (sym e), subst (λ k. held (put_at id (leaf_page no_items) low) k ≡ 1) (sym e) (held_some (put_at id (leaf_page no_items) low) id (leaf_page no_items) P.put)))
          (λ (ne : j ≡ id → ⊥). omega (arith, times_none j (root_slot id) (λ e. ne (sym e)), gone j ne, held_same low (put_at id (leaf_page no_items) low) j (P.others j ne)))
          (cases_eq j id);
      order = (record { ascends = tt; above = tt }, tt, tt);
      links = (refl, refl, tt);
    }
