-- A node that is written with other places below it, and one that is cut in two.
use Rattle.std.proofs.Common.{◌≡◌, ◌≢◌, ℕ, ◌+◌, ◌<◌, ◌≤◌, List, [], ◌∷◌, ◌++◌, Some, None, map, refl, sym, ap, ◌∙◌, subst, ⊎_elim, arith, append_assoc}
use Rattle.std.proofs.lemmas.Bool.{cases_eq}
use Rattle.std.proofs.lemmas.List.{map-append}
use Rattle.bt_page.specs.declared.page.Node.{Node}
use Rattle.bt_rows.specs.declared.page.Page.TheVariants.{Node as node_page}
use Rattle.bt_rows.specs.declared.page.Slot.{Slot}
use Rattle.bt_rows.specs.Pages.{PageMap}
use Rattle.bt_rows.specs.Rows.{times, held}
use Rattle.bt_rows.specs.Levels.{NodeAt, node_slot, all_children, LeadsUp, level_times, NodesHeld, LevelsHeld}
use Rattle.bt_rows.proofs.Building.{held_most}
use Rattle.bt_ways.specs.Climbs.{Climbed}
use Rattle.bt_ways.specs.Ways.{Crumb, row_of, rows_of, front_of, back_of, Leads, node_children}
use Rattle.bt_ways.proofs.Counts.{times_one, times_none, times-append, times_around, held_some, held_none, held_same, held_over, nodes_live, levels_live, nodes_frame, levels_frame, nodes_join, Puts}
use Rattle.bt_ways.proofs.Rows.{children-append, children_around, nodes_part}

-- the rows along a way lead up from the places on both sides of it
pub leads_up : (root : ℕ) (cs : List Crumb) (s : Slot) → Leads root cs s → LeadsUp root (rows_of cs) (front_of cs ++ s ∷ back_of cs)
leads_up root [] s l = ap (λ (x : Slot). x ∷ []) l
leads_up root (c ∷ cs) s l = (
  sym (children_around c.left c.node c.right c.a s c.b l.0),
  subst (λ (t : List Slot). LeadsUp root (rows_of cs) t) (sym row_slots) (leads_up root cs c.node.slot l.3),
)
  where
    row_slots : map node_slot (row_of c) ≡ front_of cs ++ c.node.slot ∷ back_of cs
    row_slots = map-append node_slot c.left (c.node ∷ c.right) ∙ ap (λ (t : List Slot). t ++ c.node.slot ∷ map node_slot c.right) l.1 ∙ ap (λ (t : List Slot). front_of cs ++ c.node.slot ∷ t) l.2

pub leads_above : (root : ℕ) (c : Crumb) (cs : List Crumb) (s : Slot) → Leads root (c ∷ cs) s → LeadsUp root (rows_of cs) (map node_slot (row_of c))
leads_above root c cs s l = (leads_up root (c ∷ cs) s l).1

-- ---- rows of places

-- places put in behind one
pub children_more : (left : List NodeAt) (node : NodeAt) (right : List NodeAt) (a : List Slot) (s : Slot) (ts b : List Slot) → node_children node ≡ a ++ s ∷ (ts ++ b)
    → (all_children left ++ a) ++ s ∷ (ts ++ (b ++ all_children right)) ≡ all_children (left ++ node ∷ right)
children_more left node right a s ts b e =
    ap (λ (t : List Slot). (all_children left ++ a) ++ s ∷ t) (sym (append_assoc ts b (all_children right))) ∙ sym (children_around left node right a s (ts ++ b) e)

-- two nodes in the place of one
pub children_two : (left : List NodeAt) (n m : NodeAt) (right : List NodeAt) (a : List Slot) (s : Slot) (ts b : List Slot) → node_children n ++ node_children m ≡ a ++ s ∷ (ts ++ b)
    → (all_children left ++ a) ++ s ∷ (ts ++ (b ++ all_children right)) ≡ all_children (left ++ n ∷ m ∷ right)
children_two left n m right a s ts b e =
    rearrange (all_children left) a s ts b (all_children right) ∙ ap (λ (t : List Slot). all_children left ++ (t ++ all_children right)) (sym e)
    ∙ ap (λ (t : List Slot). all_children left ++ t) (append_assoc (node_children n) (node_children m) (all_children right)) ∙ sym (children-append left (n ∷ m ∷ right))
  where
    rearrange : (p q : List Slot) (x : Slot) (t r u : List Slot) → (p ++ q) ++ x ∷ (t ++ (r ++ u)) ≡ p ++ ((q ++ x ∷ (t ++ r)) ++ u)
    rearrange p q x t r u = simp append_assoc

-- ---- a node of a row, whose rows are held

module _ (old : PageMap) (Ls : List (List NodeAt)) (left right : List NodeAt) (node : NodeAt) (nodes : LevelsHeld old ((left ++ node ∷ right) ∷ Ls))
    (once : (j : ℕ) → level_times j ((left ++ node ∷ right) ∷ Ls) ≤ 1) where
  pub node_was : old node.slot.id ≡ Some (node_page node.node)
  node_was = (nodes_part old left (node ∷ right) nodes.0).1.0

  -- what else these rows name
  pub beside : (j : ℕ) → 0 < times j (map node_slot left) + (times j (map node_slot right) + level_times j Ls) → j ≢ node.slot.id
  beside j lt is = absurd (omega (arith, lt, once j, times_around node_slot j left right node, times_one j node.slot (sym is)))

  pub rows_live : (j : ℕ) → 0 < level_times j ((left ++ node ∷ right) ∷ Ls) → held old j ≡ 1
  rows_live j lt = levels_live old ((left ++ node ∷ right) ∷ Ls) j nodes lt

  pub not_named : (j : ℕ) → level_times j ((left ++ node ∷ right) ∷ Ls) ≡ 0 → j ≢ node.slot.id
  not_named j none is = absurd (omega (arith, none, times_around node_slot j left right node, times_one j node.slot (sym is)))

-- ---- a node is written with other places

module _ (old new : PageMap) (root : ℕ) (Ls : List (List NodeAt)) (left right : List NodeAt) (node : NodeAt) (other : Node)
    (up : LeadsUp root Ls (map node_slot (left ++ node ∷ right))) (nodes : LevelsHeld old ((left ++ node ∷ right) ∷ Ls))
    (once : (id : ℕ) → level_times id ((left ++ node ∷ right) ∷ Ls) ≤ 1) (put : Puts old new node.slot.id (node_page other)) where
  abbrev pub grown_node : NodeAt
  grown_node = record { slot = node.slot; node = other }

  same_slots : map node_slot (left ++ grown_node ∷ right) ≡ map node_slot (left ++ node ∷ right)
  same_slots = map-append node_slot left (grown_node ∷ right) ∙ sym (map-append node_slot left (node ∷ right))

  pub grown : (height : ℕ) (slots : List Slot) → slots ≡ all_children (left ++ grown_node ∷ right) → Climbed old new height height root ((left ++ node ∷ right) ∷ Ls) ((left ++ grown_node ∷ right) ∷ Ls) slots
  grown height slots e =
      let parts = nodes_part old left (node ∷ right) nodes.0 in
      let stays : (j : ℕ) → 0 < times j (map node_slot left) + (times j (map node_slot right) + level_times j Ls) → new j ≡ old j =
      λ j lt. put.others j (beside old Ls left right node nodes once j lt) in
      record {
        up = (e, subst (λ (t : List Slot). LeadsUp root Ls t) (sym same_slots) up);
        nodes = (
          nodes_join new left (grown_node ∷ right) (nodes_frame old new left (λ j lt. stays j (omega (arith, lt))) parts.0) (put.put, nodes_frame old new right (λ j lt. stays j (omega (arith, lt))) parts.1.1),
          levels_frame old new Ls (λ j lt. stays j (omega (arith, lt))) nodes.1,
        );
        balance = λ id. rw (same_slots, held_over old new node.slot.id (node_page other) (node_page node.node) (node_was old Ls left right node nodes once) put id) refl;
        others = λ id none live. put.others id (not_named old Ls left right node nodes once id none);
        grew = refl;
      }

-- ---- a node is cut in two: the second has a page of its own

module _ (old middle low : PageMap) (Ls : List (List NodeAt)) (left right : List NodeAt) (node : NodeAt) (first second : Node) (up : List ℕ) (id : ℕ)
    (nodes : LevelsHeld old ((left ++ node ∷ right) ∷ Ls)) (once : (j : ℕ) → level_times j ((left ++ node ∷ right) ∷ Ls) ≤ 1) (fresh : old id ≡ None)
    (put2 : Puts old middle id (node_page second)) (put : Puts middle low node.slot.id (node_page first)) where
  abbrev pub first_half : NodeAt
  first_half = record { slot = node.slot; node = first }

  abbrev pub second_half : NodeAt
  second_half = record { slot = record { bound = Some up; id = id }; node = second }

  live : (j : ℕ) → 0 < level_times j ((left ++ node ∷ right) ∷ Ls) → held old j ≡ 1
  live j lt = rows_live old Ls left right node nodes once j lt

  not_new : (j : ℕ) → 0 < level_times j ((left ++ node ∷ right) ∷ Ls) → j ≢ id
  not_new j lt is = absurd (omega (arith, live j lt, subst (λ k. held old k ≡ 0) (sym is) (held_none old id fresh)))

  stays : (j : ℕ) → 0 < times j (map node_slot left) + (times j (map node_slot right) + level_times j Ls) → low j ≡ old j
  stays j lt = put.others j (beside old Ls left right node nodes once j lt) ∙ put2.others j (not_new j (omega (arith, lt, times_around node_slot j left right node)))

  node_not_new : node.slot.id ≢ id
  node_not_new = not_new node.slot.id (omega (arith, times_around node_slot node.slot.id left right node, times_one node.slot.id node.slot refl))

  new_second : low id ≡ Some (node_page second)
  new_second = put.others id (λ is. node_not_new (sym is)) ∙ put2.put

  halves_held : NodesHeld low (left ++ first_half ∷ second_half ∷ right)
  halves_held =
      let parts = nodes_part old left (node ∷ right) nodes.0 in
      nodes_join low left (first_half ∷ second_half ∷ right) (nodes_frame old low left (λ j lt. stays j (omega (arith, lt))) parts.0)
      (put.put, (new_second, nodes_frame old low right (λ j lt. stays j (omega (arith, lt))) parts.1.1))

  pub above_held : LevelsHeld low Ls
  above_held = levels_frame old low Ls (λ j lt. stays j (omega (arith, lt))) nodes.1

  pub above_once : (j : ℕ) → level_times j Ls ≤ 1
  above_once j = omega (arith, once j)

  low_held : (j : ℕ) → held low j ≡ held old j + times j (second_half.slot ∷ [])
  low_held j = ⊎_elim
      (λ (is : j ≡ id). omega (arith, times_one j second_half.slot (sym is), subst (λ k. held low k ≡ 1) (sym is) (held_some low id (node_page second) new_second), subst (λ k. held old k ≡ 0) (sym is) (held_none old id fresh)))
      (λ (other : j ≡ id → ⊥). ⊎_elim
      (λ (same : j ≡ node.slot.id). omega (
        arith,
        times_none j second_half.slot (λ i. other (sym i)),
        subst (λ k. held low k ≡ 1) (sym same) (held_some low node.slot.id (node_page first) put.put),
        live j (omega (arith, times_around node_slot j left right node, times_one j node.slot (sym same))),
      ))
      (λ (apart : j ≡ node.slot.id → ⊥). omega (arith, times_none j second_half.slot (λ i. other (sym i)), held_same old low j (put.others j apart ∙ put2.others j other)))
      (cases_eq j node.slot.id))
      (cases_eq j id)

  -- once the row above has taken the second in, all stands
  module _ (new : PageMap) (root' : ℕ) (Ls' : List (List NodeAt)) (height height' : ℕ) (above : Climbed low new height height' root' Ls Ls' (map node_slot left ++ node.slot ∷ (second_half.slot ∷ map node_slot right))) where
    two_slots : map node_slot left ++ node.slot ∷ (second_half.slot ∷ map node_slot right) ≡ map node_slot (left ++ first_half ∷ second_half ∷ right)
    two_slots = sym (map-append node_slot left (first_half ∷ second_half ∷ right))

    counted : (j : ℕ) → times j (map node_slot (left ++ first_half ∷ second_half ∷ right)) ≡ times j (map node_slot (left ++ node ∷ right)) + times j (second_half.slot ∷ [])
    counted j =
        omega (arith, times_around node_slot j left right node, ap (λ (t : List Slot). times j t) (sym two_slots), times-append j (map node_slot left) (node.slot ∷ second_half.slot ∷ map node_slot right))

    none_above : (j : ℕ) → 0 < times j (map node_slot (left ++ first_half ∷ second_half ∷ right)) → level_times j Ls ≡ 0
    none_above j lt = ⊎_elim
        (λ (is : j ≡ id). ⊎_elim
        (λ (z : level_times j Ls ≡ 0). z)
        (λ (some : level_times j Ls ≡ 0 → ⊥). absurd (not_new j (omega (arith, some)) is)) (cases_eq (level_times j Ls) 0))
        (λ (other : j ≡ id → ⊥). omega (arith, once j, counted j, lt, times_none j second_half.slot (λ i. other (sym i))))
        (cases_eq j id)

    pub divided : (slots : List Slot) → slots ≡ all_children (left ++ first_half ∷ second_half ∷ right)
        → Climbed old new height height' root' ((left ++ node ∷ right) ∷ Ls) ((left ++ first_half ∷ second_half ∷ right) ∷ Ls') slots
    divided slots e = record {
      up = (e, subst (λ (t : List Slot). LeadsUp root' Ls' t) two_slots above.up);
      nodes = (
        nodes_frame low new (left ++ first_half ∷ second_half ∷ right)
            (λ j lt. above.others j (none_above j lt) (nodes_live low (left ++ first_half ∷ second_half ∷ right) j halves_held lt)) halves_held,
        above.nodes,
      );
      balance = λ j. omega (arith, counted j, low_held j, above.balance j);
      others = λ j none lives. above.others j (omega (arith, none)) (omega (arith, lives, low_held j, held_most low j))
          ∙ put.others j (not_named old Ls left right node nodes once j none) ∙ put2.others j (λ is. absurd (omega (arith, lives, subst (λ k. held old k ≡ 0) (sym is) (held_none old id fresh))));
      grew = omega (arith, above.grew);
    }
