-- Places that go from the rows above them.
use Rattle.std.proofs.Common.{◌≡◌, ◌⊎◌, ℕ, suc, ◌+◌, ◌<◌, ◌≤◌, List, [], ◌∷◌, ◌++◌, Option, Some, None, length, map, refl, sym, ap, ◌∙◌, subst, inl, inr, ⊎_elim, arith, append_assoc}
use Rattle.std.specs.List.{remove}
use Rattle.std.proofs.lemmas.Bool.{cases_eq}
use Rattle.std.proofs.lemmas.List.{map-append}
use Rattle.bt_page.specs.Limits.{NodeWithin}
use Rattle.bt_page.specs.declared.page.NodeEntry.{NodeEntry}
use Rattle.bt_page.specs.declared.page.Node.{Node}
use Rattle.bt_rows.specs.declared.page.Page.TheVariants.{Node as node_page}
use Rattle.bt_rows.specs.declared.page.Slot.{Slot}
use Rattle.bt_rows.specs.Pages.{PageMap}
use Rattle.bt_rows.specs.Rows.{entry_slot, children_of, times, held}
use Rattle.bt_rows.specs.Levels.{NodeAt, node_slot, all_children, LeadsUp, level_times, NodesHeld, LevelsHeld}
use Rattle.bt_ways.specs.Climbs.{Climbed, IsHeldWay}
use Rattle.bt_ways.specs.Removals.{IsWithout, NodeGoes, NodeLoses, OnlyFewer, RootIsAlone, without_place}
use Rattle.bt_ways.specs.Ways.{Crumb, rows_of, front_of, back_of, path_of, node_children}
use Rattle.bt_ways.specs.Writes.{put_at, drop_at}
use Rattle.bt_ways.proofs.Climbing.{SameStep, same_step, held_in_row}
use Rattle.bt_ways.proofs.Counts.{times-append, times_around, times_one, times_none, held_none, held_same, nodes_live, nodes_frame, levels_frame, nodes_join, Puts, puts, Drops, drops}
use Rattle.bt_ways.proofs.Growing.{leads_above, grown, beside, rows_live, not_named}
use Rattle.bt_ways.proofs.Rows.{children-append, children_around, nil_end, nodes_part, same_node}

-- ---- rows without a place

pub without_kept : (front : List Slot) (s : Slot) (back slots : List Slot) → slots ≡ front ++ back → IsWithout front s back slots
without_kept front s [] slots e = e ∙ nil_end front
without_kept front s (n ∷ back) slots e = inl e

pub without_first : (front : List Slot) (s : Slot) (back slots : List Slot) (n : Slot) (rest : List Slot) → back ≡ n ∷ rest → slots ≡ front ++ record { bound = s.bound; id = n.id } ∷ rest → IsWithout front s back slots
without_first front s back slots n rest b e = subst (λ (t : List Slot). IsWithout front s t slots) (sym b) (inr e)

-- the row with a place of one node taken out
children_less : (left : List NodeAt) (node : NodeAt) (right : List NodeAt) (a b : List Slot) → node_children node ≡ a ++ b → (all_children left ++ a) ++ (b ++ all_children right) ≡ all_children (left ++ node ∷ right)
children_less left node right a b e =
    rearrange (all_children left) a b (all_children right) ∙ ap (λ (t : List Slot). all_children left ++ (t ++ all_children right)) (sym e) ∙ sym (children-append left (node ∷ right))
  where
    rearrange : (p q r t : List Slot) → (p ++ q) ++ (r ++ t) ≡ p ++ ((q ++ r) ++ t)
    rearrange p q r t = simp append_assoc

removed_row : (es : List NodeEntry) (a : List Slot) (s : Slot) (b : List Slot) → map entry_slot es ≡ a ++ s ∷ b → map entry_slot (remove es (length a)) ≡ a ++ b
removed_row [] [] s b e = absurd (cc)
removed_row [] (x ∷ a) s b e = absurd (cc)
removed_row (y ∷ es) [] s b e = cc
removed_row (y ∷ es) (x ∷ a) s b e =
    let head : entry_slot y ≡ x = cc in
    let tail : map entry_slot es ≡ a ++ s ∷ b = cc in
    ap (λ (t : List Slot). entry_slot y ∷ t) (removed_row es a s b tail) ∙ ap (λ (z : Slot). z ∷ (a ++ b)) head

-- ---- a node with other places

pub fewer_put : (limit id : ℕ) (n m : Node) (old : PageMap) → old id ≡ Some (node_page n) → NodeWithin limit m → OnlyFewer limit old (put_at id (node_page m) old)
fewer_put limit id n m old was within j = ⊎_elim
    (λ (is : j ≡ id). inr (inr (n, m, ap old is ∙ was, ap (put_at id (node_page m) old) is ∙ (puts id (node_page m) old).put, within)))
    (λ (other : j ≡ id → ⊥). inl ((puts id (node_page m) old).others j other))
    (cases_eq j id)

-- a place that isn't the first
later : (n : NodeAt) (x : Slot) (a : List Slot) (s : Slot) (b : List Slot) → node_children n ≡ (x ∷ a) ++ s ∷ b → children_of n.slot.bound (without_place (suc (length a)) n.node) ≡ (x ∷ a) ++ b
later n x a s b e =
    let h : Slot = record { bound = n.slot.bound; id = n.node.heir } in
    let head : h ≡ x = cc in
    let tail : map entry_slot n.node.entries ≡ a ++ s ∷ b = cc in
    ap (λ (t : List Slot). h ∷ t) (removed_row n.node.entries a s b tail) ∙ ap (λ (z : Slot). z ∷ (a ++ b)) head

-- the first, where there is another
record Heir (n : NodeAt) (s : Slot) (b : List Slot) : Type 0 where
  next : Slot
  rest : List Slot
  behind : b ≡ next ∷ rest
  now : children_of n.slot.bound (without_place 0 n.node) ≡ record { bound = s.bound; id = next.id } ∷ rest

heir : (n : NodeAt) (s : Slot) (b : List Slot) → node_children n ≡ s ∷ b → 0 < length n.node.entries → Heir n s b
heir n s b e some = go n.node.entries refl some
  where
    go : (es : List NodeEntry) → n.node.entries ≡ es → 0 < length es → Heir n s b
    go [] is lt = absurd (omega (arith, lt))
    go (y ∷ es) is lt =
        let h : Slot = record { bound = n.slot.bound; id = n.node.heir } in
        let whole : h ∷ map entry_slot (y ∷ es) ≡ s ∷ b = ap (λ (t : List NodeEntry). h ∷ map entry_slot t) (sym is) ∙ e in
        let head : h ≡ s = cc whole in
        let tail : entry_slot y ∷ map entry_slot es ≡ b = cc whole in
        record {
          next = entry_slot y;
          rest = map entry_slot es;
          behind = sym tail;
          now = ap (λ (t : List NodeEntry). children_of n.slot.bound (without_place 0 (record { heir = n.node.heir; entries = t }))) is
              ∙ ap (λ (o : Option (List ℕ)). record { bound = o; id = y.child } ∷ map entry_slot es) (ap (λ (x : Slot). x.bound) head);
        }

lost : (left : List NodeAt) (n : NodeAt) (right : List NodeAt) (a : List Slot) (s : Slot) (b : List Slot) → node_children n ≡ a ++ s ∷ b → 0 < length n.node.entries
    → IsWithout (all_children left ++ a) s (b ++ all_children right) (all_children (left ++ record { slot = n.slot; node = without_place (length a) n.node } ∷ right))
lost left n right [] s b e some =
    let h : Heir n s b = heir n s b e some in
    let m : NodeAt = record { slot = n.slot; node = without_place 0 n.node } in
    without_first (all_children left ++ []) s (b ++ all_children right) (all_children (left ++ m ∷ right)) h.next (h.rest ++ all_children right) (ap (λ (t : List Slot). t ++ all_children right) h.behind)
    (children_around left m right [] (record { bound = s.bound; id = h.next.id }) h.rest h.now)
lost left n right (x ∷ a) s b e some =
    let m : NodeAt = record { slot = n.slot; node = without_place (suc (length a)) n.node } in
    without_kept (all_children left ++ x ∷ a) s (b ++ all_children right) (all_children (left ++ m ∷ right)) (sym (children_less left m right (x ∷ a) b (later n x a s b e)))

pub node_loses : NodeLoses
node_loses limit old root id place path n read some within = record { limits = fewer_put limit id n (without_place place n) old read within; each = each }
  where
    each : (cs : List Crumb) (s : Slot) → (id, place) ∷ path ≡ path_of cs → IsHeldWay old root cs s → 0 < length (front_of cs ++ back_of cs)
        → (rows : List (List NodeAt)) × (slots : List Slot) × Climbed old (put_at id (node_page (without_place place n)) old) 0 0 root (rows_of cs) rows slots × IsWithout (front_of cs) s (back_of cs) slots
    each [] s e k others = absurd (cc)
    each (c ∷ cs) s e k others =
        let P : PageMap = put_at id (node_page (without_place place n)) old in
        let step : SameStep c cs id place path = same_step c cs id place path e in
        let same : n ≡ c.node.node = same_node old c.node id n (held_in_row old c (rows_of cs) k.nodes) step.step_id read in
        let put : Puts old P c.node.slot.id (node_page (without_place (length c.a) c.node.node)) =
        subst (λ i. Puts old P i (node_page (without_place (length c.a) c.node.node))) step.step_id
        (subst (λ (m : Node). Puts old P id (node_page (without_place (length c.a) m))) same
        (subst (λ p. Puts old P id (node_page (without_place p n))) step.step_place (puts id (node_page (without_place place n)) old))) in
        let m : NodeAt = record { slot = c.node.slot; node = without_place (length c.a) c.node.node } in (
          (c.left ++ m ∷ c.right) ∷ rows_of cs,
          all_children (c.left ++ m ∷ c.right),
          grown old P root (rows_of cs) c.left c.right c.node (without_place (length c.a) c.node.node) (leads_above root c cs s k.leads) k.nodes k.once put 0 (all_children (c.left ++ m ∷ c.right)) refl,
          lost c.left c.node c.right c.a s c.b k.leads.0 (subst (λ (m : Node). 0 < length m.entries) same some),
        )

-- ---- a node that goes

pub fewer_drop : (limit id : ℕ) (old : PageMap) → OnlyFewer limit old (drop_at id old)
fewer_drop limit id old j = ⊎_elim
    (λ (is : j ≡ id). inr (inl (ap (drop_at id old) is ∙ (drops id old).gone)))
    (λ (other : j ≡ id → ⊥). inl ((drops id old).others j other))
    (cases_eq j id)

pub fewer_on : (limit : ℕ) (old middle new : PageMap) → OnlyFewer limit old middle → OnlyFewer limit middle new → OnlyFewer limit old new
fewer_on limit old middle new first second j = go (first j) (second j)
  where
    none_some : {m : Node} → None ≡ Some (node_page m) → ⊥
    none_some e = cc

    go : (middle j ≡ old j) ⊎ ((middle j ≡ None) ⊎ ((n m : Node) × (old j ≡ Some (node_page n)) × (middle j ≡ Some (node_page m)) × NodeWithin limit m))
        → (new j ≡ middle j) ⊎ ((new j ≡ None) ⊎ ((n m : Node) × (middle j ≡ Some (node_page n)) × (new j ≡ Some (node_page m)) × NodeWithin limit m))
        → (new j ≡ old j) ⊎ ((new j ≡ None) ⊎ ((n m : Node) × (old j ≡ Some (node_page n)) × (new j ≡ Some (node_page m)) × NodeWithin limit m))
    go (inl e) (inl f) = inl (f ∙ e)
    go (inr (inl e)) (inl f) = inr (inl (f ∙ e))
    go (inr (inr n)) (inl f) = inr (inr (n.0, n.1, n.2, f ∙ n.3, n.4))
    go k (inr (inl f)) = inr (inl f)
    go (inl e) (inr (inr n)) = inr (inr (n.0, n.1, sym e ∙ n.2, n.3, n.4))
    go (inr (inl e)) (inr (inr n)) = absurd (none_some (sym e ∙ n.2))
    go (inr (inr m)) (inr (inr n)) = inr (inr (m.0, n.1, m.2, n.3, n.4))

module _ (old low : PageMap) (Ls : List (List NodeAt)) (left right : List NodeAt) (node : NodeAt)
    (nodes : LevelsHeld old ((left ++ node ∷ right) ∷ Ls)) (once : (j : ℕ) → level_times j ((left ++ node ∷ right) ∷ Ls) ≤ 1) (gone : Drops old low node.slot.id) where
  stays : (j : ℕ) → 0 < times j (map node_slot left) + (times j (map node_slot right) + level_times j Ls) → low j ≡ old j
  stays j lt = gone.others j (beside old Ls left right node nodes once j lt)

  cut_nodes : NodesHeld low left × NodesHeld low right
  cut_nodes =
      let parts = nodes_part old left (node ∷ right) nodes.0 in
      (nodes_frame old low left (λ j lt. stays j (omega (arith, lt))) parts.0, nodes_frame old low right (λ j lt. stays j (omega (arith, lt))) parts.1.1)

  pub cut_above : LevelsHeld low Ls
  cut_above = levels_frame old low Ls (λ j lt. stays j (omega (arith, lt))) nodes.1

  pub cut_once : (j : ℕ) → level_times j Ls ≤ 1
  cut_once j = omega (arith, once j)

  held_low : (j : ℕ) → held old j ≡ held low j + times j (node.slot ∷ [])
  held_low j = ⊎_elim
      (λ (is : j ≡ node.slot.id). omega (
        arith,
        times_one j node.slot (sym is),
        rows_live old Ls left right node nodes once j (omega (arith, times_around node_slot j left right node, times_one j node.slot (sym is))),
        subst (λ k. held low k ≡ 0) (sym is) (held_none low node.slot.id gone.gone),
      ))
      (λ (other : j ≡ node.slot.id → ⊥). omega (arith, times_none j node.slot (λ i. other (sym i)), held_same old low j (gone.others j other)))
      (cases_eq j node.slot.id)

  -- the row without the node, under the rows above it
  module _ (new : PageMap) (root : ℕ) (Ls' : List (List NodeAt)) (slots_above : List Slot) (above : Climbed low new 0 0 root Ls Ls' slots_above)
      (row : List NodeAt) (is : slots_above ≡ map node_slot row) (rest : NodesHeld low row) (count : (j : ℕ) → times j (map node_slot row) ≡ times j (map node_slot left) + times j (map node_slot right)) where
    kept : (j : ℕ) → 0 < times j (map node_slot row) → new j ≡ low j
    kept j lt = above.others j (omega (arith, lt, count j, once j, times_around node_slot j left right node)) (nodes_live low row j rest lt)

    cut_row : Climbed old new 0 0 root ((left ++ node ∷ right) ∷ Ls) (row ∷ Ls') (all_children row)
    cut_row = record {
      up = (refl, subst (λ (t : List Slot). LeadsUp root Ls' t) is above.up);
      nodes = (nodes_frame low new row kept rest, above.nodes);
      balance = λ j. omega (arith, count j, times_around node_slot j left right node, held_low j, above.balance j);
      others = λ j none lives.
          above.others j (omega (arith, none)) (omega (arith, lives, held_low j, none, times_around node_slot j left right node)) ∙ gone.others j (not_named old Ls left right node nodes once j none);
      grew = omega (arith, above.grew);
    }

-- a node's place alone
only_place : (x : Slot) (a : List Slot) (s : Slot) (b : List Slot) → x ∷ [] ≡ a ++ s ∷ b → (a ≡ []) × (b ≡ []) × (x ≡ s)
only_place x [] s b e = (refl, sym (cc e), cc e)
only_place x (y ∷ []) s b e = absurd (cc)
only_place x (y ∷ z ∷ a) s b e = absurd (cc)

-- both ways of taking the place of a node out above give the same below
module _ (old low new : PageMap) (root : ℕ) (c : Crumb) (cs : List Crumb) (s : Slot) (a_none : c.a ≡ []) (b_none : c.b ≡ []) (bound : s.bound ≡ c.node.slot.bound)
    (k : IsHeldWay old root (c ∷ cs) s) (gone : Drops old low c.node.slot.id) (Ls' : List (List NodeAt)) (slots_above : List Slot) (above : Climbed low new 0 0 root (rows_of cs) Ls' slots_above) where
  tidy : (p q a b : List Slot) → a ≡ [] → b ≡ [] → p ++ q ≡ (p ++ a) ++ (b ++ q)
  tidy p q a b e f = rw (e, f) (ap (λ (t : List Slot). t ++ q) (sym (nil_end p)))

  cut_taken : slots_above ≡ front_of cs ++ back_of cs
      → (rows : List (List NodeAt)) × (slots : List Slot) × Climbed old new 0 0 root (rows_of (c ∷ cs)) rows slots × IsWithout (front_of (c ∷ cs)) s (back_of (c ∷ cs)) slots
  cut_taken e =
      let both = cut_nodes old low (rows_of cs) c.left c.right c.node k.nodes k.once gone in
      let is : slots_above ≡ map node_slot (c.left ++ c.right) =
      e ∙ ap (λ (t : List Slot). t ++ back_of cs) (sym k.leads.1) ∙ ap (λ (t : List Slot). map node_slot c.left ++ t) (sym k.leads.2) ∙ sym (map-append node_slot c.left c.right) in (
        (c.left ++ c.right) ∷ Ls',
        all_children (c.left ++ c.right),
        cut_row old low (rows_of cs) c.left c.right c.node k.nodes k.once gone new root Ls' slots_above above (c.left ++ c.right) is (nodes_join low c.left c.right both.0 both.1)
            (λ j. ap (λ (t : List Slot). times j t) (map-append node_slot c.left c.right) ∙ times-append j (map node_slot c.left) (map node_slot c.right)),
        without_kept (front_of (c ∷ cs)) s (back_of (c ∷ cs)) (all_children (c.left ++ c.right)) (children-append c.left c.right ∙ tidy (all_children c.left) (all_children c.right) c.a c.b a_none b_none),
      )

  cut_first : (next : Slot) (rest : List Slot) → back_of cs ≡ next ∷ rest → slots_above ≡ front_of cs ++ record { bound = c.node.slot.bound; id = next.id } ∷ rest
      → (rows : List (List NodeAt)) × (slots : List Slot) × Climbed old new 0 0 root (rows_of (c ∷ cs)) rows slots × IsWithout (front_of (c ∷ cs)) s (back_of (c ∷ cs)) slots
  cut_first next rest e f = go c.right refl
    where
      go : (right : List NodeAt) → c.right ≡ right → (rows : List (List NodeAt)) × (slots : List Slot) × Climbed old new 0 0 root (rows_of (c ∷ cs)) rows slots × IsWithout (front_of (c ∷ cs)) s (back_of (c ∷ cs)) slots
      go [] r = absurd (none (sym (ap (λ (t : List NodeAt). map node_slot t) r) ∙ k.leads.2 ∙ e))
        where
          none : [] ≡ next ∷ rest → ⊥
          none x = cc
      go (r ∷ rs) is_right =
          let both = cut_nodes old low (rows_of cs) c.left c.right c.node k.nodes k.once gone in
          let held_right : NodesHeld low (r ∷ rs) = subst (λ (t : List NodeAt). NodesHeld low t) is_right both.1 in
          let listed : r.slot ∷ map node_slot rs ≡ next ∷ rest = sym (ap (λ (t : List NodeAt). map node_slot t) is_right) ∙ k.leads.2 ∙ e in
          let first : r.slot ≡ next = cc listed in
          let others : map node_slot rs ≡ rest = cc listed in
          let r' : NodeAt = record { slot = record { bound = c.node.slot.bound; id = r.slot.id }; node = r.node } in
          let heir : Slot = record { bound = r.slot.bound; id = r.node.heir } in
          let entries : List Slot = map entry_slot r.node.entries ++ all_children rs in
          let is : slots_above ≡ map node_slot (c.left ++ r' ∷ rs) =
          f ∙ ap (λ (t : List Slot). t ++ record { bound = c.node.slot.bound; id = next.id } ∷ rest) (sym k.leads.1)
          ∙ ap (λ (t : List Slot). map node_slot c.left ++ record { bound = c.node.slot.bound; id = next.id } ∷ t) (sym others)
          ∙ ap (λ (x : ℕ). map node_slot c.left ++ record { bound = c.node.slot.bound; id = x } ∷ map node_slot rs) (ap (λ (x : Slot). x.id) (sym first))
          ∙ sym (map-append node_slot c.left (r' ∷ rs)) in
          let count : (j : ℕ) → times j (map node_slot (c.left ++ r' ∷ rs)) ≡ times j (map node_slot c.left) + times j (map node_slot c.right) =
          λ j. ap (λ (t : List Slot). times j t) (map-append node_slot c.left (r' ∷ rs)) ∙ times-append j (map node_slot c.left) (r'.slot ∷ map node_slot rs)
          ∙ ap (λ (t : List NodeAt). times j (map node_slot c.left) + times j (map node_slot t)) (sym is_right) in
          let behind : back_of (c ∷ cs) ≡ heir ∷ entries = ap (λ (t : List Slot). t ++ all_children c.right) b_none ∙ ap all_children is_right in
          let slots : all_children (c.left ++ r' ∷ rs) ≡ front_of (c ∷ cs) ++ record { bound = s.bound; id = r.node.heir } ∷ entries =
          children-append c.left (r' ∷ rs) ∙ ap (λ (b : Option (List ℕ)). all_children c.left ++ record { bound = b; id = r.node.heir } ∷ entries) (sym bound)
          ∙ tidy (all_children c.left) (record { bound = s.bound; id = r.node.heir } ∷ entries) c.a [] a_none refl in (
            (c.left ++ r' ∷ rs) ∷ Ls',
            all_children (c.left ++ r' ∷ rs),
            cut_row old low (rows_of cs) c.left c.right c.node k.nodes k.once gone new root Ls' slots_above above (c.left ++ r' ∷ rs) is (nodes_join low c.left (r' ∷ rs) both.0 (held_right.0, held_right.1)) count,
            without_first (front_of (c ∷ cs)) s (back_of (c ∷ cs)) (all_children (c.left ++ r' ∷ rs)) heir entries behind slots,
          )

  cut_node : IsWithout (front_of cs) c.node.slot (back_of cs) slots_above
      → (rows : List (List NodeAt)) × (slots : List Slot) × Climbed old new 0 0 root (rows_of (c ∷ cs)) rows slots × IsWithout (front_of (c ∷ cs)) s (back_of (c ∷ cs)) slots
  cut_node without = go (back_of cs) refl without
    where
      go : (back : List Slot) → back_of cs ≡ back → IsWithout (front_of cs) c.node.slot back slots_above
          → (rows : List (List NodeAt)) × (slots : List Slot) × Climbed old new 0 0 root (rows_of (c ∷ cs)) rows slots × IsWithout (front_of (c ∷ cs)) s (back_of (c ∷ cs)) slots
      go [] is w = cut_taken (w ∙ sym (nil_end (front_of cs)) ∙ ap (λ (t : List Slot). front_of cs ++ t) (sym is))
      go (n ∷ back) is (inl w) = cut_taken (w ∙ ap (λ (t : List Slot). front_of cs ++ t) (sym is))
      go (n ∷ back) is (inr w) = cut_first n back is w

-- nodes name places, so where a row has places below it, the row above has some
some_above : (left right : List NodeAt) → 0 < length (all_children left ++ all_children right) → 0 < length (map node_slot left ++ map node_slot right)
some_above [] [] lt = lt
some_above [] (n ∷ right) lt = omega arith
some_above (n ∷ left) right lt = omega arith

pub node_goes : NodeGoes
node_goes limit old new root id place path n read none above = record { limits = fewer_on limit old (drop_at id old) new (fewer_drop limit id old) above.limits; each = each }
  where
    each : (cs : List Crumb) (s : Slot) → (id, place) ∷ path ≡ path_of cs → IsHeldWay old root cs s → 0 < length (front_of cs ++ back_of cs)
        → (rows : List (List NodeAt)) × (slots : List Slot) × Climbed old new 0 0 root (rows_of cs) rows slots × IsWithout (front_of cs) s (back_of cs) slots
    each [] s e k others = absurd (cc)
    each (c ∷ cs) s e k others =
        let low : PageMap = drop_at id old in
        let step : SameStep c cs id place path = same_step c cs id place path e in
        let same : n ≡ c.node.node = same_node old c.node id n (held_in_row old c (rows_of cs) k.nodes) step.step_id read in
        let gone : Drops old low c.node.slot.id = subst (λ i. Drops old low i) step.step_id (drops id old) in
        let h : Slot = record { bound = c.node.slot.bound; id = c.node.node.heir } in
        let empty : c.node.node.entries ≡ [] = ap (λ (m : Node). m.entries) (sym same) ∙ none in
        let only = only_place h c.a s c.b (ap (λ (t : List NodeEntry). h ∷ map entry_slot t) (sym empty) ∙ k.leads.0) in
        let way : IsHeldWay low root cs c.node.slot = record {
          leads = k.leads.3;
          nodes = cut_above old low (rows_of cs) c.left c.right c.node k.nodes k.once gone;
          once = cut_once old low (rows_of cs) c.left c.right c.node k.nodes k.once gone;
        } in
        let places : front_of (c ∷ cs) ++ back_of (c ∷ cs) ≡ all_children c.left ++ all_children c.right =
        ap (λ (t : List Slot). (all_children c.left ++ t) ++ (c.b ++ all_children c.right)) only.0 ∙ ap (λ (t : List Slot). (all_children c.left ++ []) ++ (t ++ all_children c.right)) only.1
        ∙ ap (λ (t : List Slot). t ++ all_children c.right) (nil_end (all_children c.left)) in
        let beside : 0 < length (front_of cs ++ back_of cs) =
        subst (λ (t : List Slot). 0 < length (t ++ back_of cs)) k.leads.1 (subst (λ (t : List Slot). 0 < length (map node_slot c.left ++ t)) k.leads.2
        (some_above c.left c.right (subst (λ (t : List Slot). 0 < length t) places others))) in
        let risen = above.each cs c.node.slot step.rest way beside in
        cut_node old low new root c cs s only.0 only.1 (ap (λ (x : Slot). x.bound) (sym only.2)) k gone risen.0 risen.1 risen.2 risen.3

pub root_is_alone : RootIsAlone
root_is_alone limit pages root = record { limits = λ j. inl refl; each = each }
  where
    each : (cs : List Crumb) (s : Slot) → [] ≡ path_of cs → IsHeldWay pages root cs s → 0 < length (front_of cs ++ back_of cs)
        → (rows : List (List NodeAt)) × (slots : List Slot) × Climbed pages pages 0 0 root (rows_of cs) rows slots × IsWithout (front_of cs) s (back_of cs) slots
    each [] s e k others = absurd (omega (arith, others))
    each (c ∷ cs) s e k others = absurd (cc)
