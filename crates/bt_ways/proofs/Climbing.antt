-- Entries that climb along a way.
use Rattle.std.proofs.Common.{◌≡◌, ◌⊎◌, ℕ, suc, ◌+◌, List, [], ◌∷◌, ◌++◌, Option, Some, None, length, map, refl, sym, ap, ◌∙◌, subst, inl, inr, ⊎_elim, arith}
use Rattle.std.proofs.lemmas.Bool.{cases_eq}
use Rattle.std.proofs.lemmas.List.{map-append}
use Rattle.bt_page.specs.Limits.{NodeWithin}
use Rattle.bt_page.specs.declared.page.NodeEntry.{NodeEntry}
use Rattle.bt_page.specs.declared.page.Node.{Node}
use Rattle.bt_rows.specs.declared.page.Page.TheVariants.{Node as node_page}
use Rattle.bt_rows.specs.declared.page.Slot.{Slot}
use Rattle.bt_rows.specs.Pages.{PageMap}
use Rattle.bt_rows.specs.Rows.{root_slot, entry_slot, children_of, held}
use Rattle.bt_rows.specs.Levels.{NodeAt, node_slot, LevelsHeld}
use Rattle.bt_ways.specs.Climbs.{Climbed, IsHeldWay, OnlyNodes}
use Rattle.bt_ways.specs.Laws.{NodeParts, NodeTakes, RootGrows, spliced}
use Rattle.bt_ways.specs.Ways.{Crumb, row_of, rows_of, front_of, back_of, step_of, path_of, node_children}
use Rattle.bt_ways.specs.Writes.{put_at}
use Rattle.bt_ways.proofs.Counts.{times_one, times_none, held_some, held_none, held_same, Puts, puts}
use Rattle.bt_ways.proofs.Growing.{leads_above, children_more, children_two, grown, above_held, above_once, divided}
use Rattle.bt_ways.proofs.Rows.{nodes_part, same_node}

-- ---- pages that are nodes within a limit

pub only_put : (limit id : ℕ) (n : Node) (old : PageMap) → NodeWithin limit n → OnlyNodes limit old (put_at id (node_page n) old)
only_put limit id n old within j = ⊎_elim
    (λ (is : j ≡ id). inr (n, ap (put_at id (node_page n) old) is ∙ (puts id (node_page n) old).put, within))
    (λ (other : j ≡ id → ⊥). inl ((puts id (node_page n) old).others j other))
    (cases_eq j id)

pub only_on : (limit : ℕ) (old middle new : PageMap) → OnlyNodes limit old middle → OnlyNodes limit middle new → OnlyNodes limit old new
only_on limit old middle new first second j = go (first j) (second j)
  where
    go : (middle j ≡ old j) ⊎ ((n : Node) × (middle j ≡ Some (node_page n)) × NodeWithin limit n) → (new j ≡ middle j) ⊎ ((n : Node) × (new j ≡ Some (node_page n)) × NodeWithin limit n)
        → (new j ≡ old j) ⊎ ((n : Node) × (new j ≡ Some (node_page n)) × NodeWithin limit n)
    go (inl e) (inl f) = inl (f ∙ e)
    go (inr n) (inl f) = inr (n.0, f ∙ n.1, n.2)
    go k (inr n) = inr n

-- ---- a new root

rooted : (old new : PageMap) (height root id : ℕ) (added : List NodeEntry) → old id ≡ None → Puts old new id (node_page (record { heir = root; entries = added }))
    → Climbed old new height (suc height) id [] ((record { slot = root_slot id; node = record { heir = root; entries = added } } ∷ []) ∷ []) (root_slot root ∷ (map entry_slot added ++ []))
rooted old new height root id added fresh put = record {
  up = (refl, refl);
  nodes = ((put.put, tt), tt);
  balance = λ j. ⊎_elim
      (λ (is : j ≡ id). omega (arith, times_one j (root_slot id) (sym is), subst (λ k. held new k ≡ 1) (sym is) (held_some new id _ put.put), subst (λ k. held old k ≡ 0) (sym is) (held_none old id fresh)))
      (λ (other : j ≡ id → ⊥). omega (arith, times_none j (root_slot id) (λ i. other (sym i)), held_same old new j (put.others j other)))
      (cases_eq j id);
  others = λ j none live. put.others j (λ is. absurd (omega (arith, live, subst (λ k. held old k ≡ 0) (sym is) (held_none old id fresh))));
  grew = omega arith;
}

abbrev with_root : ℕ → ℕ → List NodeEntry → PageMap → PageMap
with_root id root added old = put_at id (node_page (record { heir = root; entries = added })) old

pub root_grows : RootGrows
root_grows limit old height root id added fresh within = record { limits = only_put limit id (record { heir = root; entries = added }) old within; each = each }
  where
    each : (cs : List Crumb) (s : Slot) → [] ≡ path_of cs → IsHeldWay old root cs s
        → (rows : List (List NodeAt)) × Climbed old (with_root id root added old) height (suc height) id (rows_of cs) rows (front_of cs ++ s ∷ (map entry_slot added ++ back_of cs))
    each [] s e k = (
      (record { slot = root_slot id; node = record { heir = root; entries = added } } ∷ []) ∷ [],
      subst (λ (x : Slot). Climbed old (with_root id root added old) height (suc height) id [] ((record { slot = root_slot id; node = record { heir = root; entries = added } } ∷ []) ∷ []) (x ∷ (map entry_slot added ++ []))) (sym k.leads)
          (rooted old (with_root id root added old) height root id added fresh (puts id (node_page (record { heir = root; entries = added })) old)),
    )
    each (c ∷ cs) s e k = absurd (cc)

-- ---- a node on the way

spliced_row : (es : List NodeEntry) (a : List Slot) (s : Slot) (b : List Slot) (added : List NodeEntry) → map entry_slot es ≡ a ++ s ∷ b
    → map entry_slot (spliced es (suc (length a)) added) ≡ a ++ s ∷ (map entry_slot added ++ b)
spliced_row [] [] s b added e = absurd (cc)
spliced_row [] (x ∷ a) s b added e = absurd (cc)
spliced_row (y ∷ es) [] s b added e =
    let head : entry_slot y ≡ s = cc in
    let tail : map entry_slot es ≡ b = cc in
    ap (λ (t : List Slot). entry_slot y ∷ t) (map-append entry_slot added es ∙ ap (λ (t : List Slot). map entry_slot added ++ t) tail) ∙ ap (λ (x : Slot). x ∷ (map entry_slot added ++ b)) head
spliced_row (y ∷ es) (x ∷ a) s b added e =
    let head : entry_slot y ≡ x = cc in
    let tail : map entry_slot es ≡ a ++ s ∷ b = cc in
    ap (λ (t : List Slot). entry_slot y ∷ t) (spliced_row es a s b added tail) ∙ ap (λ (z : Slot). z ∷ (a ++ s ∷ (map entry_slot added ++ b))) head

-- a node with entries put in behind one of its places
pub spliced_children : (bound : Option (List ℕ)) (n : Node) (a : List Slot) (s : Slot) (b : List Slot) (added : List NodeEntry) → children_of bound n ≡ a ++ s ∷ b
    → children_of bound (record { heir = n.heir; entries = spliced n.entries (length a) added }) ≡ a ++ s ∷ (map entry_slot added ++ b)
spliced_children bound n [] s b added e =
    let h : Slot = record { bound = bound; id = n.heir } in
    let head : h ≡ s = cc in
    let tail : map entry_slot n.entries ≡ b = cc in
    ap (λ (t : List Slot). h ∷ t) (map-append entry_slot added n.entries ∙ ap (λ (t : List Slot). map entry_slot added ++ t) tail) ∙ ap (λ (x : Slot). x ∷ (map entry_slot added ++ b)) head
spliced_children bound n (x ∷ a) s b added e =
    let h : Slot = record { bound = bound; id = n.heir } in
    let head : h ≡ x = cc in
    let tail : map entry_slot n.entries ≡ a ++ s ∷ b = cc in
    ap (λ (t : List Slot). h ∷ t) (spliced_row n.entries a s b added tail) ∙ ap (λ (z : Slot). z ∷ (a ++ s ∷ (map entry_slot added ++ b))) head

-- the step of a crumb
pub record SameStep (c : Crumb) (cs : List Crumb) (id place : ℕ) (path : List (ℕ × ℕ)) : Type 0 where
  pub step_id : id ≡ c.node.slot.id
  pub step_place : place ≡ length c.a
  pub rest : path ≡ path_of cs

pub same_step : (c : Crumb) (cs : List Crumb) (id place : ℕ) (path : List (ℕ × ℕ)) → (id, place) ∷ path ≡ path_of (c ∷ cs) → SameStep c cs id place path
same_step c cs id place path e =
    let h : (id, place) ≡ step_of c = cc in
    record { step_id = ap (λ (p : ℕ × ℕ). p.0) h; step_place = ap (λ (p : ℕ × ℕ). p.1) h; rest = cc }

pub held_in_row : (pages : PageMap) (c : Crumb) (Ls : List (List NodeAt)) → LevelsHeld pages (row_of c ∷ Ls) → pages c.node.slot.id ≡ Some (node_page c.node.node)
held_in_row pages c Ls h = (nodes_part pages c.left (c.node ∷ c.right) h.0).1.0

abbrev with_spliced : Node → ℕ → List NodeEntry → Node
with_spliced n place added = record { heir = n.heir; entries = spliced n.entries place added }

pub node_takes : NodeTakes
node_takes limit old height root id place path n added read within = record { limits = only_put limit id (with_spliced n place added) old within; each = each }
  where
    each : (cs : List Crumb) (s : Slot) → (id, place) ∷ path ≡ path_of cs → IsHeldWay old root cs s
        → (rows : List (List NodeAt)) × Climbed old (put_at id (node_page (with_spliced n place added)) old) height height root (rows_of cs) rows (front_of cs ++ s ∷ (map entry_slot added ++ back_of cs))
    each [] s e k = absurd (cc)
    each (c ∷ cs) s e k =
        let P : PageMap = put_at id (node_page (with_spliced n place added)) old in
        let step : SameStep c cs id place path = same_step c cs id place path e in
        let same : n ≡ c.node.node = same_node old c.node id n (held_in_row old c (rows_of cs) k.nodes) step.step_id read in
        let put : Puts old P c.node.slot.id (node_page (with_spliced c.node.node (length c.a) added)) =
        subst (λ i. Puts old P i (node_page (with_spliced c.node.node (length c.a) added))) step.step_id
        (subst (λ (m : Node). Puts old P id (node_page (with_spliced m (length c.a) added))) same
        (subst (λ p. Puts old P id (node_page (with_spliced n p added))) step.step_place (puts id (node_page (with_spliced n place added)) old))) in
        let m : NodeAt = record { slot = c.node.slot; node = with_spliced c.node.node (length c.a) added } in (
          (c.left ++ m ∷ c.right) ∷ rows_of cs,
          grown old P root (rows_of cs) c.left c.right c.node (with_spliced c.node.node (length c.a) added) (leads_above root c cs s k.leads) k.nodes k.once put height (front_of (c ∷ cs) ++ s ∷ (map entry_slot added ++ back_of (c ∷ cs)))
              (children_more c.left m c.right c.a s (map entry_slot added) c.b (spliced_children c.node.slot.bound c.node.node c.a s c.b added k.leads.0)),
        )

-- both nodes of one that was cut, and the pages with them
abbrev left_node : Node → List NodeEntry → Node
left_node n front = record { heir = n.heir; entries = front }

abbrev right_node : NodeEntry → List NodeEntry → Node
right_node up back = record { heir = up.child; entries = back }

abbrev with_two : ℕ → Node → ℕ → Node → PageMap → PageMap
with_two id left second right old = put_at id (node_page left) (put_at second (node_page right) old)

pub node_parts : NodeParts
node_parts limit old new height height' root root' id place second path n added front back up read fresh cut front_within back_within above = record {
  limits = only_on limit old (put_at second (node_page (right_node up back)) old) new (only_put limit second (right_node up back) old back_within)
      (only_on limit (put_at second (node_page (right_node up back)) old) (with_two id (left_node n front) second (right_node up back) old) new
      (only_put limit id (left_node n front) (put_at second (node_page (right_node up back)) old) front_within) above.limits);
  each = each;
}
  where
    each : (cs : List Crumb) (s : Slot) → (id, place) ∷ path ≡ path_of cs → IsHeldWay old root cs s
        → (rows : List (List NodeAt)) × Climbed old new height height' root' (rows_of cs) rows (front_of cs ++ s ∷ (map entry_slot added ++ back_of cs))
    each [] s e k = absurd (cc)
    each (c ∷ cs) s e k =
        let left : Node = left_node n front in
        let right : Node = right_node up back in
        let low : PageMap = with_two id left second right old in
        let step : SameStep c cs id place path = same_step c cs id place path e in
        let same : n ≡ c.node.node = same_node old c.node id n (held_in_row old c (rows_of cs) k.nodes) step.step_id read in
        let middle : PageMap = put_at second (node_page right) old in
        let put2 : Puts old middle second (node_page right) = puts second (node_page right) old in
        let put : Puts middle low c.node.slot.id (node_page left) = subst (λ i. Puts middle low i (node_page left)) step.step_id (puts id (node_page left) middle) in
        let cut' : spliced c.node.node.entries (length c.a) added ≡ front ++ up ∷ back =
        ap (λ (p : ℕ). spliced c.node.node.entries p added) (sym step.step_place) ∙ ap (λ (m : Node). spliced m.entries place added) (sym same) ∙ cut in
        let l : NodeAt = record { slot = c.node.slot; node = left } in
        let r : NodeAt = record { slot = record { bound = Some up.key; id = second }; node = right } in
        let h : Slot = record { bound = c.node.slot.bound; id = n.heir } in
        let two : node_children l ++ node_children r ≡ c.a ++ s ∷ (map entry_slot added ++ c.b) =
        ap (λ (t : List Slot). h ∷ t) (sym (map-append entry_slot front (up ∷ back)) ∙ ap (λ (es : List NodeEntry). map entry_slot es) (sym cut'))
        ∙ ap (λ (m : Node). children_of c.node.slot.bound (record { heir = m.heir; entries = spliced c.node.node.entries (length c.a) added })) same
        ∙ spliced_children c.node.slot.bound c.node.node c.a s c.b added k.leads.0 in
        let way : IsHeldWay low root cs c.node.slot = record {
          leads = k.leads.3;
          nodes = above_held old middle low (rows_of cs) c.left c.right c.node left right up.key second k.nodes k.once fresh put2 put;
          once = above_once old middle low (rows_of cs) c.left c.right c.node left right up.key second k.nodes k.once fresh put2 put;
        } in
        let risen = above.each cs c.node.slot step.rest way in
        let around : front_of cs ++ c.node.slot ∷ (r.slot ∷ back_of cs) ≡ map node_slot c.left ++ c.node.slot ∷ (r.slot ∷ map node_slot c.right) =
        ap (λ (t : List Slot). t ++ c.node.slot ∷ (r.slot ∷ back_of cs)) (sym k.leads.1) ∙ ap (λ (t : List Slot). map node_slot c.left ++ c.node.slot ∷ (r.slot ∷ t)) (sym k.leads.2) in (
          (c.left ++ l ∷ r ∷ c.right) ∷ risen.0,
          divided old middle low (rows_of cs) c.left c.right c.node left right up.key second k.nodes k.once fresh put2 put new root' risen.0 height height'
              (subst (λ (t : List Slot). Climbed low new height height' root' (rows_of cs) risen.0 t) around risen.1)
              (front_of (c ∷ cs) ++ s ∷ (map entry_slot added ++ back_of (c ∷ cs))) (children_two c.left l r c.right c.a s (map entry_slot added) c.b two),
        )
