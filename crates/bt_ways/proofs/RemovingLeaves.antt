-- A leaf that goes.
use Rattle.std.proofs.Common.{◌≡◌, ◌⊎◌, ℕ, ◌+◌, ◌<◌, List, [], ◌∷◌, ◌++◌, true, false, Option, Some, None, length, map, refl, sym, ap, ◌∙◌, subst, inl, inr, ⊎_elim, arith, append_assoc}
use Rattle.std.specs.Prelude.{◌==◌, if◌then◌else◌}
use Rattle.std.specs.List.{AllByRecursion}
use Rattle.std.proofs.lemmas.Bool.Decides.{nat_tests}
use Rattle.std.proofs.lemmas.Grind.{flat_map-append}
use Rattle.std.proofs.lemmas.List.{map-append}
use Rattle.tc_base.specs.declared.seq.Pair.{Pair}
use Rattle.bt_rows.specs.declared.page.LeafAt.{LeafAt}
use Rattle.bt_rows.specs.declared.page.Slot.{Slot}
use Rattle.bt_rows.specs.Orders.{Before, IsOrder}
use Rattle.bt_rows.specs.Pages.{PageMap}
use Rattle.bt_rows.specs.Rows.{first_id, last_id}
use Rattle.bt_rows.specs.Rules.{AtLeast, BoundUnder, IsBelow, InOrder, IsLinked, leaf_pairs, pairs_of}
use Rattle.bt_rows.specs.Levels.{NodeAt, leaf_slot, Stands}
use Rattle.bt_ways.specs.Climbs.{Climbed}
use Rattle.bt_ways.specs.Parts.{relinked}
use Rattle.bt_ways.specs.Removals.{CutsFrom, IsWithout, LeafGoes, LeavesAfter, with_items, with_next, with_prev, without_leaf}
use Rattle.bt_ways.specs.Ways.{front_of, back_of}
use Rattle.bt_ways.proofs.Halves.{IsHalf, half_of, rejoin}
use Rattle.bt_ways.proofs.Keys.{either, clash, all_map, order_behind}
use Rattle.bt_ways.proofs.Links.{first_or, Chain, chain_of, chain_join, chain_part, linked_of, first_is, first_or-append}
use Rattle.bt_ways.proofs.Parting.{half_way}
use Rattle.bt_ways.proofs.RemovingLinks.{half_bound, half_drop, half_over, here_held, links_are, next_none, next_put, next_zero, none_back, none_front, prev_none, prev_put}
use Rattle.bt_ways.proofs.Rows.{nil_end}
use Rattle.bt_ways.proofs.Splitting.{below_same, leaf_with, order_relinked, below_relinked, order_swap}

-- ---- the leaves in front, of which the last gets another behind it

abbrev ends_with : ℕ → List LeafAt → List LeafAt
ends_with next [] = []
ends_with next (l ∷ []) = leaf_with l.slot l.leaf.prev next l.leaf.items ∷ []
ends_with next (l ∷ m ∷ ls) = l ∷ ends_with next (m ∷ ls)

ends_slots : (next : ℕ) (ls : List LeafAt) → map leaf_slot (ends_with next ls) ≡ map leaf_slot ls
ends_slots next [] = refl
ends_slots next (l ∷ []) = refl
ends_slots next (l ∷ m ∷ ls) = ap (λ (t : List Slot). l.slot ∷ t) (ends_slots next (m ∷ ls))

ends_pairs : (next : ℕ) (ls : List LeafAt) → pairs_of (ends_with next ls) ≡ pairs_of ls
ends_pairs next [] = refl
ends_pairs next (l ∷ []) = refl
ends_pairs next (l ∷ m ∷ ls) = ap (λ (t : List Pair). leaf_pairs l ++ t) (ends_pairs next (m ∷ ls))

ends_first : (next : ℕ) (x : LeafAt) (xs : List LeafAt) (n : ℕ) → first_or (ends_with next (x ∷ xs)) n ≡ x.slot.id
ends_first next x [] n = refl
ends_first next x (y ∷ ys) n = refl

ends_last : (next prev : ℕ) (ls : List LeafAt) → last_id prev (ends_with next ls) ≡ last_id prev ls
ends_last next prev [] = refl
ends_last next prev (l ∷ []) = refl
ends_last next prev (l ∷ m ∷ ls) = ends_last next l.slot.id (m ∷ ls)

ends_chain : (next was prev : ℕ) (ls : List LeafAt) → Chain prev ls was → Chain prev (ends_with next ls) next
ends_chain next was prev [] h = tt
ends_chain next was prev (l ∷ []) h = (h.0, refl, tt)
ends_chain next was prev (l ∷ m ∷ ls) h = (h.0, h.1 ∙ sym (ends_first next m ls next), ends_chain next was l.slot.id (m ∷ ls) h.2)

ends_half : (pages : PageMap) (next : ℕ) (xs front back : List LeafAt) (levels : List (List NodeAt)) → pages 0 ≡ None → IsHalf pages (xs ++ (front ++ back)) levels
    → IsHalf (with_next (last_id 0 front) next pages) (xs ++ (ends_with next front ++ back)) levels
ends_half pages next xs [] back levels none half = subst (λ (p : PageMap). IsHalf p (xs ++ back) levels) (next_none 0 next pages none) half
ends_half pages next xs (l ∷ []) back levels none half =
    subst (λ (p : PageMap). IsHalf p (xs ++ leaf_with l.slot l.leaf.prev next l.leaf.items ∷ back) levels) (next_put l.slot.id next l.leaf pages (here_held pages xs l back half.leaves_held))
    (half_over pages xs l (record { prev = l.leaf.prev; next = next; items = l.leaf.items }) back levels half)
ends_half pages next xs (l ∷ m ∷ ls) back levels none half =
    subst (λ (t : List LeafAt). IsHalf (with_next (last_id m.slot.id ls) next pages) t levels) (append_assoc xs (l ∷ []) (ends_with next (m ∷ ls) ++ back))
    (ends_half pages next (xs ++ l ∷ []) (m ∷ ls) back levels none (subst (λ (t : List LeafAt). IsHalf pages t levels) (sym (append_assoc xs (l ∷ []) ((m ∷ ls) ++ back))) half))

-- links don't count
ends_order : (before : Before) (next : ℕ) (front ys : List LeafAt) → InOrder before (front ++ ys) → InOrder before (ends_with next front ++ ys)
ends_order before next [] ys o = o
ends_order before next (l ∷ []) ys o = (
  record { ascends = o.0.ascends; above = o.0.above },
  all_map (IsBelow before l) (IsBelow before (leaf_with l.slot l.leaf.prev next l.leaf.items)) ys (λ m b. record { bounds = b.bounds; items = b.items }) o.1,
  o.2,
)
ends_order before next (l ∷ m ∷ ls) ys o = (o.0, ends_below (m ∷ ls) o.1, ends_order before next (m ∷ ls) ys o.2)
  where
    ends_below : (xs : List LeafAt) → AllByRecursion (IsBelow before l) (xs ++ ys) → AllByRecursion (IsBelow before l) (ends_with next xs ++ ys)
    ends_below [] b = b
    ends_below (x ∷ []) b = (record { bounds = b.0.bounds; items = b.0.items }, b.1)
    ends_below (x ∷ y ∷ xs) b = (b.0, ends_below (y ∷ xs) b.1)

-- ---- the leaves behind, of which the first gets another before it, and maybe a lower bound

record Tail (prev : ℕ) (back ys : List LeafAt) : Type 0 where
  first : first_or ys 0 ≡ first_or back 0
  last : (p : ℕ) → last_id p ys ≡ last_id p back
  pairs : pairs_of ys ≡ pairs_of back
  chain : (was : ℕ) → Chain was back 0 → Chain prev ys 0

tail_relinked : (prev : ℕ) (back : List LeafAt) → Tail prev back (relinked prev back)
tail_relinked prev [] = record { first = refl; last = λ p. refl; pairs = refl; chain = λ was h. tt }
tail_relinked prev (l ∷ ls) = record { first = refl; last = λ p. refl; pairs = refl; chain = λ was h. (refl, h.1, h.2) }

abbrev moved_up : ℕ → Option (List ℕ) → LeafAt → LeafAt
moved_up prev bound l = leaf_with (record { bound = bound; id = l.slot.id }) prev l.leaf.next l.leaf.items

tail_moved : (prev : ℕ) (bound : Option (List ℕ)) (l : LeafAt) (ls : List LeafAt) → Tail prev (l ∷ ls) (moved_up prev bound l ∷ ls)
tail_moved prev bound l ls = record { first = refl; last = λ p. refl; pairs = refl; chain = λ was h. (refl, h.1, h.2) }

tail_half : (pages : PageMap) (prev : ℕ) (front back : List LeafAt) (levels : List (List NodeAt)) → pages 0 ≡ None → IsHalf pages (front ++ back) levels → IsHalf (with_prev (first_or back 0) prev pages) (front ++ relinked prev back) levels
tail_half pages prev front [] levels none half = subst (λ (p : PageMap). IsHalf p (front ++ []) levels) (prev_none 0 prev pages none) half
tail_half pages prev front (l ∷ ls) levels none half =
    subst (λ (p : PageMap). IsHalf p (front ++ leaf_with l.slot prev l.leaf.next l.leaf.items ∷ ls) levels) (prev_put l.slot.id prev l.leaf pages (here_held pages front l ls half.leaves_held))
    (half_over pages front l (record { prev = prev; next = l.leaf.next; items = l.leaf.items }) ls levels half)

-- ---- order without a leaf

module _ (before : Before) (order : IsOrder before) where
  order_without : (front : List LeafAt) (leaf : LeafAt) (back : List LeafAt) → InOrder before (front ++ leaf ∷ back) → InOrder before (front ++ back)
  order_without front leaf back o = order_swap before front (leaf ∷ back) back o (order_behind before front (leaf ∷ back) o).2 (λ l b. b.1)

  at_least_down : (a b : Option (List ℕ)) (x : List ℕ) → BoundUnder before a b → AtLeast before b x → AtLeast before a x
  at_least_down None b x u l = tt
  at_least_down (Some a) None x u l = absurd u
  at_least_down (Some a) (Some b) x u l = ⊎_elim
      (λ (lt : before x a ≡ true). absurd (clash (before x b) (order.trans x a b lt u) l))
      (λ (no : before x a ≡ false). no)
      (either (before x a))

  order_moved : (front : List LeafAt) (leaf n : LeafAt) (rest : List LeafAt) (prev : ℕ) → InOrder before (front ++ leaf ∷ n ∷ rest) → InOrder before (front ++ moved_up prev leaf.slot.bound n ∷ rest)
  order_moved front leaf n rest prev o =
      let m : LeafAt = moved_up prev leaf.slot.bound n in
      let here : InOrder before (leaf ∷ n ∷ rest) = order_behind before front (leaf ∷ n ∷ rest) o in
      order_swap before front (leaf ∷ n ∷ rest) (m ∷ rest) o (
        record {
          ascends = here.2.0.ascends;
          above = all_map (λ x. AtLeast before n.slot.bound x.key) (λ x. AtLeast before leaf.slot.bound x.key) n.leaf.items (λ x a. at_least_down leaf.slot.bound n.slot.bound x.key here.1.0.bounds a) here.2.0.above;
        },
        both rest here.1.1 here.2.1,
        here.2.2,
      )
      (λ l b. (below_same before l leaf m refl b.0, b.1.1))
    where
      both : (ls : List LeafAt) → AllByRecursion (IsBelow before leaf) ls → AllByRecursion (IsBelow before n) ls → AllByRecursion (IsBelow before (moved_up prev leaf.slot.bound n)) ls
      both [] h k = tt
      both (l ∷ ls) h k = (record { bounds = h.0.bounds; items = k.0.items }, both ls h.1 k.1)

-- ---- put together

if_zero : (n a b : ℕ) → n ≡ 0 → (if n == 0 then a else b) ≡ a
if_zero n a b e = rw e refl

if_other : (n a b : ℕ) → (n ≡ 0 → ⊥) → (if n == 0 then a else b) ≡ b
if_other n a b ne = grind (arith, nat_tests, ne)

last_id-append : (prev : ℕ) (xs ys : List LeafAt) → last_id prev (xs ++ ys) ≡ last_id (last_id prev xs) ys
last_id-append prev [] ys = refl
last_id-append prev (x ∷ xs) ys = last_id-append x.slot.id xs ys

module _ (before : Before) (order : IsOrder before) (old : PageMap) (root : ℕ) (front : List LeafAt) (leaf : LeafAt) (back : List LeafAt) (levels : List (List NodeAt))
    (st : Stands before old root (front ++ leaf ∷ back) levels) (none : old 0 ≡ None) where
  links : (leaf.leaf.prev ≡ last_id 0 front) × (leaf.leaf.next ≡ first_or back 0)
  links = links_are old front leaf back st.leaves_held st.links none

  -- the pages without the leaf are a half of the others
  gone_half : IsHalf (without_leaf leaf.slot.id leaf.leaf old) (ends_with leaf.leaf.next front ++ relinked leaf.leaf.prev back) levels
  gone_half =
      let prev : ℕ = leaf.leaf.prev in
      let next : ℕ = leaf.leaf.next in
      let ends : List LeafAt = ends_with next front in
      let first : IsHalf (with_next prev next old) (ends ++ leaf ∷ back) levels =
      subst (λ (p : ℕ). IsHalf (with_next p next old) (ends ++ leaf ∷ back) levels) (sym links.0) (ends_half old next [] front (leaf ∷ back) levels none (half_of before old root (front ++ leaf ∷ back) levels st)) in
      let second : IsHalf (with_prev next prev (with_next prev next old)) ((ends ++ leaf ∷ []) ++ relinked prev back) levels =
      subst (λ (n : ℕ). IsHalf (with_prev n prev (with_next prev next old)) ((ends ++ leaf ∷ []) ++ relinked prev back) levels) (sym links.1)
      (tail_half (with_next prev next old) prev (ends ++ leaf ∷ []) back levels (next_zero prev next 0 old none)
      (subst (λ (t : List LeafAt). IsHalf (with_next prev next old) t levels) (sym (append_assoc ends (leaf ∷ []) back)) first)) in
      half_drop (with_prev next prev (with_next prev next old)) ends leaf (relinked prev back) levels
      (subst (λ (t : List LeafAt). IsHalf (with_prev next prev (with_next prev next old)) t levels) (append_assoc ends (leaf ∷ []) (relinked prev back)) second)

  gone_links : (ys : List LeafAt) → Tail leaf.leaf.prev back ys → IsLinked 0 (ends_with leaf.leaf.next front ++ ys)
  gone_links ys t =
      let parts = chain_part 0 front (leaf ∷ back) 0 (chain_of 0 (front ++ leaf ∷ back) st.links) in
      let ends : List LeafAt = ends_with leaf.leaf.next front in
      let behind : Chain (last_id 0 ends) ys 0 = subst (λ (p : ℕ). Chain p ys 0) (links.0 ∙ sym (ends_last leaf.leaf.next 0 front)) (t.chain leaf.slot.id parts.1.2) in
      let before : Chain 0 ends (first_or ys 0) = subst (λ (n : ℕ). Chain 0 ends n) (links.1 ∙ sym t.first) (ends_chain leaf.leaf.next leaf.slot.id 0 front parts.0) in
      linked_of 0 (ends ++ ys) (chain_join 0 ends ys 0 before behind)

  gone_after : (ys : List LeafAt) → Tail leaf.leaf.prev back ys → LeavesAfter (front ++ leaf ∷ back) front leaf back (ends_with leaf.leaf.next front ++ ys)
  gone_after ys t = record {
    pairs = flat_map-append leaf_pairs (ends_with leaf.leaf.next front) ys ∙ ap (λ (s : List Pair). s ++ pairs_of ys) (ends_pairs leaf.leaf.next front) ∙ ap (λ (s : List Pair). pairs_of front ++ s) t.pairs
        ∙ sym (flat_map-append leaf_pairs front (with_items leaf [] ∷ back));
    first = first_of front refl;
    last = last_of back refl;
  }
    where
      first_of : (xs : List LeafAt) → front ≡ xs → first_id (ends_with leaf.leaf.next front ++ ys) ≡ (if leaf.leaf.prev == 0 then leaf.leaf.next else first_id (front ++ leaf ∷ back))
      first_of [] is =
          ap (λ (s : List LeafAt). first_id (ends_with leaf.leaf.next s ++ ys)) is ∙ first_is ys ∙ t.first ∙ sym links.1
          ∙ sym (if_zero leaf.leaf.prev leaf.leaf.next (first_id (front ++ leaf ∷ back)) (links.0 ∙ ap (last_id 0) is))
      first_of (x ∷ xs) is =
          ap (λ (s : List LeafAt). first_id (ends_with leaf.leaf.next s ++ ys)) is ∙ first_is (ends_with leaf.leaf.next (x ∷ xs) ++ ys) ∙ first_or-append (ends_with leaf.leaf.next (x ∷ xs)) ys 0
          ∙ ends_first leaf.leaf.next x xs (first_or ys 0) ∙ sym (ap (λ (s : List LeafAt). first_id (s ++ leaf ∷ back)) is)
          ∙ sym (if_other leaf.leaf.prev leaf.leaf.next (first_id (front ++ leaf ∷ back)) (λ e. some (sym is ∙ none_front old front leaf back st.leaves_held st.links none e)))
        where
          some : x ∷ xs ≡ [] → ⊥
          some e = cc

      now : last_id 0 (ends_with leaf.leaf.next front ++ ys) ≡ last_id (last_id 0 front) back
      now = last_id-append 0 (ends_with leaf.leaf.next front) ys ∙ t.last (last_id 0 (ends_with leaf.leaf.next front)) ∙ ap (λ (p : ℕ). last_id p back) (ends_last leaf.leaf.next 0 front)

      last_of : (xs : List LeafAt) → back ≡ xs → last_id 0 (ends_with leaf.leaf.next front ++ ys) ≡ (if leaf.leaf.next == 0 then leaf.leaf.prev else last_id 0 (front ++ leaf ∷ back))
      last_of [] is =
          now ∙ ap (λ (s : List LeafAt). last_id (last_id 0 front) s) is ∙ sym links.0
          ∙ sym (if_zero leaf.leaf.next leaf.leaf.prev (last_id 0 (front ++ leaf ∷ back)) (links.1 ∙ ap (λ (s : List LeafAt). first_or s 0) is))
      last_of (x ∷ xs) is =
          now ∙ ap (λ (s : List LeafAt). last_id (last_id 0 front) s) is
          ∙ sym (last_id-append 0 front (leaf ∷ back) ∙ ap (λ (s : List LeafAt). last_id leaf.slot.id s) is)
          ∙ sym (if_other leaf.leaf.next leaf.leaf.prev (last_id 0 (front ++ leaf ∷ back)) (λ e. some (sym is ∙ none_back old front leaf back st.leaves_held st.links none e)))
        where
          some : x ∷ xs ≡ [] → ⊥
          some e = cc

  -- the rows above have closed over its place
  module _ (limit : ℕ) (new : PageMap) (rows : List (List NodeAt)) (slots : List Slot) (climbed : Climbed (without_leaf leaf.slot.id leaf.leaf old) new 0 0 root levels rows slots) where
    gone_stands : (ys : List LeafAt) → Tail leaf.leaf.prev back ys → IsHalf (without_leaf leaf.slot.id leaf.leaf old) (ends_with leaf.leaf.next front ++ ys) levels → slots ≡ map leaf_slot front ++ map leaf_slot ys
        → InOrder before (front ++ ys)
        → (after : List LeafAt) × (rows : List (List NodeAt)) × Stands before new root after rows × (length rows ≡ length levels) × LeavesAfter (front ++ leaf ∷ back) front leaf back after
    gone_stands ys t half e o =
        let after : List LeafAt = ends_with leaf.leaf.next front ++ ys in
        let places : slots ≡ map leaf_slot after = e ∙ ap (λ (s : List Slot). s ++ map leaf_slot ys) (sym (ends_slots leaf.leaf.next front)) ∙ sym (map-append leaf_slot (ends_with leaf.leaf.next front) ys) in (
          after,
          rows,
          rejoin before (without_leaf leaf.slot.id leaf.leaf old) new 0 0 root after levels rows slots half climbed places (ends_order before leaf.leaf.next front ys o) (gone_links ys t),
          omega (arith, climbed.grew),
          gone_after ys t,
        )

    gone : (bs : List LeafAt) → back ≡ bs → IsWithout (map leaf_slot front) leaf.slot (map leaf_slot bs) slots
        → (after : List LeafAt) × (rows : List (List NodeAt)) × Stands before new root after rows × (length rows ≡ length levels) × LeavesAfter (front ++ leaf ∷ back) front leaf back after
    gone bs is w = go bs is w
      where
        same_slots : (prev : ℕ) (ls : List LeafAt) → map leaf_slot (relinked prev ls) ≡ map leaf_slot ls
        same_slots prev [] = refl
        same_slots prev (l ∷ ls) = refl

        kept : slots ≡ map leaf_slot front ++ map leaf_slot back
            → (after : List LeafAt) × (rows : List (List NodeAt)) × Stands before new root after rows × (length rows ≡ length levels) × LeavesAfter (front ++ leaf ∷ back) front leaf back after
        kept e =
            gone_stands (relinked leaf.leaf.prev back) (tail_relinked leaf.leaf.prev back) gone_half (e ∙ ap (λ (s : List Slot). map leaf_slot front ++ s) (sym (same_slots leaf.leaf.prev back)))
            (order_swap before front back (relinked leaf.leaf.prev back) (order_without before order front leaf back st.order) (order_relinked before leaf.leaf.prev back (order_behind before front (leaf ∷ back) st.order).2)
            (λ l b. below_relinked before l leaf.leaf.prev back b))

        go : (bs : List LeafAt) → back ≡ bs → IsWithout (map leaf_slot front) leaf.slot (map leaf_slot bs) slots
            → (after : List LeafAt) × (rows : List (List NodeAt)) × Stands before new root after rows × (length rows ≡ length levels) × LeavesAfter (front ++ leaf ∷ back) front leaf back after
        go [] is w = kept (w ∙ sym (nil_end (map leaf_slot front)) ∙ ap (λ (s : List LeafAt). map leaf_slot front ++ map leaf_slot s) (sym is))
        go (n ∷ rest) is (inl w) = kept (w ∙ ap (λ (s : List LeafAt). map leaf_slot front ++ map leaf_slot s) (sym is))
        go (n ∷ rest) is (inr w) =
            let m : LeafAt = leaf_with n.slot leaf.leaf.prev n.leaf.next n.leaf.items in
            let half : IsHalf (without_leaf leaf.slot.id leaf.leaf old) (ends_with leaf.leaf.next front ++ m ∷ rest) levels =
            subst (λ (s : List LeafAt). IsHalf (without_leaf leaf.slot.id leaf.leaf old) (ends_with leaf.leaf.next front ++ relinked leaf.leaf.prev s) levels) is gone_half in
            gone_stands (moved_up leaf.leaf.prev leaf.slot.bound n ∷ rest)
            (subst (λ (s : List LeafAt). Tail leaf.leaf.prev s (moved_up leaf.leaf.prev leaf.slot.bound n ∷ rest)) (sym is) (tail_moved leaf.leaf.prev leaf.slot.bound n rest))
            (half_bound (without_leaf leaf.slot.id leaf.leaf old) (ends_with leaf.leaf.next front) m leaf.slot.bound rest levels half) w
            (order_moved before order front leaf n rest leaf.leaf.prev (subst (λ (s : List LeafAt). InOrder before (front ++ leaf ∷ s)) is st.order))

some_beside : (front back : List LeafAt) → (front ≡ [] → back ≡ [] → ⊥) → 0 < length (map leaf_slot front ++ map leaf_slot back)
some_beside [] [] none = absurd (none refl refl)
some_beside [] (l ∷ back) none = omega arith
some_beside (l ∷ front) back none = omega arith

pub leaf_goes : LeafGoes
leaf_goes before order limit old new root key leaves levels path id st f none others cuts =
    let whole : Stands before old root (f.front ++ f.leaf ∷ f.back) levels = subst (λ (t : List LeafAt). Stands before old root t levels) f.parts st in
    let low : PageMap = without_leaf f.leaf.slot.id f.leaf.leaf old in
    let at : CutsFrom limit low new root path = subst (λ (i : ℕ). CutsFrom limit (without_leaf i f.leaf.leaf old) new root path) (sym f.is) cuts in
    let links = links_are old f.front f.leaf f.back whole.leaves_held whole.links none in
    let half = gone_half before order old root f.front f.leaf f.back levels whole none in
    let beside : 0 < length (front_of f.crumbs ++ back_of f.crumbs) =
    subst (λ (t : List Slot). 0 < length (t ++ back_of f.crumbs)) f.in_front (subst (λ (t : List Slot). 0 < length (map leaf_slot f.front ++ t)) f.behind
    (some_beside f.front f.back (λ e g. others (links.0 ∙ ap (last_id 0) e, links.1 ∙ ap (λ (t : List LeafAt). first_or t 0) g)))) in
    let done = at.each f.crumbs f.leaf.slot f.along (half_way before low root key leaves (ends_with f.leaf.leaf.next f.front ++ relinked f.leaf.leaf.prev f.back) levels path id f half) beside in
    let climbed : Climbed low new 0 0 root levels done.0 done.1 = subst (λ (t : List (List NodeAt)). Climbed low new 0 0 root t done.0 done.1) f.whole done.2 in
    let without : IsWithout (map leaf_slot f.front) f.leaf.slot (map leaf_slot f.back) done.1 =
    subst (λ (t : List Slot). IsWithout t f.leaf.slot (map leaf_slot f.back) done.1) (sym f.in_front) (subst (λ (t : List Slot). IsWithout (front_of f.crumbs) f.leaf.slot t done.1) (sym f.behind) done.3) in
    let result = gone before order old root f.front f.leaf f.back levels whole none limit new done.0 done.1 climbed f.back refl without in
    (result.0, result.1, result.2, result.3, subst (λ (t : List LeafAt). LeavesAfter t f.front f.leaf f.back result.0) (sym f.parts) result.4)
