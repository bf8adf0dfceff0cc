-- Leaves that change, and that are parted.
use Rattle.std.proofs.Common.{◌≡◌, ◌⊎◌, ℕ, suc, ◌+◌, ◌≤◌, List, [], ◌∷◌, ◌++◌, length, take, map, refl, sym, ap, ◌∙◌, subst, inl, inr, ⊎_elim, arith, append_assoc}
use Rattle.std.specs.List.{AllByRecursion}
use Rattle.std.proofs.lemmas.Bool.{cases_eq}
use Rattle.std.proofs.lemmas.List.{map-append}
use Rattle.bt_page.specs.declared.page.Item.{Item}
use Rattle.bt_rows.specs.declared.page.LeafAt.{LeafAt}
use Rattle.bt_rows.specs.declared.page.Page.TheVariants.{Leaf as leaf_page}
use Rattle.bt_rows.specs.declared.page.Slot.{Slot}
use Rattle.bt_rows.specs.Orders.{Before}
use Rattle.bt_rows.specs.Pages.{PageMap}
use Rattle.bt_rows.specs.Rows.{entry_slot, times, held, first_id, last_id}
use Rattle.bt_rows.specs.Rules.{IsLinked}
use Rattle.bt_rows.specs.Levels.{NodeAt, leaf_slot, LeadsUp, level_times, LevelsHeld, Stands}
use Rattle.bt_rows.proofs.Building.{held_most}
use Rattle.bt_ways.specs.Climbs.{Climbed, IsHeldWay}
use Rattle.bt_ways.specs.Laws.{LeafChanges, LeafParts, parted_leaves}
use Rattle.bt_ways.specs.Parts.{AreFresh, Part, part_entry, part_slot, parted, relinked, with_parts}
use Rattle.bt_ways.specs.Ways.{Found, front_of, back_of}
use Rattle.bt_ways.specs.Writes.{put_at, put_leaves}
use Rattle.bt_ways.proofs.Counts.{times-append, times_one, times_none, held_none}
use Rattle.bt_ways.proofs.Halves.{AreNew, IsHalf, half_of, half_put, rejoin}
use Rattle.bt_ways.proofs.Links.{parts_linked}
use Rattle.bt_ways.proofs.Splitting.{leaf_with, order_parts}

-- ---- a leaf with other items

other_items : (prev : ℕ) (front : List LeafAt) (l : LeafAt) (items : List Item) (back : List LeafAt) → IsLinked prev (front ++ l ∷ back) → IsLinked prev (front ++ leaf_with l.slot l.leaf.prev l.leaf.next items ∷ back)
other_items prev [] l items back h = h
other_items prev (x ∷ front) l items back h = (h.0, h.1 ∙ same front, other_items x.slot.id front l items back h.2)
  where
    same : (front : List LeafAt) → first_id (front ++ l ∷ back) ≡ first_id (front ++ leaf_with l.slot l.leaf.prev l.leaf.next items ∷ back)
    same [] = refl
    same (y ∷ ys) = refl

pub leaf_changes : LeafChanges
leaf_changes before pages root key leaves levels path id st f items order =
    let l : LeafAt = leaf_with f.leaf.slot f.leaf.leaf.prev f.leaf.leaf.next items in
    let whole : Stands before pages root (f.front ++ f.leaf ∷ f.back) levels = subst (λ (t : List LeafAt). Stands before pages root t levels) f.parts st in
    let half : IsHalf (put_at f.leaf.slot.id (leaf_page l.leaf) pages) (f.front ++ l ∷ f.back) levels =
    half_put pages f.front (f.leaf ∷ []) (l ∷ []) f.back levels [] (half_of before pages root (f.front ++ f.leaf ∷ f.back) levels whole) (λ j. omega arith) (λ j. inl refl) in
    let slots : map leaf_slot (f.front ++ f.leaf ∷ f.back) ≡ map leaf_slot (f.front ++ l ∷ f.back) = map-append leaf_slot f.front (f.leaf ∷ f.back) ∙ sym (map-append leaf_slot f.front (l ∷ f.back)) in
    let there : IsHalf (put_at id (leaf_page l.leaf) pages) (f.front ++ l ∷ f.back) levels = subst (λ i. IsHalf (put_at i (leaf_page l.leaf) pages) (f.front ++ l ∷ f.back) levels) f.is half in
    record {
      up = subst (λ (t : List Slot). LeadsUp root levels t) slots whole.up;
      leaves_held = there.leaves_held;
      nodes_held = there.nodes_held;
      once = there.once;
      order = order;
      links = other_items 0 f.front f.leaf items f.back whole.links;
    }

-- ---- a leaf that is parted

parted_slots : (s : Slot) (prev next : ℕ) (items : List Item) (parts : List Part) → map leaf_slot (parted s prev next items parts) ≡ s ∷ map part_slot parts
parted_slots s prev next items [] = refl
parted_slots s prev next items (p ∷ ps) = ap (λ (t : List Slot). s ∷ t) (parted_slots (part_slot p) s.id next p.items ps)

entry_slots : (parts : List Part) → map entry_slot (map part_entry parts) ≡ map part_slot parts
entry_slots [] = refl
entry_slots (p ∷ ps) = ap (λ (t : List Slot). part_slot p ∷ t) (entry_slots ps)

other_parts : (id : ℕ) (ps : List Part) → AllByRecursion (λ q. id ≡ q.id → ⊥) ps → times id (map part_slot ps) ≡ 0
other_parts id [] h = refl
other_parts id (p ∷ ps) h = omega (arith, other_parts id ps h.1, times_none id (part_slot p) (λ e. h.0 (sym e)))

parts_new : (pages : PageMap) (parts : List Part) → AreFresh pages parts → AreNew pages (map part_slot parts)
parts_new pages [] f j = inl refl
parts_new pages (p ∷ ps) f j = ⊎_elim
    (λ (is : p.id ≡ j). inr (
      omega (arith, times_one j (part_slot p) is, subst (λ k. times k (map part_slot ps) ≡ 0) is (other_parts p.id ps f.1)),
      subst (λ k. held pages k ≡ 0) is (held_none pages p.id f.0),
    ))
    (λ (other : p.id ≡ j → ⊥). ⊎_elim
    (λ (z : times j (map part_slot ps) ≡ 0). inl (omega (arith, z, times_none j (part_slot p) other)))
    (λ (one : (times j (map part_slot ps) ≡ 1) × (held pages j ≡ 0)). inr (omega (arith, one.0, times_none j (part_slot p) other), one.1))
    (parts_new pages ps f.2 j))
    (cases_eq p.id j)

-- the leaves behind: the first of them is written, if there is one
record Behind (last : ℕ) (back : List LeafAt) : Type 0 where
  touched : List LeafAt
  rest : List LeafAt
  was : back ≡ touched ++ rest
  is : relinked last back ≡ take 1 (relinked last back) ++ rest
  count : (j : ℕ) → times j (map leaf_slot (take 1 (relinked last back))) ≡ times j (map leaf_slot touched)
  slots : map leaf_slot (relinked last back) ≡ map leaf_slot back

behind : (last : ℕ) (back : List LeafAt) → Behind last back
behind last [] = record { touched = []; rest = []; was = refl; is = refl; count = λ j. refl; slots = refl }
behind last (l ∷ ls) = record { touched = l ∷ []; rest = ls; was = refl; is = refl; count = λ j. refl; slots = refl }

-- the pages once the parts are written
parts_half : (old : PageMap) (front : List LeafAt) (leaf : LeafAt) (back : List LeafAt) (levels : List (List NodeAt)) (items : List Item) (parts : List Part) (last : ℕ) → IsHalf old (front ++ leaf ∷ back) levels → AreFresh old parts
    → IsHalf (with_parts old (parted leaf.slot leaf.leaf.prev leaf.leaf.next items parts) (relinked last back)) (front ++ (parted leaf.slot leaf.leaf.prev leaf.leaf.next items parts ++ relinked last back)) levels
parts_half old front leaf back levels items parts last half fresh =
    let laid : List LeafAt = parted leaf.slot leaf.leaf.prev leaf.leaf.next items parts in
    let b : Behind last back = behind last back in
    let written : List LeafAt = laid ++ take 1 (relinked last back) in
    let parts_is : front ++ (written ++ b.rest) ≡ front ++ (laid ++ relinked last back) =
    ap (λ (t : List LeafAt). front ++ t) (append_assoc laid (take 1 (relinked last back)) b.rest ∙ ap (λ (t : List LeafAt). laid ++ t) (sym b.is)) in
    subst (λ (t : List LeafAt). IsHalf (put_leaves written old) t levels) parts_is
    (half_put old front (leaf ∷ b.touched) written b.rest levels (map part_slot parts) (subst (λ (t : List LeafAt). IsHalf old (front ++ leaf ∷ t) levels) b.was half)
    (λ j. ap (λ (t : List Slot). times j t) (map-append leaf_slot laid (take 1 (relinked last back)) ∙ ap (λ (t : List Slot). t ++ map leaf_slot (take 1 (relinked last back))) (parted_slots leaf.slot leaf.leaf.prev leaf.leaf.next items parts))
    ∙ omega (arith, times-append j (map part_slot parts) (map leaf_slot (take 1 (relinked last back))), b.count j))
    (parts_new old parts fresh))

-- the way to the leaf is held in a half
pub half_way : (before : Before) (low : PageMap) (root : ℕ) (key : List ℕ) (leaves leaves' : List LeafAt) (levels : List (List NodeAt)) (path : List (ℕ × ℕ)) (id : ℕ) (f : Found before root key leaves levels path id)
    → IsHalf low leaves' levels → IsHeldWay low root f.crumbs f.leaf.slot
half_way before low root key leaves leaves' levels path id f half = record {
  leads = f.leads;
  nodes = subst (λ (t : List (List NodeAt)). LevelsHeld low t) (sym f.whole) half.nodes_held;
  once = λ j. subst (λ (t : List (List NodeAt)). level_times j t ≤ 1) (sym f.whole) (omega (arith, half.once j, held_most low j));
}

pub leaf_parts : LeafParts
leaf_parts before order limit old new height' root root' key leaves levels path id st f items parts some all fresh in_order climbs =
    let laid : List LeafAt = parted f.leaf.slot f.leaf.leaf.prev f.leaf.leaf.next items parts in
    let last : ℕ = last_id 0 laid in
    let after : List LeafAt = parted_leaves f.front f.leaf f.back items parts in
    let low : PageMap = with_parts old laid (relinked last f.back) in
    let whole : Stands before old root (f.front ++ f.leaf ∷ f.back) levels = subst (λ (t : List LeafAt). Stands before old root t levels) f.parts st in
    let half : IsHalf low after levels = parts_half old f.front f.leaf f.back levels items parts last (half_of before old root (f.front ++ f.leaf ∷ f.back) levels whole) fresh in
    let done = climbs.each f.crumbs f.leaf.slot f.along (half_way before low root key leaves after levels path id f half) in
    let around : List Slot = front_of f.crumbs ++ f.leaf.slot ∷ (map entry_slot (map part_entry parts) ++ back_of f.crumbs) in
    let c : Climbed low new (suc (length levels)) height' root' levels done.0 around =
    subst (λ (t : List (List NodeAt)). Climbed low new (suc (length levels)) height' root' t done.0 around) f.whole done.1 in
    let slots : around ≡ map leaf_slot after =
    ap (λ (t : List Slot). t ++ f.leaf.slot ∷ (map entry_slot (map part_entry parts) ++ back_of f.crumbs)) (sym f.in_front)
    ∙ ap (λ (t : List Slot). map leaf_slot f.front ++ f.leaf.slot ∷ (t ++ back_of f.crumbs)) (entry_slots parts)
    ∙ ap (λ (t : List Slot). map leaf_slot f.front ++ f.leaf.slot ∷ (map part_slot parts ++ t)) (sym f.behind ∙ sym (behind last f.back).slots)
    ∙ ap (λ (t : List Slot). map leaf_slot f.front ++ (t ++ map leaf_slot (relinked last f.back))) (sym (parted_slots f.leaf.slot f.leaf.leaf.prev f.leaf.leaf.next items parts))
    ∙ sym (map-append leaf_slot f.front (laid ++ relinked last f.back) ∙ ap (λ (t : List Slot). map leaf_slot f.front ++ t) (map-append leaf_slot laid (relinked last f.back))) in (
      done.0,
      rejoin before low new (suc (length levels)) height' root' after levels done.0 around half c slots
          (order_parts before order f.front f.leaf.slot f.leaf.leaf.prev f.leaf.leaf.next items parts f.back last some all in_order) (parts_linked f.front f.leaf f.back items parts whole.links),
      omega (arith, c.grew),
    )
