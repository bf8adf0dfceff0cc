-- Leaves in order, with one of them parted.
use Rattle.std.proofs.Common.{◌≡◌, ◌⊎◌, ℕ, ◌<◌, List, [], ◌∷◌, ◌++◌, true, false, Option, Some, None, length, refl, sym, ap, subst, ⊎_elim, arith}
use Rattle.std.specs.List.{AllByRecursion}
use Rattle.bt_page.specs.declared.page.Item.{Item}
use Rattle.bt_rows.specs.declared.page.LeafAt.{LeafAt}
use Rattle.bt_rows.specs.declared.page.Slot.{Slot}
use Rattle.bt_rows.specs.Orders.{Before, IsOrder}
use Rattle.bt_rows.specs.Rules.{AtLeast, Under, BoundUnder, Ascends, InLeaf, IsBelow, InOrder}
use Rattle.bt_ways.specs.Parts.{HasItems, Part, all_items, first_key, part_slot, parted, relinked}
use Rattle.bt_ways.proofs.Keys.{either, clash, all_map, all_join, all_part, below_on, not_back, under_on, order_behind}

abbrev pub leaf_with : Slot → ℕ → ℕ → List Item → LeafAt
leaf_with s prev next items = record { slot = s; leaf = record { prev = prev; next = next; items = items } }

-- ---- leaves in front of others

-- others in their place are in order as well
pub order_swap : (before : Before) (front xs ys : List LeafAt) → InOrder before (front ++ xs) → InOrder before ys
    → ((l : LeafAt) → AllByRecursion (IsBelow before l) xs → AllByRecursion (IsBelow before l) ys) → InOrder before (front ++ ys)
order_swap before [] xs ys o p below = p
order_swap before (l ∷ front) xs ys o p below =
    let parts = all_part (IsBelow before l) front xs o.1 in
    (o.0, all_join (IsBelow before l) front ys parts.0 (below l parts.1), order_swap before front xs ys o.2 p below)

-- another leaf with the same bound
pub below_same : (before : Before) (l m n : LeafAt) → m.slot.bound ≡ n.slot.bound → IsBelow before l m → IsBelow before l n
below_same before l m n e b = record {
  bounds = subst (λ o. BoundUnder before l.slot.bound o) e b.bounds;
  items = subst (λ o. AllByRecursion (λ x. Under before x.key o) l.leaf.items) e b.items;
}

-- links don't count
pub order_relinked : (before : Before) (prev : ℕ) (back : List LeafAt) → InOrder before back → InOrder before (relinked prev back)
order_relinked before prev [] o = tt
order_relinked before prev (l ∷ ls) o = (
  record { ascends = o.0.ascends; above = o.0.above },
  all_map (IsBelow before l) (IsBelow before (leaf_with l.slot prev l.leaf.next l.leaf.items)) ls (λ m b. record { bounds = b.bounds; items = b.items }) o.1,
  o.2,
)

pub below_relinked : (before : Before) (l : LeafAt) (prev : ℕ) (back : List LeafAt) → AllByRecursion (IsBelow before l) back → AllByRecursion (IsBelow before l) (relinked prev back)
below_relinked before l prev [] h = tt
below_relinked before l prev (m ∷ ms) h = (record { bounds = h.0.bounds; items = h.0.items }, h.1)

-- ---- keys that ascend, in two parts

ascends_parts : (before : Before) (xs ys : List Item) → Ascends before (xs ++ ys) → Ascends before xs × Ascends before ys × AllByRecursion (λ x. AllByRecursion (λ y. before x.key y.key ≡ true) ys) xs
ascends_parts before [] ys h = (tt, h, tt)
ascends_parts before (x ∷ xs) ys h =
    let rest = ascends_parts before xs ys h.1 in
    let parts = all_part (λ y. before x.key y.key ≡ true) xs ys h.0 in
    ((parts.0, rest.0), rest.1, (parts.1, rest.2))

-- what is true of each key is true of the first
pub first_all : (P : List ℕ → Type 0) (xs : List Item) → 0 < length xs → AllByRecursion (λ x. P x.key) xs → P (first_key xs)
first_all P [] lt h = absurd (omega (arith, lt))
first_all P (x ∷ xs) lt h = h.0

some_items : (items : List Item) (parts : List Part) → 0 < length items → (0 < length (all_items items parts)) × (first_key (all_items items parts) ≡ first_key items)
some_items items [] lt = (lt, refl)
some_items [] (p ∷ ps) lt = absurd (omega (arith, lt))
some_items (x ∷ xs) (p ∷ ps) lt = (omega arith, refl)

module _ (before : Before) (order : IsOrder before) where
  bound_up : (b : Option (List ℕ)) (y k : List ℕ) → AtLeast before b y → before y k ≡ true → BoundUnder before b (Some k)
  bound_up None y k a lt = tt
  bound_up (Some b) y k a lt = ⊎_elim
      (λ (is : before b k ≡ true). is)
      (λ (no : before b k ≡ false). absurd (clash (before y b) (below_on before order y k b lt no) a))
      (either (before b k))

  bound_on : (a b : Option (List ℕ)) (k : List ℕ) → BoundUnder before a b → AtLeast before b k → BoundUnder before a (Some k)
  bound_on None None k u l = absurd u
  bound_on None (Some b) k u l = tt
  bound_on (Some a) None k u l = absurd u
  bound_on (Some a) (Some b) k u l = below_on before order a b k u l

  under_some : (k : List ℕ) (b : Option (List ℕ)) → Under before k b → BoundUnder before (Some k) b
  under_some k None u = u
  under_some k (Some b) u = u

  -- a leaf below one is below what stands at one of its keys
  below_key : (l m n : LeafAt) (k : List ℕ) → IsBelow before l m → AtLeast before m.slot.bound k → n.slot.bound ≡ Some k → IsBelow before l n
  below_key l m n k b a e = record {
    bounds = subst (λ o. BoundUnder before l.slot.bound o) (sym e) (bound_on l.slot.bound m.slot.bound k b.bounds a);
    items = subst (λ o. AllByRecursion (λ x. Under before x.key o) l.leaf.items) (sym e)
        (all_map (λ x. Under before x.key m.slot.bound) (λ x. before x.key k ≡ true) l.leaf.items (λ x u. under_on before order x.key m.slot.bound k u a) b.items);
  }

  -- the rest of a leaf from its first key on
  rest_in : (rest : List Item) (id prev next : ℕ) → 0 < length rest → Ascends before rest → InLeaf before (leaf_with (record { bound = Some (first_key rest); id = id }) prev next rest)
  rest_in [] id prev next lt asc = absurd (omega (arith, lt))
  rest_in (x ∷ xs) id prev next lt asc = record {
    ascends = asc;
    above = (order.strict x.key, all_map (λ z. before x.key z.key ≡ true) (λ z. before z.key x.key ≡ false) xs (λ z up. not_back before order x.key z.key up) asc.0);
  }

  -- a leaf parted in two
  pub order_two : (s : Slot) (prev next prev1 next1 id prev2 next2 : ℕ) (items rest : List Item) (back : List LeafAt) → 0 < length items → 0 < length rest
      → InOrder before (leaf_with s prev next (items ++ rest) ∷ back)
      → InOrder before (leaf_with s prev1 next1 items ∷ leaf_with (record { bound = Some (first_key rest); id = id }) prev2 next2 rest ∷ back)
  order_two s prev next prev1 next1 id prev2 next2 items rest back some more o =
      let whole : LeafAt = leaf_with s prev next (items ++ rest) in
      let lower : LeafAt = leaf_with s prev1 next1 items in
      let upper : LeafAt = leaf_with (record { bound = Some (first_key rest); id = id }) prev2 next2 rest in
      let asc = ascends_parts before items rest o.0.ascends in
      let low = all_part (λ z. AtLeast before s.bound z.key) items rest o.0.above in
      let up : AllByRecursion (λ z. before z.key (first_key rest) ≡ true) items =
      all_map (λ z. AllByRecursion (λ w. before z.key w.key ≡ true) rest) (λ z. before z.key (first_key rest) ≡ true) items (λ z h. first_all (λ k. before z.key k ≡ true) rest more h) asc.2 in
      let first : AtLeast before s.bound (first_key items) = first_all (λ k. AtLeast before s.bound k) items some low.0 in (
        record { ascends = asc.0; above = low.0 },
        (
          record { bounds = bound_up s.bound (first_key items) (first_key rest) first (first_all (λ k. before k (first_key rest) ≡ true) items some up); items = up },
          all_map (IsBelow before whole) (IsBelow before lower) back (λ m b. record { bounds = b.bounds; items = (all_part (λ z. Under before z.key m.slot.bound) items rest b.items).0 }) o.1,
        ),
        (
          rest_in rest id prev2 next2 more asc.1,
          all_map (IsBelow before whole) (IsBelow before upper) back
              (λ m b. let its = (all_part (λ z. Under before z.key m.slot.bound) items rest b.items).1 in record { bounds = under_some (first_key rest) m.slot.bound (first_all (λ k. Under before k m.slot.bound) rest more its); items = its }) o.1,
          o.2,
        ),
      )

  -- the parts at the second leaf of two
  at_part : (p : Part) (ps : List Part) (prev next : ℕ) (back : List LeafAt) → 0 < length p.items → InOrder before (leaf_with (record { bound = Some (first_key (all_items p.items ps)); id = p.id }) prev next (all_items p.items ps) ∷ back)
      → InOrder before (leaf_with (part_slot p) prev next (all_items p.items ps) ∷ back)
  at_part p ps prev next back some o =
      subst (λ (k : List ℕ). InOrder before (leaf_with (record { bound = Some k; id = p.id }) prev next (all_items p.items ps) ∷ back)) (some_items p.items ps some).1 o

  -- what is below a leaf is below its parts
  below_parted : (l : LeafAt) (s : Slot) (prev next prev' next' : ℕ) (items : List Item) (parts : List Part) (back : List LeafAt) → 0 < length items → AllByRecursion HasItems parts
      → InOrder before (leaf_with s prev next (all_items items parts) ∷ back) → AllByRecursion (IsBelow before l) (leaf_with s prev next (all_items items parts) ∷ back)
      → AllByRecursion (IsBelow before l) (parted s prev' next' items parts ++ back)
  below_parted l s prev next prev' next' items [] back some all o b = (below_same before l (leaf_with s prev next items) (leaf_with s prev' next' items) refl b.0, b.1)
  below_parted l s prev next prev' next' items (p ∷ ps) back some all o b =
      let whole : LeafAt = leaf_with s prev next (items ++ all_items p.items ps) in
      let second : LeafAt = leaf_with (part_slot p) s.id next' (all_items p.items ps) in
      let rest = some_items p.items ps all.0 in
      let two = order_two s prev next prev' p.id p.id s.id next' items (all_items p.items ps) back some rest.0 o in
      let low : AtLeast before s.bound (first_key p.items) =
      subst (λ k. AtLeast before s.bound k) rest.1 (first_all (λ k. AtLeast before s.bound k) (all_items p.items ps) rest.0 (all_part (λ z. AtLeast before s.bound z.key) items (all_items p.items ps) o.0.above).1) in (
        below_same before l whole (leaf_with s prev' p.id items) refl b.0,
        below_parted l (part_slot p) s.id next' s.id next' p.items ps back all.0 all.1 (at_part p ps s.id next' back all.0 two.2) (below_key l whole second (first_key p.items) b.0 low refl, b.1),
      )

  -- a leaf parted into many
  pub order_parted : (s : Slot) (prev next prev' next' : ℕ) (items : List Item) (parts : List Part) (back : List LeafAt) → 0 < length items → AllByRecursion HasItems parts
      → InOrder before (leaf_with s prev next (all_items items parts) ∷ back) → InOrder before (parted s prev' next' items parts ++ back)
  order_parted s prev next prev' next' items [] back some all o = (
    record { ascends = o.0.ascends; above = o.0.above },
    all_map (IsBelow before (leaf_with s prev next items)) (IsBelow before (leaf_with s prev' next' items)) back (λ m b. record { bounds = b.bounds; items = b.items }) o.1,
    o.2,
  )
  order_parted s prev next prev' next' items (p ∷ ps) back some all o =
      let two = order_two s prev next prev' p.id p.id s.id next' items (all_items p.items ps) back some (some_items p.items ps all.0).0 o in
      let second : InOrder before (leaf_with (part_slot p) s.id next' (all_items p.items ps) ∷ back) = at_part p ps s.id next' back all.0 two.2 in
      let lower : LeafAt = leaf_with s prev' p.id items in
      let upper : LeafAt = leaf_with (record { bound = Some (first_key (all_items p.items ps)); id = p.id }) s.id next' (all_items p.items ps) in
      let bound : upper.slot.bound ≡ Some (first_key p.items) = ap Some (some_items p.items ps all.0).1 in (
        two.0,
        below_parted lower (part_slot p) s.id next' s.id next' p.items ps back all.0 all.1 second
            (below_same before lower upper (leaf_with (part_slot p) s.id next' (all_items p.items ps)) bound two.1.0, two.1.1),
        order_parted (part_slot p) s.id next' s.id next' p.items ps back all.0 all.1 second,
      )

  -- the same with leaves in front, and with another link behind
  pub order_parts : (front : List LeafAt) (s : Slot) (prev next : ℕ) (items : List Item) (parts : List Part) (back : List LeafAt) (last : ℕ) → 0 < length items → AllByRecursion HasItems parts
      → InOrder before (front ++ leaf_with s prev next (all_items items parts) ∷ back) → InOrder before (front ++ (parted s prev next items parts ++ relinked last back))
  order_parts front s prev next items parts back last some all o =
      let whole : LeafAt = leaf_with s prev next (all_items items parts) in
      let here : InOrder before (whole ∷ back) = order_behind before front (whole ∷ back) o in
      let linked : InOrder before (whole ∷ relinked last back) = (here.0, below_relinked before whole last back here.1, order_relinked before last back here.2) in
      order_swap before front (whole ∷ back) (parted s prev next items parts ++ relinked last back) o
      (order_parted s prev next prev next items parts (relinked last back) some all linked)
      (λ l b. below_parted l s prev next prev next items parts (relinked last back) some all linked (b.0, below_relinked before l last back b.1))
