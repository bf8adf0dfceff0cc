-- Keys in order across leaves.
use Rattle.std.proofs.Common.{◌≡◌, ◌⊎◌, ℕ, List, [], ◌∷◌, ◌++◌, Bool, true, false, Option, Some, None, map, refl, subst, inl, inr, ⊎_elim}
use Rattle.std.specs.List.{AllByRecursion, flat_map}
use Rattle.tc_base.specs.Lists.{pair}
use Rattle.bt_page.specs.declared.page.Item.{Item}
use Rattle.bt_rows.specs.declared.page.LeafAt.{LeafAt}
use Rattle.bt_rows.specs.Orders.{Before, IsOrder}
use Rattle.bt_rows.specs.Rules.{AtLeast, Under, BoundUnder, IsBelow, InOrder, item_pairs, leaf_pairs, pairs_of}
use Rattle.bt_rows.specs.Levels.{leaf_slot}
use Rattle.bt_ways.specs.Ways.{IsBehind}

pub either : (b : Bool) → (b ≡ true) ⊎ (b ≡ false)
either true = inl refl
either false = inr refl

pub clash : (b : Bool) → b ≡ true → b ≡ false → ⊥
clash b e f = cc

pub all_map : {X : Type 0} (P Q : X → Type 0) (xs : List X) → ((x : X) → P x → Q x) → AllByRecursion P xs → AllByRecursion Q xs
all_map P Q [] f h = tt
all_map P Q (x ∷ xs) f h = (f x h.0, all_map P Q xs f h.1)

pub all_join : {X : Type 0} (P : X → Type 0) (xs ys : List X) → AllByRecursion P xs → AllByRecursion P ys → AllByRecursion P (xs ++ ys)
all_join P [] ys h k = k
all_join P (x ∷ xs) ys h k = (h.0, all_join P xs ys h.1 k)

pub all_part : {X : Type 0} (P : X → Type 0) (xs ys : List X) → AllByRecursion P (xs ++ ys) → AllByRecursion P xs × AllByRecursion P ys
all_part P [] ys h = (tt, h)
all_part P (x ∷ xs) ys h = let rest = all_part P xs ys h.1 in ((h.0, rest.0), rest.1)

-- what each makes of itself passes
pub all_flat : {X Y : Type 0} (P : Y → Type 0) (f : X → List Y) (xs : List X) → AllByRecursion (λ x. AllByRecursion P (f x)) xs → AllByRecursion P (flat_map f xs)
all_flat P f [] h = tt
all_flat P f (x ∷ xs) h = all_join P (f x) (flat_map f xs) h.0 (all_flat P f xs h.1)

-- what is true of a key is true of its pairs
pub all_pairs : (P : List ℕ → Type 0) (k : List ℕ) (vs : List (List ℕ)) → P k → AllByRecursion (λ p. P p.key) (map (pair k) vs)
all_pairs P k [] h = tt
all_pairs P k (v ∷ vs) h = (h, all_pairs P k vs h)

-- of the keys of items, of their pairs
pub all_items : (P : List ℕ → Type 0) (xs : List Item) → AllByRecursion (λ x. P x.key) xs → AllByRecursion (λ p. P p.key) (flat_map item_pairs xs)
all_items P xs h = all_flat (λ p. P p.key) item_pairs xs (all_map (λ x. P x.key) (λ x. AllByRecursion (λ p. P p.key) (item_pairs x)) xs (λ x k. all_pairs P x.key x.values k) h)

abbrev AllIn : (List ℕ → Type 0) → List LeafAt → Type 0
AllIn P ls = AllByRecursion (λ l. AllByRecursion (λ x. P x.key) l.leaf.items) ls

pub all_leaves : (P : List ℕ → Type 0) (ls : List LeafAt) → AllIn P ls → AllByRecursion (λ p. P p.key) (pairs_of ls)
all_leaves P ls h = all_flat (λ p. P p.key) leaf_pairs ls (all_map (λ l. AllByRecursion (λ x. P x.key) l.leaf.items) (λ l. AllByRecursion (λ p. P p.key) (leaf_pairs l)) ls (λ l k. all_items P l.leaf.items k) h)

pub order_behind : (before : Before) (xs ys : List LeafAt) → InOrder before (xs ++ ys) → InOrder before ys
order_behind before [] ys o = o
order_behind before (x ∷ xs) ys o = order_behind before xs ys o.2

module _ (before : Before) (order : IsOrder before) where
  -- below a key that isn't below another
  pub below_on : (x y z : List ℕ) → before x y ≡ true → before z y ≡ false → before x z ≡ true
  below_on x y z lt not =
      ⊎_elim (λ (is : before x z ≡ true). is)
      (λ (isnt : before x z ≡ false).
      ⊎_elim (λ (back : before z x ≡ true). absurd (clash (before z y) (order.trans z x y back lt) not))
      (λ (same : before z x ≡ false). absurd (clash (before z y) (subst (λ w. before w y ≡ true) (order.total x z isnt same) lt) not))
      (either (before z x)))
      (either (before x z))

  -- one way round alone
  pub not_back : (x y : List ℕ) → before x y ≡ true → before y x ≡ false
  not_back x y lt = ⊎_elim (λ (back : before y x ≡ true). absurd (clash (before x x) (order.trans x y x lt back) (order.strict x))) (λ (is : before y x ≡ false). is) (either (before y x))

  pub under_on : (x : List ℕ) (b : Option (List ℕ)) (key : List ℕ) → Under before x b → AtLeast before b key → before x key ≡ true
  under_on x None key u l = absurd u
  under_on x (Some b) key u l = below_on x b key u l

  at_least_on : (key : List ℕ) (b : Option (List ℕ)) (x : List ℕ) → Under before key b → AtLeast before b x → before key x ≡ true
  at_least_on key None x u a = absurd u
  at_least_on key (Some b) x u a = below_on key b x u a

  pub under_bound : (key : List ℕ) (a b : Option (List ℕ)) → Under before key a → BoundUnder before a b → Under before key b
  under_bound key None b u w = absurd u
  under_bound key (Some a) None u w = w
  under_bound key (Some a) (Some b) u w = order.trans key a b u w

  -- the pairs in front of the leaf where a key belongs are below the key
  pub front_below : (front back : List LeafAt) (leaf : LeafAt) (key : List ℕ) → InOrder before (front ++ leaf ∷ back) → AtLeast before leaf.slot.bound key → AllByRecursion (λ p. before p.key key ≡ true) (pairs_of front)
  front_below front back leaf key o low = all_leaves (λ k. before k key ≡ true) front (go front o)
    where
      go : (front : List LeafAt) → InOrder before (front ++ leaf ∷ back) → AllIn (λ k. before k key ≡ true) front
      go [] o = tt
      go (l ∷ front) o = (
        all_map (λ x. Under before x.key leaf.slot.bound) (λ x. before x.key key ≡ true) l.leaf.items (λ x u. under_on x.key leaf.slot.bound key u low) ((all_part (IsBelow before l) front (leaf ∷ back) o.1).1.0).items,
        go front o.2,
      )

  -- those behind it above
  pub back_above : (back : List LeafAt) (key : List ℕ) → InOrder before back → IsBehind before key (map leaf_slot back) → AllByRecursion (λ p. before key p.key ≡ true) (pairs_of back)
  back_above back key o high = all_leaves (λ k. before key k ≡ true) back (go back o high)
    where
      go : (back : List LeafAt) → InOrder before back → IsBehind before key (map leaf_slot back) → AllIn (λ k. before key k ≡ true) back
      go [] o high = tt
      go (l ∷ []) o high = (all_map (λ x. AtLeast before l.slot.bound x.key) (λ x. before key x.key ≡ true) l.leaf.items (λ x a. at_least_on key l.slot.bound x.key high a) o.0.above, tt)
      go (l ∷ m ∷ back) o high = (
        all_map (λ x. AtLeast before l.slot.bound x.key) (λ x. before key x.key ≡ true) l.leaf.items (λ x a. at_least_on key l.slot.bound x.key high a) o.0.above,
        go (m ∷ back) o.2 (under_bound key l.slot.bound m.slot.bound high o.1.0.bounds),
      )
