-- Keys and leaves in order, one by one.
use Rattle.std.proofs.Common.{◌≡◌, ℕ, ◌+◌, ◌-◌, List, [], ◌∷◌, ◌++◌, true, Option, Some, None, refl, ap}
use Rattle.std.specs.List.{AllByRecursion}
use Rattle.std.specs.declared.cmp.Ordering.{Ordering}
use Rattle.std.specs.declared.cmp.Ordering.TheVariants.{Less, Equal, Greater}
use Rattle.std.specs.Ordering.{is_lt}
use Rattle.std.specs.Cmp.{IsTotalOrder}
use Rattle.bt_page.specs.declared.page.Item.{Item}
use Rattle.bt_page.proofs.Runs.{all_with}
use Rattle.bt_rows.specs.declared.page.LeafAt.{LeafAt}
use Rattle.bt_check.specs.Leaves.{last_key}
use Rattle.bt_rows.specs.Orders.{Before, before_by}
use Rattle.bt_rows.specs.Rules.{Under, BoundUnder, InLeaf, IsBelow, InOrder}

less_from : (o : Ordering) → is_lt o ≡ true → o ≡ Less
less_from Less e = refl
less_from Equal e = absurd cc
less_from Greater e = absurd cc

abbrev pub IsTransitive : Before → Type 0
IsTransitive before = (x y z : List ℕ) → before x y ≡ true → before y z ≡ true → before x z ≡ true

pub transitive : (cmp : List ℕ → List ℕ → Ordering) → IsTotalOrder cmp → IsTransitive (before_by cmp)
transitive cmp o x y z p q = ap is_lt (o.trans x y z (less_from (cmp x y) p) (less_from (cmp y z) q))

-- ---- the keys of a leaf

-- no key is under no bound
pub none_above : (before : Before) (items : List Item) (key : List ℕ) → Some key ≡ last_key items → AllByRecursion (λ x. Under before x.key None) items → ⊥
none_above before [] key e a = cc
none_above before (x ∷ xs) key e a = a.0

last_of : {A : Type 0} (P : A → Type 0) (xs : List A) (z : A) → AllByRecursion P (xs ++ z ∷ []) → P z
last_of P [] z h = h.0
last_of P (x ∷ xs) z h = last_of P xs z h.1

front_of : {A : Type 0} (P : A → Type 0) (xs ys : List A) → AllByRecursion P (xs ++ ys) → AllByRecursion P xs
front_of P [] ys h = tt
front_of P (x ∷ xs) ys h = (h.0, front_of P xs ys h.1)

module _ (before : Before) (trans : IsTransitive before) where
  -- ---- leaves

  under_on : (key : List ℕ) (a b : Option (List ℕ)) → Under before key a → BoundUnder before a b → Under before key b
  under_on key None b u w = absurd u
  under_on key (Some a) None u w = w
  under_on key (Some a) (Some b) u w = trans key a b u w

  bound_on : (a b c : Option (List ℕ)) → BoundUnder before a b → BoundUnder before b c → BoundUnder before a c
  bound_on None None c u w = absurd u
  bound_on None (Some b) None u w = w
  bound_on None (Some b) (Some c) u w = tt
  bound_on (Some a) None c u w = absurd u
  bound_on (Some a) (Some b) None u w = w
  bound_on (Some a) (Some b) (Some c) u w = trans a b c u w

  all_on : (xs : List Item) (a b : Option (List ℕ)) → AllByRecursion (λ x. Under before x.key a) xs → BoundUnder before a b → AllByRecursion (λ x. Under before x.key b) xs
  all_on [] a b h w = tt
  all_on (x ∷ xs) a b h w = (under_on x.key a b h.0 w, all_on xs a b h.1 w)

  below_on : (x l m : LeafAt) → IsBelow before x l → IsBelow before l m → IsBelow before x m
  below_on x l m h k = record { bounds = bound_on x.slot.bound l.slot.bound m.slot.bound h.bounds k.bounds; items = all_on x.leaf.items l.slot.bound m.slot.bound h.items k.bounds }

  pub all_below : (ls : List LeafAt) (l m : LeafAt) → InOrder before (ls ++ l ∷ []) → IsBelow before l m → AllByRecursion (λ x. IsBelow before x m) (ls ++ l ∷ [])
  all_below [] l m h k = (k, tt)
  all_below (x ∷ ls) l m h k = (below_on x l m (last_of (IsBelow before x) ls l h.1) k, all_below ls l m h.2 k)

  pub order_end : (ls : List LeafAt) (m : LeafAt) → InOrder before ls → AllByRecursion (λ x. IsBelow before x m) ls → InLeaf before m → InOrder before (ls ++ m ∷ [])
  order_end [] m h k i = (i, tt, tt)
  order_end (x ∷ ls) m h k i = (h.0, all_with (IsBelow before x) ls m h.1 k.0, order_end ls m h.2 k.1 i)

  pub order_front : (ls ms : List LeafAt) → InOrder before (ls ++ ms) → InOrder before ls
  order_front [] ms h = tt
  order_front (x ∷ ls) ms h = (h.0, front_of (IsBelow before x) ls ms h.1, order_front ls ms h.2)

  pub order_last : (ls : List LeafAt) (m : LeafAt) → InOrder before (ls ++ m ∷ []) → InLeaf before m
  order_last [] m h = h.0
  order_last (x ∷ ls) m h = order_last ls m h.2

  pub order_two : (ls : List LeafAt) (l m : LeafAt) → InOrder before ((ls ++ l ∷ []) ++ m ∷ []) → IsBelow before l m
  order_two [] l m h = h.1.0
  order_two (x ∷ ls) l m h = order_two ls l m h.2
