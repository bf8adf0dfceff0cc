-- Items and pairs of which some are taken, by their keys.
use Rattle.std.proofs.Common.{◌≡◌, ℕ, ◌+◌, ◌<◌, ◌≤◌, List, [], ◌∷◌, ◌++◌, Bool, true, false, length, map, filter, refl, sym, ap, ◌∙◌, subst, arith, length-append}
use Rattle.std.specs.List.{AllByRecursion}
use Rattle.std.proofs.lemmas.List.{length-map}
use Rattle.std.proofs.lemmas.List.Elements.{filter-append}
use Rattle.tc_base.specs.Lists.{pair}
use Rattle.tc_base.specs.declared.seq.Pair.{Pair}
use Rattle.bt_page.specs.Pages.{HasValue}
use Rattle.bt_page.specs.declared.page.Item.{Item}
use Rattle.bt_rows.specs.Orders.{Before}
use Rattle.bt_rows.specs.Rules.{Ascends, item_pairs}
use Rattle.bt_ways.specs.Changes.{items_pairs}

-- ---- lists of which some are taken

module _ {X : Type 0} (f : X → Bool) where
  pub keeps_first : (x : X) (xs : List X) → f x ≡ true → filter f (x ∷ xs) ≡ x ∷ filter f xs
  keeps_first x xs e = rw e refl

  pub skips_first : (x : X) (xs : List X) → f x ≡ false → filter f (x ∷ xs) ≡ filter f xs
  skips_first x xs e = rw e refl

  pub keeps_all : (xs : List X) → AllByRecursion (λ x. f x ≡ true) xs → filter f xs ≡ xs
  keeps_all [] h = refl
  keeps_all (x ∷ xs) h = keeps_first x xs h.0 ∙ ap (λ (t : List X). x ∷ t) (keeps_all xs h.1)

  pub keeps_none : (xs : List X) → AllByRecursion (λ x. f x ≡ false) xs → filter f xs ≡ []
  keeps_none [] h = refl
  keeps_none (x ∷ xs) h = skips_first x xs h.0 ∙ keeps_none xs h.1

  pub kept_all : (P : X → Type 0) (xs : List X) → AllByRecursion P xs → AllByRecursion P (filter f xs)
  kept_all P [] h = tt
  kept_all P (x ∷ xs) h = go (f x) refl (kept_all P xs h.1)
    where
      go : (b : Bool) → f x ≡ b → AllByRecursion P (filter f xs) → AllByRecursion P (filter f (x ∷ xs))
      go true e rest = subst (AllByRecursion P) (sym (keeps_first x xs e)) (h.0, rest)
      go false e rest = subst (AllByRecursion P) (sym (skips_first x xs e)) rest

  pub kept_short : (xs : List X) → length (filter f xs) ≤ length xs
  kept_short [] = omega arith
  kept_short (x ∷ xs) = go (f x) refl (kept_short xs)
    where
      go : (b : Bool) → f x ≡ b → length (filter f xs) ≤ length xs → length (filter f (x ∷ xs)) ≤ length (x ∷ xs)
      go true e rest = omega (arith, ap length (keeps_first x xs e), rest)
      go false e rest = omega (arith, ap length (skips_first x xs e), rest)

pub ascends_kept : (before : Before) (f : Item → Bool) (xs : List Item) → Ascends before xs → Ascends before (filter f xs)
ascends_kept before f [] h = tt
ascends_kept before f (x ∷ xs) h = go (f x) refl (ascends_kept before f xs h.1)
  where
    go : (b : Bool) → f x ≡ b → Ascends before (filter f xs) → Ascends before (filter f (x ∷ xs))
    go true e rest = subst (Ascends before) (sym (keeps_first f x xs e)) (kept_all f (λ y. before x.key y.key ≡ true) xs h.0, rest)
    go false e rest = subst (Ascends before) (sym (skips_first f x xs e)) rest

-- ---- items and their pairs

pub pairs_long : (xs : List Item) → AllByRecursion HasValue xs → length xs ≤ length (items_pairs xs)
pairs_long [] h = omega arith
pairs_long (x ∷ xs) h = omega (arith, h.0, pairs_long xs h.1, length-append (item_pairs x) (items_pairs xs), length-map x.values (pair x.key))

pub no_pairs : (xs : List Item) → AllByRecursion HasValue xs → items_pairs xs ≡ [] → xs ≡ []
no_pairs [] h e = refl
no_pairs (x ∷ xs) h e = absurd (omega (arith, ap length e, pairs_long (x ∷ xs) h))

pub some_items : (xs : List Item) → 0 < length (items_pairs xs) → 0 < length xs
some_items [] lt = absurd (omega (arith, lt))
some_items (x ∷ xs) lt = omega arith

-- what is true of the key of each pair is true of the key of each item
pub items_all : (P : List ℕ → Type 0) (xs : List Item) → AllByRecursion HasValue xs → AllByRecursion (λ p. P p.key) (items_pairs xs) → AllByRecursion (λ x. P x.key) xs
items_all P [] some h = tt
items_all P (x ∷ xs) some h = (first x.values some.0 h, items_all P xs some.1 (behind x.values h))
  where
    behind : (vs : List (List ℕ)) → AllByRecursion (λ (p : Pair). P p.key) (map (pair x.key) vs ++ items_pairs xs) → AllByRecursion (λ (p : Pair). P p.key) (items_pairs xs)
    behind [] h = h
    behind (v ∷ vs) h = behind vs h.1

    first : (vs : List (List ℕ)) → 0 < length vs → AllByRecursion (λ (p : Pair). P p.key) (map (pair x.key) vs ++ items_pairs xs) → P x.key
    first [] lt h = absurd (omega (arith, lt))
    first (v ∷ vs) lt h = h.0

-- ---- pairs by a test of their keys

own_pairs : (f : List ℕ → Bool) (k : List ℕ) (vs : List (List ℕ)) (b : Bool) → f k ≡ b → AllByRecursion (λ (p : Pair). f p.key ≡ b) (map (pair k) vs)
own_pairs f k [] b e = tt
own_pairs f k (v ∷ vs) b e = (e, own_pairs f k vs b e)

-- the pairs of the items that are taken are those that are taken
pub pairs_kept : (f : List ℕ → Bool) (xs : List Item) → items_pairs (filter (λ x. f x.key) xs) ≡ filter (λ p. f p.key) (items_pairs xs)
pairs_kept f [] = refl
pairs_kept f (x ∷ xs) = go (f x.key) refl (pairs_kept f xs)
  where
    go : (b : Bool) → f x.key ≡ b → items_pairs (filter (λ (y : Item). f y.key) xs) ≡ filter (λ (p : Pair). f p.key) (items_pairs xs) → items_pairs (filter (λ (y : Item). f y.key) (x ∷ xs)) ≡ filter (λ (p : Pair). f p.key) (items_pairs (x ∷ xs))
    go true e rest =
        ap items_pairs (keeps_first (λ (y : Item). f y.key) x xs e)
        ∙ ap (λ (t : List Pair). item_pairs x ++ t) rest
        ∙ ap (λ (t : List Pair). t ++ filter (λ (p : Pair). f p.key) (items_pairs xs)) (sym (keeps_all (λ (p : Pair). f p.key) (item_pairs x) (own_pairs f x.key x.values true e)))
        ∙ sym (filter-append (λ (p : Pair). f p.key) (item_pairs x) (items_pairs xs))
    go false e rest =
        ap items_pairs (skips_first (λ (y : Item). f y.key) x xs e)
        ∙ rest
        ∙ ap (λ (t : List Pair). t ++ filter (λ (p : Pair). f p.key) (items_pairs xs)) (sym (keeps_none (λ (p : Pair). f p.key) (item_pairs x) (own_pairs f x.key x.values false e)))
        ∙ sym (filter-append (λ (p : Pair). f p.key) (item_pairs x) (items_pairs xs))
