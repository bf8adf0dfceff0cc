-- Where the items of a leaf stand in its bytes.
use Rattle.std.proofs.Common.{◌≡◌, ℕ, zero, suc, ◌+◌, ◌-◌, ◌<◌, ◌≤◌, List, [], ◌∷◌, ◌++◌, length, take, drop, refl, sym, ap, subst, ◌∙◌, arith, add-one, length-append}
use Rattle.std.specs.Prelude.{slice_get, Some}
use Rattle.std.specs.List.{AllByRecursion, flat_map, slice_index_or}
use Rattle.std.proofs.lemmas.List.{take_at, take_all}
use Rattle.bt_page.specs.declared.page.Item.{Item}
use Rattle.bt_page.specs.declared.page.Leaf.{Leaf}
use Rattle.bt_page.specs.Pages.{two, item_bytes, leaf_bytes, ItemFits}
use Rattle.bt_slots.specs.Slots.{IsLeafIn, bytes_before}
use Rattle.bt_slots.specs.Reads.{number_in, second_in, leaf_in}
use Rattle.bt_slots.proofs.ReadBack.{two_at}
use Rattle.bt_slots.proofs.Starts.{starts_long, start_is, behind_start}

module _ {A : Type 0} (s : A → List ℕ) where
  later : (xs : List A) (i : ℕ) → length (flat_map s (take i xs)) ≤ length (flat_map s (take (suc i) xs))
  later [] zero = omega arith
  later [] (suc i) = omega arith
  later (x ∷ xs) zero = omega arith
  later (x ∷ xs) (suc i) = omega (arith, later xs i, length-append (s x) (flat_map s (take i xs)), length-append (s x) (flat_map s (take (suc i) xs)))

  pub run_later : (xs : List A) (i : ℕ) → length (flat_map s (take i xs)) ≤ length (flat_map s (take (i + 1) xs))
  run_later xs i = rw add-one (later xs i)

  pub run_within : (xs : List A) (i : ℕ) → length (flat_map s (take i xs)) ≤ length (flat_map s xs)
  run_within [] zero = omega arith
  run_within [] (suc i) = omega arith
  run_within (x ∷ xs) zero = omega arith
  run_within (x ∷ xs) (suc i) = omega (arith, run_within xs i, length-append (s x) (flat_map s (take i xs)), length-append (s x) (flat_map s xs))

  one_more : (xs : List A) (i : ℕ) (x : A) → slice_get xs i ≡ Some x → length (flat_map s (take (suc i) xs)) ≡ length (flat_map s (take i xs)) + length (s x)
  one_more [] i x is = absurd cc
  one_more (y ∷ ys) zero x is = let same : y ≡ x = cc in omega (arith, ap (λ (z : A). length (s z)) same, length-append (s y) [])
  one_more (y ∷ ys) (suc i) x is = omega (arith, one_more ys i x is, length-append (s y) (flat_map s (take i ys)), length-append (s y) (flat_map s (take (suc i) ys)))

  pub run_next : (xs : List A) (i : ℕ) (x : A) → slice_get xs i ≡ Some x → length (flat_map s (take (i + 1) xs)) ≡ length (flat_map s (take i xs)) + length (s x)
  run_next xs i x is = rw add-one (one_more xs i x is)

pub held : {A : Type 0} (F : A → Type 0) (xs : List A) (i : ℕ) (x : A) → AllByRecursion F xs → slice_get xs i ≡ Some x → F x
held F [] i x h is = absurd cc
held F (y ∷ ys) zero x h is = let same : y ≡ x = cc in subst F same h.0
held F (y ∷ ys) (suc i) x h is = held F ys i x h.1 is

-- there is one inside
pub some_at : {A : Type 0} (xs : List A) (i : ℕ) → i < length xs → (x : A) × (slice_get xs i ≡ Some x)
some_at [] i lt = absurd (omega (arith, lt))
some_at (x ∷ xs) zero lt = (x, refl)
some_at (x ∷ xs) (suc i) lt = some_at xs i (omega (arith, lt))

pub some_inside : {A : Type 0} (xs : List A) (i : ℕ) (x : A) → slice_get xs i ≡ Some x → i < length xs
some_inside [] i x is = absurd cc
some_inside (y ∷ ys) zero x is = omega arith
some_inside (y ∷ ys) (suc i) x is = omega (arith, some_inside ys i x is)

pub before_later : (l : Leaf) (i : ℕ) → bytes_before l i ≤ bytes_before l (i + 1)
before_later l i = omega (arith, run_later item_bytes l.items i)

pub before_next : (l : Leaf) (i : ℕ) (x : Item) → slice_get l.items i ≡ Some x → bytes_before l (i + 1) ≡ bytes_before l i + length (item_bytes x)
before_next l i x is = omega (arith, run_next item_bytes l.items i x is)

-- what a leaf is seen as, where it is kept
pub seen : (bytes starts : List ℕ) (l : Leaf) → leaf_in (length starts) bytes ≡ l → IsLeafIn bytes starts (leaf_in (length starts) bytes) → IsLeafIn bytes starts l
seen bytes starts l is h = subst (λ (m : Leaf). IsLeafIn bytes starts m) is h

-- what is true of a leaf beside the places of its items
module _ (bytes starts : List ℕ) (l : Leaf) (h : IsLeafIn bytes starts l) where
  pub starts_count : length starts ≡ length l.items
  starts_count = ap length h.begin ∙ starts_long item_bytes (length (two l.prev l.next)) l.items

  pub length_is : length bytes ≡ length (two l.prev l.next) + length (flat_map item_bytes l.items)
  unfolding leaf_bytes
  length_is = ap length h.is ∙ length-append (two l.prev l.next) (flat_map item_bytes l.items)

  pub before_within : (i : ℕ) → bytes_before l i ≤ length bytes
  before_within i = omega (arith, length_is, run_within item_bytes l.items i)

  -- its links are read, and its items stand behind them
  pub links_are : ((number_in bytes).0 ≡ l.prev) × (second_in bytes ≡ (l.next, flat_map item_bytes l.items))
  unfolding leaf_bytes
  links_are = two_at l.prev l.next bytes (flat_map item_bytes l.items) h.fits.prev h.fits.next h.is

  pub place_is : (i d : ℕ) → i < length l.items → slice_index_or starts i d ≡ bytes_before l i
  place_is i d lt = ap (λ (xs : List ℕ). slice_index_or xs i d) h.begin ∙ start_is item_bytes (length (two l.prev l.next)) l.items i d lt

  pub end_is : (i : ℕ) → i ≡ length l.items → length bytes ≡ bytes_before l i
  end_is i is = length_is ∙ ap (λ (xs : List Item). length (two l.prev l.next) + length (flat_map item_bytes xs)) (sym (take_all i l.items (omega (arith, is))))

  pub item_behind : (i : ℕ) (x : Item) → slice_get l.items i ≡ Some x → drop (bytes_before l i) bytes ≡ item_bytes x ++ flat_map item_bytes (drop (i + 1) l.items)
  unfolding leaf_bytes
  item_behind i x is = ap (drop (bytes_before l i)) h.is ∙ behind_start item_bytes (two l.prev l.next) l.items i x is

  pub item_between : (i : ℕ) (x : Item) → slice_get l.items i ≡ Some x → take (bytes_before l (i + 1) - bytes_before l i) (drop (bytes_before l i) bytes) ≡ item_bytes x
  item_between i x is =
      let long : bytes_before l (i + 1) - bytes_before l i ≡ length (item_bytes x) = omega (arith, before_next l i x is) in
      ap (λ (n : ℕ). take n (drop (bytes_before l i) bytes)) long ∙ ap (take (length (item_bytes x))) (item_behind i x is) ∙ take_at (item_bytes x) (flat_map item_bytes (drop (i + 1) l.items)) (length (item_bytes x)) refl

  pub item_fits : (i : ℕ) (x : Item) → slice_get l.items i ≡ Some x → ItemFits x
  item_fits i x is = held ItemFits l.items i x h.fits.items is
