-- The last item of a leaf, and its last item below a key.
use Rattle.std.proofs.Common.{◌≡◌, ◌≢◌, ℕ, zero, suc, ◌-◌, ◌<◌, ◌≤◌, List, [], ◌∷◌, Bool, true, false, Some, None, length, take, refl, sym, ap, ◌∙◌, subst, ⊎_elim, arith, slice_index_or}
use Rattle.std.specs.Prelude.{slice_get}
use Rattle.std.specs.List.{AllByRecursion}
use Rattle.std.specs.declared.cmp.Ordering.{Ordering}
use Rattle.bt_page.specs.declared.page.Item.{Item}
use Rattle.bt_rows.specs.Orders.{IsOrder, before_by}
use Rattle.bt_rows.specs.Rules.{Ascends}
use Rattle.bt_tree.specs.Showing.{end_of, items_below}
use Rattle.bt_ways.specs.Searches.{IsSpot}
use Rattle.bt_ways.proofs.Keys.{clash, either, not_back}

-- ---- of a leaf

pub end_none : (xs : List Item) → length xs ≡ 0 → None ≡ end_of xs
end_none [] e = refl
end_none (x ∷ xs) e = absurd (omega (arith, e))

end_at : (xs : List Item) (k : ℕ) (x : Item) → length xs ≡ suc k → slice_get xs k ≡ Some x → end_of xs ≡ Some x
end_at [] k x n at = absurd (omega (arith, n))
end_at (y ∷ []) zero x n at = at
end_at (y ∷ []) (suc k) x n at = absurd (omega (arith, n))
end_at (y ∷ z ∷ zs) zero x n at = absurd (omega (arith, n))
end_at (y ∷ z ∷ zs) (suc k) x n at = end_at (z ∷ zs) k x (omega (arith, n)) at

pub end_some : (xs : List Item) (x : Item) → length xs ≢ 0 → slice_get xs (length xs - 1) ≡ Some x → Some x ≡ end_of xs
end_some xs x ne at =
    let k : length xs ≡ suc (length xs - 1) = omega (arith, ne) in
    sym (end_at xs (length xs - 1) x k at)

-- ---- and its first

pub start_none : (xs : List Item) → length xs ≡ 0 → None ≡ slice_get xs 0
start_none [] e = refl
start_none (x ∷ xs) e = absurd (omega (arith, e))

-- ---- below a key

end_taken : (xs : List Item) (k : ℕ) (x : Item) → slice_get xs k ≡ Some x → end_of (take (suc k) xs) ≡ Some x
end_taken [] k x at = absurd (cc)
end_taken (y ∷ []) zero x at = at
end_taken (y ∷ z ∷ zs) zero x at = at
end_taken (y ∷ []) (suc k) x at = absurd (cc)
end_taken (y ∷ z ∷ zs) (suc k) x at = end_taken (z ∷ zs) k x at

take_none : (xs : List Item) → take 0 xs ≡ []
take_none [] = refl
take_none (x ∷ xs) = refl

module _ (cmp : List ℕ → List ℕ → Ordering) (order : IsOrder (before_by cmp)) (key : List ℕ) where
  not_low : (x y : List ℕ) → before_by cmp x key ≡ false → before_by cmp x y ≡ true → before_by cmp y key ≡ false
  not_low x y e lt =
      ⊎_elim (λ (low : before_by cmp y key ≡ true). absurd (clash (before_by cmp x key) (order.trans x y key lt low) e))
      (λ (is : before_by cmp y key ≡ false). is)
      (either (before_by cmp y key))

  none_behind : (x : Item) (xs : List Item) → before_by cmp x.key key ≡ false → AllByRecursion (λ y. before_by cmp x.key y.key ≡ true) xs → items_below cmp key xs ≡ []
  none_behind x [] e h = refl
  none_behind x (y ∷ ys) e h = rw (not_low x.key y.key e h.0) (none_behind x ys e h.1)

  stops : (xs : List Item) (place : ℕ) → Ascends (before_by cmp) xs → ((i : ℕ) (d : Item) → i < place → before_by cmp (slice_index_or xs i d).key key ≡ true)
      → ((d : Item) → place < length xs → before_by cmp (slice_index_or xs place d).key key ≡ false) → place ≤ length xs → items_below cmp key xs ≡ take place xs
  stops [] zero asc low high le = refl
  stops [] (suc i) asc low high le = refl
  stops (x ∷ xs) zero asc low high le = let e : before_by cmp x.key key ≡ false = high x (omega arith) in rw e (none_behind x xs e asc.0)
  stops (x ∷ xs) (suc i) asc low high le =
      let e : before_by cmp x.key key ≡ true = low 0 x (omega arith) in
      rw e (ap (λ (t : List Item). x ∷ t) (stops xs i asc.1 (λ j d lt. low (suc j) d (omega (arith, lt))) (λ d lt. high d (omega (arith, lt))) (omega (arith, le))))

  not_below : (xs : List Item) (place : ℕ) (hit : Bool) → IsSpot (before_by cmp) xs key place hit → (d : Item) → place < length xs → before_by cmp (slice_index_or xs place d).key key ≡ false
  not_below xs place true s d lt = subst (λ (k : List ℕ). before_by cmp k key ≡ false) (sym (s.there d refl)) (order.strict key)
  not_below xs place false s d lt = not_back (before_by cmp) order key (slice_index_or xs place d).key (s.high d refl lt)

  pub below_at : (xs : List Item) (place : ℕ) (hit : Bool) (x : Item) → Ascends (before_by cmp) xs → IsSpot (before_by cmp) xs key place hit → place ≢ 0 → slice_get xs (place - 1) ≡ Some x
      → Some x ≡ end_of (items_below cmp key xs)
  below_at xs place hit x asc s ne at =
      let k : place ≡ suc (place - 1) = omega (arith, ne) in
      sym (ap end_of (stops xs place asc s.low (not_below xs place hit s) s.within ∙ ap (λ (n : ℕ). take n xs) k) ∙ end_taken xs (place - 1) x at)

  pub below_none : (xs : List Item) (place : ℕ) (hit : Bool) → Ascends (before_by cmp) xs → IsSpot (before_by cmp) xs key place hit → place ≡ 0 → items_below cmp key xs ≡ []
  below_none xs place hit asc s none = stops xs place asc s.low (not_below xs place hit s) s.within ∙ ap (λ (n : ℕ). take n xs) none ∙ take_none xs
