-- A list of pairs in order stays in order when the values of a key change.
use Rattle.std.proofs.Common.{◌≡◌, ℕ, Bool, true, false, cond, List, [], ◌∷◌, ◌++◌, map, refl, sym, ap, ◌∙◌}
use Rattle.std.specs.Prelude.{filter}
use Rattle.std.specs.List.{AllByRecursion}
use Rattle.std.specs.declared.cmp.Ordering.{Ordering}
use Rattle.std.specs.declared.cmp.Ordering.TheVariants.{Less, Equal, Greater}
use Rattle.std.specs.Ordering.{is_lt, is_le, is_gt, ordering_reverse}
use Rattle.std.specs.Cmp.{IsTotalOrder, tied_itself}
use Rattle.tc_base.specs.declared.seq.Pair.{Pair}
use Rattle.tc_base.specs.Lists.{Rises, above, below, pair, with_values}

module _ {A : Type 0} where
  all_more : {P Q : A → Type 0} → ((x : A) → P x → Q x) → (xs : List A) → AllByRecursion P xs → AllByRecursion Q xs
  all_more f [] h = tt
  all_more f (x ∷ xs) h = (f x h.0, all_more f xs h.1)

  all_join : (P : A → Type 0) (xs ys : List A) → AllByRecursion P xs → AllByRecursion P ys → AllByRecursion P (xs ++ ys)
  all_join P [] ys h k = k
  all_join P (x ∷ xs) ys h k = (h.0, all_join P xs ys h.1 k)

  all_filter : (P : A → Type 0) (test : A → Bool) (xs : List A) → AllByRecursion P xs → AllByRecursion P (filter test xs)
  all_filter P test [] h = tt
  all_filter P test (x ∷ xs) h = go (test x) (all_filter P test xs h.1)
    where
      go : (b : Bool) → AllByRecursion P (filter test xs) → AllByRecursion P (cond b (x ∷ filter test xs) (filter test xs))
      go true k = (h.0, k)
      go false k = k

  -- what is left passes the test
  all_pass : (test : A → Bool) (xs : List A) → AllByRecursion (λ x. test x ≡ true) (filter test xs)
  all_pass test [] = tt
  all_pass test (x ∷ xs) = go (test x) refl (all_pass test xs)
    where
      go : (b : Bool) → b ≡ test x → AllByRecursion (λ x. test x ≡ true) (filter test xs) → AllByRecursion (λ x. test x ≡ true) (cond b (x ∷ filter test xs) (filter test xs))
      go true e k = (sym e, k)
      go false e k = k

less_is : (r : Ordering) → is_lt r ≡ true → r ≡ Less
less_is Less e = refl
less_is Equal e = absurd cc
less_is Greater e = absurd cc

greater_is : (r : Ordering) → is_gt r ≡ true → r ≡ Greater
greater_is Less e = absurd cc
greater_is Equal e = absurd cc
greater_is Greater e = refl

module _ {R : List ℕ → List ℕ → Ordering} (o : IsTotalOrder R) where
  rises_filter : (test : Pair → Bool) (ps : List Pair) → Rises R ps → Rises R (filter test ps)
  rises_filter test [] h = tt
  rises_filter test (p ∷ ps) h = go (test p) (all_filter _ test ps h.0) (rises_filter test ps h.1)
    where
      go : (b : Bool) → AllByRecursion (λ q. is_le (R p.key q.key) ≡ true) (filter test ps) → Rises R (filter test ps) → Rises R (cond b (p ∷ filter test ps) (filter test ps))
      go true a r = (a, r)
      go false a r = r

  rises_join : (xs ys : List Pair) → Rises R xs → Rises R ys → AllByRecursion (λ x. AllByRecursion (λ y. is_le (R x.key y.key) ≡ true) ys) xs → Rises R (xs ++ ys)
  rises_join [] ys h k b = k
  rises_join (x ∷ xs) ys h k b = (all_join _ xs ys h.0 b.0, rises_join xs ys h.1 k b.1)

  itself : (key : List ℕ) → is_le (R key key) ≡ true
  itself key = ap is_le (tied_itself o key)

  same_key : (key : List ℕ) (vs : List (List ℕ)) → AllByRecursion (λ q. is_le (R key q.key) ≡ true) (map (pair key) vs)
  same_key key [] = tt
  same_key key (v ∷ vs) = (itself key, same_key key vs)

  rises_same : (key : List ℕ) (vs : List (List ℕ)) → Rises R (map (pair key) vs)
  rises_same key [] = tt
  rises_same key (v ∷ vs) = (same_key key vs, rises_same key vs)

  -- the key is below what is above it
  up : (key k : List ℕ) → is_gt (R k key) ≡ true → R key k ≡ Less
  up key k e = o.antisymm key k ∙ ap ordering_reverse (greater_is (R k key) e)

  key_first : (key : List ℕ) (vs : List (List ℕ)) (hs : List Pair) → AllByRecursion (λ q. is_gt (R q.key key) ≡ true) hs → AllByRecursion (λ x. AllByRecursion (λ y. is_le (R x.key y.key) ≡ true) hs) (map (pair key) vs)
  key_first key [] hs h = tt
  key_first key (v ∷ vs) hs h = (all_more (λ q e. ap is_le (up key q.key e)) hs h, key_first key vs hs h)

  pub rises_with : (ps : List Pair) (key : List ℕ) (vs : List (List ℕ)) → Rises R ps → Rises R (with_values R ps key vs)
  rises_with ps key vs h =
      let low = all_pass (λ p. is_lt (R p.key key)) ps in
      let high = all_pass (λ p. is_gt (R p.key key)) ps in
      let behind = rises_join (map (pair key) vs) (above R ps key) (rises_same key vs) (rises_filter (λ p. is_gt (R p.key key)) ps h) (key_first key vs (above R ps key) high) in
      rises_join (below R ps key) (map (pair key) vs ++ above R ps key) (rises_filter (λ p. is_lt (R p.key key)) ps h) behind
      (all_more (λ p e. let first = less_is (R p.key key) e in
      all_join _ (map (pair key) vs) (above R ps key) (keys_behind p.key first vs) (all_more (λ q g. ap is_le (o.trans p.key key q.key first (up key q.key g))) (above R ps key) high)) (below R ps key) low)
    where
      keys_behind : (k : List ℕ) → R k key ≡ Less → (ws : List (List ℕ)) → AllByRecursion (λ q. is_le (R k q.key) ≡ true) (map (pair key) ws)
      keys_behind k e [] = tt
      keys_behind k e (w ∷ ws) = (ap is_le e, keys_behind k e ws)
