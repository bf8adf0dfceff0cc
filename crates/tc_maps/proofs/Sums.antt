-- What a weight of pairs sums to after each change.
use Rattle.std.proofs.Common.{◌≡◌, ℕ, ◌+◌, List, [], ◌∷◌, ◌++◌, map, length, refl, ap, ◌∙◌, cond, arith}
use Rattle.std.specs.Prelude.{Option, Some, None, filter, drop, slice_get, sum_by}
use Rattle.std.specs.declared.cmp.Ordering.TheVariants.{Less, Equal, Greater}
use Rattle.std.specs.Ordering.{is_eq, is_lt, is_gt}
use Rattle.std.proofs.lemmas.Map.Lookups.{exact_bytes}
use Rattle.std.proofs.lemmas.List.Sums.{sum_by-cons, sum_by-append}
use Rattle.tc_base.specs.declared.seq.Pair.{Pair}
use Rattle.tc_base.specs.Texts.{is_text}
use Rattle.tc_base.specs.Lists.{pair, values, first, below, above, with_values, with_first, with_last, without_first, without_all}
use Rattle.tc_maps.proofs.Seen.{order, text_tied}

module _ (w : List ℕ → List ℕ → ℕ) where
  abbrev weight : Pair → ℕ
  weight p = w p.key p.value

  abbrev pub total : List Pair → ℕ
  total ps = sum_by weight ps

  abbrev pub under : List ℕ → List (List ℕ) → ℕ
  under k vs = sum_by (w k) vs

  abbrev pub gone : List ℕ → Option (List ℕ) → ℕ
  gone k None = 0
  gone k (Some v) = w k v

  abbrev kept : List Pair → List ℕ → List Pair
  kept ps k = filter (λ p. is_text p.key k) ps

  abbrev told : List Pair → List (List ℕ)
  told ps = map (λ p. p.value) ps

  -- below, above and at a key stand all
  parted : (ps : List Pair) (k : List ℕ) → total (below order ps k) + (total (above order ps k) + under k (values ps k)) ≡ total ps
  parted [] k = refl
  parted (p ∷ ps) k =
      let rest = parted ps k in
      let b : List Pair = below order ps k in
      let a : List Pair = above order ps k in
      let m : List Pair = kept ps k in
      let all = sum_by-cons weight p ps in
      ap (λ t. total (below order (p ∷ ps) k) + (total (above order (p ∷ ps) k) + under k (told (cond t (p ∷ m) m)))) (text_tied p.key k)
      ∙ elim (order p.key k) as (λ r. order p.key k ≡ r → total (cond (is_lt r) (p ∷ b) b) + (total (cond (is_gt r) (p ∷ a) a) + under k (told (cond (is_eq r) (p ∷ m) m))) ≡ total (p ∷ ps)) [
        | Less ↦ λ e. omega (arith, rest, all, sum_by-cons weight p b)
        | Equal ↦ λ e. let same : w p.key p.value ≡ w k p.value = ap (λ x. w x p.value) (exact_bytes p.key k e) in omega (arith, rest, all, same, sum_by-cons (w k) p.value (told m))
        | Greater ↦ λ e. omega (arith, rest, all, sum_by-cons weight p a)
      ] refl

  paired : (k : List ℕ) (vs : List (List ℕ)) → total (map (pair k) vs) ≡ under k vs
  paired k [] = refl
  paired k (v ∷ vs) = omega (arith, paired k vs, sum_by-cons weight (pair k v) (map (pair k) vs), sum_by-cons (w k) v vs)

  pub with_sum : (ps : List Pair) (k : List ℕ) (vs : List (List ℕ)) → total (with_values order ps k vs) + under k (values ps k) ≡ total ps + under k vs
  with_sum ps k vs =
      omega (arith, parted ps k, paired k vs, sum_by-append weight (below order ps k) (map (pair k) vs ++ above order ps k), sum_by-append weight (map (pair k) vs) (above order ps k))

  split_first : (k : List ℕ) (vs : List (List ℕ)) → under k vs ≡ gone k (slice_get vs 0) + under k (drop 1 vs)
  split_first k [] = refl
  split_first k (v ∷ vs) = sum_by-cons (w k) v vs

  pub first_sum : (ps : List Pair) (k v : List ℕ) → total (with_first order ps k v) + gone k (first ps k) ≡ total ps + w k v
  first_sum ps k v = omega (arith, with_sum ps k (v ∷ drop 1 (values ps k)), split_first k (values ps k), sum_by-cons (w k) v (drop 1 (values ps k)))

  pub last_sum : (ps : List Pair) (k v : List ℕ) → total (with_last order ps k v) ≡ total ps + w k v
  last_sum ps k v = omega (arith, with_sum ps k (values ps k ++ v ∷ []), sum_by-append (w k) (values ps k) (v ∷ []), sum_by-cons (w k) v [])

  pub less_first_sum : (ps : List Pair) (k : List ℕ) → total (without_first order ps k) + gone k (first ps k) ≡ total ps
  less_first_sum ps k = omega (arith, with_sum ps k (drop 1 (values ps k)), split_first k (values ps k))

  pub less_all_sum : (ps : List Pair) (k : List ℕ) → total (without_all order ps k) + under k (values ps k) ≡ total ps
  less_all_sum ps k = omega (arith, with_sum ps k [])

abbrev pub one_each : List ℕ → List ℕ → ℕ
one_each key value = 1

abbrev pub size_each : List ℕ → List ℕ → ℕ
size_each key value = length key + length value

pub ones : (ps : List Pair) → total one_each ps ≡ length ps
ones [] = refl
ones (p ∷ ps) = omega (arith, ones ps, sum_by-cons (λ (p : Pair). one_each p.key p.value) p ps)
