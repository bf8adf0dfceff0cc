-- Stretches of keys along pairs in order.
use Rattle.std.proofs.Common.{◌≡◌, ◌≢◌, ◌⊎◌, ℕ, zero, suc, ◌<◌, ◌≤◌, List, [], ◌∷◌, ◌++◌, Bool, true, false, length, take, refl, sym, ap, ◌∙◌, subst, inl, inr, arith, append_assoc, length-append}
use Rattle.std.specs.List.{AllByRecursion, flat_map}
use Rattle.std.specs.declared.cmp.Ordering.{Ordering}
use Rattle.std.specs.declared.cmp.Ordering.TheVariants.{Less, Equal, Greater}
use Rattle.std.specs.Ordering.{is_le}
use Rattle.std.proofs.lemmas.List.{append-nil, take_all}
use Rattle.std.proofs.lemmas.List.Elements.{filter-append}
use Rattle.std.proofs.lemmas.Map.Lookups.{CmpEqualImpliesEq}
use Rattle.tc_base.specs.Orders.{NeverFalls, rank}
use Rattle.tc_base.specs.declared.order.Side.{Side}
use Rattle.tc_base.specs.declared.order.Side.TheVariants as sides
use Rattle.tc_base.specs.declared.seq.Pair.{Pair}
use Rattle.tc_base.specs.Lists.{Rises}
use Rattle.tc_space.specs.Changes.{inside, is_inside}
use Rattle.bt_page.specs.declared.page.Leaf.{Leaf}
use Rattle.bt_rows.specs.Rules.{item_pairs}
use Rattle.bt_tree.specs.Ranging.{is_front, is_from, IsScanned, StartsOutside}
use Rattle.bt_ways.proofs.Keys.{all_map, all_part}

front_outside : (s : Side) → is_front s ≡ true → is_inside s ≡ false
front_outside sides.Before e = refl
front_outside sides.Inside e = absurd (cc)
front_outside sides.After e = absurd (cc)

front_not_from : (s : Side) → is_front s ≡ true → is_from s ≡ true → ⊥
front_not_from sides.Before e f = cc
front_not_from sides.Inside e f = cc
front_not_from sides.After e f = cc

-- no further to the front than a side, and no further back
pub front_rank : (s t : Side) → rank s ≤ rank t → is_from t ≡ false → is_front s ≡ true
front_rank sides.Before t le e = refl
front_rank s sides.Inside le e = absurd (cc)
front_rank s sides.After le e = absurd (cc)
front_rank sides.Inside sides.Before le e = absurd (omega (arith, le))
front_rank sides.After sides.Before le e = absurd (omega (arith, le))

pub from_rank : (s t : Side) → rank s ≤ rank t → is_from s ≡ true → is_from t ≡ true
from_rank sides.Before t le e = absurd (cc)
from_rank s sides.Inside le e = refl
from_rank s sides.After le e = refl
from_rank sides.Inside sides.Before le e = absurd (omega (arith, le))
from_rank sides.After sides.Before le e = absurd (omega (arith, le))

-- as far as the end of all stretches
last_rank : (s : Side) → is_from s ≡ true → is_inside s ≡ false → 2 ≤ rank s
last_rank sides.Before e f = absurd (cc)
last_rank sides.Inside e f = absurd (cc)
last_rank sides.After e f = omega arith

rank_last : (s : Side) → 2 ≤ rank s → is_inside s ≡ false
rank_last sides.Before le = refl
rank_last sides.Inside le = absurd (omega (arith, le))
rank_last sides.After le = refl

pub rises_part : (cmp : List ℕ → List ℕ → Ordering) (xs ys : List Pair) → Rises cmp (xs ++ ys) → Rises cmp ys
rises_part cmp [] ys r = r
rises_part cmp (x ∷ xs) ys r = rises_part cmp xs ys r.1

module _ (side : List ℕ → Side) where
  abbrev pub in_side : Pair → Bool
  in_side p = is_inside (side p.key)

  none_inside : (ps : List Pair) → AllByRecursion (λ p. is_inside (side p.key) ≡ false) ps → inside side ps ≡ []
  none_inside [] h = refl
  none_inside (p ∷ ps) h = rw h.0 (none_inside ps h.1)

  all_inside : (ps : List Pair) → AllByRecursion (λ p. is_inside (side p.key) ≡ true) ps → inside side ps ≡ ps
  all_inside [] h = refl
  all_inside (p ∷ ps) h = rw h.0 (ap (λ (t : List Pair). p ∷ t) (all_inside ps h.1))

  pub inside-append : (ps qs : List Pair) → inside side (ps ++ qs) ≡ inside side ps ++ inside side qs
  inside-append ps qs = filter-append in_side ps qs

  pub fronts_inside : (ps : List Pair) → AllByRecursion (λ p. is_front (side p.key) ≡ true) ps → inside side ps ≡ []
  fronts_inside ps h = none_inside ps (all_map (λ p. is_front (side p.key) ≡ true) (λ p. is_inside (side p.key) ≡ false) ps (λ p e. front_outside (side p.key) e) h)

  no_front : (ps : List Pair) → AllByRecursion (λ p. is_front (side p.key) ≡ true) ps → AllByRecursion (λ p. is_from (side p.key) ≡ true) ps → ps ≡ []
  no_front [] h k = refl
  no_front (p ∷ ps) h k = absurd (front_not_from (side p.key) h.0 k.0)

  module _ (cmp : List ℕ → List ℕ → Ordering) (exact : CmpEqualImpliesEq cmp) (falls : NeverFalls cmp side) where
    pub rank_on : (x y : List ℕ) → is_le (cmp x y) ≡ true → rank (side x) ≤ rank (side y)
    rank_on x y le = go (cmp x y) refl le
      where
        go : (o : Ordering) → cmp x y ≡ o → is_le o ≡ true → rank (side x) ≤ rank (side y)
        go Less e le = falls x y e
        go Equal e le = omega (arith, ap (λ (k : List ℕ). rank (side k)) (exact x y e))
        go Greater e le = absurd (cc)

    -- behind a key that is past the stretch nothing is inside
    beyond : (q : Pair) (v : List Pair) → Rises cmp (q ∷ v) → is_from (side q.key) ≡ true → is_inside (side q.key) ≡ false → inside side (q ∷ v) ≡ []
    beyond q v rise from out =
        none_inside (q ∷ v) (
          out,
          all_map (λ p. is_le (cmp q.key p.key) ≡ true) (λ p. is_inside (side p.key) ≡ false) v
              (λ p le. rank_last (side p.key) (omega (arith, last_rank (side q.key) from out, rank_on q.key p.key le))) rise.0,
        )

take_front : {X : Type 0} (n : ℕ) (xs ys : List X) → n ≡ length xs → take n (xs ++ ys) ≡ xs
take_front zero [] ys e = refl
take_front zero (x ∷ xs) ys e = absurd (omega (arith, e))
take_front (suc n) [] ys e = absurd (omega (arith, e))
take_front {X} (suc n) (x ∷ xs) ys e = ap (λ (t : List X). x ∷ t) (take_front n xs ys (omega (arith, e)))

-- ---- a leaf that was scanned

module _ (side : List ℕ → Side) (max : ℕ) (l : Leaf) (old new : List Pair) (next : ℕ) (sc : IsScanned side max l old new next) where
  abbrev here : List Pair
  here = flat_map item_pairs l.items

  -- what is inside of the pairs in front, of the leaf's and of those behind
  scanned : (front back : List Pair) → old ≡ inside side front → inside side (front ++ (flat_map item_pairs l.items ++ back)) ≡ new ++ inside side (sc.left ++ back)
  scanned front back got =
      inside-append side front (here ++ back)
      ∙ ap (λ (t : List Pair). t ++ inside side (here ++ back)) (sym got)
      ∙ ap (λ (t : List Pair). old ++ inside side (t ++ back)) sc.are
      ∙ ap (λ (t : List Pair). old ++ inside side t) (rearrange sc.front sc.went sc.left back)
      ∙ ap (λ (t : List Pair). old ++ t)
      (inside-append side sc.front (sc.went ++ (sc.left ++ back))
      ∙ ap (λ (t : List Pair). t ++ inside side (sc.went ++ (sc.left ++ back))) (fronts_inside side sc.front sc.skipped)
      ∙ inside-append side sc.went (sc.left ++ back)
      ∙ ap (λ (t : List Pair). t ++ inside side (sc.left ++ back)) (all_inside side sc.went sc.inside))
      ∙ sym (append_assoc old sc.went (inside side (sc.left ++ back)))
      ∙ ap (λ (t : List Pair). t ++ inside side (sc.left ++ back)) (sym sc.grown)
    where
      rearrange : (a b c d : List Pair) → (a ++ (b ++ c)) ++ d ≡ a ++ (b ++ (c ++ d))
      rearrange a b c d = simp append_assoc

  -- it goes on: all that is inside so far was added
  pub scanned_on : (front : List Pair) → old ≡ inside side front → next ≢ 0 → new ≡ inside side (front ++ flat_map item_pairs l.items)
  scanned_on front got on =
      sym (ap (λ (t : List Pair). inside side (front ++ t)) (sym (append-nil here)) ∙ scanned front [] got ∙ ap (λ (t : List Pair). new ++ inside side (t ++ [])) (sc.on on).0 ∙ append-nil new)

  -- it ends: no further pair is wanted
  pub scanned_end : (cmp : List ℕ → List ℕ → Ordering) → CmpEqualImpliesEq cmp → NeverFalls cmp side → (front back : List Pair) → old ≡ inside side front → length old ≤ max → next ≡ 0 → (l.next ≡ 0 → back ≡ [])
      → Rises cmp (front ++ (flat_map item_pairs l.items ++ back)) → new ≡ take max (inside side (front ++ (flat_map item_pairs l.items ++ back)))
  scanned_end cmp exact falls front back got room end last rise = sym (ap (take max) (scanned front back got) ∙ go (sc.ended end))
    where
      fits : length new ≤ max
      fits = sc.room room

      all : (more : List Pair) → more ≡ [] → take max (new ++ more) ≡ new
      all more e = ap (λ (t : List Pair). take max (new ++ t)) e ∙ ap (take max) (append-nil new) ∙ take_all max new fits

      past : (left : List Pair) → left ≡ sc.left → StartsOutside side left → AllByRecursion (λ p. is_from (side p.key) ≡ true) left → inside side (left ++ back) ≡ []
      past left same o from =
          ap (λ (t : List Pair). inside side (t ++ back)) o.are
          ∙ beyond side cmp exact falls o.first (o.rest ++ back)
          (subst (λ (t : List Pair). Rises cmp (t ++ back)) o.are (subst (λ (t : List Pair). Rises cmp (t ++ back)) (sym same) behind)) (subst (λ (t : List Pair). AllByRecursion (λ p. is_from (side p.key) ≡ true) t) o.are from).0 o.outside
        where
          rearrange : (f a b c d : List Pair) → f ++ ((a ++ (b ++ c)) ++ d) ≡ (f ++ (a ++ b)) ++ (c ++ d)
          rearrange f a b c d = simp append_assoc

          behind : Rises cmp (sc.left ++ back)
          behind = rises_part cmp (front ++ (sc.front ++ sc.went)) (sc.left ++ back) (subst (λ (t : List Pair). Rises cmp t) (ap (λ (t : List Pair). front ++ (t ++ back)) sc.are ∙ rearrange front sc.front sc.went sc.left back) rise)

      go : (max ≤ length new) ⊎ (((sc.left ≡ []) × (l.next ≡ 0)) ⊎ StartsOutside side sc.left) → take max (new ++ inside side (sc.left ++ back)) ≡ new
      go (inl full) = take_front max new (inside side (sc.left ++ back)) (omega (arith, full, fits))
      go (inr (inl none)) = all (inside side (sc.left ++ back)) (ap (λ (t : List Pair). inside side (t ++ back)) none.0 ∙ ap (inside side) (last none.1))
      go (inr (inr o)) = all (inside side (sc.left ++ back)) (past sc.left refl o sc.from)

  -- where none of its pairs, of which it has some, is in front of the stretch, one was added
  pub scanned_some : AllByRecursion (λ p. is_from (side p.key) ≡ true) (flat_map item_pairs l.items) → 0 < length (flat_map item_pairs l.items) → next ≢ 0 → length old < length new
  scanned_some from some on =
      let parts : AllByRecursion (λ p. is_from (side p.key) ≡ true) (sc.front ++ (sc.went ++ sc.left)) = subst (λ (t : List Pair). AllByRecursion (λ p. is_from (side p.key) ≡ true) t) sc.are from in
      let none : sc.front ≡ [] = no_front side sc.front sc.skipped (all_part (λ p. is_from (side p.key) ≡ true) sc.front (sc.went ++ sc.left) parts).0 in
      omega (arith, some, len sc.grown, len sc.are, len none, len (sc.on on).0, length-append old sc.went, length-append sc.front (sc.went ++ sc.left), length-append sc.went sc.left)
    where
      len : {x y : List Pair} → x ≡ y → length x ≡ length y
      len e = ap (λ (t : List Pair). length t) e

  -- where one was added, the leaf has one inside
  pub scanned_has : length old < length new → next ≢ 0 → 0 < length (inside side (flat_map item_pairs l.items))
  scanned_has more on =
      omega (arith, more, len sc.grown, length-append old sc.went, len went)
    where
      len : {x y : List Pair} → x ≡ y → length x ≡ length y
      len e = ap (λ (t : List Pair). length t) e

      went : inside side (flat_map item_pairs l.items) ≡ sc.went
      went =
          ap (inside side) sc.are ∙ inside-append side sc.front (sc.went ++ sc.left) ∙ ap (λ (t : List Pair). t ++ inside side (sc.went ++ sc.left)) (fronts_inside side sc.front sc.skipped)
          ∙ ap (λ (t : List Pair). inside side (sc.went ++ t)) (sc.on on).0 ∙ ap (inside side) (append-nil sc.went) ∙ all_inside side sc.went sc.inside
