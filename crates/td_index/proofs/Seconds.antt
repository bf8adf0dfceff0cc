-- The second part of a key, from place to place.
use Rattle.std.proofs.Common.{◌≡◌, ◌∙◌, ℕ, ◌+◌, ◌<◌, ◌≤◌, Bool, true, false, cond, List, [], ◌∷◌, length, take, drop, get_or, map, Option, Some, None, refl, ap, arith}
use Rattle.std.proofs.lemmas.Bool.{eq-eqb, ne_eqb}
use Rattle.std.proofs.lemmas.List.{drop_more, drop_all, take_all}
use Rattle.tc_base.specs.declared.order.Side.{Side}
use Rattle.tc_base.specs.declared.seq.Pair.{Pair}
use Rattle.tc_space.specs.Changes.{inside, is_inside}
use Rattle.td_index.specs.Entries.{behind, parted}
use Rattle.td_index.specs.Ranges.{candidates, second, second_of}

-- a byte in front of the first part leaves the second
passed : (b : ℕ) (o : Option (List ℕ × List ℕ)) → second_of (behind b o) ≡ second_of o
passed b None = refl
passed b (Some p) = refl

pub second_on : (b : ℕ) (x : List ℕ) → (b ≡ 0 → ⊥) → second (b ∷ x) ≡ second x
second_on b x other = ap (λ (t : Bool). second_of (cond t (Some ([], x)) (behind b (parted x)))) (ne_eqb b 0 other) ∙ passed b (parted x)

pub second_here : (b : ℕ) (x : List ℕ) → b ≡ 0 → second (b ∷ x) ≡ x
second_here b x e = ap (λ (t : Bool). second_of (cond t (Some ([], x)) (behind b (parted x)))) (eq-eqb b 0 e)

-- of a key that is gone through
pub goes_on : (key : List ℕ) (i : ℕ) → i < length key → (get_or key i 0 ≡ 0 → ⊥) → second key ≡ second (drop i key) → second key ≡ second (drop (i + 1) key)
goes_on key i less other so = so ∙ ap (λ (x : List ℕ). second x) (drop_more key i 0 less) ∙ second_on (get_or key i 0) (drop (i + 1) key) other

pub found : (key : List ℕ) (i : ℕ) → i < length key → get_or key i 0 ≡ 0 → second key ≡ second (drop i key) → second key ≡ drop (i + 1) key
found key i less is so = so ∙ ap (λ (x : List ℕ). second x) (drop_more key i 0 less) ∙ second_here (get_or key i 0) (drop (i + 1) key) is

pub none : (key : List ℕ) (i : ℕ) → length key ≤ i → second key ≡ second (drop i key) → second key ≡ []
none key i all so = so ∙ ap (λ (x : List ℕ). second x) (drop_all i key all)

-- ---- a range of as many as there are is all of it

few : (side : List ℕ → Side) (ps : List Pair) → length (inside side ps) ≤ length ps
few side [] = omega arith
few side (p ∷ ps) = go (is_inside (side p.key)) (few side ps)
  where
    go : (b : Bool) → length (inside side ps) ≤ length ps → length (cond b (p ∷ inside side ps) (inside side ps)) ≤ length (p ∷ ps)
    go true less = omega (arith, less)
    go false less = omega (arith, less)

pub all_candidates : (side : List ℕ → Side) (ps got : List Pair) (keys : List (List ℕ)) (n : ℕ) → n ≡ length ps → got ≡ take n (inside side ps) → keys ≡ map (λ p. second p.key) got → keys ≡ candidates side ps
all_candidates side ps got keys n is of them =
    them ∙ ap (λ (l : List Pair). map (λ p. second p.key) l) (of ∙ take_all n (inside side ps) (omega (arith, is, few side ps)))
