-- A search for bytes in a column finds whether they stand in it.
use Rattle.std.proofs.Common.{◌≡◌, ◌∙◌, ℕ, zero, suc, ◌+◌, ◌≤◌, ◌<◌, Bool, true, false, List, [], ◌∷◌, ◌++◌, length, take, drop, get_or, length-append, take_at, Option, Some, None, refl, sym, ap, subst, arith, ◌⊎◌, inl, inr}
use Rattle.std.specs.Prelude.{◌||◌, nat_eq, is_some}
use Rattle.std.specs.List.{starts_with}
use Rattle.std.proofs.lemmas.Bool.Decides.{Decides-eqb}
use Rattle.std.proofs.lemmas.Slice.Eq.{starts_is}
use Rattle.memchr.specs.Find.{OccursAt, FindsNeedle}
use Rattle.memchr.proofs.lemmas.MatchLemmas.{OccursAt-from_part, OccursAt-split}
use Rattle.tc_model.specs.Operators.{includes}

-- at the front
starts : (v w : List ℕ) → OccursAt v w 0 → starts_with nat_eq v w ≡ true
starts v w h = (starts_is Decides-eqb v w _ refl).1 _ (OccursAt-split v w 0 h)

occurs : (v w : List ℕ) → starts_with nat_eq v w ≡ true → OccursAt v w 0
occurs v w e =
    let split = (starts_is Decides-eqb v w _ refl).0 e in
    OccursAt-from_part v w 0 (omega (arith, ap length split, length-append w (drop (length w) v))) (ap (take (length w)) split ∙ take_at w (drop (length w) v) (length w) refl)

-- one place further on
up : (b : ℕ) (v w : List ℕ) (k : ℕ) → OccursAt v w k → OccursAt (b ∷ v) w (suc k)
up b v w k h = record { fits = omega (arith, h.fits); reads = λ j less. ap (λ (n : ℕ). get_or (b ∷ v) n 0) (let e : suc k + j ≡ suc (k + j) = omega arith in e) ∙ h.reads j less }

down : (b : ℕ) (v w : List ℕ) (k : ℕ) → OccursAt (b ∷ v) w (suc k) → OccursAt v w k
down b v w k h = record { fits = omega (arith, h.fits); reads = λ j less. ap (λ (n : ℕ). get_or (b ∷ v) n 0) (let e : suc (k + j) ≡ suc k + j = omega arith in e) ∙ h.reads j less }

or_right : (a b : Bool) → b ≡ true → (a || b) ≡ true
or_right true b e = refl
or_right false b e = e

or_left : (a b : Bool) → a ≡ true → (a || b) ≡ true
or_left a b e = ap (λ t. t || b) e

there : (v w : List ℕ) (k : ℕ) → OccursAt v w k → includes v w ≡ true
there [] w k h = starts [] w (subst (OccursAt [] w) (let e : k ≡ 0 = omega (arith, h.fits) in e) h)
there (b ∷ v) w zero h = or_left (starts_with nat_eq (b ∷ v) w) (includes v w) (starts (b ∷ v) w h)
there (b ∷ v) w (suc k) h = or_right (starts_with nat_eq (b ∷ v) w) (includes v w) (there v w k (down b v w k h))

place : (v w : List ℕ) → includes v w ≡ true → (k : ℕ) × OccursAt v w k
place [] w e = (0, occurs [] w e)
place (b ∷ v) w e = go (starts_with nat_eq (b ∷ v) w) refl e (λ f. place v w f)
  where
    go : (t : Bool) → starts_with nat_eq (b ∷ v) w ≡ t → (t || includes v w) ≡ true → (includes v w ≡ true → (k : ℕ) × OccursAt v w k) → (k : ℕ) × OccursAt (b ∷ v) w k
    go true s e later = (0, occurs (b ∷ v) w s)
    go false s e later = let found = later e in (suc found.0, up b v w found.0 found.1)

is_not : (b : Bool) → (b ≡ true → ⊥) → b ≡ false
is_not true h = absurd (h refl)
is_not false h = refl

pub found_is : (v w : List ℕ) (r : Option ℕ) → FindsNeedle v w 0 r → is_some r ≡ includes v w
found_is v w None h = sym (is_not (includes v w) (λ e. let found = place v w e in h found.0 (omega arith) (omega (arith, found.1.fits)) found.1))
found_is v w (Some k) h = sym (there v w k h.1)
