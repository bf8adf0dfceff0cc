-- Which numbers meet a comparison.
use Rattle.std.proofs.Common.{◌≡◌, ◌↔◌, ℤ, Bool, true, false, refl, sym, subst, arith}
use Rattle.std.specs.Prelude.{◌&&◌, ◌||◌, ◌≤ℤ◌, int_le, int_lt, pos}
use Rattle.std.proofs.Math.IntN.{◌+ℤ◌, ◌-ℤ◌}
use Rattle.std.proofs.lemmas.Int.{ints}
use Rattle.tc_model.specs.Operators.{same_number}
use Rattle.td_plan.specs.Spans.{lies}

equal_go : (v m : ℤ) (a b : Bool) → int_le v m ≡ a → int_le m v ≡ b → ((m ≤ℤ v) × (v ≤ℤ m)) ↔ ((a && b) ≡ true)
equal_go v m true true e f = (λ h. refl, λ h. (omega (arith, ints, f), omega (arith, ints, e)))
equal_go v m true false e f = (λ h. absurd (omega (arith, ints, f, h.0)), λ h. absurd cc)
equal_go v m false b e f = (λ h. absurd (omega (arith, ints, e, h.1)), λ h. absurd cc)

pub equal_is : (v m : ℤ) → ((m ≤ℤ v) × (v ≤ℤ m)) ↔ (same_number v m ≡ true)
equal_is v m = equal_go v m (int_le v m) (int_le m v) refl refl

greater_go : (v m low high : ℤ) (a : Bool) → int_lt m v ≡ a → low ≡ m +ℤ pos 1 → v ≤ℤ high → ((low ≤ℤ v) × (v ≤ℤ high)) ↔ (a ≡ true)
greater_go v m low high true e is top = (λ h. refl, λ h. (omega (arith, ints, e, is), top))
greater_go v m low high false e is top = (λ h. absurd (omega (arith, ints, e, is, h.0)), λ h. absurd cc)

pub greater_is : (v m low high : ℤ) → low ≡ m +ℤ pos 1 → v ≤ℤ high → ((low ≤ℤ v) × (v ≤ℤ high)) ↔ (int_lt m v ≡ true)
greater_is v m low high is top = greater_go v m low high (int_lt m v) refl is top

at_least_go : (v m high : ℤ) (a : Bool) → int_le m v ≡ a → v ≤ℤ high → ((m ≤ℤ v) × (v ≤ℤ high)) ↔ (a ≡ true)
at_least_go v m high true e top = (λ h. refl, λ h. (omega (arith, ints, e), top))
at_least_go v m high false e top = (λ h. absurd (omega (arith, ints, e, h.0)), λ h. absurd cc)

pub at_least_is : (v m high : ℤ) → v ≤ℤ high → ((m ≤ℤ v) × (v ≤ℤ high)) ↔ (int_le m v ≡ true)
at_least_is v m high top = at_least_go v m high (int_le m v) refl top

less_go : (v m low high : ℤ) (a : Bool) → int_lt v m ≡ a → high ≡ m -ℤ pos 1 → low ≤ℤ v → ((low ≤ℤ v) × (v ≤ℤ high)) ↔ (a ≡ true)
less_go v m low high true e is bottom = (λ h. refl, λ h. (bottom, omega (arith, ints, e, is)))
less_go v m low high false e is bottom = (λ h. absurd (omega (arith, ints, e, is, h.1)), λ h. absurd cc)

pub less_is : (v m low high : ℤ) → high ≡ m -ℤ pos 1 → low ≤ℤ v → ((low ≤ℤ v) × (v ≤ℤ high)) ↔ (int_lt v m ≡ true)
less_is v m low high is bottom = less_go v m low high (int_lt v m) refl is bottom

at_most_go : (v m low : ℤ) (a : Bool) → int_le v m ≡ a → low ≤ℤ v → ((low ≤ℤ v) × (v ≤ℤ m)) ↔ (a ≡ true)
at_most_go v m low true e bottom = (λ h. refl, λ h. (bottom, omega (arith, ints, e)))
at_most_go v m low false e bottom = (λ h. absurd (omega (arith, ints, e, h.1)), λ h. absurd cc)

pub at_most_is : (v m low : ℤ) → low ≤ℤ v → ((low ≤ℤ v) × (v ≤ℤ m)) ↔ (int_le v m ≡ true)
at_most_is v m low bottom = at_most_go v m low (int_le v m) refl bottom

up_go : (v a b : ℤ) (p q r s : Bool) → a ≤ℤ b → int_le a v ≡ p → int_le v b ≡ q → int_le b v ≡ r → int_le v a ≡ s → ((a ≤ℤ v) × (v ≤ℤ b)) ↔ (((p && q) || (r && s)) ≡ true)
up_go v a b true true r s up e f g h = (λ i. refl, λ i. (omega (arith, ints, e), omega (arith, ints, f)))
up_go v a b true false true true up e f g h = (λ i. absurd (omega (arith, ints, f, i.1)), λ i. (omega (arith, ints, up, g, h), omega (arith, ints, up, g, h)))
up_go v a b true false true false up e f g h = (λ i. absurd (omega (arith, ints, f, i.1)), λ i. absurd cc)
up_go v a b true false false s up e f g h = (λ i. absurd (omega (arith, ints, f, i.1)), λ i. absurd cc)
up_go v a b false q true true up e f g h = (λ i. absurd (omega (arith, ints, e, i.0)), λ i. (omega (arith, ints, up, g, h), omega (arith, ints, up, g, h)))
up_go v a b false q true false up e f g h = (λ i. absurd (omega (arith, ints, e, i.0)), λ i. absurd cc)
up_go v a b false q false s up e f g h = (λ i. absurd (omega (arith, ints, e, i.0)), λ i. absurd cc)

pub up_is : (v a b : ℤ) → a ≤ℤ b → ((a ≤ℤ v) × (v ≤ℤ b)) ↔ (lies v a b ≡ true)
up_is v a b up = up_go v a b (int_le a v) (int_le v b) (int_le b v) (int_le v a) up refl refl refl refl

-- of a cut whose ends are these
pub over : (low high a b v : ℤ) (P : Type 0) → low ≡ a → high ≡ b → ((a ≤ℤ v) × (v ≤ℤ b)) ↔ P → ((low ≤ℤ v) × (v ≤ℤ high)) ↔ P
over low high a b v P is are h = subst (λ (m : ℤ). ((m ≤ℤ v) × (v ≤ℤ high)) ↔ P) (sym is) (subst (λ (n : ℤ). ((a ≤ℤ v) × (v ≤ℤ n)) ↔ P) (sym are) h)

turned : (p q : Bool) → (p || q) ≡ (q || p)
turned true true = refl
turned true false = refl
turned false true = refl
turned false false = refl

pub down_is : (v a b : ℤ) → b ≤ℤ a → ((b ≤ℤ v) × (v ≤ℤ a)) ↔ (lies v a b ≡ true)
down_is v a b down = subst (λ (t : Bool). ((b ≤ℤ v) × (v ≤ℤ a)) ↔ (t ≡ true)) (turned (int_le b v && int_le v a) (int_le a v && int_le v b)) (up_is v b a down)

-- nothing is from 1 to 0
pub nothing : (v : ℤ) (t : Bool) → t ≡ false → ((pos 1 ≤ℤ v) × (v ≤ℤ pos 0)) ↔ (t ≡ true)
nothing v true e = absurd cc
nothing v false e = (λ h. absurd (omega (arith, ints, h.0, h.1)), λ h. absurd cc)
