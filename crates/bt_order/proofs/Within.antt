-- Which keys are inside.
use Rattle.std.proofs.Common.{◌≡◌, ◌↔◌, ℕ, ℤ, Bool, true, false, List, Option, Some, None, length, take, refl, sym, subst, arith}
use Rattle.std.specs.Prelude.{nat_eq, int_lt, ◌≤ℤ◌}
use Rattle.std.specs.List.{starts_with}
use Rattle.std.specs.Cmp.Lexicographic.{nat_list_cmp_total}
use Rattle.std.specs.Ordering.{is_lt, is_ge}
use Rattle.std.specs.declared.cmp.Ordering.{Ordering}
use Rattle.std.specs.declared.cmp.Ordering.TheVariants.{Less, Equal, Greater}
use Rattle.std.proofs.lemmas.Cmp.{tied_itself}
use Rattle.std.proofs.lemmas.Int.{ints}
use Rattle.std.proofs.lemmas.Map.Lookups.{exact_bytes}
use Rattle.std.proofs.lemmas.Slice.Eq.{bytes_eq-Decides}
use Rattle.tc_base.specs.Orders.{lexical, key_number}
use Rattle.tc_base.specs.declared.order.Side.TheVariants.{Inside}
use Rattle.bt_order.specs.Keys.{side_in, IsWithin}
use Rattle.bt_order.specs.Numbers.{side_numbered, IsNumbered}
use Rattle.bt_order.specs.Sides.{side, side_begun, side_beside}

open_end : (o : Ordering) → (side (is_lt o) false ≡ Inside) ↔ ((is_ge o ≡ true) × Unit {0})
open_end Less = (λ e. absurd cc, λ h. absurd (let e = h.0 in cc))
open_end Equal = (λ e. (refl, tt), λ h. refl)
open_end Greater = (λ e. (refl, tt), λ h. refl)

with_end : (o p : Ordering) → (side (is_lt o) (is_ge p) ≡ Inside) ↔ ((is_ge o ≡ true) × (p ≡ Less))
with_end Less p = (λ e. absurd cc, λ h. absurd (let e = h.0 in cc))
with_end Equal Less = (λ e. (refl, refl), λ h. refl)
with_end Greater Less = (λ e. (refl, refl), λ h. refl)
with_end Equal Equal = (λ e. absurd cc, λ h. absurd (let e = h.1 in cc))
with_end Equal Greater = (λ e. absurd cc, λ h. absurd (let e = h.1 in cc))
with_end Greater Equal = (λ e. absurd cc, λ h. absurd (let e = h.1 in cc))
with_end Greater Greater = (λ e. absurd cc, λ h. absurd (let e = h.1 in cc))

pub is_within : (cmp : List ℕ → List ℕ → Ordering) (first : List ℕ) (end : Option (List ℕ)) (key : List ℕ) → (side_in cmp first end key ≡ Inside) ↔ IsWithin cmp first end key
is_within cmp first None key = open_end (cmp key first)
is_within cmp first (Some end) key = with_end (cmp key first) (cmp key end)

tie : (o : Ordering) → (side_beside o ≡ Inside) ↔ (o ≡ Equal)
tie Less = (λ e. absurd cc, λ e. absurd cc)
tie Equal = (λ e. refl, λ e. refl)
tie Greater = (λ e. absurd cc, λ e. absurd cc)

pub is_value : (part value : List ℕ) → (side_beside (lexical part value) ≡ Inside) ↔ (part ≡ value)
is_value part value = (
  λ e. exact_bytes part value ((tie (lexical part value)).0 e),
  λ e. (tie (lexical part value)).1 (subst (λ v. lexical part v ≡ Equal) e (tied_itself nat_list_cmp_total part)),
)

pub is_begun : (prefix bytes : List ℕ) → (side_begun prefix bytes ≡ Inside) ↔ (starts_with nat_eq bytes prefix ≡ true)
is_begun prefix bytes = (
  λ e. (bytes_eq-Decides prefix (take (length prefix) bytes)).1 (sym ((is_value (take (length prefix) bytes) prefix).0 e)),
  λ e. (is_value (take (length prefix) bytes) prefix).1 (sym ((bytes_eq-Decides prefix (take (length prefix) bytes)).0 e)),
)

tested : (low high n : ℤ) (b a : Bool) → int_lt n low ≡ b → int_lt high n ≡ a → (side b a ≡ Inside) ↔ ((low ≤ℤ n) × (n ≤ℤ high))
tested low high n true a e f = (λ h. absurd cc, λ h. absurd (grind (arith, ints)))
tested low high n false true e f = (λ h. absurd cc, λ h. absurd (grind (arith, ints)))
tested low high n false false e f = (λ h. (grind (arith, ints), grind (arith, ints)), λ h. refl)

pub is_numbered : (low high : ℤ) (key : List ℕ) → (side_numbered low high key ≡ Inside) ↔ IsNumbered low high key
is_numbered low high key = tested low high (key_number key) (int_lt (key_number key) low) (int_lt high (key_number key)) refl refl
