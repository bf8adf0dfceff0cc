-- Steps that are counted, and the bytes that they read.
use Rattle.std.proofs.Common.{◌≡◌, ◌∙◌, ◌⊎◌, inl, inr, ⊎_elim, ℕ, ◌+◌, ◌-◌, ◌*◌, ◌^◌, ◌≤◌, ap, arith, min}
use Rattle.std.proofs.Math.Nat.{mul_comm, mul-add, mul-le-mul_left}
use Rattle.std.proofs.lemmas.Bool.{cases_lt}
use Rattle.hf_chain.specs.Costs.{Paid, Within}

pub paid_none : (each s r r' : ℕ) → r' ≤ r → Paid each s s r r'
paid_none each s r r' le = record { rises = omega arith; enough = inl (omega (arith, le)) }

times_more : (m d : ℕ) → m * (d + 1) ≡ m * d + m
times_more m d = mul-add m d 1 ∙ ap (λ (n : ℕ). m * d + n) (omega arith)

-- a step more
pub paid_one : (each s s' r r' : ℕ) → s ≤ s' → s' ≡ min (s + 1) (2 ^ 64 - 1) → r' ≤ r + each → Paid each s s' r r'
paid_one each s s' r r' low is le = record {
  rises = low;
  enough = two (elim (cases_lt s (2 ^ 64 - 1)) [ inl less ↦ inl (omega (arith, is, less)) | inr high ↦ inr (omega (arith, is, high)) ]);
}
  where
    two : (s' ≡ s + 1) ⊎ (2 ^ 64 - 1 ≤ s') → (r' + each * s ≤ r + each * s') ⊎ (2 ^ 64 - 1 ≤ s')
    two (inl e) = inl (let f : each * s' ≡ each * s + each = ap (λ (z : ℕ). each * z) e ∙ times_more each s in omega (arith, f, le))
    two (inr e) = inr e

pub paid_then : (each s t u p q r : ℕ) → Paid each s t p q → Paid each t u q r → Paid each s u p r
paid_then each s t u p q r first second = record {
  rises = omega (arith, first.rises, second.rises);
  enough = ⊎_elim (λ e. ⊎_elim (λ f. inl (omega (arith, e, f))) (λ f. inr f) second.enough) (λ e. inr (omega (arith, e, second.rises))) first.enough;
}

-- no more than so many, by what was counted so far
pub within_by : (n d each s s' r r' : ℕ) → s' ≤ s + d → r' ≤ r + d * each → d ≤ n → Within n each s s' r r'
within_by n d each s s' r r' few short le =
    let e = mul_comm d each in let f = mul_comm n each in let g : each * d ≤ each * n = mul-le-mul_left each le in
    record { few = omega (arith, few, le); short = omega (arith, short, e, f, g) }

pub one_more : (d m : ℕ) → (d + 1) * m ≡ d * m + m
one_more d m = mul_comm (d + 1) m ∙ times_more m d ∙ ap (λ (n : ℕ). n + m) (mul_comm m d)
