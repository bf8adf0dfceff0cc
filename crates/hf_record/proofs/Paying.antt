-- Bytes read behind a search.
use Rattle.std.proofs.Common.{◌≡◌, ℕ, ◌+◌, ◌-◌, ◌*◌, ◌≤◌, ap, arith, inl, inr, ⊎_elim}
use Rattle.std.proofs.Math.Nat.{mul_comm, mul-add, mul-le-mul_left}
use Rattle.hf_chain.specs.Costs.{Paid, Within}

pub within_then : (most each more s s' r m r' : ℕ) → Within most each s s' r m → r' ≤ m + more → Within most each s s' (r + more) r'
within_then most each more s s' r m r' w le = record { few = w.few; short = omega (arith, w.short, le) }

-- a step may read more
pub paid_more : (each more s s' r r' : ℕ) → each ≤ more → Paid each s s' r r' → Paid more s s' r r'
paid_more each more s s' r r' le p = record { rises = p.rises; enough = ⊎_elim (λ e. inl (omega (arith, e, parted s, parted s', mul-le-mul_left (more - each) p.rises))) (λ full. inr full) p.enough }
  where
    parted : (z : ℕ) → more * z ≡ each * z + (more - each) * z
    parted z =
        let sum : each + (more - each) ≡ more = omega (arith, le) in
        let all : z * (each + (more - each)) ≡ z * more = ap (λ (n : ℕ). z * n) sum in
        omega (arith, mul_comm more z, all, mul-add z each (more - each), mul_comm z each, mul_comm z (more - each))

-- no more was read than of the steps
pub paid_within : (each more s s' r r' : ℕ) → Paid each s s' r r' → Paid each s s' (r + more) r'
paid_within each more s s' r r' p = record { rises = p.rises; enough = ⊎_elim (λ e. inl (omega (arith, e))) (λ full. inr full) p.enough }

-- behind steps, others and so many bytes
pub paid_behind : (each more s t u r m r' : ℕ) → Paid each s t r m → Paid each t u (m + more) r' → Paid each s u (r + more) r'
paid_behind each more s t u r m r' first second = record {
  rises = omega (arith, first.rises, second.rises);
  enough = ⊎_elim (λ e. ⊎_elim (λ f. inl (omega (arith, e, f))) (λ f. inr f) second.enough) (λ e. inr (omega (arith, e, second.rises))) first.enough;
}

pub paid_then : (each more s s' r m r' : ℕ) → Paid each s s' r m → r' ≤ m + more → Paid each s s' (r + more) r'
paid_then each more s s' r m r' p le = record { rises = p.rises; enough = ⊎_elim (λ e. inl (omega (arith, e, le))) (λ full. inr full) p.enough }

-- a value was read, and then steps were
pub value_paid : (each value s s' r m r' : ℕ) → m ≤ r + value → Paid each s s' m r' → Paid each s s' (r + value) r'
value_paid each value s s' r m r' le p = record { rises = p.rises; enough = ⊎_elim (λ e. inl (omega (arith, e, le))) (λ full. inr full) p.enough }
