-- How many pass a test from the front on.
use Rattle.std.proofs.Common.{◌≡◌, ℕ, zero, suc, ◌+◌, ◌<◌, ◌≤◌, Bool, true, false, cond, List, [], ◌∷◌, ◌++◌, length, get_or, refl, sym, ap, arith}
use Rattle.std.specs.List.{prefix_len}
use Rattle.std.proofs.lemmas.List.Sums.{prefix_len_is}

pub run_stops : (p : ℕ → Bool) (text : List ℕ) (n : ℕ) → n < length text → ((k : ℕ) → k < n → p (get_or text k 0) ≡ true) → p (get_or text n 0) ≡ false → n ≡ prefix_len p text
run_stops p text n within before here = sym (prefix_len_is p text n 0 (omega arith) before (λ _. here))

pub run_ends : (p : ℕ → Bool) (text : List ℕ) (n : ℕ) → n ≡ length text → ((k : ℕ) → k < n → p (get_or text k 0) ≡ true) → n ≡ prefix_len p text
run_ends p text n end before = sym (prefix_len_is p text n 0 (omega arith) before (λ h. absurd (omega (arith, h))))

-- one more passes
pub run_more : (p : ℕ → Bool) (text : List ℕ) (n : ℕ) → n < length text → n ≤ prefix_len p text → p (get_or text n 0) ≡ true → n + 1 ≤ prefix_len p text
run_more p [] n within less here = absurd (omega (arith, within))
run_more p (x ∷ text) zero within less here = first (p x) here
  where
    first : (b : Bool) → b ≡ true → 1 ≤ cond b (1 + prefix_len p text) 0
    first true e = omega arith
    first false e = absurd cc
run_more p (x ∷ text) (suc n) within less here = next (p x) less (λ l. run_more p text n (omega (arith, within)) l here)
  where
    next : (b : Bool) → suc n ≤ cond b (1 + prefix_len p text) 0 → (n ≤ prefix_len p text → n + 1 ≤ prefix_len p text) → suc n + 1 ≤ cond b (1 + prefix_len p text) 0
    next true l h = let m = h (omega (arith, l)) in omega (arith, m)
    next false l h = absurd (omega (arith, l))

-- it stops there
pub run_here : (p : ℕ → Bool) (text : List ℕ) (n : ℕ) → n < length text → n ≤ prefix_len p text → p (get_or text n 0) ≡ false → n ≡ prefix_len p text
run_here p [] n within less here = absurd (omega (arith, within))
run_here p (x ∷ text) zero within less here = first (p x) here
  where
    first : (b : Bool) → b ≡ false → 0 ≡ cond b (1 + prefix_len p text) 0
    first false e = refl
    first true e = absurd cc
run_here p (x ∷ text) (suc n) within less here = next (p x) less (λ l. run_here p text n (omega (arith, within)) l here)
  where
    next : (b : Bool) → suc n ≤ cond b (1 + prefix_len p text) 0 → (n ≤ prefix_len p text → n ≡ prefix_len p text) → suc n ≡ cond b (1 + prefix_len p text) 0
    next true l h = let m = h (omega (arith, l)) in omega (arith, m)
    next false l h = absurd (omega (arith, l))

-- whatever comes behind what stops it
pub run_append : (p : ℕ → Bool) (text more : List ℕ) → prefix_len p text < length text → prefix_len p (text ++ more) ≡ prefix_len p text
run_append p [] more less = absurd (omega (arith, less))
run_append p (x ∷ text) more less = go (p x) less (run_append p text more)
  where
    go : (b : Bool) → cond b (1 + prefix_len p text) 0 < length (x ∷ text) → (prefix_len p text < length text → prefix_len p (text ++ more) ≡ prefix_len p text) → cond b (1 + prefix_len p (text ++ more)) 0 ≡ cond b (1 + prefix_len p text) 0
    go true l h = ap (λ (n : ℕ). 1 + n) (h (omega (arith, l)))
    go false l h = refl

pub run_grows : (p : ℕ → Bool) (text more : List ℕ) → prefix_len p text ≤ prefix_len p (text ++ more)
run_grows p [] more = omega arith
run_grows p (x ∷ text) more = go (p x) (run_grows p text more)
  where
    go : (b : Bool) → prefix_len p text ≤ prefix_len p (text ++ more) → cond b (1 + prefix_len p text) 0 ≤ cond b (1 + prefix_len p (text ++ more)) 0
    go true m = omega (arith, m)
    go false m = omega arith
