-- The part before the first zero byte.
use Rattle.std.proofs.Common.{◌≡◌, ℕ, ◌<◌, ◌≤◌, not, List, length, take, get_or, sym, ap, ◌∙◌, arith}
use Rattle.std.specs.Prelude.{◌==◌}
use Rattle.std.proofs.lemmas.Bool.{ne_eqb, eq-eqb}
use Rattle.std.proofs.lemmas.List.{take_all}
use Rattle.std.proofs.lemmas.List.Sums.{prefix_len_is}
use Rattle.tc_base.specs.Orders.{value_part}

pub part_stops : (key : List ℕ) (n : ℕ) → n < length key → ((k : ℕ) → k < n → get_or key k 0 ≡ 0 → ⊥) → get_or key n 0 ≡ 0 → take n key ≡ value_part key
unfolding value_part
part_stops key n within before here =
    ap (λ (m : ℕ). take m key) (sym (prefix_len_is (λ (b : ℕ). not (b == 0)) key n 0 (omega arith) (λ k h. ap not (ne_eqb (get_or key k 0) 0 (before k h))) (λ _. ap not (eq-eqb (get_or key n 0) 0 here))))

pub part_whole : (key : List ℕ) (n : ℕ) → length key ≤ n → n ≤ length key → ((k : ℕ) → k < n → get_or key k 0 ≡ 0 → ⊥) → key ≡ value_part key
unfolding value_part
part_whole key n end within before =
    sym (ap (λ (m : ℕ). take m key) (prefix_len_is (λ (b : ℕ). not (b == 0)) key n 0 (omega arith) (λ k h. ap not (ne_eqb (get_or key k 0) 0 (before k h))) (λ h. absurd (omega (arith, h)))) ∙ take_all n key (omega arith))
