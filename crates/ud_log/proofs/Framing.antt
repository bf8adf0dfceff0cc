-- The numbers of an entry round its bytes.
use Rattle.std.proofs.Common.{◌≡◌, ℕ, ◌+◌, ◌≤◌, List, ◌++◌, length, take, drop, sym, ◌∙◌, ap, arith, append_assoc, length-append, length-take, length-drop}
use Rattle.std.proofs.lemmas.List.{take_at, same_lists, places}
use Rattle.ud_log.specs.Log.{spelled, entry_bytes, framed}

take_front : (h d : List ℕ) (m n : ℕ) → length h ≡ m → take (m + n) (h ++ d) ≡ h ++ take n d
take_front h d m n is = same_lists _ _ (grind (arith, places)) (λ k x low. grind (arith, places))

pub framed_is : (f a n : ℕ) (h old t behind : List ℕ) → h ≡ spelled 4 f ++ spelled 8 a ++ spelled 4 n → t ≡ spelled 4 n → 4116 ≤ length old → n ≤ 4096
    → take (20 + n) (take (16 + n) (h ++ drop 16 old) ++ (t ++ behind)) ≡ framed f a (take n (drop 16 old))
unfolding entry_bytes
framed_is f a n h old t behind hs ts long few =
    let bytes = take n (drop 16 old) in
    let lh : length h ≡ 16 = ap length hs in
    let lt : length t ≡ 4 = ap length ts in
    let lb : length bytes ≡ n = length-take n (drop 16 old) ∙ omega (arith, length-drop 16 old, long, few) in
    let front : take (16 + n) (h ++ drop 16 old) ≡ h ++ bytes = take_front h (drop 16 old) 16 n lh in
    ap (λ (l : List ℕ). take (20 + n) (l ++ (t ++ behind))) front
    ∙ ap (λ (l : List ℕ). take (20 + n) l) (sym (append_assoc (h ++ bytes) t behind))
    ∙ take_at (h ++ bytes ++ t) behind (20 + n) (length-append (h ++ bytes) t ∙ omega (arith, lt, length-append h bytes, lh, lb))
    ∙ (λ i. hs i ++ bytes ++ ts i)
    ∙ ap (λ k. spelled 4 f ++ spelled 8 a ++ spelled 4 k ++ bytes ++ spelled 4 k) (sym lb)
