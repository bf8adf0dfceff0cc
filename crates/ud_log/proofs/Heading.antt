-- The header's lengths, one behind the other.
use Rattle.std.proofs.Common.{◌≡◌, ℕ, zero, suc, ◌+◌, ◌*◌, ◌^◌, ◌<◌, ◌≤◌, List, [], ◌∷◌, ◌++◌, length, take, drop, get_or, refl, sym, ◌∙◌, ap, arith, append_assoc, true, false, ◌&&◌, nat_le, nat_eq, length-take, length-drop}
use Rattle.std.proofs.lemmas.Bool.{and_from, and_right}
use Rattle.std.proofs.lemmas.Bool.Decides.{nat_tests}
use Rattle.std.proofs.lemmas.List.{take_more, append-nil, take_all, places, drop-drop, ext_get_or, same_lists}
use Rattle.std.proofs.lemmas.Slice.{take-put_mid}
use borrow.Rule.Slice.PartMut.{put_mid}
use Rattle.ud_log.specs.Log.{spelled, number, numbers_in, lengths, numbers_bytes, magic}
use Rattle.ud_log.specs.Undo.{agrees, all_short}

numbers_more : (ns : List ℕ) (n : ℕ) → numbers_bytes (ns ++ n ∷ []) ≡ numbers_bytes ns ++ spelled 8 n
numbers_more [] n = append-nil (spelled 8 n)
numbers_more (m ∷ ns) n = ap (λ (l : List ℕ). spelled 8 m ++ l) (numbers_more ns n) ∙ sym (append_assoc (spelled 8 m) (numbers_bytes ns) (spelled 8 n))

pub head_more : (lens : List ℕ) (i k : ℕ) (bytes e : List ℕ) → length lens ≡ 18 → i < 18 → length bytes ≡ 152 → e ≡ spelled 8 (get_or lens i 0) → take (8 + 8 * i) bytes ≡ magic ++ numbers_bytes (take i lens)
    → take (8 + 8 * (i + 1)) (put_mid (8 + 8 * i) k bytes e) ≡ magic ++ numbers_bytes (take (i + 1) lens)
head_more lens i k bytes e all high long is so_far =
    let le : length e ≡ 8 = ap length is in
    take-put_mid (8 + 8 * i) k bytes e (8 + 8 * (i + 1)) (omega (arith, le)) (omega (arith, long, high))
    ∙ (λ j. so_far j ++ is j)
    ∙ append_assoc magic (numbers_bytes (take i lens)) (spelled 8 (get_or lens i 0))
    ∙ ap (λ (l : List ℕ). magic ++ l) (sym (numbers_more (take i lens) (get_or lens i 0)) ∙ ap numbers_bytes (sym (take_more lens i 0 (omega (arith, high, all)))))

pub head_done : (lens : List ℕ) (i : ℕ) (bytes : List ℕ) → length lens ≡ 18 → 18 ≤ i → length bytes ≡ 152 → take (8 + 8 * i) bytes ≡ magic ++ numbers_bytes (take i lens) → bytes ≡ magic ++ numbers_bytes lens
head_done lens i bytes some all long is = sym (take_all (8 + 8 * i) bytes (omega (arith, all, long))) ∙ is ∙ ap (λ (l : List ℕ). magic ++ numbers_bytes l) (take_all i lens (omega (arith, all, some)))

pub head_long : (i k : ℕ) (bytes e : List ℕ) (n : ℕ) → i < 18 → length bytes ≡ 152 → k ≡ 8 → e ≡ spelled 8 n → length (put_mid (8 + 8 * i) k bytes e) ≡ 152
head_long i k bytes e n low long is es = let le : length e ≡ 8 = ap length es in grind (arith, places)

-- ---- lengths that are read

pub length-numbers_in : (n : ℕ) (bytes : List ℕ) → length (numbers_in n bytes) ≡ n
length-numbers_in zero bytes = refl
length-numbers_in (suc n) bytes = ap suc (length-numbers_in n (drop 8 bytes))

pub number_in : (n k : ℕ) (bytes : List ℕ) → k < n → get_or (numbers_in n bytes) k 0 ≡ number (take 8 (drop (8 * k) bytes))
number_in zero k bytes low = absurd (omega arith)
number_in (suc n) zero bytes low = refl
number_in (suc n) (suc k) bytes low =
    let there : 8 + 8 * k ≡ 8 * suc k = omega arith in
    number_in n k (drop 8 bytes) (omega arith) ∙ ap (λ (l : List ℕ). number (take 8 l)) (drop-drop (8 * k) 8 bytes ∙ ap (λ j. drop j bytes) there)

pub lens_read : (head lens : List ℕ) → length lens ≡ 18 → ((k : ℕ) → k < 18 → get_or lens k 0 ≡ number (take 8 (drop (8 + 8 * k) head))) → lens ≡ lengths head
unfolding lengths
lens_read head lens long each =
    ext_get_or 0 lens (numbers_in 18 (drop 8 head)) (long ∙ sym (length-numbers_in 18 (drop 8 head)))
    (λ k low. each k (omega (arith, low, long)) ∙ ap (λ (l : List ℕ). number (take 8 l)) (sym (drop-drop (8 * k) 8 head)) ∙ sym (number_in 18 k (drop 8 head) (omega (arith, low, long))))

-- ---- tests, item by item

le_true : (a b : ℕ) → a ≤ b → nat_le a b ≡ true
le_true a b le = grind (arith, nat_tests)

le_false : (a b : ℕ) → b < a → nat_le a b ≡ false
le_false a b lt = grind (arith, nat_tests)

eq_true : (a b : ℕ) → a ≡ b → nat_eq a b ≡ true
eq_true a b is = grind (arith, nat_tests)

eq_false : (a b : ℕ) → (a ≡ b → ⊥) → nat_eq a b ≡ false
eq_false a b is = grind (arith, nat_tests)

pub short_each : (ns : List ℕ) → ((k : ℕ) → k < length ns → get_or ns k 0 ≤ 2 ^ 40) → all_short ns ≡ true
short_each [] each = refl
short_each (n ∷ ns) each = and_from (nat_le n (2 ^ 40)) (all_short ns) (le_true n (2 ^ 40) (each 0 (omega arith))) (short_each ns (λ k low. each (suc k) (omega (arith, low))))

pub short_not : (ns : List ℕ) (k : ℕ) → k < length ns → 2 ^ 40 < get_or ns k 0 → all_short ns ≡ false
short_not [] k low high = absurd (omega arith)
short_not (n ∷ ns) zero low high = ap (λ b. b && all_short ns) (le_false n (2 ^ 40) high)
short_not (n ∷ ns) (suc k) low high = and_right (nat_le n (2 ^ 40)) (all_short ns) (short_not ns k (omega (arith, low)) high)

pub agrees_each : (ms bs : List ℕ) → ((k : ℕ) → k < length ms → k < length bs → get_or bs k 0 ≡ get_or ms k 0) → agrees ms bs ≡ true
agrees_each [] bs each = refl
agrees_each (m ∷ ms) [] each = refl
agrees_each (m ∷ ms) (b ∷ bs) each = and_from (nat_eq m b) (agrees ms bs) (eq_true m b (sym (each 0 (omega arith) (omega arith)))) (agrees_each ms bs (λ k low high. each (suc k) (omega (arith, low)) (omega (arith, high))))

pub agrees_not : (ms bs : List ℕ) (k : ℕ) → k < length ms → k < length bs → (get_or bs k 0 ≡ get_or ms k 0 → ⊥) → agrees ms bs ≡ false
agrees_not [] bs k low high differ = absurd (omega arith)
agrees_not (m ∷ ms) [] k low high differ = absurd (omega arith)
agrees_not (m ∷ ms) (b ∷ bs) zero low high differ = ap (λ t. t && agrees ms bs) (eq_false m b (λ is. differ (sym is)))
agrees_not (m ∷ ms) (b ∷ bs) (suc k) low high differ = and_right (nat_eq m b) (agrees ms bs) (agrees_not ms bs k (omega (arith, low)) (omega (arith, high)) differ)

-- a number in two parts
number_parts : (a b : List ℕ) → length a ≡ 4 → number (a ++ b) ≡ number a + 4294967296 * number b
number_parts [] b is = absurd (omega (arith, is))
number_parts (x ∷ []) b is = absurd (omega (arith, is))
number_parts (x ∷ y ∷ []) b is = absurd (omega (arith, is))
number_parts (x ∷ y ∷ z ∷ []) b is = absurd (omega (arith, is))
number_parts (x ∷ y ∷ z ∷ w ∷ []) b is = omega arith
number_parts (x ∷ y ∷ z ∷ w ∷ v ∷ a) b is = absurd (omega (arith, is))

pub eight_is : (bytes : List ℕ) (at : ℕ) → at + 8 ≤ length bytes → number (take 4 (drop at bytes)) + 4294967296 * number (take 4 (drop (at + 4) bytes)) ≡ number (take 8 (drop at bytes))
eight_is bytes at fits =
    let l = drop at bytes in
    let long : length (take 4 l) ≡ 4 = length-take 4 l ∙ omega (arith, length-drop at bytes, fits) in
    let parts : take 4 l ++ take 4 (drop 4 l) ≡ take 8 l = same_lists _ _ (grind (arith, places)) (λ k x low. grind (arith, places)) in
    let there : drop 4 l ≡ drop (at + 4) bytes = drop-drop 4 at bytes in
    ap (λ (r : List ℕ). number (take 4 l) + 4294967296 * number (take 4 r)) (sym there) ∙ sym (number_parts (take 4 l) (take 4 (drop 4 l)) long) ∙ ap number parts

pub length-lengths : (log : List ℕ) → length (lengths log) ≡ 18
unfolding lengths
length-lengths log = length-numbers_in 18 (drop 8 log)
