-- Hexadecimal digits at the end of a buffer.
use Rattle.std.proofs.Common.{◌≡◌, ℕ, zero, suc, ◌+◌, ◌-◌, ◌/◌, ◌%◌, ◌^◌, ◌<◌, ◌≤◌, true, false, ltb, List, [], ◌∷◌, ◌++◌, length, take, drop, length-drop, set, replicate, refl, sym, ap, subst, ◌∙◌, append_assoc, arith}
use Rattle.std.proofs.Math.Nat.{pow-suc}
use Rattle.std.proofs.lemmas.Bool.{lt-ltb, le-ltb}
use Rattle.std.proofs.lemmas.List.{append-nil, take_all}
use Rattle.std.proofs.Math.ListN.{length-set}
use Rattle.bt_page.specs.Keys.{hex_digit, hex_in, hex, key_of}

pub hex_low : (m n : ℕ) → n < 16 → hex_in (suc m) n ≡ hex_digit n ∷ []
unfolding hex_in
hex_low m n h = let e : ltb n 16 ≡ true = lt-ltb _ _ h in rw e refl

pub hex_high : (m n : ℕ) → 16 ≤ n → hex_in (suc m) n ≡ hex_in m (n / 16) ++ hex_digit (n % 16) ∷ []
unfolding hex_in
hex_high m n h = let e : ltb n 16 ≡ false = le-ltb _ _ h in rw e refl

drop_set : (k : ℕ) (xs : List ℕ) (d : ℕ) → k < length xs → drop k (set xs k d) ≡ d ∷ drop (suc k) xs
drop_set k [] d h = absurd (omega (arith, h))
drop_set zero (x ∷ xs) d h = refl
drop_set (suc k) (x ∷ xs) d h = drop_set k xs d (omega (arith, h))

-- i digits stand at the end of 17 bytes, and those of n are still to come
pub record Hexing (i n whole : ℕ) (buffer : List ℕ) : Type 0 where
  pub long : length buffer ≡ 17
  pub below : n < 16 ^ (16 - i)
  pub digits : hex_in (16 - i) n ++ drop (17 - i) buffer ≡ hex whole

pub hexing_none : (n : ℕ) → n < 2 ^ 64 → Hexing 0 n n (replicate 17 0)
hexing_none n h = record { long = refl; below = omega (arith, h); digits = append-nil (hex n) }

below_on : (k n : ℕ) → n < 16 ^ suc k → n / 16 < 16 ^ k
below_on k n h = let e = pow-suc 16 k in omega (arith, h, e)

pub hexing_more : (i n d whole : ℕ) (buffer : List ℕ) → i < 15 → 16 ≤ n → d ≡ hex_digit (n % 16) → Hexing i n whole buffer → Hexing (i + 1) (n / 16) whole (set buffer (16 - i) d)
hexing_more i n d whole buffer lt le is h =
    let one : 16 - i ≡ suc (16 - (i + 1)) = omega (arith, lt) in
    let two : 17 - (i + 1) ≡ 16 - i = omega (arith, lt) in
    let next : suc (16 - i) ≡ 17 - i = omega (arith, lt) in
    let put : drop (17 - (i + 1)) (set buffer (16 - i) d) ≡ d ∷ drop (17 - i) buffer = ap (λ (k : ℕ). drop k (set buffer (16 - i) d)) two ∙ drop_set (16 - i) buffer d (omega (arith, h.long)) ∙ ap (λ (k : ℕ). d ∷ drop k buffer) next in
    record {
      long = length-set buffer (16 - i) d ∙ h.long;
      below = below_on (16 - (i + 1)) n (subst (λ (k : ℕ). n < 16 ^ k) one h.below);
      digits = ap (λ (l : List ℕ). hex_in (16 - (i + 1)) (n / 16) ++ l) (put ∙ ap (λ (z : ℕ). z ∷ drop (17 - i) buffer) is) ∙ sym (append_assoc (hex_in (16 - (i + 1)) (n / 16)) (hex_digit (n % 16) ∷ []) (drop (17 - i) buffer))
          ∙ ap (λ (l : List ℕ). l ++ drop (17 - i) buffer) (sym (hex_high (16 - (i + 1)) n le) ∙ ap (λ (k : ℕ). hex_in k n) (sym one)) ∙ h.digits;
    }

pub hexing_done : (i n d whole : ℕ) (buffer : List ℕ) → i < 16 → n < 16 → d ≡ hex_digit n → Hexing i n whole buffer → drop (16 - i) (set buffer (16 - i) d) ≡ hex whole
hexing_done i n d whole buffer le lt is h =
    let one : 16 - i ≡ suc (15 - i) = omega (arith, le) in
    let next : suc (16 - i) ≡ 17 - i = omega (arith, le) in
    drop_set (16 - i) buffer d (omega (arith, h.long)) ∙ ap (λ (k : ℕ). d ∷ drop k buffer) next ∙ ap (λ (z : ℕ). z ∷ drop (17 - i) buffer) is
    ∙ ap (λ (l : List ℕ). l ++ drop (17 - i) buffer) (sym (hex_low (15 - i) n lt) ∙ ap (λ (k : ℕ). hex_in k n) (sym one)) ∙ h.digits

-- ---- keys

pub key_low : (id : ℕ) → id < 2 ^ 48 → hex id ≡ key_of id
unfolding key_of
key_low id h = let e : ltb id (2 ^ 48) ≡ true = lt-ltb _ _ h in rw e refl

pub high_spelled : (id at : ℕ) (buffer : List ℕ) → 2 ^ 48 ≤ id → 1 ≤ at → at ≤ 16 → length buffer ≡ 17 → drop at buffer ≡ hex (id - 2 ^ 48) → drop (at - 1) (set buffer (at - 1) 35) ≡ key_of id
unfolding key_of
high_spelled id at buffer h some most long digits =
    let e : ltb id (2 ^ 48) ≡ false = le-ltb _ _ h in
    let next : suc (at - 1) ≡ at = omega (arith, some) in
    drop_set (at - 1) buffer 35 (omega (arith, long, most)) ∙ ap (λ (k : ℕ). 35 ∷ drop k buffer) next ∙ rw e (ap (λ (l : List ℕ). 35 ∷ l) digits)

pub cut_at : (n at : ℕ) (xs : List ℕ) → length xs ≡ n → take (n - at) (drop at xs) ≡ drop at xs
cut_at n at xs long = take_all (n - at) (drop at xs) (simp length-drop (omega (arith, long)))

pub low_spelled : (id : ℕ) (bytes : List ℕ) → id < 2 ^ 48 → bytes ≡ hex id → bytes ≡ key_of id
low_spelled id bytes h e = e ∙ key_low id h
