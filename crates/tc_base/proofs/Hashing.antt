-- Steps of the two hashes.
use Rattle.std.proofs.Common.{◌≡◌, ℕ, ◌+◌, ◌-◌, ◌*◌, ◌%◌, ◌^◌, ◌<◌, List, [], ◌∷◌, length, take, drop, get_or, refl, arith}
use Rattle.std.specs.Prelude.{bit_xor}
use Rattle.std.specs.List.{fold}
use Rattle.std.proofs.lemmas.List.{drop_more}
use Rattle.std.proofs.lemmas.List.Sums.{fold_more}
use Rattle.tc_base.specs.Hashes.{front_step, front_hash, back_hash}

pub back-cons : (b : ℕ) (key : List ℕ) → back_hash (b ∷ key) ≡ bit_xor (back_hash key * 31 % 2 ^ 32) b
unfolding back_hash
back-cons b key = refl

pub back-nil : back_hash [] ≡ 751
unfolding back_hash
back-nil = refl

pub front_is : (key : List ℕ) → front_hash key ≡ fold front_step 19780211 key
unfolding front_hash
front_is key = refl

pub back_more : (key : List ℕ) (i h b : ℕ) → i < length key → h ≡ back_hash (drop (length key - i) key) → b ≡ get_or key (length key - 1 - i) 0 → bit_xor (h * 31 % 2 ^ 32) b ≡ back_hash (drop (length key - (i + 1)) key)
back_more key i h b less is byte =
    let j : ℕ = length key - 1 - i in
    let here : length key - (i + 1) ≡ j = omega arith in
    let next : j + 1 ≡ length key - i = omega arith in
    let d : drop j key ≡ get_or key j 0 ∷ drop (j + 1) key = drop_more key j 0 (omega arith) in
    rw (here, d, back-cons, next, is, byte) refl

pub front_more : (key : List ℕ) (i h b : ℕ) → i < length key → h ≡ fold front_step 19780211 (take i key) → b ≡ get_or key i 0 → (h * 37 % 2 ^ 64 + b) % 2 ^ 64 ≡ fold front_step 19780211 (take (i + 1) key)
front_more key i h b less is byte = rw (fold_more front_step 19780211 key i 0 less, is, byte) (joined (fold front_step 19780211 (take i key) * 37) (get_or key i 0))
  where
    joined : (x y : ℕ) → (x % 2 ^ 64 + y) % 2 ^ 64 ≡ (x + y) % 2 ^ 64
    joined x y = omega arith
