-- No two pages have one key.
use Rattle.std.proofs.Common.{◌≡◌, ℕ, zero, suc, ◌+◌, ◌-◌, ◌*◌, ◌/◌, ◌%◌, ◌^◌, ◌<◌, ◌≤◌, false, ltb, List, [], ◌∷◌, ◌++◌, get_or, drop, refl, sym, ap, ◌∙◌, ⊎_elim, arith}
use Rattle.std.specs.List.{fold}
use Rattle.std.proofs.Math.Nat.{pow-suc}
use Rattle.std.proofs.lemmas.Bool.{cases_lt, le-ltb}
use Rattle.bt_page.specs.Keys.{node_offset, digit_value, hex_digit, hex_in, hex, hex_number, key_of}
use Rattle.bt_page.proofs.Hex.{hex_low, hex_high}
use Rattle.bt_page.proofs.IdKeys.{Names, names, key_free}

fold_end : (digits : List ℕ) (d n : ℕ) → fold (λ n b. n * 16 + digit_value b) n (digits ++ d ∷ []) ≡ fold (λ n b. n * 16 + digit_value b) n digits * 16 + digit_value d
fold_end [] d n = refl
fold_end (x ∷ xs) d n = fold_end xs d (n * 16 + digit_value x)

digit_back : (d : ℕ) → d < 16 → digit_value (hex_digit d) ≡ d
digit_back d lt = grind arith

hex_none : (n : ℕ) → n < 16 ^ 0 → hex_number (hex_in 0 n) ≡ n
unfolding hex_in
hex_none n lt = omega (arith, lt)

-- the digits of a number give it back
hex_back : (k n : ℕ) → n < 16 ^ k → hex_number (hex_in k n) ≡ n
hex_back zero n lt = hex_none n lt
hex_back (suc k) n lt = ⊎_elim
    (λ (low : n < 16). let one : 0 * 16 + digit_value (hex_digit n) ≡ digit_value (hex_digit n) = omega arith in ap hex_number (hex_low k n low) ∙ one ∙ digit_back n low)
    (λ (high : 16 ≤ n).
    let below : n / 16 < 16 ^ k = omega (arith, lt, pow-suc 16 k) in
    ap hex_number (hex_high k n high) ∙ fold_end (hex_in k (n / 16)) (hex_digit (n % 16)) 0 ∙ ap (λ (m : ℕ). m * 16 + digit_value (hex_digit (n % 16))) (hex_back k (n / 16) below)
    ∙ ap (λ (d : ℕ). n / 16 * 16 + d) (digit_back (n % 16) (omega arith)) ∙ omega arith)
    (cases_lt n 16)

key_node : (id : ℕ) → node_offset ≤ id → key_of id ≡ 35 ∷ hex (id - node_offset)
unfolding key_of
key_node id h = let e : ltb id node_offset ≡ false = le-ltb _ _ h in rw e refl

nodes_apart : (a b : ℕ) → a < 2 ^ 64 → b < 2 ^ 64 → node_offset ≤ a → node_offset ≤ b → key_of a ≡ key_of b → a ≡ b
nodes_apart a b f g h k e =
    let digits : hex (a - node_offset) ≡ hex (b - node_offset) = ap (drop 1) (sym (key_node a h) ∙ e ∙ key_node b k) in
    let less : a - node_offset ≡ b - node_offset = sym (hex_back 16 (a - node_offset) (omega (arith, f))) ∙ ap hex_number digits ∙ hex_back 16 (b - node_offset) (omega (arith, g)) in
    omega (arith, less, h, k)

leaf_node_apart : (a b : ℕ) → a < node_offset → node_offset ≤ b → key_of a ≡ key_of b → ⊥
leaf_node_apart a b low high e =
    let n : Names a (key_of a) = names a (omega (arith, low)) in
    let mark : get_or (key_of a) 0 0 ≡ 35 = ap (λ (l : List ℕ). get_or l 0 0) (e ∙ key_node b high) in
    omega (arith, low, n.node mark)

pub keys_apart : (a b : ℕ) → a < 2 ^ 64 → b < 2 ^ 64 → key_of a ≡ key_of b → a ≡ b
keys_apart a b f g e = ⊎_elim
    (λ (low : a < node_offset). ⊎_elim
    (λ (low' : b < node_offset). key_free a b (omega (arith, low)) (omega (arith, low')) e)
    (λ (high : node_offset ≤ b). absurd (leaf_node_apart a b low high e)) (cases_lt b node_offset))
    (λ (high : node_offset ≤ a). ⊎_elim
    (λ (low : b < node_offset). absurd (leaf_node_apart b a low high (sym e)))
    (λ (high' : node_offset ≤ b). nodes_apart a b f g high high' e) (cases_lt b node_offset))
    (cases_lt a node_offset)
