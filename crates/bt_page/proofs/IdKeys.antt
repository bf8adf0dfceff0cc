-- The key of an id names that id.
use Rattle.std.proofs.Common.{◌≡◌, ◌≢◌, ℕ, zero, suc, ◌+◌, ◌-◌, ◌*◌, ◌/◌, ◌%◌, ◌^◌, ◌<◌, ◌≤◌, true, false, ltb, List, [], ◌∷◌, ◌++◌, length, take, drop, get_or, refl, sym, ap, subst, ◌∙◌, ⊎_elim, arith, add-one, length-append}
use Rattle.std.specs.Prelude.{◌==◌}
use Rattle.std.specs.List.{fold}
use Rattle.std.proofs.Math.Nat.{pow-suc}
use Rattle.std.proofs.lemmas.Bool.{cases_eq, cases_lt, le-ltb, ne_eqb}
use Rattle.std.proofs.lemmas.List.Sums.{fold_more}
use Rattle.bt_page.specs.Keys.{node_offset, hex_digit, hex_in, hex, key_of}
use Rattle.bt_page.proofs.Hex.{hex_low, hex_high, key_low}
use Rattle.bt_page.specs.Keys.{digit_value, hex_number}

-- a digit more
pub number_more : (digits : List ℕ) (i n : ℕ) → i < length digits → n ≡ hex_number (take i digits) → n * 16 + digit_value (get_or digits i 0) ≡ hex_number (take (i + 1) digits)
number_more digits i n lt is = ap (λ (m : ℕ). m * 16 + digit_value (get_or digits i 0)) is ∙ sym (fold_more (λ n b. n * 16 + digit_value b) 0 digits i 0 lt)

pub few_digits : (k i : ℕ) → i + k ≡ 12 → 16 ^ i ≤ 2 ^ 48
few_digits zero i e = let is : i ≡ 12 = omega (arith, e) in subst (λ (j : ℕ). 16 ^ j ≤ 2 ^ 48) (sym is) (omega arith)
few_digits (suc k) i e = omega (arith, few_digits k (suc i) (omega (arith, e)), pow-suc 16 i)

digit_most : (b : ℕ) → digit_value b ≤ 15
digit_most b = omega arith

pub number_fits : (n i b : ℕ) → n < 16 ^ i → n * 16 + digit_value b < 16 ^ (i + 1)
number_fits n i b lt = let e = add-one i in rw e (omega (arith, lt, pow-suc 16 i, digit_most b))

fold_end : (digits : List ℕ) (d n : ℕ) → fold (λ n b. n * 16 + digit_value b) n (digits ++ d ∷ []) ≡ fold (λ n b. n * 16 + digit_value b) n digits * 16 + digit_value d
fold_end [] d n = refl
fold_end (x ∷ xs) d n = fold_end xs d (n * 16 + digit_value x)

digit_back : (d : ℕ) → d < 16 → digit_value (hex_digit d) ≡ d
digit_back d lt = grind arith

below_on : (k n : ℕ) → n < 16 ^ suc k → n / 16 < 16 ^ k
below_on k n h = omega (arith, h, pow-suc 16 k)

one_digit : (d : ℕ) → 0 * 16 + digit_value d ≡ digit_value d
one_digit d = omega arith

hex_none : (n : ℕ) → n < 16 ^ 0 → hex_number (hex_in 0 n) ≡ n
unfolding hex_in
hex_none n lt = omega (arith, lt)

none_long : (n : ℕ) → length (hex_in 0 n) ≡ 0
unfolding hex_in
none_long n = refl

hex_back : (k n : ℕ) → n < 16 ^ k → hex_number (hex_in k n) ≡ n
hex_back zero n lt = hex_none n lt
hex_back (suc k) n lt = ⊎_elim
    (λ (low : n < 16). ap hex_number (hex_low k n low) ∙ one_digit (hex_digit n) ∙ digit_back n low)
    (λ (high : 16 ≤ n). ap hex_number (hex_high k n high) ∙ fold_end (hex_in k (n / 16)) (hex_digit (n % 16)) 0 ∙ ap (λ (m : ℕ). m * 16 + digit_value (hex_digit (n % 16))) (hex_back k (n / 16) (below_on k n lt))
    ∙ ap (λ (d : ℕ). n / 16 * 16 + d) (digit_back (n % 16) (omega arith)) ∙ omega arith)
    (cases_lt n 16)

hex_most : (k m n : ℕ) → n < 16 ^ m → 1 ≤ m → length (hex_in k n) ≤ m
hex_most zero m n lt some = omega (arith, none_long n)
hex_most (suc k) zero n lt some = absurd (omega (arith, some))
hex_most (suc k) (suc m) n lt some = ⊎_elim
    (λ (low : n < 16). omega (arith, ap (λ (l : List ℕ). length l) (hex_low k n low)))
    (λ (high : 16 ≤ n). omega (arith, ap (λ (l : List ℕ). length l) (hex_high k n high), length-append (hex_in k (n / 16)) (hex_digit (n % 16) ∷ []), hex_most k m (n / 16) (below_on m n lt) (more m high lt)))
    (cases_lt n 16)
  where
    more : (m : ℕ) → 16 ≤ n → n < 16 ^ suc m → 1 ≤ m
    more zero high lt = absurd (omega (arith, high, lt))
    more (suc m) high lt = omega arith

-- it begins with a digit
record Begins (l : List ℕ) : Type 0 where
  first : ℕ
  rest : List ℕ
  is : l ≡ first ∷ rest
  digit : 48 ≤ first

hex_begins : (k n : ℕ) → n < 16 ^ suc k → Begins (hex_in (suc k) n)
hex_begins zero n lt = record { first = hex_digit n; rest = []; is = hex_low 0 n (omega (arith, lt)); digit = grind arith }
hex_begins (suc k) n lt = ⊎_elim
    (λ (low : n < 16). record { first = hex_digit n; rest = []; is = hex_low (suc k) n low; digit = grind arith })
    (λ (high : 16 ≤ n).
    let b = hex_begins k (n / 16) (below_on (suc k) n lt) in
    record { first = b.first; rest = b.rest ++ hex_digit (n % 16) ∷ []; is = hex_high (suc k) n high ∙ ap (λ (l : List ℕ). l ++ hex_digit (n % 16) ∷ []) b.is; digit = b.digit })
    (cases_lt n 16)

-- ---- keys

key_node : (id : ℕ) → node_offset ≤ id → key_of id ≡ 35 ∷ hex (id - node_offset)
unfolding key_of
key_node id h = let e : ltb id node_offset ≡ false = le-ltb _ _ h in rw e refl

-- what a key says of its id
pub record Names (id : ℕ) (key : List ℕ) : Type 0 where
  pub some : 1 ≤ length key
  pub few : length key ≤ 13
  pub node : get_or key 0 0 ≡ 35 → node_offset + hex_number (drop 1 key) ≡ id
  pub leaf : get_or key 0 0 ≢ 35 → hex_number key ≡ id
  pub short : get_or key 0 0 ≢ 35 → length key ≤ 12

pub names : (id : ℕ) → id < 2 ^ 49 → Names id (key_of id)
names id lt = ⊎_elim
    (λ (low : id < node_offset).
    let b : Begins (hex id) = hex_begins 15 id (omega (arith, low)) in
    let most : length (hex id) ≤ 12 = hex_most 16 12 id (omega (arith, low)) (omega arith) in
    let plain : get_or (hex id) 0 0 ≢ 35 = λ e. omega (arith, b.digit, e, ap (λ (l : List ℕ). get_or l 0 0) b.is) in
    subst (Names id) (key_low id low) (record {
      some = omega (arith, ap (λ (l : List ℕ). length l) b.is);
      few = omega (arith, most);
      node = λ e. absurd (plain e);
      leaf = λ _. hex_back 16 id (omega (arith, low));
      short = λ _. most;
    }))
    (λ (high : node_offset ≤ id).
    let most : length (hex (id - node_offset)) ≤ 12 = hex_most 16 12 (id - node_offset) (omega (arith, lt, high)) (omega arith) in
    subst (Names id) (sym (key_node id high)) (record {
      some = omega arith;
      few = omega (arith, most);
      node = λ _. ap (λ (n : ℕ). node_offset + n) (hex_back 16 (id - node_offset) (omega (arith, lt, high))) ∙ omega (arith, high);
      leaf = λ ne. absurd (ne refl);
      short = λ ne. absurd (ne refl);
    }))
    (cases_lt id node_offset)

pub key_free : (a b : ℕ) → a < 2 ^ 49 → b < 2 ^ 49 → key_of a ≡ key_of b → a ≡ b
key_free a b f g e =
    let na = names a f in
    let nb : Names b (key_of a) = subst (Names b) (sym e) (names b g) in
    ⊎_elim (λ (mark : get_or (key_of a) 0 0 ≡ 35). sym (na.node mark) ∙ nb.node mark) (λ (plain : get_or (key_of a) 0 0 ≡ 35 → ⊥). sym (na.leaf plain) ∙ nb.leaf plain) (cases_eq (get_or (key_of a) 0 0) 35)

-- ---- what the code answers

pub named_none : (id : ℕ) (key : List ℕ) → true ≡ (length key == 0) → id < 2 ^ 49 → key ≡ key_of id → 0 ≡ id
named_none id key none lt e =
    let n : Names id key = subst (Names id) (sym e) (names id lt) in
    let some : (length key == 0) ≡ false = ne_eqb (length key) 0 (λ z. omega (arith, z, n.some)) in
    absurd (let bad = none ∙ some in cc)

pub named_far : (id : ℕ) (key : List ℕ) → 13 < length key → id < 2 ^ 49 → key ≡ key_of id → 0 ≡ id
named_far id key long lt e = let n : Names id key = subst (Names id) (sym e) (names id lt) in absurd (omega (arith, long, n.few))

pub named_node : (id r : ℕ) (key : List ℕ) → get_or key 0 0 ≡ 35 → r ≡ hex_number (drop 1 key) → id < 2 ^ 49 → key ≡ key_of id → node_offset + r ≡ id
named_node id r key mark is lt e = ap (λ (n : ℕ). node_offset + n) is ∙ (subst (Names id) (sym e) (names id lt)).node mark

pub named_long : (id : ℕ) (key : List ℕ) → get_or key 0 0 ≢ 35 → 12 < length key → id < 2 ^ 49 → key ≡ key_of id → 0 ≡ id
named_long id key plain long lt e = let n : Names id key = subst (Names id) (sym e) (names id lt) in absurd (omega (arith, long, n.short plain))

pub named_leaf : (id r : ℕ) (key : List ℕ) → get_or key 0 0 ≢ 35 → r ≡ hex_number key → id < 2 ^ 49 → key ≡ key_of id → r ≡ id
named_leaf id r key plain is lt e = is ∙ (subst (Names id) (sym e) (names id lt)).leaf plain
