-- Blocks are filled up to a multiple of the unit.
use Rattle.std.proofs.Common.{◌≡◌, ◌∙◌, ℕ, ◌+◌, ◌-◌, ◌*◌, ◌/◌, ◌%◌, ◌<◌, ◌≤◌, List, [], ◌∷◌, ◌++◌, length, take, drop, replicate, refl, sym, ap, arith, append_assoc, length-append}
use Rattle.std.proofs.Math.Nat.{add-mul-mod_self_right, mul-mod_left, mod-add-div'}
use Rattle.std.proofs.lemmas.List.{take_at, length-replicate, places, same_lists}
use Rattle.tc_base.specs.Endian.{le_bytes}
use Rattle.tc_base.specs.Files.{wrote}
use Rattle.tc_base.specs.Vnum.{vnum}
use Rattle.tc_base.proofs.Endians.{length-le_bytes}
use Rattle.hf_block.specs.Heads.{rec_head}
use Rattle.hf_block.specs.Pieces.{Record, held, spell}
use Rattle.hf_block.specs.Written.{padding, front_bytes, linked_front, content, written, record_bytes, block_len}

pub mod-sum : (a b c u : ℕ) → (a % u + b % u + c % u) % u ≡ (a + b + c) % u
mod-sum a b c u =
    let e : a + b + c ≡ (a % u + b % u + c % u) + (a / u + b / u + c / u) * u = omega (arith, mod-add-div' a u, mod-add-div' b u, mod-add-div' c u) in
    sym (ap (λ (n : ℕ). n % u) e ∙ add-mul-mod_self_right (a % u + b % u + c % u) (a / u + b / u + c / u) u)

pub padding_is : (a b c u : ℕ) → (u - (a % u + b % u + c % u) % u) % u ≡ padding u (a + b + c)
padding_is a b c u = ap (λ (r : ℕ). (u - r) % u) (mod-sum a b c u)

pub padded : (u n : ℕ) → 1 ≤ u → (n + padding u n) % u ≡ 0
padded u n some =
    let y : ℕ = u - n % u in
    let low : n % u < u = omega arith in
    let e : n + y ≡ (n + y % u) + (y / u) * u = omega (arith, mod-add-div' y u) in
    let f : n + y ≡ (n / u + 1) * u = omega (arith, mod-add-div' n u, low) in
    sym (add-mul-mod_self_right (n + y % u) (y / u) u) ∙ ap (λ (m : ℕ). m % u) (sym e ∙ f) ∙ mul-mod_left (n / u + 1) u

pub length-rec_head : (w hash left right pad key value : ℕ) → length (rec_head w hash left right pad key value) ≡ 4 + 2 * w + length (vnum key) + length (vnum value)
unfolding rec_head
length-rec_head w hash left right pad key value =
    omega (
      arith,
      length-le_bytes 1 hash,
      length-append (le_bytes 1 hash) (le_bytes w left ++ (le_bytes w right ++ (le_bytes 2 pad ++ (vnum key ++ vnum value)))),
      length-le_bytes w left,
      length-append (le_bytes w left) (le_bytes w right ++ (le_bytes 2 pad ++ (vnum key ++ vnum value))),
      length-le_bytes w right,
      length-append (le_bytes w right) (le_bytes 2 pad ++ (vnum key ++ vnum value)),
      length-le_bytes 2 pad,
      length-append (le_bytes 2 pad) (vnum key ++ vnum value),
      length-append (vnum key) (vnum value),
    )

pub length-held : (r : Record) → length (spell (held r)) ≡ 4 + 2 * r.wide + length (vnum (length r.key)) + length (vnum (length r.value)) + length r.key + length r.value + length r.pad
unfolding spell
length-held r =
    omega (
      arith,
      length-rec_head r.wide r.hash r.left r.right (length r.pad) (length r.key) (length r.value),
      length-append (rec_head r.wide r.hash r.left r.right (length r.pad) (length r.key) (length r.value)) (r.key ++ (r.value ++ r.pad)),
      length-append r.key (r.value ++ r.pad),
      length-append r.value r.pad,
    )

pub record_long : (w hash left right : ℕ) (key value : List ℕ) (u : ℕ) → length (record_bytes w hash left right key value u) ≡ block_len w key value u
unfolding record_bytes
record_long w hash left right key value u =
    let l = length-held (written w hash left right key value u) in
    let z : length (replicate (padding u (content w key value)) 0) ≡ padding u (content w key value) = length-replicate {A = ℕ} (padding u (content w key value)) 0 in
    omega (arith, l, z)

pub record_aligned : (w hash left right : ℕ) (key value : List ℕ) (u : ℕ) → 1 ≤ u → length (record_bytes w hash left right key value u) % u ≡ 0
record_aligned w hash left right key value u some =
    ap (λ (n : ℕ). n % u) (record_long w hash left right key value u) ∙ padded u (content w key value) some

one_byte : (n : ℕ) → n < 256 → n ∷ [] ≡ le_bytes 1 n
unfolding le_bytes
one_byte n small = let h : n % 256 ≡ n = omega arith in rw h refl

-- the head's first bytes, one after the other
pub front_is : (w hash left right pad : ℕ) (old a b : List ℕ) → hash < 256 → a ≡ old ++ linked_front w hash left right → b ≡ a ++ le_bytes 2 pad → b ≡ old ++ front_bytes w hash left right pad
unfolding front_bytes
front_is w hash left right pad old a b small e1 e2 =
    e2 ∙ rw e1 (joined old (le_bytes w left) (le_bytes w right) (le_bytes 2 pad)) ∙ ap (λ (l : List ℕ). old ++ 0xC8 ∷ (l ++ (le_bytes w left ++ (le_bytes w right ++ le_bytes 2 pad)))) (one_byte hash small)
  where
    joined : (old x y z : List ℕ) → (old ++ 0xC8 ∷ hash ∷ (x ++ y)) ++ z ≡ old ++ 0xC8 ∷ ((hash ∷ []) ++ (x ++ (y ++ z)))
    joined old x y z = simp append_assoc

-- chains written into zeros
pub links_at : (w hash left right : ℕ) (z : List ℕ) → take (2 + 2 * w) (wrote (2 + w) (le_bytes w right) (wrote 2 (le_bytes w left) (0xC8 ∷ hash ∷ z))) ≡ linked_front w hash left right
unfolding wrote
links_at w hash left right z =
    let l : length (le_bytes w left) ≡ w = length-le_bytes w left in
    let r : length (le_bytes w right) ≡ w = length-le_bytes w right in
    same_lists _ _ (grind (arith, places, l, r)) (λ i d h. grind (arith, places, l, r))

seam : (old a b c d e f k v z : List ℕ) → (((((old ++ 200 ∷ (a ++ (b ++ (c ++ d)))) ++ e) ++ f) ++ k) ++ v) ++ z ≡ old ++ ((200 ∷ (a ++ (b ++ (c ++ (d ++ (e ++ f)))))) ++ (k ++ (v ++ z)))
seam old a b c d e f k v z = simp append_assoc

-- one after the other
pub record_is : (w hash left right : ℕ) (key value old : List ℕ) (u pad : ℕ) → pad ≡ padding u (content w key value)
    → (((((old ++ front_bytes w hash left right pad) ++ vnum (length key)) ++ vnum (length value)) ++ key) ++ value) ++ replicate pad 0 ≡ old ++ record_bytes w hash left right key value u
unfolding front_bytes record_bytes spell rec_head
record_is w hash left right key value old u pad is =
    let z : length (replicate (padding u (content w key value)) 0) ≡ padding u (content w key value) = length-replicate {A = ℕ} (padding u (content w key value)) 0 in
    rw (is, z) (seam old (le_bytes 1 hash) (le_bytes w left) (le_bytes w right) (le_bytes 2 (padding u (content w key value))) (vnum (length key)) (vnum (length value)) key value (replicate (padding u (content w key value)) 0))

pub chained : (old f v1 v2 a1 a2 front k v key value : List ℕ) → f ≡ old ++ front → v1 ≡ f ++ k → v2 ≡ v1 ++ v → a1 ≡ v2 ++ key → a2 ≡ a1 ++ value → a2 ≡ ((((old ++ front) ++ k) ++ v) ++ key) ++ value
chained old f v1 v2 a1 a2 front k v key value e1 e2 e3 e4 e5 = e5 ∙ rw (e4, e3, e2, e1) refl

pub chained_more : (old f v1 v2 a1 a2 front k v key value : List ℕ) → f ≡ old ++ front → v1 ≡ f ++ k → v2 ≡ v1 ++ v → a1 ≡ v2 ++ key → a2 ≡ a1 ++ value → (m : List ℕ) × (a2 ≡ old ++ m)
chained_more old f v1 v2 a1 a2 front k v key value e1 e2 e3 e4 e5 = (front ++ (k ++ (v ++ (key ++ value))), chained old f v1 v2 a1 a2 front k v key value e1 e2 e3 e4 e5 ∙ simp append_assoc)

pub further : (old a z : List ℕ) → ((m : List ℕ) × (a ≡ old ++ m)) → ((m : List ℕ) × (z ≡ a ++ m)) → (m : List ℕ) × (z ≡ old ++ m)
further old a z p q = (p.0 ++ q.0, q.1 ∙ ap (λ (l : List ℕ). l ++ q.0) p.1 ∙ append_assoc old p.0 q.0)

-- a number written into the front of a field, and the front taken
pub field_front : (width n : ℕ) (old : List ℕ) → take width (wrote 0 (le_bytes width n) old) ≡ le_bytes width n
unfolding wrote
field_front width n old = take_at (le_bytes width n) (drop (0 + length (le_bytes width n)) old) width (length-le_bytes width n)
