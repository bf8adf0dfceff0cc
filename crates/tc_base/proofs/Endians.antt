-- Numbers in fields of bytes.
use Rattle.std.proofs.Common.{◌≡◌, ℕ, zero, suc, ◌+◌, ◌-◌, ◌*◌, ◌/◌, ◌%◌, ◌^◌, ◌<◌, ◌≤◌, List, [], ◌∷◌, ◌++◌, length, take, drop, set, get_or, refl, sym, ap, ◌∙◌, arith, add-one, length-set, append_assoc, length-drop, lit<, reverse}
use Rattle.std.proofs.lemmas.List.{drop_more, take_more, take_more_set, drop-set, drop-set-lt, take-set-le, take-append-drop, length-take-le, reverse-append, reverse-reverse, length-reverse, append-nil, get_or-take, get_or-drop}
use Rattle.std.proofs.Math.Nat.{pow-suc, pow-le-pow_right}
use Rattle.tc_base.specs.Endian.{le_number, le_bytes, be_number, be_bytes, field}
use Rattle.tc_base.specs.Files.{wrote}

pub le-cons : (b : ℕ) (bytes : List ℕ) → le_number (b ∷ bytes) ≡ b + 256 * le_number bytes
unfolding le_number
le-cons b bytes = refl

pub le-nil : le_number [] ≡ 0
unfolding le_number
le-nil = refl

pub le_bytes-suc : (w n : ℕ) → le_bytes (suc w) n ≡ n % 256 ∷ le_bytes w (n / 256)
unfolding le_bytes
le_bytes-suc w n = refl

pub le_bytes-zero : (n : ℕ) → le_bytes 0 n ≡ []
unfolding le_bytes
le_bytes-zero n = refl

pub length-le_bytes : (w n : ℕ) → length (le_bytes w n) ≡ w
unfolding le_bytes
length-le_bytes zero n = refl
length-le_bytes (suc w) n = ap (λ (m : ℕ). suc m) (length-le_bytes w (n / 256))

pub le_number-le_bytes : (w n : ℕ) → n < 256 ^ w → le_number (le_bytes w n) ≡ n
le_number-le_bytes zero n h = rw (le_bytes-zero, le-nil) (omega arith)
le_number-le_bytes (suc w) n h =
    rw (le_bytes-suc, le-cons, le_number-le_bytes w (n / 256) (omega (arith, h, pow-suc 256 w))) (omega arith)

pub length-be_bytes : (w n : ℕ) → length (be_bytes w n) ≡ w
length-be_bytes w n = length-reverse (le_bytes w n) ∙ length-le_bytes w n

pub be_number-be_bytes : (w n : ℕ) → n < 256 ^ w → be_number (be_bytes w n) ≡ n
be_number-be_bytes w n h = rw reverse-reverse (le_number-le_bytes w n h)

-- a number of that many bytes fits while one more byte is taken
pub fits_more : (n i w b : ℕ) → n < 256 ^ i → i < w → w ≤ 8 → b < 256 → n * 256 + b < 2 ^ 64
fits_more n i w b h k m l =
    let e : i ≤ 7 = omega arith in
    let p : 256 ^ i ≤ 256 ^ 7 = pow-le-pow_right (lit< tt) e in
    omega (arith, p)

pub below_more : (n i b : ℕ) → n < 256 ^ i → b < 256 → n * 256 + b < 256 ^ (i + 1)
below_more n i b h l = rw add-one (omega (arith, pow-suc 256 i))

pub field_at : (at w i : ℕ) (bytes : List ℕ) → i < w → get_or (field at w bytes) i 0 ≡ get_or bytes (at + i) 0
field_at at w i bytes h = get_or-take w (drop at bytes) i 0 h ∙ get_or-drop at bytes i 0

pub length-field : (at w : ℕ) (bytes : List ℕ) → at + w ≤ length bytes → length (field at w bytes) ≡ w
length-field at w bytes h = length-take-le w (drop at bytes) (omega (arith, length-drop at bytes))

pub le_four : (text : List ℕ) → length text ≡ 4 → le_number text ≡ (get_or text 3 0 * 256 + get_or text 2 0) * 65536 + (get_or text 1 0 * 256 + get_or text 0 0)
unfolding le_number
le_four [] e = absurd (omega (arith, e))
le_four (a ∷ []) e = absurd (omega (arith, e))
le_four (a ∷ (b ∷ [])) e = absurd (omega (arith, e))
le_four (a ∷ (b ∷ (c ∷ []))) e = absurd (omega (arith, e))
le_four (a ∷ (b ∷ (c ∷ (d ∷ [])))) e = omega arith
le_four (a ∷ (b ∷ (c ∷ (d ∷ (x ∷ text))))) e = absurd (omega (arith, e))

-- one byte more from the back
pub le_more : (text : List ℕ) (w i n b : ℕ) → length text ≡ w → i < w → n ≡ le_number (drop (w - i) text) → b ≡ get_or text (w - 1 - i) 0 → n * 256 + b ≡ le_number (drop (w - (i + 1)) text)
le_more text w i n b long less is byte =
    let j : ℕ = w - 1 - i in
    let here : w - (i + 1) ≡ j = omega arith in
    let next : j + 1 ≡ w - i = omega arith in
    let d : drop j text ≡ get_or text j 0 ∷ drop (j + 1) text = drop_more text j 0 (omega arith) in
    rw (here, d, le-cons, next, is, byte) (omega arith)

-- one byte more from the front
pub be_more : (text : List ℕ) (i n b : ℕ) → i < length text → n ≡ be_number (take i text) → b ≡ get_or text i 0 → n * 256 + b ≡ be_number (take (i + 1) text)
be_more text i n b less is byte =
    let r : reverse (take (i + 1) text) ≡ get_or text i 0 ∷ reverse (take i text) = ap reverse (take_more text i 0 less) ∙ reverse-append (take i text) (get_or text i 0 ∷ []) in
    rw (r, le-cons, is, byte) (omega arith)

-- ---- written from the front

pub record Written (at w i rest n : ℕ) (cur old : List ℕ) : Type 0 where
  pub front : take (at + i) cur ++ le_bytes (w - i) rest ≡ take at old ++ le_bytes w n
  pub back : drop (at + w) cur ≡ drop (at + w) old
  pub long : length cur ≡ length old

pub written_none : (at w n : ℕ) (old : List ℕ) → Written at w 0 n n old old
written_none at w n old = let e : at + 0 ≡ at = omega arith in let f : w - 0 ≡ w = omega arith in record { front = rw (e, f) refl; back = refl; long = refl }

pub written_more : (at w i rest n : ℕ) (cur old : List ℕ) → i < w → at + w ≤ length old → Written at w i rest n cur old → Written at w (i + 1) (rest / 256) n (set cur (at + i) (rest % 256)) old
written_more at w i rest n cur old less inside h =
    let k : ℕ = w - (i + 1) in
    let split : w - i ≡ suc k = omega arith in
    let along : at + (i + 1) ≡ at + i + 1 = omega arith in
    let within : at + i < length cur = omega (arith, h.long) in
    record {
      front =
          rw (along, take_more_set cur (at + i) (rest % 256) within) (
          append_assoc (take (at + i) cur) (rest % 256 ∷ []) (le_bytes k (rest / 256))
          ∙ ap (λ (l : List ℕ). take (at + i) cur ++ l) (sym (le_bytes-suc k rest) ∙ ap (λ (m : ℕ). le_bytes m rest) (sym split))
          ∙ h.front);
      back = drop-set-lt (at + w) cur (at + i) (rest % 256) (omega arith) ∙ h.back;
      long = length-set cur (at + i) (rest % 256) ∙ h.long;
    }

pub written_all : (at w rest n : ℕ) (cur old : List ℕ) → at + w ≤ length old → Written at w w rest n cur old → cur ≡ wrote at (le_bytes w n) old
unfolding wrote
written_all at w rest n cur old inside h =
    let none : le_bytes (w - w) rest ≡ [] = let z : w - w ≡ 0 = omega arith in rw z (le_bytes-zero rest) in
    let front : take (at + w) cur ≡ take at old ++ le_bytes w n = sym (append-nil (take (at + w) cur)) ∙ ap (λ (l : List ℕ). take (at + w) cur ++ l) (sym none) ∙ h.front in
    sym (take-append-drop (at + w) cur) ∙ rw (front, h.back, length-le_bytes w n) refl

-- ---- written from the back

pub record Backed (at w i rest n : ℕ) (cur old : List ℕ) : Type 0 where
  pub back : be_bytes (w - i) rest ++ drop (at + w - i) cur ≡ be_bytes w n ++ drop (at + w) old
  pub front : take at cur ≡ take at old
  pub long : length cur ≡ length old

pub backed_none : (at w n : ℕ) (old : List ℕ) → Backed at w 0 n n old old
backed_none at w n old = let e : w - 0 ≡ w = omega arith in let f : at + w - 0 ≡ at + w = omega arith in record { back = rw (e, f) refl; front = refl; long = refl }

be_bytes-suc : (w n : ℕ) → be_bytes (suc w) n ≡ be_bytes w (n / 256) ++ (n % 256 ∷ [])
be_bytes-suc w n = ap reverse (le_bytes-suc w n) ∙ reverse-append (n % 256 ∷ []) (le_bytes w (n / 256))

pub backed_more : (at w i rest n : ℕ) (cur old : List ℕ) → i < w → at + w ≤ length old → Backed at w i rest n cur old → Backed at w (i + 1) (rest / 256) n (set cur (at + w - 1 - i) (rest % 256)) old
backed_more at w i rest n cur old less inside h =
    let k : ℕ = w - (i + 1) in
    let j : ℕ = at + w - 1 - i in
    let split : w - i ≡ suc k = omega arith in
    let here : at + w - (i + 1) ≡ j = omega arith in
    let next : j + 1 ≡ at + w - i = omega arith in
    let within : j < length cur = omega (arith, h.long) in
    let low : at ≤ j = omega arith in
    record {
      back =
          rw (here, drop-set cur j (rest % 256) within, next) (
          sym (append_assoc (be_bytes k (rest / 256)) (rest % 256 ∷ []) (drop (at + w - i) cur))
          ∙ ap (λ (l : List ℕ). l ++ drop (at + w - i) cur) (sym (be_bytes-suc k rest) ∙ ap (λ (m : ℕ). be_bytes m rest) (sym split))
          ∙ h.back);
      front = take-set-le at cur j (rest % 256) low ∙ h.front;
      long = length-set cur j (rest % 256) ∙ h.long;
    }

pub backed_all : (at w rest n : ℕ) (cur old : List ℕ) → at + w ≤ length old → Backed at w w rest n cur old → cur ≡ wrote at (be_bytes w n) old
unfolding wrote
backed_all at w rest n cur old inside h =
    let none : be_bytes (w - w) rest ≡ [] = let z : w - w ≡ 0 = omega arith in rw z (ap reverse (le_bytes-zero rest)) in
    let here : at + w - w ≡ at = omega arith in
    let back : drop at cur ≡ be_bytes w n ++ drop (at + w) old = ap (λ (m : ℕ). drop m cur) (sym here) ∙ ap (λ (l : List ℕ). l ++ drop (at + w - w) cur) (sym none) ∙ h.back in
    sym (take-append-drop at cur) ∙ rw (h.front, back, length-be_bytes w n) (sym (append_assoc (take at old) (be_bytes w n) (drop (at + w) old)))
