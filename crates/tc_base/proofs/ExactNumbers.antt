-- The readers of varying numbers and of numbers of stated width are exact.
use Rattle.std.proofs.Common.{◌≡◌, ◌≢◌, inl, inr, ◌∙◌, ℕ, zero, suc, ◌+◌, ◌-◌, ◌*◌, ◌/◌, ◌%◌, ◌^◌, ◌<◌, ◌≤◌, true, false, ltb, List, [], ◌∷◌, ◌++◌, length, take, drop, get_or, replicate, refl, sym, ap, subst, arith, Result, Ok, Err, length-append}
use Rattle.std.proofs.Math.Nat.{pow-suc}
use Rattle.std.proofs.lemmas.Bool.{cases_lt, lt-ltb, le-ltb, ltb-true, ltb-false}
use Rattle.std.proofs.lemmas.List.{take-append-drop, length-take-le, take_at, drop_at, take_all, length-replicate, get_or-replicate, get_or-append_right, get_or_past, append-nil}
use Rattle.tc_base.specs.declared.number.NumErr.{NumErr}
use Rattle.tc_base.specs.declared.number.NumErr.TheVariants.{Short, Second, Wide}
use Rattle.tc_base.specs.declared.fields.NotWhole.TheVariants.{Part, Bad}
use Rattle.tc_base.specs.Endian.{le_number, le_bytes, le_front}
use Rattle.tc_base.specs.Vnum.{groups, vnum, tops, value_of, vnum_at, fronted, vnum_front}
use Rattle.tc_base.proofs.Exact.{IsBytes, IsExact, same_whole}
use Rattle.tc_base.proofs.ExactFields.{chosen}
use Rattle.tc_base.proofs.Endians.{le-cons, le-nil, le_bytes-suc, le_bytes-zero, length-le_bytes, le_number-le_bytes}
use Rattle.tc_base.proofs.Vnums.{last, found, found_whole, again, reads, short_exactly, tops-nil, tops-low, tops-high}

-- ---- varying numbers

abbrev pub IsVnum : ℕ → List ℕ → Type 0
IsVnum n text = (n < 2 ^ 64) × (text ≡ vnum n)

front_whole : (bytes : List ℕ) (r : Result (ℕ × ℕ) NumErr) (n : ℕ) (rest : List ℕ) → fronted bytes r ≡ Ok (n, rest) → (len : ℕ) × (r ≡ Ok (n, len)) × (drop len bytes ≡ rest)
front_whole bytes (Ok x) n rest e = let s = same_whole x.0 n (drop x.1 bytes) rest e in (x.1, ap (λ (m : ℕ). Ok (m, x.1)) s.0, s.1)
front_whole bytes (Err Short) n rest e = absurd cc
front_whole bytes (Err Second) n rest e = absurd cc
front_whole bytes (Err Wide) n rest e = absurd cc

front_part : (bytes : List ℕ) (r : Result (ℕ × ℕ) NumErr) → fronted bytes r ≡ Err Part → r ≡ Err Short
front_part bytes (Ok x) e = absurd cc
front_part bytes (Err Short) e = refl
front_part bytes (Err Second) e = absurd cc
front_part bytes (Err Wide) e = absurd cc

front_is : (bytes : List ℕ) → vnum_front bytes ≡ fronted bytes (vnum_at bytes)
unfolding vnum_front
front_is bytes = refl

-- a part is made whole by group 1
tops_one : (bytes : List ℕ) → tops bytes ≡ length bytes → tops (bytes ++ 1 ∷ []) ≡ length bytes
tops_one [] h = tops-low 1 [] (omega arith)
tops_one (b ∷ bytes) h = elim (cases_lt b 128) [
  | inl low ↦ absurd (omega (arith, h, tops-low b bytes low))
  | inr high ↦ tops-high b (bytes ++ 1 ∷ []) high ∙ ap (λ (n : ℕ). suc n) (tops_one bytes (omega (arith, h, tops-high b bytes high)))
]

last_one : (bytes : List ℕ) → tops bytes ≡ length bytes → last (bytes ++ 1 ∷ []) ≡ 1
last_one bytes h = ap (λ (n : ℕ). get_or (bytes ++ 1 ∷ []) n 0) (tops_one bytes h) ∙ get_or-append_right bytes (1 ∷ []) (length bytes) (length bytes) 0 refl (omega arith) ∙ first bytes
  where
    first : (bytes : List ℕ) → get_or {A = ℕ} (1 ∷ []) (length bytes - length bytes) 0 ≡ 1
    first bytes = let e : length bytes - length bytes ≡ 0 = omega arith in rw e refl

bytes_one : (bytes : List ℕ) → IsBytes bytes → IsBytes (bytes ++ 1 ∷ [])
bytes_one [] h zero = omega arith
bytes_one [] h (suc i) = omega arith
bytes_one (b ∷ bytes) h zero = h 0
bytes_one (b ∷ bytes) h (suc i) = bytes_one bytes (λ j. h (suc j)) i

-- every byte of a part has its top bit
tops_front : (xs ys : List ℕ) → 0 < length ys → suc (tops (xs ++ ys)) ≡ length (xs ++ ys) → tops xs ≡ length xs
tops_front [] ys some h = tops-nil
tops_front (b ∷ xs) ys some h = elim (cases_lt b 128) [
  | inl low ↦ absurd (omega (arith, h, some, tops-low b (xs ++ ys) low, length-append xs ys))
  | inr high ↦ tops-high b xs high ∙ ap (λ (n : ℕ). suc n) (tops_front xs ys some (omega (arith, h, tops-high b (xs ++ ys) high)))
]

vnum_long : (n : ℕ) → n < 2 ^ 64 → (suc (tops (vnum n)) ≡ length (vnum n)) × (length (vnum n) ≤ 10)
unfolding vnum
vnum_long n h =
    let r = reads 9 n [] (omega (arith, h)) in
    let same : groups 10 n ++ [] ≡ groups 10 n = append-nil (groups 10 n) in
    (ap (λ (l : List ℕ). suc (tops l)) (sym same) ∙ r.long, r.most)

pub exact_vnum : IsExact IsVnum vnum_front
exact_vnum = record {
  found = λ bytes n rest fits e.
      let w = front_whole bytes (vnum_at bytes) n rest (sym (front_is bytes) ∙ e) in
      let f = found bytes n w.0 fits w.1 in
      (vnum n, (f.below, refl), sym (take-append-drop w.0 bytes) ∙ rw (f.front, w.2) refl);
  again = λ n text rest h.
      let a : vnum_at (text ++ rest) ≡ Ok (n, length (vnum n)) = ap (λ (l : List ℕ). vnum_at (l ++ rest)) h.1 ∙ again n rest h.0 in
      let d : drop (length (vnum n)) (text ++ rest) ≡ rest = drop_at text rest (length (vnum n)) (ap length h.1) in
      front_is (text ++ rest) ∙ ap (fronted (text ++ rest)) a ∙ ap (λ (l : List ℕ). Ok (n, l)) d;
  part = λ bytes fits e.
      let s = (short_exactly bytes).0 (front_part bytes (vnum_at bytes) (sym (front_is bytes) ∙ e)) in
      let t = tops_one bytes s.1 in
      let l = last_one bytes s.1 in
      let long : length (bytes ++ 1 ∷ []) ≡ length bytes + 1 = length-append bytes (1 ∷ []) in
      let f = found_whole (bytes ++ 1 ∷ []) (bytes_one bytes fits) (omega (arith, t, long)) (omega (arith, t, s.0)) (inr (omega (arith, l))) (inr (omega (arith, l))) in
      let all : take (tops (bytes ++ 1 ∷ []) + 1) (bytes ++ 1 ∷ []) ≡ bytes ++ 1 ∷ [] = take_all _ (bytes ++ 1 ∷ []) (omega (arith, t, long)) in
      (value_of (bytes ++ 1 ∷ []), 1 ∷ [], omega arith, (f.below, sym all ∙ f.front));
  cut = λ n bytes more some h.
      let v = vnum_long n h.0 in
      let long : length bytes + length more ≡ length (vnum n) = sym (length-append bytes more) ∙ ap length h.1 in
      let full : suc (tops (bytes ++ more)) ≡ length (bytes ++ more) = ap (λ (l : List ℕ). suc (tops l)) h.1 ∙ v.0 ∙ ap length (sym h.1) in
      let t = tops_front bytes more some full in
      let s = (short_exactly bytes).1 (omega (arith, long, some, v.1), t) in
      front_is bytes ∙ ap (fronted bytes) s;
}

-- ---- numbers of stated width

abbrev pub IsLe : ℕ → ℕ → List ℕ → Type 0
IsLe width n text = (n < 256 ^ width) × (text ≡ le_bytes width n)

pub le_number_fits : (bytes : List ℕ) → IsBytes bytes → le_number bytes < 256 ^ length bytes
le_number_fits [] h = rw le-nil (omega arith)
le_number_fits (b ∷ bytes) h = rw le-cons (omega (arith, h 0, le_number_fits bytes (λ i. h (suc i)), pow-suc 256 (length bytes)))

pub le_bytes-le_number : (bytes : List ℕ) → IsBytes bytes → le_bytes (length bytes) (le_number bytes) ≡ bytes
le_bytes-le_number [] h = le_bytes-zero (le_number [])
le_bytes-le_number (b ∷ bytes) h =
    let small : b < 256 = h 0 in
    let m : (b + 256 * le_number bytes) % 256 ≡ b = omega arith in
    let d : (b + 256 * le_number bytes) / 256 ≡ le_number bytes = omega arith in
    rw (le-cons, le_bytes-suc, m, d) (ap (λ (l : List ℕ). b ∷ l) (le_bytes-le_number bytes (λ i. h (suc i))))

zero_byte : {x : ℕ} → x ≡ 0 → x < 256
zero_byte h = omega (arith, h)

zeros_bytes : (bytes : List ℕ) (n : ℕ) → IsBytes bytes → IsBytes (bytes ++ replicate n 0)
zeros_bytes [] n h i = elim (cases_lt i n) [ inl less ↦ zero_byte (get_or-replicate {A = ℕ} n i 0 0 less) | inr past ↦ zero_byte (get_or_past (replicate n 0) i 0 (omega (arith, past, length-replicate {A = ℕ} n 0))) ]
zeros_bytes (b ∷ bytes) n h zero = h 0
zeros_bytes (b ∷ bytes) n h (suc i) = zeros_bytes bytes n (λ j. h (suc j)) i

take_bytes : (n : ℕ) (bytes : List ℕ) → IsBytes bytes → IsBytes (take n bytes)
take_bytes zero bytes h i = omega arith
take_bytes (suc n) [] h i = omega arith
take_bytes (suc n) (b ∷ bytes) h zero = h 0
take_bytes (suc n) (b ∷ bytes) h (suc i) = take_bytes n bytes (λ j. h (suc j)) i

pub exact_le : (width : ℕ) → IsExact (IsLe width) (le_front width)
unfolding le_front
exact_le width = record {
  found = λ bytes n rest fits e.
      elim (chosen (ltb (length bytes) width) (Err Part) (Ok (le_number (take width bytes), drop width bytes)) (Ok (n, rest)) e) [
        | inl h ↦ absurd (let bad = h.1 in cc)
        | inr h ↦
            let long : width ≤ length bytes = ltb-false _ _ h.0 in
            let s = same_whole (le_number (take width bytes)) n (drop width bytes) rest h.1 in
            let w : length (take width bytes) ≡ width = length-take-le width bytes long in
            let front = take_bytes width bytes fits in
            let below : le_number (take width bytes) < 256 ^ width = subst (λ (m : ℕ). le_number (take width bytes) < 256 ^ m) w (le_number_fits (take width bytes) front) in
            let text : take width bytes ≡ le_bytes width n = sym (le_bytes-le_number (take width bytes) front) ∙ ap (λ (m : ℕ). le_bytes m (le_number (take width bytes))) w ∙ ap (le_bytes width) s.0 in
            (take width bytes, (subst (λ (m : ℕ). m < 256 ^ width) s.0 below, text), sym (take-append-drop width bytes) ∙ ap (λ (l : List ℕ). take width bytes ++ l) s.1)
      ];
  again = λ n text rest h.
      let len : length text ≡ width = ap length h.1 ∙ length-le_bytes width n in
      let long : ltb (length (text ++ rest)) width ≡ false = le-ltb _ _ (omega (arith, len, length-append text rest)) in
      rw (long, take_at text rest width len, drop_at text rest width len, h.1, le_number-le_bytes width n h.0) refl;
  part = λ bytes fits e.
      elim (chosen (ltb (length bytes) width) (Err Part) (Ok (le_number (take width bytes), drop width bytes)) (Err Part) e) [
        | inl h ↦
            let short : length bytes < width = ltb-true _ _ h.0 in
            let zeros : List ℕ = replicate (width - length bytes) 0 in
            let len : length zeros ≡ width - length bytes = length-replicate {A = ℕ} (width - length bytes) 0 in
            let all : length (bytes ++ zeros) ≡ width = omega (arith, len, length-append bytes zeros) in
            let are = zeros_bytes bytes (width - length bytes) fits in (
              le_number (bytes ++ zeros),
              zeros,
              omega (arith, len),
              (
                subst (λ (m : ℕ). le_number (bytes ++ zeros) < 256 ^ m) all (le_number_fits (bytes ++ zeros) are),
                sym (le_bytes-le_number (bytes ++ zeros) are) ∙ ap (λ (m : ℕ). le_bytes m (le_number (bytes ++ zeros))) all,
              ),
            )
        | inr h ↦ absurd (let bad = h.1 in cc)
      ];
  cut = λ n bytes more some h.
      let len : length (bytes ++ more) ≡ width = ap length h.1 ∙ length-le_bytes width n in
      let short : ltb (length bytes) width ≡ true = lt-ltb _ _ (omega (arith, some, len, length-append bytes more)) in
      rw short refl;
}

-- ---- what the readers' code answers

pub front_ok : (bytes : List ℕ) (n len : ℕ) → Ok (n, len) ≡ vnum_at bytes → vnum_front bytes ≡ Ok (n, drop len bytes)
front_ok bytes n len e = front_is bytes ∙ ap (fronted bytes) (sym e)

pub front_short : (bytes : List ℕ) → Err Short ≡ vnum_at bytes → vnum_front bytes ≡ Err Part
front_short bytes e = front_is bytes ∙ ap (fronted bytes) (sym e)

pub front_bad : (bytes : List ℕ) (e : NumErr) → e ≢ Short → Err e ≡ vnum_at bytes → vnum_front bytes ≡ Err Bad
front_bad bytes Short ne e = absurd (ne refl)
front_bad bytes Second ne e = front_is bytes ∙ ap (fronted bytes) (sym e)
front_bad bytes Wide ne e = front_is bytes ∙ ap (fronted bytes) (sym e)

pub le_front-short : (width : ℕ) (bytes : List ℕ) → length bytes < width → le_front width bytes ≡ Err Part
unfolding le_front
le_front-short width bytes h = let e : ltb (length bytes) width ≡ true = lt-ltb _ _ h in rw e refl

pub le_front-long : (width n : ℕ) (bytes : List ℕ) → width ≤ length bytes → n ≡ le_number (take width bytes) → le_front width bytes ≡ Ok (n, drop width bytes)
unfolding le_front
le_front-long width n bytes h is = let e : ltb (length bytes) width ≡ false = le-ltb _ _ h in rw (e, is) refl

-- the number that these bytes spell at the front
pub front_spelled : (n : ℕ) (text bytes rest : List ℕ) → n < 2 ^ 64 → vnum n ≡ text → bytes ≡ text ++ rest → vnum_front bytes ≡ Ok (n, rest)
front_spelled n text bytes rest h is e = ap vnum_front e ∙ exact_vnum.again n text rest (h, sym is)
