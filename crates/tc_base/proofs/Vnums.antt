-- Varying numbers are read exactly where they are spelled.
use Rattle.std.proofs.Common.{◌≡◌, ◌⊎◌, ◌↔◌, inl, inr, ℕ, zero, suc, ◌+◌, ◌-◌, ◌*◌, ◌/◌, ◌%◌, ◌^◌, ◌<◌, ◌≤◌, true, false, ltb, leb, List, [], ◌∷◌, ◌++◌, length, take, drop, get_or, refl, sym, ap, subst, ◌∙◌, arith, lit<, add-one, set, append_assoc, length-set, Result, Ok, Err, length-append}
use Rattle.std.specs.Result.{IfOk}
use Rattle.std.proofs.lemmas.Bool.{cases_lt, lt-ltb, le-ltb, le-leb, lt-leb}
use Rattle.std.proofs.lemmas.List.{get_or_past, length-take-le, append-nil, take_more_set, drop_more, drop_all}
use Rattle.std.proofs.Math.Nat.{pow-suc, pow-le-pow_right, mul-le-mul_right}
use Rattle.tc_base.specs.declared.number.NumErr.{NumErr}
use Rattle.tc_base.specs.declared.number.NumErr.TheVariants.{Short, Second, Wide}
use Rattle.tc_base.specs.Vnum.{groups, vnum, tops, value_of, ended, vnum_at, IsShort, IsSecond, IsWide}
use Rattle.tc_base.specs.Bytes.{IsBytes}

-- the byte behind those with their top bit
abbrev pub last : List ℕ → ℕ
last bytes = get_or bytes (tops bytes) 0

pub groups-low : (k n : ℕ) → n < 128 → groups (suc k) n ≡ n ∷ []
unfolding groups
groups-low k n h = let e : ltb n 128 ≡ true = lt-ltb n 128 h in rw e refl

pub groups-high : (k n : ℕ) → 128 ≤ n → groups (suc k) n ≡ (255 - n % 128) ∷ groups k (n / 128)
unfolding groups
groups-high k n h = let e : ltb n 128 ≡ false = le-ltb n 128 h in rw e refl

pub tops-low : (b : ℕ) (rest : List ℕ) → b < 128 → tops (b ∷ rest) ≡ 0
unfolding tops
tops-low b rest h = let e : leb 128 b ≡ false = lt-leb 128 b h in rw e refl

pub tops-high : (b : ℕ) (rest : List ℕ) → 128 ≤ b → tops (b ∷ rest) ≡ suc (tops rest)
unfolding tops
tops-high b rest h = let e : leb 128 b ≡ true = le-leb 128 b h in rw e (omega arith)

pub tops-nil : tops [] ≡ 0
unfolding tops
tops-nil = refl

pub value-low : (b : ℕ) (rest : List ℕ) → b < 128 → value_of (b ∷ rest) ≡ b
unfolding value_of
value-low b rest h = let e : ltb b 128 ≡ true = lt-ltb b 128 h in rw e refl

pub value-high : (b : ℕ) (rest : List ℕ) → 128 ≤ b → value_of (b ∷ rest) ≡ (255 - b) + 128 * value_of rest
unfolding value_of
value-high b rest h = let e : ltb b 128 ≡ false = le-ltb b 128 h in rw e refl

last-low : (b : ℕ) (rest : List ℕ) → b < 128 → last (b ∷ rest) ≡ b
last-low b rest h = ap (λ (n : ℕ). get_or (b ∷ rest) n 0) (tops-low b rest h)

last-high : (b : ℕ) (rest : List ℕ) → 128 ≤ b → last (b ∷ rest) ≡ last rest
last-high b rest h = ap (λ (n : ℕ). get_or (b ∷ rest) n 0) (tops-high b rest h)

-- a number lies between what its last group makes and what one more would
pub record Between (bytes : List ℕ) : Type 0 where
  pub low : last bytes * 128 ^ tops bytes ≤ value_of bytes
  pub high : value_of bytes < (last bytes + 1) * 128 ^ tops bytes
  pub ends : last bytes < 128

step : (a b v l p : ℕ) → 128 ≤ b → v < (l + 1) * p → 255 - b + 128 * v < (l + 1) * (128 * p)
step a b v l p h k = omega (arith, h, k)

pub between : (bytes : List ℕ) → tops bytes < length bytes → Between bytes
between [] h = absurd (omega arith)
between (b ∷ rest) h = elim (cases_lt b 128) [
  | inl low ↦
      let t = tops-low b rest low in
      let v = value-low b rest low in
      let l = last-low b rest low in
      record { low = rw (l, v, t) (omega arith); high = rw (l, v, t) (omega arith); ends = rw l low }
  | inr high ↦
      let t = tops-high b rest high in
      let v = value-high b rest high in
      let l = last-high b rest high in
      let p : 128 ^ suc (tops rest) ≡ 128 * 128 ^ tops rest = omega (arith, pow-suc 128 (tops rest)) in
      let r = between rest (omega (arith, h, t)) in
      record {
        low = rw (l, v, t, p) (omega (arith, r.low));
        high = rw (l, v, t, p) (step 0 b (value_of rest) (last rest) (128 ^ tops rest) high r.high);
        ends = rw l r.ends;
      }
]

-- ---- what is spelled is read

pub record Reads (k n : ℕ) (rest : List ℕ) : Type 0 where
  pub value : value_of (groups k n ++ rest) ≡ n
  pub long : suc (tops (groups k n ++ rest)) ≡ length (groups k n)
  pub most : length (groups k n) ≤ k
  pub ending : 0 < tops (groups k n ++ rest) → 0 < last (groups k n ++ rest)
  pub some : 0 < n → 0 < last (groups k n ++ rest)

reads_low : (k n : ℕ) (rest : List ℕ) → n < 128 → Reads (suc k) n rest
reads_low k n rest low =
    let g = groups-low k n low in
    let t = tops-low n rest low in
    record {
      value = rw g (value-low n rest low);
      long = rw (g, t) refl;
      most = rw g (omega arith);
      ending = rw (g, t) (λ h. absurd (omega (arith, h)));
      some = rw (g, t) (λ h. h);
    }

reads_high : (k n : ℕ) (rest : List ℕ) → 128 ≤ n → Reads k (n / 128) rest → Reads (suc k) n rest
reads_high k n rest high r =
    let b : ℕ = 255 - n % 128 in
    let top : 128 ≤ b = omega arith in
    let g = groups-high k n high in
    let t = tops-high b (groups k (n / 128) ++ rest) top in
    let v = value-high b (groups k (n / 128) ++ rest) top in
    let l = last-high b (groups k (n / 128) ++ rest) top in
    record {
      value = rw (g, v, r.value) (omega arith);
      long = rw (g, t) (ap (λ (m : ℕ). suc m) r.long);
      most = rw g (omega (arith, r.most));
      ending = rw g (λ h. rw l (r.some (omega arith)));
      some = rw g (λ h. rw l (r.some (omega arith)));
    }

pub reads : (k n : ℕ) (rest : List ℕ) → n < 128 ^ suc k → Reads (suc k) n rest
reads zero n rest h = reads_low 0 n rest h
reads (suc k) n rest h = elim (cases_lt n 128) [
  | inl low ↦ reads_low (suc k) n rest low
  | inr high ↦ reads_high (suc k) n rest high (reads k (n / 128) rest (omega (arith, h, pow-suc 128 (suc k))))
]

-- ---- what is read is spelled

value_pos : (bytes : List ℕ) → tops bytes < length bytes → 0 < last bytes → 0 < value_of bytes
value_pos [] h l = absurd (omega arith)
value_pos (b ∷ rest) h l = elim (cases_lt b 128) [
  | inl low ↦ rw (value-low b rest low) (rw (last-low b rest low) at l)
  | inr high ↦ rw (value-high b rest high) (omega (arith, value_pos rest (omega (arith, h, tops-high b rest high)) (rw (last-high b rest high) at l)))
]

-- a spelling that doesn't end in group 0
pub spelled_back : (k : ℕ) (bytes : List ℕ) → IsBytes bytes → tops bytes < length bytes → tops bytes < k → 0 < last bytes → groups k (value_of bytes) ≡ take (suc (tops bytes)) bytes
spelled_back k [] fits h m l = absurd (omega arith)
spelled_back zero (b ∷ rest) fits h m l = absurd (omega arith)
spelled_back (suc k) (b ∷ rest) fits h m l = elim (cases_lt b 128) [
  | inl low ↦ rw (value-low b rest low, tops-low b rest low) (groups-low k b low)
  | inr high ↦
      let t = tops-high b rest high in
      let more : 0 < last rest = rw (last-high b rest high) at l in
      let shorter : tops rest < length rest = omega (arith, h, t) in
      let v = value_of rest in
      let pos : 0 < v = value_pos rest shorter more in
      let small : b < 256 = fits 0 in
      let d : (255 - b + 128 * v) / 128 ≡ v = omega arith in
      let r : 255 - (255 - b + 128 * v) % 128 ≡ b = omega arith in
      let i : groups k v ≡ take (suc (tops rest)) rest = spelled_back k rest (λ i. fits (suc i)) shorter (omega (arith, m, t)) more in
      rw (value-high b rest high, t, groups-high k (255 - b + 128 * v) (omega arith), d, r) (ap (λ (l : List ℕ). b ∷ l) i)
]

-- ---- the four outcomes

pub data Outcome (bytes : List ℕ) : Type 0 where
  is_whole : tops bytes < length bytes → tops bytes < 10 → (tops bytes ≡ 0) ⊎ (0 < last bytes) → (tops bytes < 9) ⊎ (last bytes ≤ 1) → vnum_at bytes ≡ Ok (value_of bytes, tops bytes + 1) → Outcome bytes
  is_short : tops bytes < 10 → length bytes ≤ tops bytes → vnum_at bytes ≡ Err Short → Outcome bytes
  is_second : tops bytes < length bytes → tops bytes < 10 → 0 < tops bytes → last bytes ≡ 0 → vnum_at bytes ≡ Err Second → Outcome bytes
  is_wide : (10 ≤ tops bytes) ⊎ ((tops bytes ≡ 9) × (1 < last bytes)) → vnum_at bytes ≡ Err Wide → Outcome bytes

at_end : (bytes : List ℕ) → tops bytes < length bytes → tops bytes < 10 → vnum_at bytes ≡ ended (tops bytes) (last bytes) (value_of bytes)
unfolding vnum_at
at_end bytes h k = let a : ltb (tops bytes) 10 ≡ true = lt-ltb _ _ k in let b : ltb (tops bytes) (length bytes) ≡ true = lt-ltb _ _ h in rw (a, b) refl

at_short : (bytes : List ℕ) → length bytes ≤ tops bytes → tops bytes < 10 → vnum_at bytes ≡ Err Short
unfolding vnum_at
at_short bytes h k = let a : ltb (tops bytes) 10 ≡ true = lt-ltb _ _ k in let b : ltb (tops bytes) (length bytes) ≡ false = le-ltb _ _ h in rw (a, b) refl

at_wide : (bytes : List ℕ) → 10 ≤ tops bytes → vnum_at bytes ≡ Err Wide
unfolding vnum_at
at_wide bytes k = let a : ltb (tops bytes) 10 ≡ false = le-ltb _ _ k in rw a refl

outcome_end : (bytes : List ℕ) → tops bytes < length bytes → tops bytes < 10 → Outcome bytes
outcome_end bytes h k =
    let e = at_end bytes h k in
    elim (cases_lt 0 (tops bytes)) [
      | inr none ↦ let a : ltb 0 (tops bytes) ≡ false = le-ltb _ _ none in is_whole h k (inl (omega arith)) (inl (omega arith)) (e ∙ rw a refl)
      | inl some ↦
          let a : ltb 0 (tops bytes) ≡ true = lt-ltb _ _ some in
          elim (cases_lt 0 (last bytes)) [
            | inr nought ↦ let b : ltb 0 (last bytes) ≡ false = le-ltb _ _ nought in is_second h k some (omega arith) (e ∙ rw (a, b) refl)
            | inl more ↦
                let b : ltb 0 (last bytes) ≡ true = lt-ltb _ _ more in
                elim (cases_lt (tops bytes) 9) [
                  | inl few ↦ let c : ltb (tops bytes) 9 ≡ true = lt-ltb _ _ few in is_whole h k (inr more) (inl few) (e ∙ rw (a, b, c) refl)
                  | inr nine ↦
                      let c : ltb (tops bytes) 9 ≡ false = le-ltb _ _ nine in
                      elim (cases_lt 1 (last bytes)) [
                        | inl much ↦ let d : ltb 1 (last bytes) ≡ true = lt-ltb _ _ much in is_wide (inr (omega arith, much)) (e ∙ rw (a, b, c, d) refl)
                        | inr one ↦ let d : ltb 1 (last bytes) ≡ false = le-ltb _ _ one in is_whole h k (inr more) (inr one) (e ∙ rw (a, b, c, d) refl)
                      ]
                ]
          ]
    ]

pub outcome : (bytes : List ℕ) → Outcome bytes
outcome bytes = elim (cases_lt (tops bytes) 10) [
  | inr ten ↦ is_wide (inl ten) (at_wide bytes ten)
  | inl few ↦ elim (cases_lt (tops bytes) (length bytes)) [
    | inl ends ↦ outcome_end bytes ends few
    | inr cut ↦ is_short few cut (at_short bytes cut few)
  ]
]

tops-most : (bytes : List ℕ) → tops bytes ≤ length bytes
tops-most [] = rw tops-nil (omega arith)
tops-most (b ∷ rest) = elim (cases_lt b 128) [
  | inl low ↦ omega (arith, tops-low b rest low)
  | inr high ↦ omega (arith, tops-high b rest high, tops-most rest)
]

-- ---- each answer comes exactly where it is due

pub short_exactly : (bytes : List ℕ) → (vnum_at bytes ≡ Err Short) ↔ IsShort bytes
short_exactly bytes = elim (outcome bytes) [
  | is_whole h k z w e ↦ (λ s. absurd (let r = sym e ∙ s in cc), λ s. absurd (omega (arith, h, s.1)))
  | is_short k h e ↦ (λ s. (omega (arith, tops-most bytes), omega (arith, tops-most bytes)), λ s. e)
  | is_second h k some z e ↦ (λ s. absurd (let r = sym e ∙ s in cc), λ s. absurd (omega (arith, h, s.1)))
  | is_wide w e ↦ (λ s. absurd (let r = sym e ∙ s in cc), λ s. absurd (elim w [ inl ten ↦ omega (arith, ten, s.0, s.1) | inr nine ↦ past bytes nine.1 s.1 ]))
]
  where
    past : (bytes : List ℕ) → 1 < last bytes → tops bytes ≡ length bytes → ⊥
    past bytes h e = let p : last bytes ≡ 0 = ap (λ (n : ℕ). get_or bytes n 0) e ∙ get_or_past bytes (length bytes) 0 (omega arith) in omega (arith, p, h)

pub second_exactly : (bytes : List ℕ) → (vnum_at bytes ≡ Err Second) ↔ IsSecond bytes
second_exactly bytes = elim (outcome bytes) [
  | is_whole h k z w e ↦ (λ s. absurd (let r = sym e ∙ s in cc), λ s. absurd (elim z [ inl none ↦ omega (arith, none, s.0) | inr some ↦ omega (arith, some, s.3) ]))
  | is_short k h e ↦ (λ s. absurd (let r = sym e ∙ s in cc), λ s. absurd (omega (arith, h, s.2)))
  | is_second h k some z e ↦ (λ s. (some, k, h, z), λ s. e)
  | is_wide w e ↦ (λ s. absurd (let r = sym e ∙ s in cc), λ s. absurd (elim w [ inl ten ↦ omega (arith, ten, s.1) | inr nine ↦ omega (arith, nine.1, s.3) ]))
]

nine_at : (bytes : List ℕ) → tops bytes ≡ 9 → get_or bytes 9 0 ≡ last bytes
nine_at bytes e = ap (λ (n : ℕ). get_or bytes n 0) (sym e)

pub wide_exactly : (bytes : List ℕ) → (vnum_at bytes ≡ Err Wide) ↔ IsWide bytes
wide_exactly bytes = elim (outcome bytes) [
  | is_whole h k z w e ↦ (
    λ s. absurd (let r = sym e ∙ s in cc),
    λ s. absurd (elim s [
      | inl ten ↦ omega (arith, ten, k)
      | inr nine ↦ elim w [ inl few ↦ omega (arith, few, nine.0) | inr one ↦ omega (arith, one, nine.1, nine_at bytes nine.0) ]
    ]),
  )
  | is_short k h e ↦ (
    λ s. absurd (let r = sym e ∙ s in cc),
    λ s. absurd (elim s [
      | inl ten ↦ omega (arith, ten, k)
      | inr nine ↦ let p = get_or_past bytes 9 0 (omega (arith, h, nine.0)) in omega (arith, p, nine.1)
    ]),
  )
  | is_second h k some z e ↦ (
    λ s. absurd (let r = sym e ∙ s in cc),
    λ s. absurd (elim s [
      | inl ten ↦ omega (arith, ten, k)
      | inr nine ↦ omega (arith, z, nine.1, nine_at bytes nine.0)
    ]),
  )
  | is_wide w e ↦ (λ s. elim w [ inl ten ↦ inl ten | inr nine ↦ inr (nine.0, rw (nine_at bytes nine.0) nine.1) ], λ s. e)
]

-- ---- the number

pub fits : (t l : ℕ) → t < 10 → l < 128 → (t < 9) ⊎ (l ≤ 1) → (l + 1) * 128 ^ t ≤ 2 ^ 64
fits t l k h (inl few) =
    let e : t ≤ 8 = omega arith in
    let p : 128 ^ t ≤ 128 ^ 8 = pow-le-pow_right (lit< tt) e in
    let f : l + 1 ≤ 128 = omega arith in
    let q : (l + 1) * 128 ^ t ≤ 128 * 128 ^ t = mul-le-mul_right (128 ^ t) f in
    omega (arith, p, q)
fits t l k h (inr one) =
    let e : t ≤ 9 = omega arith in
    let p : 128 ^ t ≤ 128 ^ 9 = pow-le-pow_right (lit< tt) e in
    let f : l + 1 ≤ 2 = omega arith in
    let q : (l + 1) * 128 ^ t ≤ 2 * 128 ^ t = mul-le-mul_right (128 ^ t) f in
    omega (arith, p, q)

pub record Found (bytes : List ℕ) (n len : ℕ) : Type 0 where
  pub below : n < 2 ^ 64
  pub long : len ≡ length (vnum n)
  pub front : take len bytes ≡ vnum n

pub found_whole : (bytes : List ℕ) → IsBytes bytes → tops bytes < length bytes → tops bytes < 10 → (tops bytes ≡ 0) ⊎ (0 < last bytes) → (tops bytes < 9) ⊎ (last bytes ≤ 1) → Found bytes (value_of bytes) (tops bytes + 1)
unfolding vnum
found_whole bytes are h k z w =
    let b = between bytes h in
    let front : groups 10 (value_of bytes) ≡ take (suc (tops bytes)) bytes = elim z [ inr some ↦ spelled_back 10 bytes are h k some | inl none ↦ single bytes h none ] in
    record {
      below = omega (arith, b.high, fits (tops bytes) (last bytes) k b.ends w);
      long = rw front (omega (arith, length-take-le (suc (tops bytes)) bytes (omega arith)));
      front = rw add-one (sym front);
    }
  where
    single : (bytes : List ℕ) → tops bytes < length bytes → tops bytes ≡ 0 → groups 10 (value_of bytes) ≡ take (suc (tops bytes)) bytes
    single [] h e = absurd (omega arith)
    single (b ∷ rest) h e = elim (cases_lt b 128) [
      | inl low ↦ rw (value-low b rest low, e) (groups-low 9 b low)
      | inr high ↦ absurd (omega (arith, e, tops-high b rest high))
    ]

pub found : (bytes : List ℕ) (n len : ℕ) → IsBytes bytes → vnum_at bytes ≡ Ok (n, len) → Found bytes n len
found bytes n len are r = elim (outcome bytes) [
  | is_whole h k z w e ↦
      let s : ◌≡◌ {A = Result (ℕ × ℕ) NumErr} (Ok (value_of bytes, tops bytes + 1)) (Ok (n, len)) = sym e ∙ r in
      let pair : ◌≡◌ {A = ℕ × ℕ} (value_of bytes, tops bytes + 1) (n, len) = cc in
      let a : value_of bytes ≡ n = ap (λ (x : ℕ × ℕ). x.0) pair in
      let b : tops bytes + 1 ≡ len = ap (λ (x : ℕ × ℕ). x.1) pair in
      subst (λ (m : ℕ). Found bytes m len) a (subst (λ (m : ℕ). Found bytes (value_of bytes) m) b (found_whole bytes are h k z w))
  | is_short k h e ↦ absurd (let s = sym e ∙ r in cc)
  | is_second h k some z e ↦ absurd (let s = sym e ∙ r in cc)
  | is_wide w e ↦ absurd (let s = sym e ∙ r in cc)
]

pub again : (n : ℕ) (rest : List ℕ) → n < 2 ^ 64 → vnum_at (vnum n ++ rest) ≡ Ok (n, length (vnum n))
unfolding vnum
again n rest below =
    let r = reads 9 n rest (omega (arith, below)) in
    let bytes : List ℕ = groups 10 n ++ rest in
    let h : tops bytes < length bytes = omega (arith, r.long, length-append (groups 10 n) rest) in
    let k : tops bytes < 10 = omega (arith, r.long, r.most) in
    let b = between bytes h in
    elim (outcome bytes) [
      | is_whole h k z w e ↦ e ∙ pairs (value_of bytes) n (tops bytes + 1) (length (groups 10 n)) r.value (omega (arith, r.long))
      | is_short k' h' e ↦ absurd (omega (arith, h, h'))
      | is_second h' k' some z e ↦ absurd (omega (arith, z, r.ending some))
      | is_wide w e ↦ absurd (elim w [
        | inl ten ↦ omega (arith, ten, k)
        | inr nine ↦
            let p : 128 ^ tops bytes ≡ 128 ^ 9 = ap (λ (m : ℕ). 128 ^ m) nine.0 in
            let l : last bytes * 128 ^ 9 ≤ value_of bytes = subst (λ (m : ℕ). last bytes * m ≤ value_of bytes) p b.low in
            omega (arith, l, nine.1, r.value, below)
      ])
    ]
  where
    pairs : (a b c d : ℕ) → a ≡ b → c ≡ d → ◌≡◌ {A = Result (ℕ × ℕ) NumErr} (Ok (a, c)) (Ok (b, d))
    pairs a b c d e f = rw (e, f) refl

-- no spelling is the front of another
pub no_front : (m n : ℕ) (rest : List ℕ) → m < 2 ^ 64 → n < 2 ^ 64 → vnum n ≡ vnum m ++ rest → m ≡ n
no_front m n rest h k e =
    let a = again m rest h in
    let b = again n [] k in
    let same : vnum m ++ rest ≡ vnum n ++ [] = sym e ∙ sym (append-nil (vnum n)) in
    let c : ◌≡◌ {A = Result (ℕ × ℕ) NumErr} (Ok (m, length (vnum m))) (Ok (n, length (vnum n))) = sym a ∙ ap vnum_at same ∙ b in
    let pair : ◌≡◌ {A = ℕ × ℕ} (m, length (vnum m)) (n, length (vnum n)) = cc in
    ap (λ (x : ℕ × ℕ). x.0) pair

-- the last group fits
pub end_fits : (behind l low scale : ℕ) → behind < 10 → l < 128 → scale ≡ 128 ^ behind → low < scale → ((behind ≡ 9) × (l ≤ 1)) ⊎ (behind ≡ 9 → ⊥) → low + l * scale < 2 ^ 64
end_fits behind l low scale few ends is less either =
    let f : (l + 1) * scale ≤ 2 ^ 64 = subst (λ (m : ℕ). (l + 1) * m ≤ 2 ^ 64) (sym is) (fits behind l few ends (elim either [ inl h ↦ inr h.1 | inr ne ↦ inl (omega arith) ])) in
    omega (arith, f)

-- ---- a spelling written from the front

pub spell_more : (k n : ℕ) → 128 ≤ n → n < 128 ^ suc (suc k) → n / 128 < 128 ^ suc k
spell_more k n high h = omega (arith, pow-suc 128 (suc k))

pub groups_few : (k n : ℕ) → n < 128 ^ suc k → length (groups (suc k) n) ≤ suc k
groups_few k n h = (reads k n [] h).most

pub record Spelling (i n whole : ℕ) (buffer : List ℕ) : Type 0 where
  pub bytes : take i buffer ++ groups (10 - i) n ≡ vnum whole
  pub below : n < 128 ^ (10 - i)
  pub long : length buffer ≡ 10

pub spelling_none : (n : ℕ) (buffer : List ℕ) → n < 2 ^ 64 → length buffer ≡ 10 → Spelling 0 n n buffer
unfolding vnum
spelling_none n buffer h l = record { bytes = refl; below = omega (arith, h); long = l }

pub spelling_more : (i n whole : ℕ) (buffer : List ℕ) → i < 9 → 128 ≤ n → Spelling i n whole buffer → Spelling (i + 1) (n / 128) whole (set buffer i (255 - n % 128))
spelling_more i n whole buffer few high h =
    let k : ℕ = 8 - i in
    let a : 10 - i ≡ suc (suc k) = omega arith in
    let b : 10 - (i + 1) ≡ suc k = omega arith in
    let within : i < length buffer = omega (arith, h.long) in
    let below : n < 128 ^ suc (suc k) = subst (λ (m : ℕ). n < 128 ^ m) a h.below in
    record {
      bytes = rw (b, take_more_set buffer i (255 - n % 128) within) (
          append_assoc (take i buffer) ((255 - n % 128) ∷ []) (groups (suc k) (n / 128))
          ∙ ap (λ (l : List ℕ). take i buffer ++ l) (sym (groups-high (suc k) n high) ∙ ap (λ (m : ℕ). groups m n) (sym a))
          ∙ h.bytes);
      below = rw b (spell_more k n high below);
      long = length-set buffer i (255 - n % 128) ∙ h.long;
    }

-- the last group in its place
pub spelling_done : (i n whole : ℕ) (buffer : List ℕ) → i < 10 → n < 128 → Spelling i n whole buffer → take (i + 1) (set buffer i n) ≡ vnum whole
spelling_done i n whole buffer few low h =
    let k : ℕ = 9 - i in
    let a : 10 - i ≡ suc k = omega arith in
    let within : i < length buffer = omega (arith, h.long) in
    take_more_set buffer i n within ∙ ap (λ (l : List ℕ). take i buffer ++ l) (sym (groups-low k n low) ∙ ap (λ (m : ℕ). groups m n) (sym a)) ∙ h.bytes

pub spelling_long : (i n whole : ℕ) (buffer : List ℕ) → i < 10 → n < 128 → Spelling i n whole buffer → i + 1 ≡ length (vnum whole)
spelling_long i n whole buffer few low h =
    let d = spelling_done i n whole buffer few low h in
    let l : length (take (i + 1) (set buffer i n)) ≡ i + 1 = length-take-le (i + 1) (set buffer i n) (omega (arith, h.long, length-set buffer i n)) in
    sym l ∙ ap length d

-- ---- reading from the front

pub record Scanned (i low scale : ℕ) (bytes : List ℕ) : Type 0 where
  pub within : i ≤ length bytes
  pub passed : tops bytes ≡ i + tops (drop i bytes)
  pub value : value_of bytes ≡ low + value_of (drop i bytes) * scale
  pub unit : scale ≡ 128 ^ i
  pub less : low < scale

pub scanned_none : (bytes : List ℕ) → Scanned 0 0 1 bytes
scanned_none bytes = record { within = omega arith; passed = omega arith; value = omega arith; unit = refl; less = omega arith }

pub scanned_more : (i low scale b : ℕ) (bytes : List ℕ) → i < 9 → i < length bytes → b ≡ get_or bytes i 0 → 128 ≤ b → Scanned i low scale bytes → Scanned (i + 1) (low + (255 - b) * scale) (scale * 128) bytes
scanned_more i low scale b bytes few within is high h =
    let d : drop i bytes ≡ b ∷ drop (i + 1) bytes = drop_more bytes i 0 within ∙ ap (λ (z : ℕ). z ∷ drop (i + 1) bytes) (sym is) in
    let t : tops bytes ≡ i + suc (tops (drop (i + 1) bytes)) = h.passed ∙ ap (λ (l : List ℕ). i + tops l) d ∙ ap (λ (m : ℕ). i + m) (tops-high b (drop (i + 1) bytes) high) in
    let v : value_of bytes ≡ low + ((255 - b) + 128 * value_of (drop (i + 1) bytes)) * scale = h.value ∙ ap (λ (l : List ℕ). low + value_of l * scale) d ∙ ap (λ (m : ℕ). low + m * scale) (value-high b (drop (i + 1) bytes) high) in
    let c : 255 - b ≤ 127 = omega arith in
    let m : (255 - b) * scale ≤ 127 * scale = mul-le-mul_right scale c in
    record {
      within = omega arith;
      passed = omega (arith, t);
      value = omega (arith, v);
      unit = rw add-one (omega (arith, h.unit, pow-suc 128 i));
      less = omega (arith, m, h.less);
    }

pub scanned_fits : (i low scale b : ℕ) (bytes : List ℕ) → i < 9 → 128 ≤ b → Scanned i low scale bytes → low + (255 - b) * scale < 2 ^ 63
scanned_fits i low scale b bytes few high h =
    let c : 255 - b ≤ 127 = omega arith in
    let m : (255 - b) * scale ≤ 127 * scale = mul-le-mul_right scale c in
    let e : i ≤ 8 = omega arith in
    let p : 128 ^ i ≤ 128 ^ 8 = pow-le-pow_right (lit< tt) e in
    omega (arith, m, p, h.less, h.unit)

pub scanned_scale : (i low scale : ℕ) (bytes : List ℕ) → i < 9 → Scanned i low scale bytes → scale * 128 < 2 ^ 64
scanned_scale i low scale bytes few h =
    let e : i ≤ 8 = omega arith in
    let p : 128 ^ i ≤ 128 ^ 8 = pow-le-pow_right (lit< tt) e in
    omega (arith, p, h.unit)

pub scanned_short : (i low scale : ℕ) (bytes : List ℕ) → i < 10 → i ≡ length bytes → Scanned i low scale bytes → Err Short ≡ vnum_at bytes
scanned_short i low scale bytes few end h =
    let n : tops (drop i bytes) ≡ 0 = ap tops (drop_all i bytes (omega arith)) ∙ tops-nil in
    sym (at_short bytes (omega (arith, h.passed)) (omega (arith, h.passed, n)))

pub scanned_wide : (i low scale b : ℕ) (bytes : List ℕ) → i ≡ 9 → i < length bytes → b ≡ get_or bytes i 0 → 128 ≤ b → Scanned i low scale bytes → Err Wide ≡ vnum_at bytes
scanned_wide i low scale b bytes nine within is high h =
    let d : drop i bytes ≡ b ∷ drop (i + 1) bytes = drop_more bytes i 0 within ∙ ap (λ (z : ℕ). z ∷ drop (i + 1) bytes) (sym is) in
    let t : tops bytes ≡ i + suc (tops (drop (i + 1) bytes)) = h.passed ∙ ap (λ (l : List ℕ). i + tops l) d ∙ ap (λ (m : ℕ). i + m) (tops-high b (drop (i + 1) bytes) high) in
    sym (at_wide bytes (omega (arith, t)))

pub scanned_end : (i low scale b : ℕ) (bytes : List ℕ) → i < 10 → i < length bytes → b ≡ get_or bytes i 0 → b < 128 → Scanned i low scale bytes → ended i b (low + b * scale) ≡ vnum_at bytes
scanned_end i low scale b bytes few within is less h =
    let d : drop i bytes ≡ b ∷ drop (i + 1) bytes = drop_more bytes i 0 within ∙ ap (λ (z : ℕ). z ∷ drop (i + 1) bytes) (sym is) in
    let t0 : tops (drop i bytes) ≡ 0 = ap tops d ∙ tops-low b (drop (i + 1) bytes) less in
    let t : tops bytes ≡ i = omega (arith, h.passed, t0) in
    let v : value_of bytes ≡ low + b * scale = h.value ∙ ap (λ (l : List ℕ). low + value_of l * scale) d ∙ ap (λ (m : ℕ). low + m * scale) (value-low b (drop (i + 1) bytes) less) in
    let l : last bytes ≡ b = ap (λ (n : ℕ). get_or bytes n 0) t ∙ sym is in
    sym (at_end bytes (omega (arith, t)) (omega (arith, t)) ∙ rw (t, v, sym is) refl)

-- a byte without its top bit is a number by itself
pub scanned_one : (b : ℕ) (bytes : List ℕ) → 0 < length bytes → b ≡ get_or bytes 0 0 → b < 128 → Ok (b, 1) ≡ vnum_at bytes
scanned_one b bytes within is less = ap (λ (v : ℕ). Ok (v, 1)) (omega arith) ∙ scanned_end 0 0 1 b bytes (omega arith) within is less (scanned_none bytes)

-- ---- what a reader's answer says

pub IfOk-found : (r : Result (ℕ × ℕ) NumErr) (bytes : List ℕ) → IsBytes bytes → r ≡ vnum_at bytes → IfOk r (λ x. (x.0 < 2 ^ 64) × (x.1 ≡ length (vnum x.0)) × (take x.1 bytes ≡ vnum x.0))
IfOk-found (Err e) bytes are is = tt
IfOk-found (Ok x) bytes are is = let f = found bytes x.0 x.1 are (sym is) in (f.below, f.long, f.front)

-- ---- spellings of few bytes

pub one_spelled : (n : ℕ) → n < 128 → vnum n ≡ n ∷ []
unfolding vnum
one_spelled n h = groups-low 9 n h

pub two_spelled : (a b : ℕ) → 128 ≤ a → a < 256 → 0 < b → b < 128 → vnum (255 - a + 128 * b) ≡ a ∷ b ∷ []
unfolding vnum
two_spelled a b top byte some low =
    let n : ℕ = 255 - a + 128 * b in
    let first : 255 - n % 128 ≡ a = omega (arith, top, byte) in
    let rest : n / 128 ≡ b = omega (arith, top, byte) in
    groups-high 9 n (omega (arith, some)) ∙ (λ i. first i ∷ groups 9 (rest i)) ∙ ap (λ (l : List ℕ). a ∷ l) (groups-low 8 b low)

pub three_spelled : (a b d : ℕ) → 128 ≤ a → a < 256 → 128 ≤ b → b < 256 → 0 < d → d < 128 → vnum (255 - a + 128 * (255 - b + 128 * d)) ≡ a ∷ b ∷ d ∷ []
unfolding vnum
three_spelled a b d ta fa tb fb some low =
    let m : ℕ = 255 - b + 128 * d in
    let n : ℕ = 255 - a + 128 * m in
    let first : 255 - n % 128 ≡ a = omega (arith, ta, fa) in
    let rest : n / 128 ≡ m = omega (arith, ta, fa) in
    let second : 255 - m % 128 ≡ b = omega (arith, tb, fb) in
    let last : m / 128 ≡ d = omega (arith, tb, fb) in
    groups-high 9 n (omega (arith, some))
    ∙ (λ i. first i ∷ groups 9 (rest i))
    ∙ ap (λ (l : List ℕ). a ∷ l) (groups-high 8 m (omega (arith, some)) ∙ (λ i. second i ∷ groups 8 (last i)) ∙ ap (λ (l : List ℕ). b ∷ l) (groups-low 7 d low))
