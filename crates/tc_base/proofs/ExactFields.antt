-- The readers of a number and of bytes are exact.
use Rattle.std.proofs.Common.{◌≡◌, ◌⊎◌, ℕ, zero, suc, ◌-◌, ◌^◌, ◌<◌, ◌≤◌, Bool, true, false, cond, ltb, leb, List, [], ◌∷◌, ◌++◌, length, take, drop, Ok, Err, refl, sym, ap, subst, ◌∙◌, arith, inl, inr, length-append, replicate}
use Rattle.std.specs.Int.{w32, from_be_bytes, to_be_bytes}
use Rattle.std.proofs.lemmas.Bool.{ltb-false, ltb-true, lt-ltb, le-ltb, leb-true, le-leb, cond-true, cond-false}
use Rattle.std.proofs.lemmas.List.{take_at, drop_at, take-append-drop, length-take, length-replicate}
use Rattle.std.proofs.lemmas.Nat.{be_bytes_4, from_be_bytes-to_be_bytes_4}
use Rattle.tc_base.specs.declared.fields.NotWhole.TheVariants.{Part}
use Rattle.tc_base.specs.Reading.{size_at, bytes_at}
use Rattle.tc_base.proofs.Exact.{IsBytes, IsExact, same_whole}

-- which way a test went
pub chosen : {A : Type 0} (b : Bool) (x y z : A) → cond b x y ≡ z → ((b ≡ true) × (x ≡ z)) ⊎ ((b ≡ false) × (y ≡ z))
chosen true x y z e = inl (refl, e)
chosen false x y z e = inr (refl, e)

pub exact_bytes : (n : ℕ) → IsExact (λ xs text. (length xs ≡ n) × (text ≡ xs)) (bytes_at n)
exact_bytes n = record {
  found = λ bytes x rest fits e.
      elim (chosen (ltb (length bytes) n) (Err Part) (Ok (take n bytes, drop n bytes)) (Ok (x, rest)) e) [
        | inl h ↦ absurd (let bad = h.1 in cc)
        | inr h ↦
            let long : n ≤ length bytes = ltb-false _ _ h.0 in
            let s = same_whole (take n bytes) x (drop n bytes) rest h.1 in
            (x, (ap length (sym s.0) ∙ omega (arith, length-take n bytes), refl), sym (take-append-drop n bytes) ∙ ap (λ (l : List ℕ). l ++ drop n bytes) s.0 ∙ ap (λ (l : List ℕ). x ++ l) s.1)
      ];
  again = λ x text rest h.
      let long : ltb (length (x ++ rest)) n ≡ false = le-ltb _ _ (omega (arith, h.0, length-append x rest)) in
      ap (bytes_at n) (ap (λ (l : List ℕ). l ++ rest) h.1) ∙ rw (long, take_at x rest n h.0, drop_at x rest n h.0) refl;
  part = λ bytes fits e.
      elim (chosen (ltb (length bytes) n) (Err Part) (Ok (take n bytes, drop n bytes)) (Err Part) e) [
        | inl h ↦
            let short : length bytes < n = ltb-true _ _ h.0 in
            let zeros : List ℕ = replicate (n - length bytes) 0 in
            let len : length zeros ≡ n - length bytes = length-replicate {A = ℕ} (n - length bytes) 0 in
            (bytes ++ zeros, zeros, omega (arith, len), (omega (arith, len, length-append bytes zeros), refl))
        | inr h ↦ absurd (let bad = h.1 in cc)
      ];
  cut = λ x bytes more some h.
      let short : ltb (length bytes) n ≡ true = lt-ltb _ _ (omega (arith, some, h.0, length-append bytes more, ap length h.1)) in
      rw short refl;
}

-- ---- numbers

few : (a b c d : ℕ) → a < 256 → b < 256 → c < 256 → d < 256 → IsBytes (a ∷ b ∷ c ∷ d ∷ [])
few a b c d h k l m zero = h
few a b c d h k l m (suc zero) = k
few a b c d h k l m (suc (suc zero)) = l
few a b c d h k l m (suc (suc (suc zero))) = m
few a b c d h k l m (suc (suc (suc (suc i)))) = omega arith

four : (a b c d : ℕ) (rest : List ℕ) → a < 256 → b < 256 → c < 256 → d < 256 → to_be_bytes w32 (from_be_bytes w32 (a ∷ b ∷ c ∷ d ∷ rest)) ≡ a ∷ b ∷ c ∷ d ∷ []
four a b c d rest h k l m = be_bytes_4 (a ∷ b ∷ c ∷ d ∷ []) (from_be_bytes w32 (a ∷ b ∷ c ∷ d ∷ rest)) refl (few a b c d h k l m) refl

front_le : (bytes more : List ℕ) → from_be_bytes w32 bytes ≤ from_be_bytes w32 (bytes ++ more)
front_le [] more = omega arith
front_le (a ∷ []) more = omega arith
front_le (a ∷ b ∷ []) more = omega arith
front_le (a ∷ b ∷ c ∷ []) more = omega arith
front_le (a ∷ b ∷ c ∷ d ∷ rest) more = omega arith

abbrev pub IsSize : ℕ → ℕ → List ℕ → Type 0
IsSize limit k text = (k ≤ limit) × (text ≡ to_be_bytes w32 k)

size_found : (limit : ℕ) (bytes : List ℕ) (x : ℕ) (rest : List ℕ) → IsBytes bytes → from_be_bytes w32 bytes ≤ limit → 4 ≤ length bytes → from_be_bytes w32 bytes ≡ x → drop 4 bytes ≡ rest → (text : List ℕ) × IsSize limit x text × (bytes ≡ text ++ rest)
size_found limit [] x rest fits le long e f = absurd (omega arith)
size_found limit (a ∷ []) x rest fits le long e f = absurd (omega arith)
size_found limit (a ∷ b ∷ []) x rest fits le long e f = absurd (omega arith)
size_found limit (a ∷ b ∷ c ∷ []) x rest fits le long e f = absurd (omega arith)
size_found limit (a ∷ b ∷ c ∷ d ∷ r) x rest fits le long e f =
    (a ∷ b ∷ c ∷ d ∷ [], (subst (λ (k : ℕ). k ≤ limit) e le, sym (four a b c d r (fits 0) (fits 1) (fits 2) (fits 3)) ∙ ap (to_be_bytes w32) e), ap (λ (l : List ℕ). a ∷ b ∷ c ∷ d ∷ l) f)

size_part : (limit : ℕ) (bytes : List ℕ) → IsBytes bytes → from_be_bytes w32 bytes ≤ limit → length bytes < 4 → (x : ℕ) × (more : List ℕ) × (0 < length more) × IsSize limit x (bytes ++ more)
size_part limit [] fits le short = (from_be_bytes w32 [], 0 ∷ 0 ∷ 0 ∷ 0 ∷ [], omega arith, (le, sym (four 0 0 0 0 [] (omega arith) (omega arith) (omega arith) (omega arith))))
size_part limit (a ∷ []) fits le short = (from_be_bytes w32 (a ∷ []), 0 ∷ 0 ∷ 0 ∷ [], omega arith, (le, sym (four a 0 0 0 [] (fits 0) (omega arith) (omega arith) (omega arith))))
size_part limit (a ∷ b ∷ []) fits le short = (from_be_bytes w32 (a ∷ b ∷ []), 0 ∷ 0 ∷ [], omega arith, (le, sym (four a b 0 0 [] (fits 0) (fits 1) (omega arith) (omega arith))))
size_part limit (a ∷ b ∷ c ∷ []) fits le short = (from_be_bytes w32 (a ∷ b ∷ c ∷ []), 0 ∷ [], omega arith, (le, sym (four a b c 0 [] (fits 0) (fits 1) (fits 2) (omega arith))))
size_part limit (a ∷ b ∷ c ∷ d ∷ r) fits le short = absurd (omega arith)

pub exact_size : (limit : ℕ) → limit < 2 ^ 32 → IsExact (IsSize limit) (size_at limit)
exact_size limit small = record {
  found = λ bytes x rest fits e.
      elim (chosen (leb (from_be_bytes w32 bytes) limit) _ _ (Ok (x, rest)) e) [
        | inl h ↦ elim (chosen (ltb (length bytes) 4) _ _ (Ok (x, rest)) h.1) [
          | inl k ↦ absurd (let bad = k.1 in cc)
          | inr k ↦
              let s = same_whole (from_be_bytes w32 bytes) x (drop 4 bytes) rest k.1 in
              size_found limit bytes x rest fits (leb-true _ _ h.0) (ltb-false _ _ k.0) s.0 s.1
        ]
        | inr h ↦ absurd (let bad = h.1 in cc)
      ];
  again = λ x text rest h.
      let n : from_be_bytes w32 (to_be_bytes w32 x ++ rest) ≡ x = from_be_bytes-to_be_bytes_4 x (omega (arith, h.0)) in
      let fine : leb (from_be_bytes w32 (to_be_bytes w32 x ++ rest)) limit ≡ true = ap (λ (k : ℕ). leb k limit) n ∙ le-leb x limit h.0 in
      let long : ltb (length (to_be_bytes w32 x ++ rest)) 4 ≡ false = le-ltb _ _ (omega arith) in
      ap (λ (l : List ℕ). size_at limit (l ++ rest)) h.1 ∙ cond-true _ _ _ fine ∙ cond-false _ _ _ long ∙ ap (λ (k : ℕ). Ok (k, rest)) n;
  part = λ bytes fits e.
      elim (chosen (leb (from_be_bytes w32 bytes) limit) _ _ (Err Part) e) [
        | inl h ↦ elim (chosen (ltb (length bytes) 4) _ _ (Err Part) h.1) [
          | inl k ↦ size_part limit bytes fits (leb-true _ _ h.0) (ltb-true _ _ k.0)
          | inr k ↦ absurd (let bad = k.1 in cc)
        ]
        | inr h ↦ absurd (let bad = h.1 in cc)
      ];
  cut = λ x bytes more some h.
      let n : from_be_bytes w32 (bytes ++ more) ≡ x = ap (from_be_bytes w32) h.1 ∙ from_be_bytes-to_be_bytes_4 x (omega (arith, h.0)) in
      let fine : leb (from_be_bytes w32 bytes) limit ≡ true = le-leb _ _ (omega (arith, n, h.0, front_le bytes more)) in
      let len : length (bytes ++ more) ≡ 4 = ap length h.1 in
      let short : ltb (length bytes) 4 ≡ true = lt-ltb _ _ (omega (arith, some, len, length-append bytes more)) in
      cond-true _ _ _ fine ∙ cond-true _ _ _ short;
}
