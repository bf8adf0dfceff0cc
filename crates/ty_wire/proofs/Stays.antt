-- What is read whole is read so whatever comes behind.
use Rattle.std.proofs.Common.{◌≡◌, inl, inr, ℕ, ◌+◌, ◌≤◌, ltb, List, [], ◌∷◌, ◌++◌, length, take, drop, Ok, refl, sym, ap, ◌∙◌, arith, length-append, length-drop}
use Rattle.std.specs.Int.{w32, from_be_bytes}
use Rattle.std.specs.Prelude.{nat_lt, nat_le}
use Rattle.std.proofs.lemmas.Bool.{ltb-false, le-ltb, cond-true, cond-false}
use Rattle.std.proofs.lemmas.List.{append-nil, drop-append-le, take-append-le, drop-drop}
use Rattle.tc_base.specs.Reading.{Front, ◌>>=◌, size_at, bytes_at}
use Rattle.tc_base.proofs.Exact.{bind_ok, same_whole}
use Rattle.tc_base.proofs.ExactFields.{chosen}
use Rattle.ty_wire.specs.Items.{item_at}
use Rattle.ty_wire.proofs.ItemLoops.{bytes_length}

pub record Stays {A : Type 0} (p : List ℕ → Front A) (bytes : List ℕ) (x : A) (n : ℕ) : Type 0 where
  pub inside : n ≤ length bytes
  pub reads : (more : List ℕ) → p (bytes ++ more) ≡ Ok (x, drop n (bytes ++ more))

same_number : (bytes more : List ℕ) → 4 ≤ length bytes → from_be_bytes w32 (bytes ++ more) ≡ from_be_bytes w32 bytes
same_number [] more long = absurd (omega arith)
same_number (a ∷ []) more long = absurd (omega arith)
same_number (a ∷ b ∷ []) more long = absurd (omega arith)
same_number (a ∷ b ∷ c ∷ []) more long = absurd (omega arith)
same_number (a ∷ b ∷ c ∷ d ∷ rest) more long = refl

pub size_stays : (limit : ℕ) (bytes : List ℕ) (x : ℕ) (rest : List ℕ) → size_at limit bytes ≡ Ok (x, rest) → Stays (size_at limit) bytes x 4
size_stays limit bytes x rest e =
    elim (chosen (nat_le (from_be_bytes w32 bytes) limit) _ _ (Ok (x, rest)) e) [
      | inl h ↦ elim (chosen (nat_lt (length bytes) 4) _ _ (Ok (x, rest)) h.1) [
        | inl k ↦ absurd (let bad = k.1 in cc)
        | inr k ↦
            let long : 4 ≤ length bytes = ltb-false _ _ k.0 in
            let is = (same_whole (from_be_bytes w32 bytes) x (drop 4 bytes) rest k.1).0 in
            record {
              inside = long;
              reads = λ more.
                  let same = same_number bytes more long in
                  let still : nat_lt (length (bytes ++ more)) 4 ≡ ltb 1 0 = le-ltb _ _ (omega (arith, long, length-append bytes more)) in
                  cond-true _ _ _ (ap (λ (n : ℕ). nat_le n limit) same ∙ h.0) ∙ cond-false _ _ _ still ∙ ap (λ (n : ℕ). Ok (n, drop 4 (bytes ++ more))) (same ∙ is);
            }
      ]
      | inr h ↦ absurd (let bad = h.1 in cc)
    ]

pub bytes_stay : (n : ℕ) (bytes x rest : List ℕ) → bytes_at n bytes ≡ Ok (x, rest) → Stays (bytes_at n) bytes x n
bytes_stay n bytes x rest e =
    elim (chosen (nat_lt (length bytes) n) _ _ (Ok (x, rest)) e) [
      | inl h ↦ absurd (let bad = h.1 in cc)
      | inr h ↦
          let long : n ≤ length bytes = ltb-false _ _ h.0 in
          let is = (same_whole (take n bytes) x (drop n bytes) rest h.1).0 in
          record {
            inside = long;
            reads = λ more.
                let still : nat_lt (length (bytes ++ more)) n ≡ ltb 1 0 = le-ltb _ _ (omega (arith, long, length-append bytes more)) in
                cond-false _ _ _ still ∙ ap (λ (l : List ℕ). Ok (l, drop n (bytes ++ more))) (take-append-le n bytes more long ∙ is);
          }
    ]

-- what stands behind it
pub rest_is : {A : Type 0} (p : List ℕ → Front A) (bytes : List ℕ) (x : A) (n : ℕ) (rest : List ℕ) → Stays p bytes x n → p bytes ≡ Ok (x, rest) → rest ≡ drop n bytes
rest_is p bytes x n rest s e =
    let all : p bytes ≡ Ok (x, drop n bytes) = sym (ap p (append-nil bytes)) ∙ s.reads [] ∙ ap (λ (l : List ℕ). Ok (x, drop n l)) (append-nil bytes) in
    (same_whole x x rest (drop n bytes) (sym e ∙ all)).1

-- a reading at a place
pub record StaysAt {A : Type 0} (p : List ℕ → Front A) (at : ℕ) (bytes : List ℕ) (x : A) (n : ℕ) : Type 0 where
  pub inside : n ≤ length bytes
  pub reads : (more : List ℕ) → p (drop at (bytes ++ more)) ≡ Ok (x, drop n (bytes ++ more))

pub stays_at : {A : Type 0} (p : List ℕ → Front A) (at : ℕ) (bytes : List ℕ) (x : A) (n : ℕ) → at ≤ length bytes → Stays p (drop at bytes) x n → StaysAt p at bytes x (at + n)
stays_at p at bytes x n le s = record {
  inside = omega (arith, le, s.inside, length-drop at bytes);
  reads = λ more.
      let parts = drop-append-le at bytes more le in
      ap p parts ∙ s.reads more ∙ ap (λ (l : List ℕ). Ok (x, drop n l)) (sym parts) ∙ ap (λ (l : List ℕ). Ok (x, l)) (drop-drop n at (bytes ++ more));
}

-- a text with its size in front
pub item_stays : (limit : ℕ) (bytes x rest : List ℕ) → item_at limit bytes ≡ Ok (x, rest) → Stays (item_at limit) bytes x (4 + length x)
item_stays limit bytes x rest e =
    let b = bind_ok (size_at limit bytes) (λ s. bytes_at s.0 s.1) (x, rest) e in
    let s = size_stays limit bytes b.0.0 b.0.1 b.1 in
    let behind = rest_is (size_at limit) bytes b.0.0 4 b.0.1 s b.1 in
    let at : bytes_at b.0.0 (drop 4 bytes) ≡ Ok (x, rest) = ap (bytes_at b.0.0) (sym behind) ∙ b.2 in
    let t = stays_at (bytes_at b.0.0) 4 bytes x b.0.0 s.inside (bytes_stay b.0.0 (drop 4 bytes) x rest at) in
    let len : length x ≡ b.0.0 = bytes_length b.0.0 (drop 4 bytes) x rest at in
    record {
      inside = omega (arith, t.inside, len);
      reads = λ more.
          ap (λ (r : Front ℕ). r >>= λ s. bytes_at s.0 s.1) (s.reads more) ∙ t.reads more ∙ ap (λ (k : ℕ). Ok (x, drop (4 + k) (bytes ++ more))) (sym len);
    }
