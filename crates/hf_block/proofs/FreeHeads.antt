-- A free block's size, which isn't 0.
use Rattle.std.proofs.Common.{◌≡◌, ◌∙◌, ℕ, zero, suc, ◌^◌, ◌<◌, ◌≤◌, List, [], ◌∷◌, ◌++◌, length, take, drop, replicate, Ok, Err, refl, sym, ap, subst, arith, inl, inr}
use Rattle.std.proofs.lemmas.List.{length-replicate}
use Rattle.std.proofs.lemmas.Bool.{cases_eq, cases_lt}
use Rattle.std.proofs.lemmas.Bool.Decides.{nat_tests}
use Rattle.std.proofs.Math.Nat.{one-le-pow}
use Rattle.tc_base.specs.declared.fields.NotWhole.TheVariants.{Part, Bad}
use Rattle.tc_base.specs.Reading.{Front, ◌>>=◌}
use Rattle.tc_base.specs.Endian.{le_number, le_bytes, le_front}
use Rattle.tc_base.proofs.Exact.{IsBytes, bind_err, same_whole}
use Rattle.tc_base.proofs.ExactNumbers.{le_number_fits, le_bytes-le_number}
use Rattle.tc_base.proofs.Endians.{le-cons}
use Rattle.hf_block.specs.declared.block.Block.{Block}
use Rattle.hf_block.specs.declared.block.Block.TheVariants.{Free}
use Rattle.hf_block.specs.Fronts.{sized}

-- numbers of that many bytes begin with 0
pub some_room : (w : ℕ) → 0 < 256 ^ w
some_room w = let h = one-le-pow w 256 (omega arith) in omega (arith, h)

-- ---- what sized gives

pub sized_some : (n : ℕ) (rest : List ℕ) → 0 < n → sized n rest ≡ Ok (Free n, rest)
sized_some n rest some = grind (arith, nat_tests)

sized_none : (n : ℕ) (rest : List ℕ) → n ≡ 0 → sized n rest ≡ Err Bad
sized_none n rest none = grind (arith, nat_tests)

pub sized_ok : (n : ℕ) (left : List ℕ) (b : Block) (rest : List ℕ) → sized n left ≡ Ok (b, rest) → (b ≡ Free n) × (0 < n) × (left ≡ rest)
sized_ok n left b rest e = elim (cases_eq n 0) [
  | inl is ↦ absurd (let bad = sized_none n left is in cc)
  | inr other ↦
      let some : 0 < n = omega (arith, other) in
      let s = same_whole (Free n) b left rest (sym (sized_some n left some) ∙ e) in
      (sym s.0, some, s.1)
]

sized_not_part : (n : ℕ) (left : List ℕ) → sized n left ≡ Err Part → ⊥
sized_not_part n left e = elim (cases_eq n 0) [
  | inl is ↦ absurd (let bad = sized_none n left is in cc)
  | inr other ↦ absurd (let good = sized_some n left (omega (arith, other)) in cc)
]

pub sized_part : (r : Front ℕ) → (r >>= λ x. sized x.0 x.1) ≡ Err Part → r ≡ Err Part
sized_part r e = elim (bind_err r (λ x. sized x.0 x.1) Part e) [ inl h ↦ h | inr h ↦ absurd (sized_not_part h.0.0 h.0.1 h.2) ]

-- ---- bytes that lack some are made a size that isn't 0

zeros : (n : ℕ) → IsBytes (replicate n 0)
zeros zero i = omega arith
zeros (suc n) zero = omega arith
zeros (suc n) (suc i) = zeros n i

record Filled (w : ℕ) (bytes : List ℕ) : Type 0 where
  more : List ℕ
  lacks : 0 < length more
  long : length (bytes ++ more) ≡ w
  are : IsBytes (bytes ++ more)
  some : 0 < le_number (bytes ++ more)

fill : (w : ℕ) (bytes : List ℕ) → IsBytes bytes → length bytes < w → Filled w bytes
fill zero bytes are short = absurd (omega (arith, short))
fill (suc w) [] are short = record {
  more = 1 ∷ replicate w 0;
  lacks = omega arith;
  long = ap suc (length-replicate {A = ℕ} w 0);
  are = one;
  some = rw le-cons (omega arith);
}
  where
    one : IsBytes (1 ∷ replicate w 0)
    one zero = omega arith
    one (suc i) = zeros w i
fill (suc w) (b ∷ bytes) are short =
    let f = fill w bytes (λ i. are (suc i)) (omega (arith, short)) in
    record {
      more = f.more;
      lacks = f.lacks;
      long = ap suc f.long;
      are = all f.more f.are;
      some = rw le-cons (omega (arith, f.some));
    }
  where
    all : (more : List ℕ) → IsBytes (bytes ++ more) → IsBytes (b ∷ (bytes ++ more))
    all more h zero = are zero
    all more h (suc i) = h i

abbrev pub SpellsFree : Block → List ℕ → Type 0
SpellsFree b text = (n : ℕ) × (b ≡ Free n) × ((0 < n) × (n < 256 ^ 4)) × (text ≡ le_bytes 4 n)

pub short : (bytes : List ℕ) → IsBytes bytes → length bytes < 4 → (x : Block) × (more : List ℕ) × (0 < length more) × SpellsFree x (bytes ++ more)
short bytes are less =
    let f = fill 4 bytes are less in
    let n : ℕ = le_number (bytes ++ f.more) in
    let below : n < 256 ^ 4 = subst (λ (m : ℕ). n < 256 ^ m) f.long (le_number_fits (bytes ++ f.more) f.are) in
    let text : bytes ++ f.more ≡ le_bytes 4 n = sym (le_bytes-le_number (bytes ++ f.more) f.are) ∙ ap (λ (m : ℕ). le_bytes m n) f.long in
    (Free n, f.more, f.lacks, (n, refl, (f.some, below), text))

four_or_more : (bytes : List ℕ) → 4 ≤ length bytes → le_front 4 bytes ≡ Ok (le_number (take 4 bytes), drop 4 bytes)
unfolding le_front
four_or_more bytes more = grind (arith, nat_tests)

-- the reader asks for more only where it has less than four bytes
pub less_than_four : (bytes : List ℕ) → le_front 4 bytes ≡ Err Part → length bytes < 4
less_than_four bytes e = elim (cases_lt (length bytes) 4) [
  | inl less ↦ less
  | inr more ↦ absurd (let all = four_or_more bytes more in cc)
]
