-- A pool is built block by block.
use Rattle.std.proofs.Common.{◌≡◌, ◌≢◌, ◌∙◌, ◌↔◌, inl, inr, ℕ, zero, suc, ◌+◌, ◌%◌, ◌^◌, ◌<◌, ◌≤◌, Bool, true, false, cond, Option, Some, None, List, [], ◌∷◌, length, drop, get_or, refl, sym, ap, subst, arith}
use Rattle.std.specs.Prelude.{slice_get}
use Rattle.std.proofs.lemmas.Bool.{cases_eq, cases_lt, eq-eqb, ne_eqb}
use Rattle.std.proofs.lemmas.List.{drop_more}
use Rattle.hf_block.specs.declared.block.BlockAt.{BlockAt}
use Rattle.hf_layout.specs.Frees.{Frees, IsThere, MeetsNone, with_block}
use Rattle.hf_pool.specs.Multiples.{AreMultiples}
use Rattle.std.proofs.Math.Nat.{mod-add-mod}
use Rattle.hf_block.specs.Pieces.{IsSize}
use Rattle.hf_block.specs.Rows.{StandInRow, StandApart, IsListed, HaveSameFree}

-- multiples of the unit add up to one
pub sum_aligned : (unit a b : ℕ) → a % unit ≡ 0 → b % unit ≡ 0 → (a + b) % unit ≡ 0
sum_aligned unit a b x y = sym (mod-add-mod a unit b) ∙ ap (λ (n : ℕ). (n + b) % unit) x ∙ ap (λ (n : ℕ). n % unit) (omega arith) ∙ y

-- a free block among the first i
abbrev pub IsBelow : List BlockAt → ℕ → ℕ → ℕ → Type 0
IsBelow bs i q t = (k : ℕ) × (k < i) × (slice_get bs k ≡ Some (record { place = q; size = t; free = true }))

pub record Built (unit end i : ℕ) (bs : List BlockAt) (frees : Frees) : Type 0 where
  pub at : ℕ
  pub apart : StandApart unit at end (drop i bs)
  pub below : (q t : ℕ) → IsThere frees q t → q + t ≤ at
  pub listed : (q t : ℕ) → IsThere frees q t ↔ IsBelow bs i q t
  pub sizes : (q t : ℕ) → IsThere frees q t → IsSize unit t × (q % unit ≡ 0)

pub built_none : (unit first end : ℕ) (bs : List BlockAt) (frees : Frees) → StandApart unit first end bs → ((q : ℕ) → frees q ≡ None) → Built unit end 0 bs frees
built_none unit first end bs frees apart none = record {
  at = first;
  apart = apart;
  below = λ q t h. absurd (let e = sym (none q) ∙ h in cc);
  listed = λ q t. (λ h. absurd (let e = sym (none q) ∙ h in cc), λ k. absurd (omega (arith, k.1)));
  sizes = λ q t h. absurd (let e = sym (none q) ∙ h in cc);
}

-- the next block
abbrev pub Next : ℕ → ℕ → ℕ → List BlockAt → ℕ → BlockAt → Type 0
Next unit end i bs at b = (at ≤ b.place) × (b.place % unit ≡ 0) × IsSize unit b.size × StandApart unit (b.place + b.size) end (drop (i + 1) bs)

pub next_is : (unit end i : ℕ) (bs : List BlockAt) (b : BlockAt) (at : ℕ) → i < length bs → b ≡ get_or bs i b → StandApart unit at end (drop i bs) → Next unit end i bs at b
next_is unit end i bs b at less is apart =
    subst (λ (l : List BlockAt). StandApart unit at end l) (drop_more bs i b less ∙ ap (λ (x : BlockAt). x ∷ drop (i + 1) bs) (sym is)) apart

pub apart_end : (unit at end : ℕ) (bs : List BlockAt) → StandApart unit at end bs → at ≤ end
apart_end unit at end [] h = h
apart_end unit at end (b ∷ bs) h = omega (arith, h.0, apart_end unit (b.place + b.size) end bs h.3)

-- ---- blocks in a row

-- the row ends at a multiple of the unit
pub row_aligned : (unit at end : ℕ) (bs : List BlockAt) → at % unit ≡ 0 → StandInRow unit at end bs → end % unit ≡ 0
row_aligned unit at end [] multiple h = subst (λ (n : ℕ). n % unit ≡ 0) h multiple
row_aligned unit at end (b ∷ bs) multiple h = row_aligned unit (at + b.size) end bs (sum_aligned unit at b.size multiple h.1.aligned) h.2

-- they stand apart
pub row_apart : (unit at end : ℕ) (bs : List BlockAt) → StandInRow unit at end bs → at % unit ≡ 0 → StandApart unit at end bs
row_apart unit at end [] h multiple = omega (arith, h)
row_apart unit at end (b ∷ bs) h multiple = (
  omega (arith, h.0),
  subst (λ (n : ℕ). n % unit ≡ 0) (sym h.0) multiple,
  h.1,
  subst (λ (n : ℕ). StandApart unit (n + b.size) end bs) (sym h.0) (row_apart unit (at + b.size) end bs h.2 (sum_aligned unit at b.size multiple h.1.aligned)),
)

-- equal lists have the same free blocks
pub same_free : (xs ys : List BlockAt) → xs ≡ ys → HaveSameFree xs ys
same_free xs ys e = λ q t. (subst (λ (l : List BlockAt). IsListed l q t) e, subst (λ (l : List BlockAt). IsListed l q t) (sym e))

-- ---- one block more

got : (bs : List BlockAt) (i : ℕ) (b : BlockAt) → i < length bs → b ≡ get_or bs i b → slice_get bs i ≡ Some b
got [] i b less is = absurd (omega arith)
got (x ∷ bs) zero b less is = ap (λ (y : BlockAt). Some y) (sym is)
got (x ∷ bs) (suc i) b less is = got bs i b (omega arith) is

pub built_skip : (unit end i : ℕ) (bs : List BlockAt) (b : BlockAt) (frees : Frees) → i < length bs → b ≡ get_or bs i b → b.free ≡ false → Built unit end i bs frees → Built unit end (i + 1) bs frees
built_skip unit end i bs b frees less is held h =
    let n = next_is unit end i bs b h.at less is h.apart in
    record {
      at = b.place + b.size;
      apart = n.3;
      below = λ q t there. omega (arith, h.below q t there, n.0);
      listed = λ q t. (
        λ there. let k = (h.listed q t).0 there in (k.0, omega (arith, k.1), k.2),
        λ k. elim (cases_lt k.0 i) [
          | inl lower ↦ (h.listed q t).1 (k.0, lower, k.2)
          | inr same ↦ absurd (let e : k.0 ≡ i = omega (arith, k.1, same) in
              let s : Some b ≡ Some (record { place = q; size = t; free = true }) = sym (got bs i b less is) ∙ ap (slice_get bs) (sym e) ∙ k.2 in
              let f : b ≡ record { place = q; size = t; free = true } = cc in
              let g : false ≡ true = sym held ∙ ap (λ (x : BlockAt). x.free) f in cc)
        ],
      );
      sizes = h.sizes;
    }

pub built_more : (unit end i : ℕ) (bs : List BlockAt) (b : BlockAt) (frees new : Frees) → i < length bs → b ≡ get_or bs i b → b.free ≡ true → ((q : ℕ) → new q ≡ with_block frees b.place b.size q) → Built unit end i bs frees → Built unit end (i + 1) bs new
built_more unit end i bs b frees new less is free_is with h =
    let n = next_is unit end i bs b h.at less is h.apart in
    record {
      at = b.place + b.size;
      apart = n.3;
      below = λ q t there. elim (cases_eq q b.place) [
        | inl e ↦ let s = size_at q t e there in omega (arith, e, s)
        | inr ne ↦ omega (arith, h.below q t (old q t ne there), n.0)
      ];
      listed = λ q t. (
        λ there. elim (cases_eq q b.place) [
          | inl e ↦ let s = size_at q t e there in (i, omega arith, got bs i b less is ∙ ap (λ (x : BlockAt). Some x) (λ j. record { place = sym e j; size = sym s j; free = free_is j }))
          | inr ne ↦ let k = (h.listed q t).0 (old q t ne there) in (k.0, omega (arith, k.1), k.2)
        ],
        λ k. elim (cases_lt k.0 i) [
          | inl lower ↦
              let there = (h.listed q t).1 (k.0, lower, k.2) in
              let ne : q ≢ b.place = λ e. omega (arith, e, n.0, h.below q t there, (h.sizes q t there).0.some) in
              with q ∙ ap (λ (c : Bool). cond c (Some b.size) (frees q)) (ne_eqb q b.place ne) ∙ there
          | inr same ↦
              let e : k.0 ≡ i = omega (arith, k.1, same) in
              let s : Some b ≡ Some (record { place = q; size = t; free = true }) = sym (got bs i b less is) ∙ ap (slice_get bs) (sym e) ∙ k.2 in
              let f : b ≡ record { place = q; size = t; free = true } = cc in
              with q ∙ ap (λ (c : Bool). cond c (Some b.size) (frees q)) (eq-eqb q b.place (sym (ap (λ (x : BlockAt). x.place) f))) ∙ ap (λ (x : BlockAt). Some x.size) f
        ],
      );
      sizes = λ q t there. elim (cases_eq q b.place) [
        | inl e ↦ (subst (λ (m : ℕ). IsSize unit m) (sym (size_at q t e there)) n.2, subst (λ (m : ℕ). m % unit ≡ 0) (sym e) n.1)
        | inr ne ↦ h.sizes q t (old q t ne there)
      ];
    }
  where
    size_at : (q t : ℕ) → q ≡ b.place → IsThere new q t → t ≡ b.size
    size_at q t e there = let s : Some b.size ≡ Some t = sym (ap (λ (c : Bool). cond c (Some b.size) (frees q)) (eq-eqb q b.place e)) ∙ sym (with q) ∙ there in cc

    old : (q t : ℕ) → q ≢ b.place → IsThere new q t → IsThere frees q t
    old q t ne there = sym (ap (λ (c : Bool). cond c (Some b.size) (frees q)) (ne_eqb q b.place ne)) ∙ sym (with q) ∙ there

-- a new block meets none before it
pub meets_none : (at place size : ℕ) (frees : Frees) → at ≤ place → ((q t : ℕ) → IsThere frees q t → q + t ≤ at) → MeetsNone frees place size
meets_none at place size frees on below = λ q t there. inl (omega (arith, below q t there, on))

pub absent : (unit at place : ℕ) (frees : Frees) → at ≤ place → ((q t : ℕ) → IsThere frees q t → IsSize unit t × (q % unit ≡ 0)) → ((q t : ℕ) → IsThere frees q t → q + t ≤ at) → frees place ≡ None
absent unit at place frees on some below = go (frees place) refl
  where
    go : (o : Option ℕ) → frees place ≡ o → o ≡ None
    go None f = refl
    go (Some t) f = absurd (omega (arith, below place t f, (some place t f).0, on))

-- all blocks are listed
pub built_all : (unit end i : ℕ) (bs : List BlockAt) (frees : Frees) → length bs ≤ i → Built unit end i bs frees → (q t : ℕ) → IsThere frees q t ↔ IsListed bs q t
built_all unit end i bs frees all h q t = (λ there. let k = (h.listed q t).0 there in (k.0, k.2), λ k. (h.listed q t).1 (k.0, omega (arith, within bs k.0 (record { place = q; size = t; free = true }) k.1, all), k.1))
  where
    within : (bs : List BlockAt) (k : ℕ) (b : BlockAt) → slice_get bs k ≡ Some b → k < length bs
    within [] k b e = absurd cc
    within (x ∷ bs) zero b e = omega arith
    within (x ∷ bs) (suc k) b e = omega (arith, within bs k b e)

pub all_within : (unit end i : ℕ) (bs : List BlockAt) (frees : Frees) → Built unit end i bs frees → (q t : ℕ) → IsThere frees q t → (0 < t) × (t < 2 ^ 32) × (q + t ≤ end)
all_within unit end i bs frees h q t there = let s = h.sizes q t there in (s.0.some, s.0.below, omega (arith, h.below q t there, apart_end unit h.at end (drop i bs) h.apart))

pub all_multiples : (unit end i : ℕ) (bs : List BlockAt) (frees : Frees) → Built unit end i bs frees → AreMultiples unit frees
all_multiples unit end i bs frees h q t there = let s = h.sizes q t there in (s.1, s.0.aligned)
