-- Cells in the bytes of a file.
use Rattle.std.proofs.Common.{◌≡◌, ◌≢◌, ◌∙◌, ◌⊎◌, inl, inr, ℕ, zero, suc, ◌+◌, ◌-◌, ◌*◌, ◌^◌, ◌<◌, ◌≤◌, Bool, cond, List, [], ◌∷◌, ◌++◌, length, take, drop, replicate, refl, sym, ap, subst, arith, length-append, length-drop}
use Rattle.std.specs.Prelude.{Option, Some, None, nat_le, option_map, unwrap_or}
use Rattle.std.proofs.lemmas.Bool.{cases_lt, le-leb, lt-leb}
use Rattle.std.proofs.lemmas.Nat.{mul-le}
use Rattle.std.proofs.lemmas.List.{take_at, drop_at, take_all, take-take, length-take-le, length-replicate, take-replicate, drop-drop, places, same_lists}
use Rattle.tc_base.specs.Endian.{le_number, le_bytes, field}
use Rattle.tc_base.specs.Files.{wrote}
use Rattle.tc_base.proofs.Endians.{le-cons, le-nil, length-le_bytes, le_number-le_bytes}
use Rattle.hf_head.specs.FixedHeads.{cell}
use Rattle.tc_fixed.specs.Looks.{IsReadAs}
use Rattle.tc_fixed.specs.Cells.{IsCell, HasValue, size_len, mark_in, place, end_of, cell_at, spelled, blank, marked, padded}

-- ---- sizes

pub narrow : (width : ℕ) → width ≤ 255 → size_len width ≡ 1
narrow width h = ap (λ (b : Bool). cond b 1 (cond (nat_le width 65535) 2 4)) (le-leb width 255 h)

pub middle : (width : ℕ) → 255 < width → width ≤ 65535 → size_len width ≡ 2
middle width low h = ap (λ (b : Bool). cond b 1 (cond (nat_le width 65535) 2 4)) (lt-leb width 255 low) ∙ ap (λ (b : Bool). cond b 2 4) (le-leb width 65535 h)

pub wide : (width : ℕ) → 65535 < width → size_len width ≡ 4
wide width low = ap (λ (b : Bool). cond b 1 (cond (nat_le width 65535) 2 4)) (lt-leb width 255 (omega (arith, low))) ∙ ap (λ (b : Bool). cond b 2 4) (lt-leb width 65535 low)

pub size_few : (width : ℕ) → (1 ≤ size_len width) × (size_len width ≤ 4)
size_few width = elim (cases_lt 255 width) [
  | inl low ↦ elim (cases_lt 65535 width) [
    | inl high ↦ let e = wide width high in (omega (arith, e), omega (arith, e))
    | inr le ↦ let e = middle width low le in (omega (arith, e), omega (arith, e))
  ]
  | inr le ↦ let e = narrow width le in (omega (arith, e), omega (arith, e))
]

-- a size of at most the width fits its field
pub size_fits : (width n : ℕ) → n ≤ width → width ≤ 1048576 → n < 256 ^ size_len width
size_fits width n le most = elim (cases_lt 255 width) [
  | inl low ↦ elim (cases_lt 65535 width) [
    | inl high ↦ subst (λ s. n < 256 ^ s) (sym (wide width high)) (omega (arith, le, most))
    | inr small ↦ subst (λ s. n < 256 ^ s) (sym (middle width low small)) (omega (arith, le, small))
  ]
  | inr small ↦ subst (λ s. n < 256 ^ s) (sym (narrow width small)) (omega (arith, le, small))
]

-- ---- what a cell has

pub one_value : (width : ℕ) (o p : Option (List ℕ)) (c : List ℕ) → IsCell width o c → IsCell width p c → o ≡ p
one_value width None None c a b = refl
one_value width None (Some v) c a b = absurd (omega (arith, a.0, a.1, b.size, b.marked (omega (arith, a.0, b.size))))
one_value width (Some v) None c a b = absurd (omega (arith, b.0, b.1, a.size, a.marked (omega (arith, b.0, a.size))))
one_value width (Some v) (Some w) c a b = ap (λ (x : List ℕ). Some x) (sym a.bytes ∙ ap (λ n. field (size_len width) n c) (sym a.size ∙ b.size) ∙ b.bytes)

-- ---- what is written

marked_some : (v : List ℕ) → (1 ≤ length (marked v)) × (length v ≤ length (marked v))
marked_some [] = (omega arith, omega arith)
marked_some (b ∷ v) = (omega arith, omega arith)

pub marked_most : (width : ℕ) (v : List ℕ) → 1 ≤ width → length v ≤ width → length (marked v) ≤ width
marked_most width [] some le = some
marked_most width (b ∷ v) some le = le

pub long_spelled : (width : ℕ) (v : List ℕ) → 1 ≤ width → length v ≤ width → length (spelled width v) ≡ cell width
long_spelled width v some le =
    let n = size_len width in
    omega (arith, length-append (le_bytes n (length v)) (padded width (marked v)), length-le_bytes n (length v), length-append (marked v) (replicate (width - length (marked v)) 0), length-replicate {A = ℕ} (width - length (marked v)) 0, marked_most width v some le)

pub has_spelled : (width : ℕ) (v : List ℕ) → width ≤ 1048576 → length v ≤ width → HasValue width v (spelled width v)
has_spelled width v most le =
    let n = size_len width in
    let front : List ℕ = le_bytes n (length v) in
    let long : length front ≡ n = length-le_bytes n (length v) in
    let behind : drop n (front ++ padded width (marked v)) ≡ padded width (marked v) = drop_at front (padded width (marked v)) n long in
    record {
      size = ap le_number (take_at front (padded width (marked v)) n long) ∙ le_number-le_bytes n (length v) (size_fits width (length v) le most);
      fits = le;
      marked = λ none. mark width v none;
      bytes = ap (λ (l : List ℕ). take (length v) l) behind ∙ value width v;
    }
  where
    mark : (width : ℕ) (v : List ℕ) → length v ≡ 0 → mark_in width (spelled width v) ≡ 1
    mark width [] none = search (arith, places, length-le_bytes (size_len width) 0)
    mark width (b ∷ v) none = absurd (omega (arith, none))

    value : (width : ℕ) (v : List ℕ) → take (length v) (padded width (marked v)) ≡ v
    value width [] = refl
    value width (b ∷ v) = take_at (b ∷ v) (replicate (width - length (b ∷ v)) 0) (length (b ∷ v)) refl

zeros_number : (n : ℕ) → le_number (replicate n 0) ≡ 0
zeros_number zero = le-nil
zeros_number (suc n) = le-cons 0 (replicate n 0) ∙ omega (arith, zeros_number n)

pub none_in_zeros : (width n : ℕ) → size_len width < n → IsCell width None (replicate n 0)
none_in_zeros width n more = (ap le_number (take-replicate (size_len width) n 0 (omega (arith, more))) ∙ zeros_number (size_len width), grind (arith, places))

-- ---- one part of the bytes written over

pub field_before : (p n at : ℕ) (x b : List ℕ) → p + n ≤ at → at ≤ length b → field p n (wrote at x b) ≡ field p n b
unfolding wrote
field_before p n at x b apart inside = same_lists _ _ (grind (arith, places)) (λ i d h. grind (arith, places))

pub field_behind : (p n at : ℕ) (x b : List ℕ) → at + length x ≤ p → at ≤ length b → p + n ≤ length b → field p n (wrote at x b) ≡ field p n b
unfolding wrote
field_behind p n at x b apart inside long = same_lists _ _ (grind (arith, places)) (λ i d h. grind (arith, places))

pub field_inside : (p n at : ℕ) (x b : List ℕ) → at ≤ p → p + n ≤ at + length x → at ≤ length b → field p n (wrote at x b) ≡ field (p - at) n x
unfolding wrote
field_inside p n at x b low high inside = same_lists _ _ (grind (arith, places)) (λ i d h. grind (arith, places))

pub length_wrote : (at : ℕ) (x b : List ℕ) → at ≤ length b → (length b ≤ length (wrote at x b)) × (at + length x ≤ length (wrote at x b))
unfolding wrote
length_wrote at x b inside = (grind (arith, places), grind (arith, places))

pub field_take : (p n m : ℕ) (b : List ℕ) → p + n ≤ m → field p n (take m b) ≡ field p n b
field_take p n m b le = same_lists _ _ (grind (arith, places)) (λ i d h. grind (arith, places))

-- ---- places

next_end : (k c : ℕ) → 256 + k * c + c ≡ 256 + c * suc k
next_end k c = omega arith

last_end : (k c : ℕ) → 256 + k * c ≡ 256 + c * k
last_end k c = omega arith

pub place_end : (width id : ℕ) → 1 ≤ id → place width id + cell width ≡ end_of width id
place_end width zero some = absurd (omega (arith, some))
place_end width (suc k) some = let e : suc k - 1 ≡ k = omega arith in ap (λ n. 256 + n * cell width + cell width) e ∙ next_end k (cell width)

pub end_next : (width last : ℕ) → place width (last + 1) ≡ end_of width last
end_next width last = let e : last + 1 - 1 ≡ last = omega arith in ap (λ n. 256 + n * cell width) e ∙ last_end last (cell width)

pub ends_rise : (width a b : ℕ) → a ≤ b → end_of width a ≤ end_of width b
ends_rise width a b le = omega (arith, mul-le (cell width) a (cell width) b (omega arith) le)

pub ends_at : (width id at long : ℕ) → 1 ≤ id → at ≡ place width id → long ≡ cell width → at + long ≡ end_of width id
ends_at width id at long some is sized = omega (arith, is, sized, place_end width id some)

-- the cell of a lesser id ends before
pub cells_apart : (width a b : ℕ) → 1 ≤ a → a < b → place width a + cell width ≤ place width b
cells_apart width a b some less =
    let e : b - 1 + 1 ≡ b = omega (arith, less) in
    let p : place width (b - 1 + 1) ≡ end_of width (b - 1) = end_next width (b - 1) in
    omega (arith, place_end width a some, ends_rise width a (b - 1) (omega (arith, less)), ap (place width) e, p)

pub cell_here : (width id : ℕ) (x b : List ℕ) → length x ≡ cell width → place width id ≤ length b → cell_at width id (wrote (place width id) x b) ≡ x
cell_here width id x b long inside =
    let none : place width id - place width id ≡ 0 = omega arith in
    field_inside (place width id) (cell width) (place width id) x b (omega arith) (omega (arith, long)) inside
    ∙ ap (λ n. field n (cell width) x) none ∙ take_all (cell width) x (omega (arith, long))

pub cell_other : (width id k : ℕ) (x b : List ℕ) → 1 ≤ id → 1 ≤ k → k ≢ id → length x ≡ cell width → place width id ≤ length b → end_of width k ≤ length b ⊎ (k < id) → cell_at width k (wrote (place width id) x b) ≡ cell_at width k b
cell_other width id k x b some one ne long inside there = elim (cases_lt k id) [
  | inl less ↦ field_before (place width k) (cell width) (place width id) x b (cells_apart width k id one less) inside
  | inr le ↦ elim there [
    | inl fits ↦ field_behind (place width k) (cell width) (place width id) x b (omega (arith, long, cells_apart width id k some (omega (arith, le, ne)))) inside (omega (arith, place_end width k one, fits))
    | inr less ↦ absurd (omega (arith, le, less))
  ]
]

-- ---- a cell that is read

pub cell_long : (width id : ℕ) (bytes : List ℕ) → 1 ≤ id → end_of width id ≤ length bytes → length (cell_at width id bytes) ≡ cell width
cell_long width id bytes some fits = length-take-le (cell width) (drop (place width id) bytes) (omega (arith, length-drop (place width id) bytes, fits, place_end width id some))

pub front_of_cell : (width id n at : ℕ) (front bytes : List ℕ) → 1 ≤ width → n ≡ size_len width + 1 → at ≡ place width id → front ≡ take n (drop at bytes) → front ≡ take (size_len width + 1) (cell_at width id bytes)
front_of_cell width id n at front bytes some is there read =
    read ∙ ap (λ p. take n (drop p bytes)) there ∙ ap (λ k. take k (drop (place width id) bytes)) is ∙ sym (take-take (size_len width + 1) (cell width) (drop (place width id) bytes) (omega (arith, some)))

pub value_of_cell : (width id n at : ℕ) (bytes : List ℕ) → n ≤ width → at ≡ place width id + size_len width → take n (drop at bytes) ≡ field (size_len width) n (cell_at width id bytes)
value_of_cell width id n at bytes fits there =
    ap (λ p. take n (drop p bytes)) there ∙ ap (λ (l : List ℕ). take n l) (sym (drop-drop (size_len width) (place width id) bytes)) ∙ sym (field_take (size_len width) n (cell width) (drop (place width id) bytes) (omega (arith, fits)))

-- a value, or none, whose length was read and then its bytes
pub read_as : (width long : ℕ) (o : Option (List ℕ)) (c into : List ℕ) → IsCell width o c → Some long ≡ option_map length o → take long into ≡ field (size_len width) long c → IsReadAs o (Some long) into
read_as width long None c into cell is got = absurd (let never = is in cc)
read_as width long (Some v) c into cell is got =
    let same : long ≡ length v = ap (λ (x : Option ℕ). unwrap_or x 0) is in
    record { long = is; value = ap (λ (l : List ℕ). Some l) (got ∙ ap (λ n. field (size_len width) n c) same ∙ cell.bytes) }

pub read_none : (o : Option (List ℕ)) (into : List ℕ) → None ≡ option_map length o → IsReadAs o None into
read_none None into is = record { long = is; value = refl }
read_none (Some v) into is = absurd (let never = is in cc)

-- ---- a cell that is spelled

pub marked_empty : (v : List ℕ) → length v ≡ 0 → 1 ∷ [] ≡ marked v
marked_empty [] none = refl
marked_empty (b ∷ v) none = absurd (omega (arith, none))

pub marked_full : (v : List ℕ) → (length v ≡ 0 → ⊥) → v ≡ marked v
marked_full [] some = absurd (some refl)
marked_full (b ∷ v) some = refl

first_written : (front : List ℕ) (width n : ℕ) → length front ≡ n → wrote 0 front (replicate (width + n) 0) ≡ front ++ replicate width 0
unfolding wrote
first_written front width n long = same_lists _ _ (grind (arith, places)) (λ i d h. grind (arith, places))

then_written : (front x : List ℕ) (width n : ℕ) → length front ≡ n → length x ≤ width → wrote n x (front ++ replicate width 0) ≡ front ++ (x ++ replicate (width - length x) 0)
unfolding wrote
then_written front x width n long le = same_lists _ _ (grind (arith, places)) (λ i d h. grind (arith, places))

pub spelled_is : (width : ℕ) (v : List ℕ) → 1 ≤ width → length v ≤ width → wrote (size_len width) (marked v) (wrote 0 (le_bytes (size_len width) (length v)) (blank width)) ≡ spelled width v
spelled_is width v some le =
    let n = size_len width in
    let front : List ℕ = le_bytes n (length v) in
    let long : length front ≡ n = length-le_bytes n (length v) in
    ap (λ (l : List ℕ). wrote n (marked v) l) (first_written front width n long) ∙ then_written front (marked v) width n long (marked_most width v some le)

pub filled_in : (width len : ℕ) (v rest : List ℕ) → 1 ≤ width → length v ≤ width → len ≡ cell width → take len (spelled width v ++ rest) ≡ spelled width v
filled_in width len v rest some le is = take_at (spelled width v) rest len (long_spelled width v some le ∙ sym is)
