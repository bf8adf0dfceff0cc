-- What a file holds, before and after it is changed.
use Rattle.std.proofs.Common.{◌≡◌, ◌∙◌, ◌⊎◌, inl, inr, ℕ, zero, suc, ◌+◌, ◌-◌, ◌^◌, ◌≤◌, List, [], ◌++◌, length, take, drop, refl, sym, ap, subst, arith}
use Rattle.std.specs.Prelude.{Some, IsSome, max}
use Rattle.std.specs.FinMap.{empty, get, insert, remove}
use Rattle.std.proofs.lemmas.Bool.{cases_lt}
use Rattle.std.proofs.lemmas.List.{append-nil, length-take-le, take-append-drop, take-take, take_all, take_at}
use Rattle.std.proofs.Math.Nat.{div-le_self}
use Rattle.tc_base.specs.Files.{wrote}
use Rattle.hf_head.specs.declared.fixed.FixedHead.{FixedHead}
use Rattle.hf_head.specs.FixedHeads.{SpellsFixed, HasFixedNumbers, cell, fixed_in, fixed_spelled}
use Rattle.tc_model.specs.Arrays.{Array, least, greatest}
use Rattle.tc_fixed.specs.declared.tally.Tally.{Tally}
use Rattle.tc_fixed.specs.Cells.{IsCell, Fills, blank, cell_at, end_of, place, spelled, with_cell}
use Rattle.tc_fixed.specs.Holding.{Holds}
use Rattle.tc_fixed.specs.Settling.{head_of, new_head}
use Rattle.tc_fixed.specs.Shapes.{HasShape, most_id}
use Rattle.tc_fixed.specs.Standing.{Stands}
use Rattle.tc_fixed.specs.Tallies.{Counts, IsSmall}
use Rattle.tc_fixed.proofs.Celled.{ends_rise, field_behind, field_take, has_spelled, length_wrote, long_spelled, place_end}
use Rattle.tc_fixed.proofs.Counted.{is_small}
use Rattle.tc_fixed.proofs.Filled.{fills_less, fills_none, fills_out, fills_put}
use Rattle.tc_fixed.proofs.Tallied.{greatest_empty, greatest_high, held_or_not, least_held, least_some, none_above, none_held}

-- an id that is allowed is small
pub id_small : (width limit last : ℕ) → HasShape width limit last → most_id width limit ≤ 2 ^ 40
id_small width limit last s = omega (arith, s.limit_most, div-le_self (limit - 256) (cell width))

pub holds_small : (width limit : ℕ) (t : Tally) (m : Array) (bytes : List ℕ) → Holds width limit t m bytes → IsSmall m
holds_small width limit t m bytes h = is_small width t.greatest m bytes h.shape.width_most (omega (arith, h.shape.allowed, id_small width limit t.greatest h.shape)) h.fills.map

reshaped : (width limit last now : ℕ) → HasShape width limit last → now ≤ most_id width limit → HasShape width limit now
reshaped width limit last now s le = record { width_least = s.width_least; width_most = s.width_most; limit_least = s.limit_least; limit_most = s.limit_most; allowed = le }

-- ---- a put

pub put_holds : (width limit id : ℕ) (t now : Tally) (m : Array) (v x old new : List ℕ) → Holds width limit t m old → 1 ≤ id → id ≤ most_id width limit → length v ≤ width → x ≡ spelled width v → new ≡ with_cell width t.greatest id x old → now.greatest ≡ max t.greatest id
    → (Counts t m → IsSmall m → IsSmall (insert m id v) → Counts now (insert m id v)) → Holds width limit now (insert m id v) new
put_holds width limit id t now m v x old new h some le fits is wrote_so grows counted =
    let s = h.shape in
    let sized : length x ≡ cell width = ap (λ (l : List ℕ). length l) is ∙ long_spelled width v s.width_least fits in
    let has = subst (λ (l : List ℕ). IsCell width (Some v) l) (sym is) (has_spelled width v s.width_most fits) in
    let filled : Fills width (max t.greatest id) (insert m id v) (with_cell width t.greatest id x old) = fills_put width t.greatest id m v x old s.width_least some sized has h.fills in
    let fills : Fills width now.greatest (insert m id v) new = subst (λ (l : List ℕ). Fills width now.greatest (insert m id v) l) (sym wrote_so) (subst (λ n. Fills width n (insert m id v) (with_cell width t.greatest id x old)) (sym grows) filled) in
    let high : now.greatest ≤ most_id width limit = omega (arith, grows, s.allowed, le) in
    let few = id_small width limit t.greatest s in
    record {
      shape = reshaped width limit t.greatest now.greatest s high;
      fills = fills;
      counts = counted h.counts (holds_small width limit t m old h) (is_small width now.greatest (insert m id v) new s.width_most (omega (arith, high, few)) fills.map);
    }

-- ---- an out

pub out_holds : (width limit id : ℕ) (t now : Tally) (m : Array) (old new : List ℕ) → Holds width limit t m old → 1 ≤ id → id ≤ t.greatest → new ≡ wrote (place width id) (blank width) old → now.greatest ≤ t.greatest → (Counts t m → IsSmall m → Counts now (remove m id)) → Holds width limit now (remove m id) new
out_holds width limit id t now m old new h some le wrote_so falls counted =
    let s = h.shape in
    let counts = counted h.counts (holds_small width limit t m old h) in
    let out = fills_out width t.greatest id m old s.width_least some le h.fills in
    record {
      shape = reshaped width limit t.greatest now.greatest s (omega (arith, falls, s.allowed));
      fills = subst (λ (l : List ℕ). Fills width now.greatest (remove m id) l) (sym wrote_so) (fills_less width t.greatest now.greatest (remove m id) _ falls (λ k past. none_above (remove m id) k (omega (arith, past, counts.greatest))) out);
      counts = counts;
    }

-- ---- all taken out

pub clear_holds : (width limit : ℕ) (t now : Tally) (m : Array) (old new : List ℕ) → Holds width limit t m old → new ≡ take 256 old → now.greatest ≡ 0 → Counts now empty → Holds width limit now empty new
clear_holds width limit t now m old new h cut none counts =
    let long : 256 ≤ length new = omega (arith, ap (λ (l : List ℕ). length l) cut, length-take-le 256 old (omega (arith, h.fills.long)), h.fills.long) in
    record {
      shape = reshaped width limit t.greatest now.greatest h.shape (omega (arith, none));
      fills = subst (λ n. Fills width n empty new) (sym none) (fills_none width new long);
      counts = counts;
    }

-- ---- brought to the file

pub ends_of : (m : Array) → ((q : ℕ) → IsSome (get m q) → 1 ≤ q) → ((least m ≡ 0) × (greatest m ≡ 0)) ⊎ ((1 ≤ least m) × (least m ≤ greatest m))
ends_of m some = elim (cases_lt 0 (least m)) [
  | inl more ↦ inr (more, greatest_high m (least m) (least_held m more))
  | inr none ↦ inl (
    omega (arith, none),
    ap greatest (none_held m (λ q. elim (held_or_not (get m q)) [
      | inl held ↦ absurd (omega (arith, none, some (least m) (least_some m q held)))
      | inr is ↦ is
    ])) ∙ greatest_empty,
  )
]

numbers_of : (width limit : ℕ) (t : Tally) (m : Array) (bytes : List ℕ) → Holds width limit t m bytes → HasFixedNumbers (head_of width limit t)
numbers_of width limit t m bytes h =
    let s = h.shape in
    record {
      width_least = s.width_least;
      width_most = s.width_most;
      limit_least = s.limit_least;
      limit_most = s.limit_most;
      ids = elim (ends_of m (λ q held. (h.fills.map.within q held).0)) [
        | inl none ↦ inl (h.counts.least ∙ none.0, h.counts.greatest ∙ none.1)
        | inr some ↦ inr (omega (arith, some.0, h.counts.least), omega (arith, some.1, h.counts.least, h.counts.greatest))
      ];
      greatest_most = s.allowed;
      size_is = refl;
    }

pub stands_of : (width limit : ℕ) (t : Tally) (m : Array) (bytes : List ℕ) → Holds width limit t m bytes → take 256 bytes ≡ fixed_spelled (head_of width limit t) → SpellsFixed (head_of width limit t) (fixed_spelled (head_of width limit t)) → Stands bytes width (most_id width limit) m
stands_of width limit t m bytes h front spells = record {
  head = head_of width limit t;
  by = record {
    head = record { long = omega (arith, h.fills.long); numbers = numbers_of width limit t m bytes h; spells = subst (λ (l : List ℕ). SpellsFixed (head_of width limit t) l) (sym front) spells };
    long = h.fills.long;
    map = h.fills.map;
    count = h.counts.records;
    ends = record { least = h.counts.least; greatest = h.counts.greatest };
  };
  width_is = refl;
  most_is = refl;
}

front_wrote : (head old : List ℕ) → length head ≡ 256 → take 256 (wrote 0 head old) ≡ head
unfolding wrote
front_wrote head old long = take_at head (drop (0 + length head) old) 256 long

-- what stands at the front already is written
pub front_same : (x old : List ℕ) → take (length x) old ≡ x → wrote 0 x old ≡ old
unfolding wrote
front_same x old is =
    let front : 0 + length x ≡ length x = omega arith in
    ap (λ (l : List ℕ). l ++ drop (0 + length x) old) (sym is) ∙ ap (λ (n : ℕ). take (length x) old ++ drop n old) front ∙ take-append-drop (length x) old

module _ (width limit : ℕ) (t : Tally) (m : Array) (head old new : List ℕ) (h : Holds width limit t m old) (long : length head ≡ 256) (is : new ≡ take (end_of width t.greatest) (wrote 0 head old)) where
  first_long : end_of width t.greatest ≤ length (wrote 0 head old)
  first_long = omega (arith, (length_wrote 0 head old (omega arith)).0, h.fills.long)

  pub settle_holds : Holds width limit t m new
  settle_holds = record {
    shape = h.shape;
    fills = record {
      long = omega (arith, ap (λ (l : List ℕ). length l) is, length-take-le (end_of width t.greatest) (wrote 0 head old) first_long);
      map = record {
        cells = λ k one le. subst (λ (l : List ℕ). IsCell width (get m k) l) (sym (same k one le)) (h.fills.map.cells k one le);
        within = h.fills.map.within;
      };
    };
    counts = h.counts;
  }
    where
      same : (k : ℕ) → 1 ≤ k → k ≤ t.greatest → cell_at width k new ≡ cell_at width k old
      same k one le =
          let end : place width k + cell width ≤ end_of width t.greatest = omega (arith, place_end width k one, ends_rise width k t.greatest le) in
          ap (λ (l : List ℕ). cell_at width k l) is
          ∙ field_take (place width k) (cell width) (end_of width t.greatest) (wrote 0 head old) end
          ∙ field_behind (place width k) (cell width) 0 head old (omega (arith, long)) (omega arith) (omega (arith, end, h.fills.long))

  pub settle_front : take 256 new ≡ head
  settle_front = ap (λ (l : List ℕ). take 256 l) is ∙ take-take 256 (end_of width t.greatest) (wrote 0 head old) (omega arith) ∙ front_wrote head old long

-- ---- made anew

drop_none : (n : ℕ) → drop {A = ℕ} n [] ≡ []
drop_none zero = refl
drop_none (suc n) = refl

wrote_first : (x : List ℕ) → wrote 0 x [] ≡ x
unfolding wrote
wrote_first x = ap (λ (l : List ℕ). x ++ l) (drop_none (0 + length x)) ∙ append-nil x

none_long : (width : ℕ) → end_of width 0 ≡ 256
none_long width = omega arith

wrote_empty : (x old : List ℕ) → old ≡ [] → wrote 0 x old ≡ x
wrote_empty x old none = ap (λ (o : List ℕ). wrote 0 x o) none ∙ wrote_first x

module _ (width limit : ℕ) (t : Tally) (x old new : List ℕ) (shape : (1 ≤ width) × (width ≤ 1048576) × (512 ≤ limit) × (limit ≤ 2 ^ 40)) (none : t.greatest ≡ 0) (counts : Counts t empty) (first : old ≡ []) (wrote_so : new ≡ wrote 0 x old) (is : x ≡ fixed_spelled (head_of width limit t)) (long : length (fixed_spelled (head_of width limit t)) ≡ 256) where
  pub create_front : new ≡ fixed_spelled (head_of width limit t)
  create_front = wrote_so ∙ wrote_empty x old first ∙ is

  pub create_holds : Holds width limit t empty new
  create_holds =
      let all : 256 ≤ length new = omega (arith, ap (λ (l : List ℕ). length l) create_front, long) in
      record {
        shape = record { width_least = shape.0; width_most = shape.1; limit_least = shape.2; limit_most = shape.3; allowed = omega (arith, none) };
        fills = subst (λ n. Fills width n empty new) (sym none) (fills_none width new all);
        counts = counts;
      }

  front_all : take 256 new ≡ fixed_spelled (head_of width limit t)
  front_all = ap (λ (l : List ℕ). take 256 l) create_front ∙ take_all 256 (fixed_spelled (head_of width limit t)) (omega (arith, long))

  pub create_stands : SpellsFixed (head_of width limit t) (fixed_spelled (head_of width limit t)) → Stands new width (most_id width limit) empty
  create_stands spells = stands_of width limit t empty new create_holds front_all spells

  head_none : t.records ≡ 0 → t.least ≡ 0 → head_of width limit t ≡ new_head width limit
  head_none no_records no_least = let size : end_of width t.greatest ≡ 256 = ap (λ n. end_of width n) none ∙ none_long width in
      λ i. record { records = no_records i; size = size i; width = width; limit = limit; least = no_least i; greatest = none i }

  pub create_head : SpellsFixed (head_of width limit t) (fixed_spelled (head_of width limit t)) → t.records ≡ 0 → t.least ≡ 0 → fixed_in (take 256 new) ≡ new_head width limit
  create_head spells no_records no_least = ap (λ (l : List ℕ). fixed_in l) front_all ∙ spells.fields ∙ head_none no_records no_least

  pub create_made : t.records ≡ 0 → t.least ≡ 0 → new ≡ fixed_spelled (new_head width limit)
  create_made no_records no_least = create_front ∙ ap (λ (h : FixedHead). fixed_spelled h) (head_none no_records no_least)
