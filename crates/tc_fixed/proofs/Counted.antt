-- Cells counted one after the other.
use Rattle.std.proofs.Common.{◌≡◌, ◌∙◌, inl, inr, ℕ, ◌-◌, ◌^◌, ◌<◌, ◌≤◌, List, length, sym, ap, subst, arith}
use Rattle.std.specs.Prelude.{Option, None, is_some, option_map}
use Rattle.std.specs.FinMap.{empty, get, insert, get-empty}
use Rattle.std.specs.Ordering.{nat_cmp}
use Rattle.std.proofs.lemmas.Bool.{cases_eq}
use Rattle.tc_base.specs.Endian.{field}
use Rattle.tc_model.specs.Arrays.{Array}
use Rattle.tc_fixed.specs.declared.cells.Look.TheVariants.{Absent, Value}
use Rattle.tc_fixed.specs.declared.tally.Tally.{Tally}
use Rattle.tc_fixed.specs.Cells.{IsCell, HasValue, IsMapOf, cell_at, size_len}
use Rattle.tc_fixed.specs.Looks.{Sees}
use Rattle.tc_fixed.specs.Opening.{IsCountedTo}
use Rattle.tc_fixed.specs.Tallies.{Counts, IsSmall}
use Rattle.tc_fixed.proofs.Tallied.{get_here, get_other, held_not, held_or_not}

-- a map in a file is small
pub is_small : (width last : ℕ) (m : Array) (bytes : List ℕ) → width ≤ 1048576 → last ≤ 2 ^ 40 → IsMapOf width last m bytes → IsSmall m
is_small width last m bytes wide most map = record {
  ids = λ id held. let w = map.within id held in (w.0, omega (arith, w.1, most));
  values = λ id v is.
      let w = map.within id (ap is_some is) in
      let c : HasValue width v (cell_at width id bytes) = subst (λ (o : Option (List ℕ)). IsCell width o (cell_at width id bytes)) is (map.cells id w.0 w.1) in
      omega (arith, c.fits, wide);
}

pub counted_none : (width : ℕ) (t : Tally) (bytes : List ℕ) → Counts t empty → IsCountedTo width 0 t bytes
counted_none width t bytes counts = record {
  m = empty;
  map = record { cells = λ id some le. absurd (omega (arith, some, le)); within = λ id held. absurd (held_not (get empty id) (get-empty nat_cmp id) held) };
  counts = counts;
}

none_past : (width last id : ℕ) (m : Array) (bytes : List ℕ) → IsMapOf width last m bytes → last < id → get m id ≡ None
none_past width last id m bytes map past = elim (held_or_not (get m id)) [
  | inl held ↦ absurd (omega (arith, past, (map.within id held).1))
  | inr none ↦ none
]

pub counted_absent : (width id : ℕ) (t : Tally) (bytes : List ℕ) → 1 ≤ id → IsCountedTo width (id - 1) t bytes → Sees width Absent (cell_at width id bytes) → IsCountedTo width id t bytes
counted_absent width id t bytes some c sees = record {
  m = c.m;
  map = record {
    cells = λ q one le. elim (cases_eq q id) [
      | inl same ↦ subst (λ n. IsCell width (get c.m n) (cell_at width n bytes)) (sym same) (subst (λ (o : Option (List ℕ)). IsCell width o (cell_at width id bytes)) (sym (none_past width (id - 1) id c.m bytes c.map (omega (arith, some)))) sees)
      | inr ne ↦ c.map.cells q one (omega (arith, le, ne))
    ];
    within = λ q held. let w = c.map.within q held in (w.0, omega (arith, w.1));
  };
  counts = c.counts;
}

-- the map with one cell more
pub with_value : (width id long : ℕ) (m : Array) (bytes : List ℕ) → 1 ≤ id → IsMapOf width (id - 1) m bytes → Sees width (Value long) (cell_at width id bytes) → IsMapOf width id (insert m id (field (size_len width) long (cell_at width id bytes))) bytes
with_value width id long m bytes some map sees = record {
  cells = λ q one le. elim (cases_eq q id) [
    | inl same ↦ subst (λ n. IsCell width (get (insert m id v) n) (cell_at width n bytes)) (sym same) (subst (λ (o : Option (List ℕ)). IsCell width o (cell_at width id bytes)) (sym (get_here m id v)) sees.1)
    | inr ne ↦ subst (λ (o : Option (List ℕ)). IsCell width o (cell_at width q bytes)) (sym (get_other m id v q ne)) (map.cells q one (omega (arith, le, ne)))
  ];
  within = λ q held. elim (cases_eq q id) [
    | inl same ↦ (omega (arith, same, some), omega (arith, same))
    | inr ne ↦ let w = map.within q (sym (ap is_some (get_other m id v q ne)) ∙ held) in (w.0, omega (arith, w.1))
  ];
}
  where
    v : List ℕ
    v = field (size_len width) long (cell_at width id bytes)

pub counted_value : (width id long : ℕ) (t now : Tally) (bytes : List ℕ) → 1 ≤ id → width ≤ 1048576 → id ≤ 2 ^ 40 → IsCountedTo width (id - 1) t bytes → Sees width (Value long) (cell_at width id bytes)
    → ((m : Array) (v : List ℕ) → Counts t m → IsSmall m → None ≡ option_map length (get m id) → long ≡ length v → IsSmall (insert m id v) → Counts now (insert m id v))
    → IsCountedTo width id now bytes
counted_value width id long t now bytes some wide most c sees with =
    let v : List ℕ = field (size_len width) long (cell_at width id bytes) in
    let map = with_value width id long c.m bytes some c.map sees in
    record {
      m = insert c.m id v;
      map = map;
      counts = with c.m v c.counts (is_small width (id - 1) c.m bytes wide (omega (arith, most)) c.map)
          (sym (ap (λ (o : Option (List ℕ)). option_map length o) (none_past width (id - 1) id c.m bytes c.map (omega (arith, some)))))
          (long_value width long (cell_at width id bytes) sees)
          (is_small width id (insert c.m id v) bytes wide most map);
    }
  where
    long_value : (width long : ℕ) (c : List ℕ) → Sees width (Value long) c → long ≡ length (field (size_len width) long c)
    long_value width long c sees = omega (arith, sees.0, sees.1.size)
