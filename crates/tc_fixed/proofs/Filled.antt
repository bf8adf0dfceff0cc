-- Cells filled as a map has it, before and after one of them is written.
use Rattle.std.proofs.Common.{◌≡◌, ◌≢◌, ◌∙◌, inl, inr, ℕ, ◌+◌, ◌-◌, ◌<◌, ◌≤◌, List, length, replicate, sym, ap, subst, arith}
use Rattle.std.specs.Prelude.{Option, Some, None, is_some, max}
use Rattle.std.specs.FinMap.{empty, get, insert, remove, get-empty}
use Rattle.std.specs.Ordering.{nat_cmp}
use Rattle.std.proofs.lemmas.Bool.{cases_eq, cases_lt}
use Rattle.std.proofs.lemmas.List.{length-replicate, places, same_lists}
use Rattle.tc_base.specs.Endian.{field}
use Rattle.tc_base.specs.Files.{wrote}
use Rattle.hf_head.specs.FixedHeads.{cell}
use Rattle.tc_model.specs.Arrays.{Array}
use Rattle.tc_fixed.specs.Cells.{IsCell, HasValue, Fills, place, end_of, cell_at, blank, with_cell}
use Rattle.tc_fixed.proofs.Tallied.{get_here, get_other, gone_here, gone_other, held_not, held_or_not}
use Rattle.tc_fixed.proofs.Celled.{none_in_zeros, field_before, field_inside, length_wrote, place_end, end_next, ends_rise, cells_apart, cell_here, cell_other}

part_of_zeros : (p n z : ℕ) → p + n ≤ z → field p n (replicate z 0) ≡ replicate n 0
part_of_zeros p n z le = same_lists _ _ (grind (arith, places)) (λ i d h. grind (arith, places))

-- the zeros between the last cell and the new one
module _ (width last id : ℕ) (b : List ℕ) (some : 1 ≤ id) (long : end_of width last ≤ length b) where
  abbrev gap : ℕ
  gap = place width id - place width (last + 1)

  abbrev grown : List ℕ
  grown = wrote (place width (last + 1)) (replicate gap 0) b

  at_end : place width (last + 1) ≤ length b
  at_end = omega (arith, long, end_next width last)

  pub grown_long : (length b ≤ length grown) × (place width id ≤ length grown)
  grown_long =
      let l = length_wrote (place width (last + 1)) (replicate gap 0) b at_end in
      let z : length {A = ℕ} (replicate gap 0) ≡ gap = length-replicate gap 0 in
      (l.0, omega (arith, l.0, l.1, z, long, end_next width last))

  kept_below : (k : ℕ) → 1 ≤ k → k ≤ last → cell_at width k grown ≡ cell_at width k b
  kept_below k one le = field_before (place width k) (cell width) (place width (last + 1)) (replicate gap 0) b (omega (arith, place_end width k one, ends_rise width k last le, end_next width last)) at_end

  clear_between : (k : ℕ) → last < k → k < id → cell_at width k grown ≡ replicate (cell width) 0
  clear_between k low less =
      let p : place width (last + 1) ≤ place width k = rise k (omega (arith, low)) in
      let q : place width k + cell width ≤ place width id = cells_apart width k id (omega (arith, low)) less in
      let z : length {A = ℕ} (replicate gap 0) ≡ gap = length-replicate gap 0 in
      field_inside (place width k) (cell width) (place width (last + 1)) (replicate gap 0) b p (omega (arith, p, q, z)) at_end
      ∙ part_of_zeros (place width k - place width (last + 1)) (cell width) gap (omega (arith, p, q))
    where
      rise : (k : ℕ) → last + 1 ≤ k → place width (last + 1) ≤ place width k
      rise k le = elim (cases_eq (last + 1) k) [
        | inl same ↦ omega (arith, ap (place width) same)
        | inr ne ↦ omega (arith, cells_apart width (last + 1) k (omega arith) (omega (arith, le, ne)))
      ]

pub cell_inside : (width last id at from : ℕ) (old now : List ℕ) → 1 ≤ id → at ≡ place width id → from ≡ place width (last + 1) → end_of width last ≤ length old → now ≡ wrote from (replicate (at - from) 0) old → at ≤ length now
cell_inside width last id at from old now some is start long wrote_so =
    let e : now ≡ grown width last id old some long = wrote_so ∙ (λ i. wrote (start i) (replicate (is i - start i) 0) old) in
    omega (arith, is, (grown_long width last id old some long).1, ap (λ (l : List ℕ). length l) e)

-- a map's cells are the same in bytes that have the same there
same_cell : (width : ℕ) (o : Option (List ℕ)) (c d : List ℕ) → c ≡ d → IsCell width o d → IsCell width o c
same_cell width o c d e is = subst (λ (l : List ℕ). IsCell width o l) (sym e) is

blank_cell : (width : ℕ) → 1 ≤ width → IsCell width None (replicate (cell width) 0)
blank_cell width some = none_in_zeros width (cell width) (omega (arith, some))

pub fills_put : (width last id : ℕ) (m : Array) (v x b : List ℕ) → 1 ≤ width → 1 ≤ id → length x ≡ cell width → HasValue width v x → Fills width last m b → Fills width (max last id) (insert m id v) (with_cell width last id x b)
fills_put width last id m v x b wide some sized is f =
    let g = grown_long width last id b some f.long in
    let now : List ℕ = grown width last id b some f.long in
    let l = length_wrote (place width id) x now g.1 in
    record {
      long = elim (cases_lt last id) [
        | inl less ↦ let e : max last id ≡ id = omega (arith, less) in omega (arith, ap (end_of width) e, l.1, sized, place_end width id some)
        | inr le ↦ let e : max last id ≡ last = omega (arith, le) in omega (arith, ap (end_of width) e, l.0, g.0, f.long)
      ];
      map = record {
        cells = λ k one le. elim (cases_eq k id) [
          | inl same ↦ subst (λ q. IsCell width (get (insert m id v) q) (cell_at width q (with_cell width last id x b))) (sym same)
              (subst (λ (o : Option (List ℕ)). IsCell width o (cell_at width id (with_cell width last id x b))) (sym (get_here m id v)) (same_cell width (Some v) _ x (cell_here width id x now sized g.1) is))
          | inr ne ↦ subst (λ (o : Option (List ℕ)). IsCell width o (cell_at width k (with_cell width last id x b))) (sym (get_other m id v k ne)) (old k one le ne)
        ];
        within = λ k held. elim (cases_eq k id) [
          | inl same ↦ (omega (arith, same, some), omega (arith, same))
          | inr ne ↦ let w = f.map.within k (sym (ap is_some (get_other m id v k ne)) ∙ held) in (w.0, omega (arith, w.1))
        ];
      };
    }
  where
    old : (k : ℕ) → 1 ≤ k → k ≤ max last id → k ≢ id → IsCell width (get m k) (cell_at width k (with_cell width last id x b))
    old k one le ne =
        let g = grown_long width last id b some f.long in
        let now : List ℕ = grown width last id b some f.long in
        elim (cases_lt last k) [
          | inl past ↦
              let less : k < id = omega (arith, le, past, ne) in
              let none : get m k ≡ None = elim (held_or_not (get m k)) [ inl held ↦ absurd (omega (arith, past, (f.map.within k held).1)) | inr is ↦ is ] in
              subst (λ (o : Option (List ℕ)). IsCell width o (cell_at width k (with_cell width last id x b))) (sym none)
              (same_cell width None _ (replicate (cell width) 0) (cell_other width id k x now some one ne sized g.1 (inr less) ∙ clear_between width last id b some f.long k past less) (blank_cell width wide))
          | inr there ↦ same_cell width (get m k) _ (cell_at width k b)
              (cell_other width id k x now some one ne sized g.1 (inl (omega (arith, g.0, f.long, ends_rise width k last there))) ∙ kept_below width last id b some f.long k one there)
              (f.map.cells k one there)
        ]

pub fills_out : (width last id : ℕ) (m : Array) (b : List ℕ) → 1 ≤ width → 1 ≤ id → id ≤ last → Fills width last m b → Fills width last (remove m id) (wrote (place width id) (blank width) b)
fills_out width last id m b wide some le f =
    let sized : length (blank width) ≡ cell width = length-replicate (cell width) 0 in
    let inside : place width id ≤ length b = omega (arith, f.long, ends_rise width id last le, place_end width id some) in
    let l = length_wrote (place width id) (blank width) b inside in
    record {
      long = omega (arith, l.0, f.long);
      map = record {
        cells = λ k one high. elim (cases_eq k id) [
          | inl same ↦ subst (λ q. IsCell width (get (remove m id) q) (cell_at width q (wrote (place width id) (blank width) b))) (sym same)
              (subst (λ (o : Option (List ℕ)). IsCell width o (cell_at width id (wrote (place width id) (blank width) b))) (sym (gone_here m id)) (same_cell width None _ (blank width) (cell_here width id (blank width) b sized inside) (blank_cell width wide)))
          | inr ne ↦ subst (λ (o : Option (List ℕ)). IsCell width o (cell_at width k (wrote (place width id) (blank width) b))) (sym (gone_other m id k ne))
              (same_cell width (get m k) _ (cell_at width k b) (cell_other width id k (blank width) b some one ne sized inside (inl (omega (arith, f.long, ends_rise width k last high)))) (f.map.cells k one high))
        ];
        within = λ k held. elim (cases_eq k id) [
          | inl same ↦ absurd (held_not (get (remove m id) k) (ap (λ q. get (remove m id) q) same ∙ gone_here m id) held)
          | inr ne ↦ f.map.within k (sym (ap is_some (gone_other m id k ne)) ∙ held)
        ];
      };
    }

-- the cells behind the greatest id needn't be counted
pub fills_less : (width last now : ℕ) (m : Array) (b : List ℕ) → now ≤ last → ((k : ℕ) → now < k → get m k ≡ None) → Fills width last m b → Fills width now m b
fills_less width last now m b le none f = record {
  long = omega (arith, f.long, ends_rise width now last le);
  map = record {
    cells = λ k one high. f.map.cells k one (omega (arith, le, high));
    within = λ k held. ((f.map.within k held).0, elim (cases_lt now k) [ inl past ↦ absurd (held_not (get m k) (none k past) held) | inr high ↦ high ]);
  };
}

pub fills_none : (width : ℕ) (b : List ℕ) → 256 ≤ length b → Fills width 0 empty b
fills_none width b long = record {
  long = omega (arith, long);
  map = record {
    cells = λ k one high. absurd (omega (arith, one, high));
    within = λ k held. absurd (held_not (get empty k) (get-empty nat_cmp k) held);
  };
}
