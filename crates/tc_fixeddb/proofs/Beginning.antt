-- The ids whose texts begin with that of a number, found a range after the other.
use Rattle.std.proofs.Common.{◌≡◌, ◌∙◌, ℕ, ◌-◌, ◌*◌, ◌/◌, ◌^◌, ◌≤◌, ◌<◌, Bool, true, ◌&&◌, List, [], ◌++◌, filter, ap, arith}
use Rattle.std.specs.Prelude.{nat_eq, nat_le, nat_lt}
use Rattle.std.specs.Fmt.{decimal}
use Rattle.std.specs.List.{starts_with}
use Rattle.std.specs.FinMap.{keys, contains_key-keys}
use Rattle.std.proofs.lemmas.Bool.{and_parts, leb-true, ltb-true}
use Rattle.std.proofs.lemmas.List.{append-nil}
use Rattle.std.proofs.lemmas.List.Elements.{filter-append}
use Rattle.std.proofs.Math.Nat.{div-le_self}
use Rattle.hf_head.specs.FixedHeads.{cell}
use Rattle.tc_model.specs.Arrays.{Array, greatest}
use Rattle.tc_fixed.specs.declared.fixed.Fixed.{Fixed}
use Rattle.tc_fixed.specs.Holding.{max_id_of}
use Rattle.tc_fixed.specs.Listing.{ids_in}
use Rattle.tc_fixed.proofs.Listed.{ids_parted}
use Rattle.tc_fixed.proofs.Tallied.{greatest_high}
use Rattle.tc_fixeddb.proofs.Fronts.{IsRange, range_wide, in_range, past_range, below_range}
use Rattle.tc_fixeddb.proofs.Joining.{all_pass, kept_all, kept_none, le_is, lt_is}

-- those before an id
abbrev pub begun : ℕ → Array → ℕ → List ℕ
begun n m below = filter (λ id. starts_with nat_eq (decimal id) (decimal n)) (ids_in m 0 below)

low_of : (from to id : ℕ) → (nat_le from id && nat_lt id to) ≡ true → from ≤ id
low_of from to id test = leb-true from id (and_parts (nat_le from id) (nat_lt id to) test).0

high_of : (from to id : ℕ) → (nat_le from id && nat_lt id to) ≡ true → id < to
high_of from to id test = ltb-true id to (and_parts (nat_le from id) (nat_lt id to) test).1

pub begun_none : (n : ℕ) (m : Array) → 1 ≤ n → n ≤ 2 ^ 40 → begun n m n ≡ []
begun_none n m one small = kept_none (λ id. nat_le 0 id && nat_lt id n) (λ id. starts_with nat_eq (decimal id) (decimal n)) (keys m) (λ id test.
    let high = high_of 0 n id test in
    below_range n one id (omega (arith, high, small)) (omega (arith, small)) high)

pub begun_more : (n : ℕ) (m : Array) (from to : ℕ) → 1 ≤ n → IsRange n from to → from ≤ 2 ^ 40 → begun n m (from * 10) ≡ begun n m from ++ ids_in m from to
begun_more n m from to one range small =
    let begins : ℕ → Bool = λ id. starts_with nat_eq (decimal id) (decimal n) in
    let wide = range_wide n from to one range in
    let parts : ids_in m 0 (from * 10) ≡ ids_in m 0 from ++ (ids_in m from to ++ ids_in m to (from * 10)) =
    ids_parted m 0 from (from * 10) (omega arith) (omega arith) ∙ ap (λ (l : List ℕ). ids_in m 0 from ++ l) (ids_parted m from to (from * 10) wide.rises (omega (arith, wide.most, wide.some))) in
    let all : filter begins (ids_in m from to) ≡ ids_in m from to = kept_all (λ id. nat_le from id && nat_lt id to) begins (keys m) (λ id test.
    let low = low_of from to id test in
    let high = high_of from to id test in
    in_range n one id (omega (arith, high, wide.most, small)) from to range low high) in
    let none : filter begins (ids_in m to (from * 10)) ≡ [] = kept_none (λ id. nat_le to id && nat_lt id (from * 10)) begins (keys m) (λ id test.
    let low = low_of to (from * 10) id test in
    let high = high_of to (from * 10) id test in
    past_range n one id (omega (arith, high, small)) from to range low high) in
    ap (filter begins) parts
    ∙ (filter-append begins (ids_in m 0 from) (ids_in m from to ++ ids_in m to (from * 10))
    ∙ ap (λ (l : List ℕ). begun n m from ++ l) (filter-append begins (ids_in m from to) (ids_in m to (from * 10)) ∙ ((λ i. all i ++ none i) ∙ append-nil (ids_in m from to))))

pub begun_all : (n : ℕ) (m : Array) (below : ℕ) → greatest m < below → begun n m below ≡ filter (λ id. starts_with nat_eq (decimal id) (decimal n)) (keys m)
begun_all n m below past = ap (filter (λ id. starts_with nat_eq (decimal id) (decimal n))) (all_pass (λ id. nat_le 0 id && nat_lt id below) (keys m) (λ q any.
    let high = greatest_high m q (contains_key-keys m q ∙ any) in
    ap (λ b. nat_le 0 q && b) (lt_is q below (omega (arith, high, past))) ∙ ap (λ b. b && true) (le_is 0 q (omega arith))))

-- no id that a file may hold is greater
pub greatest_small : {S : Type 0} (f : Fixed S) → max_id_of f ≤ 2 ^ 40
greatest_small f =
    let less : (f.limit - 256) / cell f.width ≤ f.limit - 256 = div-le_self (f.limit - 256) (cell f.width) in
    omega (arith, less, f.shape.limit_most)
