-- The primary keys that a range of an index gives: those of the rows that pass its test.
use Rattle.std.proofs.Common.{◌≡◌, ◌∙◌, ℕ, zero, suc, ◌+◌, ◌≤◌, Bool, true, false, cond, List, [], ◌∷◌, ◌++◌, map, Option, refl, sym, ap, arith}
use Rattle.std.specs.Prelude.{◌&&◌, if◌then◌else◌}
use Rattle.tc_base.specs.declared.order.Side.{Side}
use Rattle.tc_base.specs.declared.seq.Pair.{Pair}
use Rattle.tc_base.specs.Texts.{is_text}
use Rattle.tc_space.specs.Changes.{inside, is_inside}
use Rattle.td_index.specs.Entries.{AreOwed, Firsts, has_zero, entry, keys_of, less_one, one, times}
use Rattle.td_index.specs.Ranges.{candidates, passing, second, second_of}
use Rattle.td_index.proofs.Counting.{one_true, taken_out, text_is, text_refl}
use Rattle.td_index.proofs.Parting.{all_entries, owed_listed, parted_entry, row_entries}

abbrev total : (List ℕ → ℕ) → List (List ℕ) → ℕ
total g [] = 0
total g (x ∷ xs) = g x + total g xs

sum_less : (g : List ℕ → ℕ) (x : List ℕ) (ys : List (List ℕ)) → 1 ≤ times x ys → total g ys ≡ g x + total g (less_one x ys)
sum_less g x [] some = absurd (omega (arith, some))
sum_less g x (y ∷ ys) some = elim (is_text x y) as (λ t. is_text x y ≡ t → 1 ≤ one t + times x ys → g y + total g ys ≡ g x + total g (cond t ys (y ∷ less_one x ys))) [
  | true ↦ λ e more. ap (λ (l : List ℕ). g l + total g ys) (sym (text_is x y e))
  | false ↦ λ e more. omega (arith, sum_less g x ys (omega (arith, more)))
] refl some

-- lists that have each text equally often have one sum
pub sum_same : (g : List ℕ → ℕ) (xs ys : List (List ℕ)) → ((z : List ℕ) → times z xs ≡ times z ys) → total g xs ≡ total g ys
sum_same g [] [] same = refl
sum_same g [] (y ∷ ys) same = absurd (omega (arith, same y, one_true (is_text y y) (text_refl y)))
sum_same g (x ∷ xs) ys same =
    let some : 1 ≤ times x ys = omega (arith, same x, one_true (is_text x x) (text_refl x)) in
    omega (arith, sum_same g xs (less_one x ys) (λ z. omega (arith, same z, taken_out x z ys some)), sum_less g x ys some)

-- whether a tree key is inside and has this primary key
abbrev hit : (List ℕ → Side) → List ℕ → List ℕ → ℕ
hit side k x = one (is_inside (side x) && is_text k (second x))

both : (a b : Bool) (n m : ℕ) (p : Pair) (ps : List Pair) → m ≡ n → (k : List ℕ) → b ≡ is_text k (second p.key) → times k (map (λ (q : Pair). second q.key) ps) ≡ m → times k (map (λ (q : Pair). second q.key) (cond a (p ∷ ps) ps)) ≡ one (a && b) + n
both true true n m p ps e k is t = omega (arith, t, e, one_true (is_text k (second p.key)) (sym is))
both true false n m p ps e k is t = omega (arith, t, e, ap one (sym is))
both false b n m p ps e k is t = t ∙ (e ∙ plus b n)
  where
    plus : (b : Bool) (n : ℕ) → n ≡ one (false && b) + n
    plus true n = omega arith
    plus false n = omega arith

pub candidates_times : (side : List ℕ → Side) (k : List ℕ) (ps : List Pair) → times k (candidates side ps) ≡ total (hit side k) (keys_of ps)
candidates_times side k [] = refl
candidates_times side k (p ∷ ps) = both (is_inside (side p.key)) (is_text k (second p.key)) (total (hit side k) (keys_of ps)) (total (hit side k) (keys_of ps)) p (inside side ps) refl k refl (candidates_times side k ps)

sum_append : (g : List ℕ → ℕ) (xs ys : List (List ℕ)) → total g (xs ++ ys) ≡ total g xs + total g ys
sum_append g [] ys = omega arith
sum_append g (x ∷ xs) ys = omega (arith, sum_append g xs ys)

module _ (side : List ℕ → Side) (test : List ℕ → Bool) (k : List ℕ) (agrees : (v q : List ℕ) → has_zero v ≡ false → is_inside (side (entry v q)) ≡ test v) where
  abbrev of_row : Bool → List (List ℕ) → ℕ
  of_row b fs = if b then passing test fs else 0

  row_sum : (q : List ℕ) (fs : List (List ℕ)) → ((f : List ℕ) → 1 ≤ times f fs → has_zero f ≡ false) → total (hit side k) (row_entries q fs) ≡ of_row (is_text k q) fs
  row_sum q [] whole = elim (is_text k q) as (λ b. 0 ≡ of_row b []) [ true ↦ refl | false ↦ refl ]
  row_sum q (f ∷ fs) whole =
      let w : has_zero f ≡ false = whole f (omega (arith, one_true (is_text f f) (text_refl f))) in
      ap (λ (n : ℕ). hit side k (entry f q) + n) (row_sum q fs (λ g some. whole g (omega (arith, some))))
      ∙ (ap (λ (a : Bool). one (a && is_text k (second (entry f q))) + of_row (is_text k q) fs) (agrees f q w)
      ∙ (ap (λ (o : Option (List ℕ × List ℕ)). one (test f && is_text k (second_of o)) + of_row (is_text k q) fs) (parted_entry f q w)
      ∙ joined (test f) (is_text k q) (passing test fs)))
    where
      joined : (a b : Bool) (n : ℕ) → one (a && b) + (if b then n else 0) ≡ (if b then one a + n else 0)
      joined true true n = refl
      joined true false n = omega arith
      joined false true n = refl
      joined false false n = omega arith

  abbrev scaled : ℕ → ℕ → ℕ
  scaled zero c = 0
  scaled (suc n) c = c + scaled n c

  rows_sum : (h : Firsts) (ks : List (List ℕ)) → ((q f : List ℕ) → 1 ≤ times f (h q) → has_zero f ≡ false) → total (hit side k) (all_entries h ks) ≡ scaled (times k ks) (passing test (h k))
  rows_sum h [] whole = refl
  rows_sum h (q ∷ ks) whole =
      sum_append (hit side k) (row_entries q (h q)) (all_entries h ks)
      ∙ (ap (λ (n : ℕ). n + total (hit side k) (all_entries h ks)) (row_sum q (h q) (whole q))
      ∙ (ap (λ (n : ℕ). of_row (is_text k q) (h q) + n) (rows_sum h ks whole)
      ∙ elim (is_text k q) as (λ t. is_text k q ≡ t → of_row t (h q) + scaled (times k ks) (passing test (h k)) ≡ scaled (one t + times k ks) (passing test (h k))) [
        | true ↦ λ e. ap (λ (l : List ℕ). passing test (h l) + scaled (times k ks) (passing test (h k))) (sym (text_is k q e)) ∙ ap (λ (n : ℕ). scaled n (passing test (h k))) (plus_one (times k ks))
        | false ↦ λ e. plus_none (scaled (times k ks) (passing test (h k))) ∙ ap (λ (n : ℕ). scaled n (passing test (h k))) (sym (plus_none (times k ks)))
      ] refl))
    where
      plus_one : (n : ℕ) → suc n ≡ 1 + n
      plus_one n = omega arith

      plus_none : (n : ℕ) → 0 + n ≡ n
      plus_none n = omega arith

  scaled_is : (n c : ℕ) → n ≤ 1 → (n ≡ 0 → c ≡ 0) → scaled n c ≡ c
  scaled_is zero c most none = sym (none refl)
  scaled_is (suc zero) c most none = omega arith
  scaled_is (suc (suc n)) c most none = absurd (omega (arith, most))

  -- a primary key comes out of a range as often as a part of its row passes
  pub range_times : (h : Firsts) (ks : List (List ℕ)) (ps : List Pair) → AreOwed h ps → ((q : List ℕ) → times q ks ≤ 1) → ((q : List ℕ) → times q ks ≡ 0 → h q ≡ []) → ((q f : List ℕ) → 1 ≤ times f (h q) → has_zero f ≡ false)
      → times k (candidates side ps) ≡ passing test (h k)
  range_times h ks ps owed_is once none whole =
      candidates_times side k ps
      ∙ (sum_same (hit side k) (keys_of ps) (all_entries h ks) (λ z. owed_is z ∙ sym (owed_listed h ks once none whole z))
      ∙ (rows_sum h ks whole ∙ scaled_is (times k ks) (passing test (h k)) (once k) (λ e. ap (passing test) (none k e))))
