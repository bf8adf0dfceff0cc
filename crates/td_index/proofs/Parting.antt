-- What is owed of rows.
use Rattle.std.proofs.Common.{◌≡◌, ◌∙◌, ℕ, zero, suc, ◌+◌, ◌≤◌, Bool, true, false, cond, List, [], ◌∷◌, ◌++◌, map, Option, Some, None, refl, sym, ap, arith}
use Rattle.std.specs.Prelude.{if◌then◌else◌, ◌&&◌, ◌==◌, flat_map, ◌||◌}
use Rattle.std.proofs.lemmas.Bool.{and_parts, and_from, eqb-true}
use Rattle.tc_base.specs.Texts.{is_text}
use Rattle.td_index.specs.Entries.{Firsts, with_firsts, entry, has_zero, parted, behind, one, times, owed_parts, owed}
use Rattle.td_index.proofs.Counting.{text_is, text_refl, one_true, times_append}

pub same_test : (a b : Bool) → (a ≡ true → b ≡ true) → (b ≡ true → a ≡ true) → a ≡ b
same_test true b to back = sym (to refl)
same_test false true to back = back refl
same_test false false to back = refl

abbrev Parts : Type 0
Parts = Option (List ℕ × List ℕ)

pub parted_entry : (v k : List ℕ) → has_zero v ≡ false → parted (v ++ 0 ∷ k) ≡ Some (v, k)
parted_entry [] k h = refl
parted_entry (b ∷ v) k h = elim (b == 0) as (λ t. (t || has_zero v) ≡ false → cond {A = Parts} t (Some ([], v ++ 0 ∷ k)) (behind b (parted (v ++ 0 ∷ k))) ≡ Some (b ∷ v, k)) [
  | true ↦ λ e. let f : true ≡ false = e in absurd cc
  | false ↦ λ e. ap (behind b) (parted_entry v k e)
] h

some_is : {A : Type 0} (a b : A) → Some a ≡ Some b → a ≡ b
some_is a b e = cc

behind_is : (b : ℕ) (o : Parts) (p : List ℕ × List ℕ) → behind b o ≡ Some p → (q : List ℕ × List ℕ) × (o ≡ Some q) × (◌≡◌ {A = List ℕ × List ℕ} (b ∷ q.0, q.1) p)
behind_is b None p f = absurd (let g : ◌≡◌ {A = Parts} None (Some p) = f in cc)
behind_is b (Some q) p f = (q, refl, some_is _ _ f)

pub parted_is : (x : List ℕ) (p : List ℕ × List ℕ) → parted x ≡ Some p → x ≡ p.0 ++ 0 ∷ p.1
parted_is [] p e = absurd (let f : ◌≡◌ {A = Parts} None (Some p) = e in cc)
parted_is (b ∷ x) p e = elim (b == 0) as (λ t. (b == 0) ≡ t → cond {A = Parts} t (Some ([], x)) (behind b (parted x)) ≡ Some p → b ∷ x ≡ p.0 ++ 0 ∷ p.1) [
  | true ↦ λ z f. let g : ◌≡◌ {A = List ℕ × List ℕ} ([], x) p = some_is _ _ f in ap (λ (n : ℕ). n ∷ x) (eqb-true b 0 z) ∙ ap (λ (q : List ℕ × List ℕ). q.0 ++ 0 ∷ q.1) g
  | false ↦ λ z f. let q = behind_is b (parted x) p f in ap (λ (l : List ℕ). b ∷ l) (parted_is x q.0 q.1) ∙ ap (λ (r : List ℕ × List ℕ). r.0 ++ 0 ∷ r.1) q.2
] refl e

abbrev same_parts : List ℕ → List ℕ → Parts → Bool
same_parts v k None = false
same_parts v k (Some p) = is_text p.0 v && is_text p.1 k

same_parts_is : (v k : List ℕ) (o : Parts) → same_parts v k o ≡ true → o ≡ Some (v, k)
same_parts_is v k None e = absurd (let f : false ≡ true = e in cc)
same_parts_is v k (Some p) e =
    let both = and_parts (is_text p.0 v) (is_text p.1 k) e in
    ap (λ (a : List ℕ). Some (a, p.1)) (text_is p.0 v both.0) ∙ ap (λ (b : List ℕ). Some (v, b)) (text_is p.1 k both.1)

pub is_entry : (x v k : List ℕ) → has_zero v ≡ false → is_text x (entry v k) ≡ same_parts v k (parted x)
is_entry x v k h = same_test _ _
    (λ e. ap (λ (l : List ℕ). same_parts v k (parted l)) (text_is x (entry v k) e) ∙ ap (same_parts v k) (parted_entry v k h) ∙ and_from (is_text v v) (is_text k k) (text_refl v) (text_refl k))
    (λ e. ap (λ (l : List ℕ). is_text l (entry v k)) (parted_is x (v, k) (same_parts_is v k (parted x) e)) ∙ text_refl (entry v k))

-- ---- a row's parts added and taken out

more_parts : (h : Firsts) (v k : List ℕ) (fs : List (List ℕ)) (o : Parts) → owed_parts (with_firsts k (v ∷ fs) h) o ≡ one (same_parts v k o) + owed_parts (with_firsts k fs h) o
more_parts h v k fs None = omega arith
more_parts h v k fs (Some p) = elim (is_text p.1 k) as (λ t. times p.0 (cond t (v ∷ fs) (h p.1)) ≡ one (is_text p.0 v && t) + times p.0 (cond t fs (h p.1))) [
  | true ↦ elim (is_text p.0 v) as (λ b. one b + times p.0 fs ≡ one (b && true) + times p.0 fs) [ true ↦ refl | false ↦ refl ]
  | false ↦ elim (is_text p.0 v) as (λ b. times p.0 (h p.1) ≡ one (b && false) + times p.0 (h p.1)) [ true ↦ omega arith | false ↦ omega arith ]
]

pub owed_more : (h : Firsts) (v k x : List ℕ) (fs : List (List ℕ)) → has_zero v ≡ false → owed (with_firsts k (v ∷ fs) h) x ≡ one (is_text x (entry v k)) + owed (with_firsts k fs h) x
owed_more h v k x fs z = more_parts h v k fs (parted x) ∙ ap (λ (t : Bool). one t + owed (with_firsts k fs h) x) (sym (is_entry x v k z))

-- the same parts at each key are owed the same
parts_as : (h g : Firsts) → ((k v : List ℕ) → times v (g k) ≡ times v (h k)) → (o : Parts) → owed_parts h o ≡ owed_parts g o
parts_as h g each None = refl
parts_as h g each (Some p) = sym (each p.1 p.0)

pub owed_as : (h g : Firsts) → ((k v : List ℕ) → times v (g k) ≡ times v (h k)) → (x : List ℕ) → owed h x ≡ owed g x
owed_as h g each x = parts_as h g each (parted x)

pub with_same : (h : Firsts) (k : List ℕ) (fs : List (List ℕ)) → h k ≡ fs → (q v : List ℕ) → times v (with_firsts k fs h q) ≡ times v (h q)
with_same h k fs is q v = elim (is_text q k) as (λ t. is_text q k ≡ t → times v (cond t fs (h q)) ≡ times v (h q)) [
  | true ↦ λ e. ap (times v) (sym is ∙ ap h (sym (text_is q k e)))
  | false ↦ λ e. refl
] refl

-- ---- all rows

-- the tree keys of a row
abbrev pub row_entries : List ℕ → List (List ℕ) → List (List ℕ)
row_entries k fs = map (λ f. entry f k) fs

-- those of the rows of some keys
abbrev pub all_entries : Firsts → List (List ℕ) → List (List ℕ)
all_entries h ks = flat_map (λ k. row_entries k (h k)) ks

abbrev in_row : List ℕ → List (List ℕ) → Parts → ℕ
in_row k fs None = 0
in_row k fs (Some p) = if is_text p.1 k then times p.0 fs else 0

row_step : (f k : List ℕ) (fs : List (List ℕ)) (o : Parts) → one (same_parts f k o) + in_row k fs o ≡ in_row k (f ∷ fs) o
row_step f k fs None = omega arith
row_step f k fs (Some p) = elim (is_text p.1 k) as (λ t. one (is_text p.0 f && t) + cond t (times p.0 fs) 0 ≡ cond t (one (is_text p.0 f) + times p.0 fs) 0) [
  | true ↦ elim (is_text p.0 f) as (λ b. one (b && true) + times p.0 fs ≡ one b + times p.0 fs) [ true ↦ refl | false ↦ refl ]
  | false ↦ elim (is_text p.0 f) as (λ b. one (b && false) + 0 ≡ 0) [ true ↦ omega arith | false ↦ omega arith ]
]

-- so often as it is a key of rows
abbrev scaled : ℕ → ℕ → ℕ
scaled zero c = 0
scaled (suc n) c = c + scaled n c

abbrev in_rows : Firsts → List (List ℕ) → Parts → ℕ
in_rows h ks None = 0
in_rows h ks (Some p) = scaled (times p.1 ks) (times p.0 (h p.1))

none_in_row : (k : List ℕ) (o : Parts) → in_row k [] o ≡ 0
none_in_row k None = refl
none_in_row k (Some p) = elim (is_text p.1 k) as (λ t. cond {A = ℕ} t 0 0 ≡ 0) [ true ↦ refl | false ↦ refl ]

none_in_rows : (h : Firsts) (o : Parts) → in_rows h [] o ≡ 0
none_in_rows h None = refl
none_in_rows h (Some p) = refl

pub row_times : (x k : List ℕ) (fs : List (List ℕ)) → ((f : List ℕ) → 1 ≤ times f fs → has_zero f ≡ false) → times x (row_entries k fs) ≡ in_row k fs (parted x)
row_times x k [] whole = sym (none_in_row k (parted x))
row_times x k (f ∷ fs) whole =
    ap (λ (t : Bool). one t + times x (row_entries k fs)) (is_entry x f k (whole f (omega (arith, one_true (is_text f f) (text_refl f)))))
    ∙ (ap (λ (n : ℕ). one (same_parts f k (parted x)) + n) (row_times x k fs (λ g some. whole g (omega (arith, some)))) ∙ row_step f k fs (parted x))

plus_none : (n : ℕ) → n ≡ 0 + n
plus_none n = omega arith

plus_one : (n : ℕ) → suc n ≡ 1 + n
plus_one n = omega arith

rows_step : (h : Firsts) (k : List ℕ) (ks : List (List ℕ)) (o : Parts) → in_row k (h k) o + in_rows h ks o ≡ in_rows h (k ∷ ks) o
rows_step h k ks None = omega arith
rows_step h k ks (Some p) = elim (is_text p.1 k) as (λ t. is_text p.1 k ≡ t → cond t (times p.0 (h k)) 0 + scaled (times p.1 ks) (times p.0 (h p.1)) ≡ scaled (one t + times p.1 ks) (times p.0 (h p.1))) [
  | true ↦ λ e. ap (λ (l : List ℕ). times p.0 (h l) + scaled (times p.1 ks) (times p.0 (h p.1))) (sym (text_is p.1 k e)) ∙ ap (λ (n : ℕ). scaled n (times p.0 (h p.1))) (plus_one (times p.1 ks))
  | false ↦ λ e. sym (plus_none (scaled (times p.1 ks) (times p.0 (h p.1)))) ∙ ap (λ (n : ℕ). scaled n (times p.0 (h p.1))) (plus_none (times p.1 ks))
] refl

pub rows_times : (h : Firsts) (x : List ℕ) (ks : List (List ℕ)) → ((k f : List ℕ) → 1 ≤ times f (h k) → has_zero f ≡ false) → times x (all_entries h ks) ≡ in_rows h ks (parted x)
rows_times h x [] whole = sym (none_in_rows h (parted x))
rows_times h x (k ∷ ks) whole =
    times_append x (row_entries k (h k)) (all_entries h ks)
    ∙ (ap (λ (n : ℕ). n + times x (all_entries h ks)) (row_times x k (h k) (whole k)) ∙ (ap (λ (n : ℕ). in_row k (h k) (parted x) + n) (rows_times h x ks whole) ∙ rows_step h k ks (parted x)))

scaled_is : (n c : ℕ) → n ≤ 1 → (n ≡ 0 → c ≡ 0) → scaled n c ≡ c
scaled_is zero c most none = sym (none refl)
scaled_is (suc zero) c most none = omega arith
scaled_is (suc (suc n)) c most none = absurd (omega (arith, most))

owed_rows : (h : Firsts) (ks : List (List ℕ)) → ((k : List ℕ) → times k ks ≤ 1) → ((k : List ℕ) → times k ks ≡ 0 → h k ≡ []) → (o : Parts) → in_rows h ks o ≡ owed_parts h o
owed_rows h ks once none None = refl
owed_rows h ks once none (Some p) = scaled_is (times p.1 ks) (times p.0 (h p.1)) (once p.1) (λ e. ap (times p.0) (none p.1 e))

-- what is owed of rows is what stands in the list of their tree keys, once each key of a row is named once
pub owed_listed : (h : Firsts) (ks : List (List ℕ)) → ((k : List ℕ) → times k ks ≤ 1) → ((k : List ℕ) → times k ks ≡ 0 → h k ≡ []) → ((k f : List ℕ) → 1 ≤ times f (h k) → has_zero f ≡ false) → (x : List ℕ) → times x (all_entries h ks) ≡ owed h x
owed_listed h ks once none whole x = rows_times h x ks whole ∙ owed_rows h ks once none (parted x)

-- and no tree key is owed twice, where no row has a part twice
pub owed_once : (h : Firsts) → ((k v : List ℕ) → times v (h k) ≤ 1) → (x : List ℕ) → owed h x ≤ 1
owed_once h once x = most (parted x)
  where
    most : (o : Parts) → owed_parts h o ≤ 1
    most None = omega arith
    most (Some p) = once p.1 p.0
