-- How contents are stored as a value of the model.
use Rattle.std.specs.Prelude.{◌≡◌, ◌⊎◌, ◌==◌, ℕ, Bool, List, refl, if◌then◌else◌}
use Rattle.std.proofs.Common.{inl, inr}
use Rattle.std.specs.Coded.{Coded, code_by, coded×, coded⊎, coded_ℕ, coded_bool, coded_list}
use Rattle.std.specs.FinMap.{code}
use Rattle.tc_base.specs.declared.seq.Pair.{Pair}
use Rattle.tc_model.specs.declared.query.IndexKind.{IndexKind}
use Rattle.tc_model.specs.declared.query.IndexKind.TheVariants.{Lexical, Decimal, Token}
use Rattle.tc_base.specs.Maps.{Map}
use Rattle.tc_model.specs.Arrays.{Array}
use Rattle.tc_model.specs.Contents.{Contents, hash, tree, fixed, table, Rows, Indexes}

abbrev pub text_code : Coded (List ℕ)
text_code = coded_list coded_ℕ

abbrev pub pair_code : Coded Pair
pair_code = code_by (List ℕ × List ℕ) (coded× text_code text_code) (λ p. (p.key, p.value)) (λ t. record { key = t.0; value = t.1 }) (λ _. refl)

-- of index types by a number
abbrev pub kind_code : IndexKind → ℕ
kind_code Lexical = 0
kind_code Decimal = 1
kind_code Token = 2

abbrev pub index_of : ℕ → IndexKind
index_of n = if n == 0 then Lexical else (if n == 1 then Decimal else Token)

abbrev pub same_index : (k : IndexKind) → index_of (kind_code k) ≡ k
same_index Lexical = refl
same_index Decimal = refl
same_index Token = refl

abbrev pub index_code : Coded IndexKind
index_code = code_by ℕ coded_ℕ kind_code index_of same_index

abbrev pub map_code : Coded Map
map_code = code text_code text_code

abbrev pub array_code : Coded Array
array_code = code coded_ℕ text_code

abbrev pub rows_code : Coded Rows
rows_code = code text_code (coded_list pair_code)

abbrev pub indexes_code : Coded Indexes
indexes_code = code text_code index_code

-- a case for each kind of data
abbrev pub Cases : Type 0
Cases = (Bool × Map) ⊎ ((Bool × (Bool × List Pair)) ⊎ ((ℕ × (ℕ × Array)) ⊎ (Rows × Indexes)))

abbrev pub cases_code : Coded Cases
cases_code = coded⊎ (coded× coded_bool map_code) (coded⊎ (coded× coded_bool (coded× coded_bool (coded_list pair_code))) (coded⊎ (coded× coded_ℕ (coded× coded_ℕ array_code)) (coded× rows_code indexes_code)))

abbrev pub cases : Contents → Cases
cases (hash memory m) = inl (memory, m)
cases (tree memory decimal ps) = inr (inl (memory, (decimal, ps)))
cases (fixed width most ids) = inr (inr (inl (width, (most, ids))))
cases (table rows indexes) = inr (inr (inr (rows, indexes)))

abbrev pub back : Cases → Contents
back (inl x) = hash x.0 x.1
back (inr (inl x)) = tree x.0 x.1.0 x.1.1
back (inr (inr (inl x))) = fixed x.0 x.1.0 x.1.1
back (inr (inr (inr x))) = table x.0 x.1

abbrev pub back_cases : (c : Contents) → back (cases c) ≡ c
back_cases (hash memory m) = refl
back_cases (tree memory decimal ps) = refl
back_cases (fixed width most ids) = refl
back_cases (table rows indexes) = refl

abbrev pub contents_code : Coded Contents
contents_code = code_by Cases cases_code cases back back_cases
