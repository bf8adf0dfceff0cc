-- What an index has of a value: no part has a zero byte, and none comes twice.
use Rattle.std.proofs.Common.{◌≡◌, ◌∙◌, ℕ, ◌+◌, ◌≤◌, Bool, true, false, cond, not, List, [], ◌∷◌, ◌++◌, length, Option, Some, None, refl, sym, ap, arith}
use Rattle.std.specs.Prelude.{◌||◌, ◌==◌, IfSome, nat_le, fold}
use Rattle.std.specs.List.{All, list_all, list_any, onto_first, slice_split}
use Rattle.std.proofs.lemmas.Bool.{and_parts, or_parts}
use Rattle.std.proofs.lemmas.List.{append-nil}
use Rattle.std.proofs.lemmas.List.Elements.{All-cons, All-filter, All-head, All-nil, All-push, All-tail}
use Rattle.tc_base.specs.Texts.{is_text}
use Rattle.tc_model.specs.Indexes.{firsts}
use Rattle.tc_model.specs.Rows.{Row, column, is_column, is_part}
use Rattle.tc_model.specs.Well.{IsRow}
use Rattle.tc_model.specs.Texts.{distinct, is_among, not_empty, tokens, with_text}
use Rattle.tc_model.specs.declared.query.IndexKind.{IndexKind}
use Rattle.tc_model.specs.declared.query.IndexKind.TheVariants.{Lexical, Decimal, Token}
use Rattle.td_index.specs.Entries.{AreWhole, has_zero, one, times}
use Rattle.td_index.proofs.Counting.{one_false, one_most, text_is, times_push}
use Rattle.td_plan.proofs.Planning.{value_of}
use Rattle.tc_table.specs.Parts.{parts_in, parts_of_row, parts_of_value, row_in}

not_is : (b : Bool) → not b ≡ true → b ≡ false
not_is true e = absurd cc
not_is false e = refl

pub whole_value : (value : List ℕ) → is_part value ≡ true → has_zero value ≡ false
whole_value value h = not_is (list_any (λ b. b == 0) value) (and_parts (nat_le (length value) 1048576) (not (list_any (λ b. b == 0) value)) h).1

-- ---- no zero byte comes in

abbrev IsWhole : List ℕ → Type 0
IsWhole f = has_zero f ≡ false

whole_more : (b : ℕ) (f : List ℕ) → (b == 0) ≡ false → IsWhole f → IsWhole (b ∷ f)
whole_more b f no_zero whole = ap (λ t. t || has_zero f) no_zero ∙ whole

onto : (b : ℕ) (fs : List (List ℕ)) → (b == 0) ≡ false → All IsWhole fs → All IsWhole (onto_first b fs)
onto b [] no_zero all = All-cons IsWhole (b ∷ []) [] (whole_more b [] no_zero refl) (All-nil IsWhole)
onto b (f ∷ fs) no_zero all = All-cons IsWhole (b ∷ f) fs (whole_more b f no_zero (All-head IsWhole f fs all)) (All-tail IsWhole f fs all)

pieces : (cut : ℕ → Bool) (text : List ℕ) → IsWhole text → All IsWhole (slice_split cut text)
pieces cut [] whole = All-cons IsWhole [] [] refl (All-nil IsWhole)
pieces cut (b ∷ text) whole =
    let both = or_parts (b == 0) (has_zero text) whole in
    let rest : All IsWhole (slice_split cut text) = pieces cut text both.1 in
    go (cut b) rest (onto b (slice_split cut text) both.0 rest)
  where
    go : (t : Bool) → All IsWhole (slice_split cut text) → All IsWhole (onto_first b (slice_split cut text)) → All IsWhole (cond t ([] ∷ slice_split cut text) (onto_first b (slice_split cut text)))
    go true rest more = All-cons IsWhole [] (slice_split cut text) refl rest
    go false rest more = more

one_text : (t : List ℕ) (fs : List (List ℕ)) → IsWhole t → All IsWhole fs → All IsWhole (with_text fs t)
one_text t fs whole all = go (is_among t fs)
  where
    go : (b : Bool) → All IsWhole (cond b fs (fs ++ t ∷ []))
    go true = all
    go false = All-push IsWhole fs t all whole

all_texts : (fs ts : List (List ℕ)) → All IsWhole fs → All IsWhole ts → All IsWhole (fold with_text fs ts)
all_texts fs [] all more = all
all_texts fs (t ∷ ts) all more = all_texts (with_text fs t) ts (one_text t fs (All-head IsWhole t ts more) all) (All-tail IsWhole t ts more)

whole_tokens : (value : List ℕ) → IsWhole value → All IsWhole (distinct (tokens value))
whole_tokens value whole = all_texts [] (tokens value) (All-nil IsWhole) (All-filter not_empty IsWhole (slice_split (λ b. b == 32 || b == 44) value) (pieces (λ b. b == 32 || b == 44) value whole))

pub none_whole : AreWhole []
none_whole = All-nil IsWhole

pub firsts_whole : (kind : IndexKind) (value : List ℕ) → is_part value ≡ true → AreWhole (firsts kind value)
firsts_whole Lexical value h = All-cons IsWhole value [] (whole_value value h) (All-nil IsWhole)
firsts_whole Decimal value h = All-cons IsWhole value [] (whole_value value h) (All-nil IsWhole)
firsts_whole Token value h = whole_tokens value (whole_value value h)

-- ---- none comes twice

absent : (t : List ℕ) (fs : List (List ℕ)) → is_among t fs ≡ false → times t fs ≡ 0
absent t [] e = refl
absent t (f ∷ fs) e =
    let both = or_parts (is_text t f) (is_among t fs) e in
    omega (arith, one_false (is_text t f) both.0, absent t fs both.1)

abbrev AreOnce : List (List ℕ) → Type 0
AreOnce fs = (x : List ℕ) → times x fs ≤ 1

once_more : (t : List ℕ) (fs : List (List ℕ)) → AreOnce fs → AreOnce (with_text fs t)
once_more t fs once x = go (is_among t fs) refl
  where
    here : (b : Bool) → is_text x t ≡ b → is_among t fs ≡ false → one b + times x fs ≤ 1
    here true is none = let gone : times x fs ≡ 0 = ap (λ (l : List ℕ). times l fs) (text_is x t is) ∙ absent t fs none in omega (arith, gone)
    here false is none = omega (arith, once x)

    go : (b : Bool) → is_among t fs ≡ b → times x (cond b fs (fs ++ t ∷ [])) ≤ 1
    go true e = once x
    go false e = omega (arith, times_push x t fs, here (is_text x t) refl e)

once_all : (fs ts : List (List ℕ)) → AreOnce fs → AreOnce (fold with_text fs ts)
once_all fs [] once = once
once_all fs (t ∷ ts) once = once_all (with_text fs t) ts (once_more t fs once)

pub distinct_once : (ts : List (List ℕ)) → AreOnce (distinct ts)
distinct_once ts x = once_all [] ts (λ y. omega arith) x

pub firsts_once : (kind : IndexKind) (value : List ℕ) → AreOnce (firsts kind value)
firsts_once Lexical value x = omega (arith, one_most (is_text x value))
firsts_once Decimal value x = omega (arith, one_most (is_text x value))
firsts_once Token value x = once_all [] (tokens value) (λ y. omega arith) x

-- ---- of a value that may be there

pub parts_some : (kind : IndexKind) (value : List ℕ) → firsts kind value ≡ parts_of_value kind (Some value)
parts_some kind value = sym (append-nil (firsts kind value))

-- ---- of the bytes of a row

of_whole : (part : List ℕ) (fs : List (List ℕ)) → AreWhole fs → 1 ≤ times part fs → has_zero part ≡ false
of_whole part [] all some = absurd (omega (arith, some))
of_whole part (f ∷ fs) all some = go (is_text part f) refl (λ more. of_whole part fs (All-tail IsWhole f fs all) more)
  where
    go : (b : Bool) → is_text part f ≡ b → (1 ≤ times part fs → has_zero part ≡ false) → has_zero part ≡ false
    go true is rest = ap has_zero (text_is part f is) ∙ All-head IsWhole f fs all
    go false is rest = rest (omega (arith, some, one_false (is_text part f) is))

of_value : (kind : IndexKind) (o : Option (List ℕ)) (part : List ℕ) → ((value : List ℕ) → o ≡ Some value → is_part value ≡ true) → 1 ≤ times part (parts_of_value kind o) → has_zero part ≡ false
of_value kind None part fine some = absurd (omega (arith, some))
of_value kind (Some value) part fine some = of_whole part (firsts kind value) (firsts_whole kind value (fine value refl)) (omega (arith, some, ap (times part) (parts_some kind value)))

-- no part of a row has a zero byte
pub row_whole : (kind : IndexKind) (name part : List ℕ) (row : Row) → IsRow row → 1 ≤ times part (parts_of_row kind name (Some row)) → has_zero part ≡ false
row_whole kind name part row well some = of_value kind (column row name) part (λ value e. value_of row name value well.columns e) some

of_row : (kind : IndexKind) (name part : List ℕ) (row : Row) (t : Bool) → list_all is_column row ≡ t → 1 ≤ times part (cond t (parts_of_row kind name (Some row)) []) → has_zero part ≡ false
of_row kind name part row true is some = of_value kind (column row name) part (λ value e. value_of row name value is e) some
of_row kind name part row false is some = absurd (omega (arith, some))

-- no part of them has a zero byte
pub parts_whole : (kind : IndexKind) (name bytes part : List ℕ) → 1 ≤ times part (parts_in kind name bytes) → has_zero part ≡ false
parts_whole kind name bytes part some = of_row kind name part (row_in bytes) (list_all is_column (row_in bytes)) refl some

pub once_value : (kind : IndexKind) (o : Option (List ℕ)) → AreOnce (parts_of_value kind o)
once_value kind None x = omega arith
once_value kind (Some value) x = omega (arith, firsts_once kind value x, ap (times x) (parts_some kind value))

-- and none comes twice
pub parts_once : (kind : IndexKind) (name bytes part : List ℕ) → times part (parts_in kind name bytes) ≤ 1
parts_once kind name bytes part = go (list_all is_column (row_in bytes))
  where
    go : (t : Bool) → times part (cond t (parts_of_row kind name (Some (row_in bytes))) []) ≤ 1
    go true = once_value kind (column (row_in bytes) name) part
    go false = omega arith

-- the value of a row's column is as it may be
pub got_part : (o : Option (List ℕ)) (row : Row) (name : List ℕ) → o ≡ column row name → IsRow row → IfSome o (λ value. is_part value ≡ true)
got_part None row name is well = tt
got_part (Some value) row name is well = value_of row name value well.columns (sym is)
