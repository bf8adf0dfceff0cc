-- What a search finds doesn't depend on the order in which rows are read.
use Rattle.std.proofs.Common.{◌≡◌, ◌∙◌, ℕ, zero, suc, ◌+◌, ◌≤◌, Bool, true, false, cond, List, [], ◌∷◌, ◌++◌, reverse, Option, Some, None, refl, sym, ap, subst, arith}
use Rattle.std.specs.Prelude.{not, T, drop, filter}
use Rattle.std.specs.declared.cmp.Ordering.{Ordering}
use Rattle.std.specs.declared.cmp.Ordering.TheVariants.{Less, Equal, Greater}
use Rattle.std.specs.Ordering.{is_eq, is_lt, ordering_reverse, ordering_then}
use Rattle.std.specs.List.Sorted.{ties}
use Rattle.std.specs.Cmp.Lexicographic.{slice_cmp, texts_ties}
use Rattle.std.specs.Ordering.{nat_cmp}
use Rattle.std.specs.FinMap.{entries, entries_sorted, find, get, get-entries, is_sorted}
use Rattle.std.specs.FinMap.Entries.{below_all}
use Rattle.std.proofs.lemmas.Bool.{and_parts}
use Rattle.std.proofs.lemmas.List.{append-nil, reverse-append}
use Rattle.std.proofs.lemmas.List.Elements.{filter-append}
use Rattle.std.proofs.lemmas.Map.Lookups.{exact_bytes}
use Rattle.tc_base.specs.Orders.{lexical}
use Rattle.tc_base.specs.Texts.{is_text}
use Rattle.tc_model.specs.Contents.{Rows}
use Rattle.tc_model.specs.Rows.{Row}
use Rattle.tc_model.specs.Search.{Found, arranged, holds, in_order, limited, ranked}
use Rattle.tc_model.specs.declared.query.Query.{Query}
use Rattle.tc_model.specs.declared.query.Sort.{Sort}
use Rattle.td_index.specs.Entries.{one, times}
use Rattle.td_index.proofs.Counting.{text_is, text_refl}
use Rattle.td_query.proofs.Placing.{only_one, order_ascends, order_ties}
use Rattle.td_query.proofs.Ranking.{less, less_ranks, ranked_total}
use Rattle.tc_table.specs.Searching.{HasAllUnder, found_at, found_row, found_under}

-- ---- lists turned

turned : {A : Type 0} (p : A → Bool) (xs : List A) → filter p (reverse xs) ≡ reverse (filter p xs)
turned p [] = refl
turned {A} p (x ∷ xs) =
    ap (filter p) (reverse-append (x ∷ []) xs) ∙ filter-append p (reverse xs) (x ∷ []) ∙ ap (λ (l : List A). l ++ filter p (x ∷ [])) (turned p xs) ∙ go (p x)
  where
    go : (b : Bool) → reverse (filter p xs) ++ cond b (x ∷ []) [] ≡ reverse (cond b (x ∷ filter p xs) (filter p xs))
    go true = sym (reverse-append (x ∷ []) (filter p xs))
    go false = append-nil (reverse (filter p xs))

-- ---- those of one key

abbrev with_key : List ℕ → List Found → List Found
with_key k fs = filter (λ f. is_text k f.0) fs

-- a test that only those of a key pass
by_key : (p : Found → Bool) (k : List ℕ) → ((f : Found) → p f ≡ true → is_text k f.0 ≡ true) → (fs : List Found) → filter p fs ≡ filter p (with_key k fs)
by_key p k of_key [] = refl
by_key p k of_key (f ∷ fs) = go (p f) refl (by_key p k of_key fs)
  where
    kept : (t : Bool) → p f ≡ false → filter p (with_key k fs) ≡ filter p (cond t (f ∷ with_key k fs) (with_key k fs))
    kept true e = sym (ap (λ (b : Bool). cond b (f ∷ filter p (with_key k fs)) (filter p (with_key k fs))) e)
    kept false e = refl

    go : (b : Bool) → p f ≡ b → filter p fs ≡ filter p (with_key k fs) → cond b (f ∷ filter p fs) (filter p fs) ≡ filter p (cond (is_text k f.0) (f ∷ with_key k fs) (with_key k fs))
    go true e rest =
        ap (λ (l : List Found). f ∷ l) rest
        ∙ (sym (ap (λ (b : Bool). cond b (f ∷ filter p (with_key k fs)) (filter p (with_key k fs))) e)
        ∙ sym (ap (λ (t : Bool). filter p (cond t (f ∷ with_key k fs) (with_key k fs))) (of_key f e)))
    go false e rest = rest ∙ kept (is_text k f.0) e

-- ---- rows that tie are of one key

then_equal : (a b : Ordering) → ordering_then a b ≡ Equal → b ≡ Equal
then_equal Less b e = absurd (let f : Less ≡ Equal = e in cc)
then_equal Equal b e = e
then_equal Greater b e = absurd (let f : Greater ≡ Equal = e in cc)

same_keys : (s : Option Sort) (f g : Found) → ranked s f g ≡ Equal → lexical f.0 g.0 ≡ Equal
same_keys None f g e = e
same_keys (Some s) f g e = then_equal _ _ (then_equal _ _ e)

not_is : (b : Bool) → not b ≡ true → b ≡ false
not_is true e = absurd cc
not_is false e = refl

neither : (o q : Ordering) → o ≡ ordering_reverse q → is_lt o ≡ false → is_lt q ≡ false → o ≡ Equal
neither Less q e a b = absurd (let f : true ≡ false = a in cc)
neither Equal q e a b = refl
neither Greater Less e a b = absurd (let f : true ≡ false = b in cc)
neither Greater Equal e a b = absurd (let f : Greater ≡ Equal = e in cc)
neither Greater Greater e a b = absurd (let f : Greater ≡ Less = e in cc)

tie_key : (s : Option Sort) (z f : Found) → ties (less s) z f ≡ true → is_text z.0 f.0 ≡ true
tie_key s z f tie =
    let both = and_parts (not (less s z f)) (not (less s f z)) tie in
    let equal = neither (ranked s z f) (ranked s f z) ((ranked_total s).antisymm z f) (not_is (less s z f) both.0) (not_is (less s f z) both.1) in
    let same : z.0 ≡ f.0 = exact_bytes z.0 f.0 (same_keys s z f equal) in
    subst (λ (k : List ℕ). is_text z.0 k ≡ true) same (text_refl z.0)

-- lists that have the same rows under each key are one list in order
order_same : (s : Option Sort) (xs ys : List Found) → ((k : List ℕ) → with_key k xs ≡ with_key k ys) → in_order s xs ≡ in_order s ys
order_same s xs ys same = only_one (less s) (less_ranks s) (in_order s xs) (in_order s ys) (order_ascends s xs) (order_ascends s ys) (λ z. order_ties s z xs ∙ (both z ∙ sym (order_ties s z ys)))
  where
    to_key : (z : Found) (fs : List Found) → filter (ties (less s) z) (reverse fs) ≡ reverse (filter (ties (less s) z) (with_key z.0 fs))
    to_key z fs = turned (ties (less s) z) fs ∙ ap reverse (by_key (ties (less s) z) z.0 (λ f tie. tie_key s z f tie) fs)

    both : (z : Found) → filter (ties (less s) z) (reverse xs) ≡ filter (ties (less s) z) (reverse ys)
    both z = to_key z xs ∙ (ap (λ (l : List Found). reverse (filter (ties (less s) z) l)) (same z.0) ∙ sym (to_key z ys))

pub arranged_same : (q : Query) (xs ys : List Found) → ((k : List ℕ) → with_key k xs ≡ with_key k ys) → arranged q xs ≡ arranged q ys
arranged_same q xs ys same = ap (λ (l : List Found). limited q.maximum (drop q.skip l)) (order_same q.sort xs ys same)

-- ---- the rows under keys

abbrev nothing : List Found
nothing = []

abbrev one_if : Bool → Found → List Found
one_if t f = cond t (f ∷ []) []

one_found : (q : Query) (k j : List ℕ) (o : Option Row) → with_key k (found_row q j o) ≡ cond (is_text k j) (found_row q j o) []
one_found q k j None = none (is_text k j)
  where
    none : (t : Bool) → nothing ≡ cond t nothing nothing
    none true = refl
    none false = refl
one_found q k j (Some row) = go (holds q (j, row)) (is_text k j) refl
  where
    go : (h t : Bool) → is_text k j ≡ t → with_key k (cond h ((j, row) ∷ []) []) ≡ cond t (cond h ((j, row) ∷ []) []) []
    go true true e = ap (λ (b : Bool). cond b ((j, row) ∷ []) []) e
    go true false e = ap (λ (b : Bool). cond b ((j, row) ∷ []) []) e
    go false true e = refl
    go false false e = refl

abbrev copies : ℕ → List Found → List Found
copies zero fs = []
copies (suc n) fs = fs ++ copies n fs

more_copies : (q : Query) (rows : Rows) (k j : List ℕ) (n : ℕ) (t : Bool) → is_text k j ≡ t → cond t (found_at q rows j) [] ++ copies n (found_at q rows k) ≡ copies (one t + n) (found_at q rows k)
more_copies q rows k j n true e = ap (λ (l : List ℕ). found_at q rows l ++ copies n (found_at q rows k)) (sym (text_is k j e)) ∙ ap (λ (m : ℕ). copies m (found_at q rows k)) (let f : suc n ≡ 1 + n = omega arith in f)
more_copies q rows k j n false e = ap (λ (m : ℕ). copies m (found_at q rows k)) (let f : n ≡ 0 + n = omega arith in f)

under_key : (q : Query) (rows : Rows) (k : List ℕ) (ks : List (List ℕ)) → with_key k (found_under q rows ks) ≡ copies (times k ks) (found_at q rows k)
under_key q rows k [] = refl
under_key q rows k (j ∷ ks) =
    filter-append (λ (f : Found). is_text k f.0) (found_at q rows j) (found_under q rows ks)
    ∙ (ap (λ (l : List Found). l ++ with_key k (found_under q rows ks)) (one_found q k j (get rows j))
    ∙ (ap (λ (l : List Found). cond (is_text k j) (found_at q rows j) [] ++ l) (under_key q rows k ks)
    ∙ more_copies q rows k j (times k ks) (is_text k j) refl))

once_or_none : (q : Query) (rows : Rows) (k : List ℕ) (n : ℕ) → n ≤ 1 → ((row : Row) → get rows k ≡ Some row → holds q (k, row) ≡ true → 1 ≤ n) → copies n (found_at q rows k) ≡ found_at q rows k
once_or_none q rows k zero few all = go (get rows k) refl
  where
    not_there : (row : Row) (t : Bool) → get rows k ≡ Some row → holds q (k, row) ≡ t → nothing ≡ one_if t (k, row)
    not_there row true is met = absurd (omega (arith, all row is met))
    not_there row false is met = refl

    go : (o : Option Row) → get rows k ≡ o → nothing ≡ found_row q k o
    go None is = refl
    go (Some row) is = not_there row (holds q (k, row)) is refl
once_or_none q rows k (suc zero) few all = append-nil (found_at q rows k)
once_or_none q rows k (suc (suc n)) few all = absurd (omega (arith, few))

-- ---- the rows of a table

abbrev pub R : List ℕ → List ℕ → Ordering
R = slice_cmp nat_cmp

pub not_same : (x y : List ℕ) → is_lt (R x y) ≡ true → is_text x y ≡ false
not_same x y lt = texts_ties x y ∙ less_than (R x y) lt
  where
    less_than : (o : Ordering) → is_lt o ≡ true → is_eq o ≡ false
    less_than Less e = refl
    less_than Equal e = absurd (let f : false ≡ true = e in cc)
    less_than Greater e = refl

-- a key below all others is none of theirs
none_below : (k : List ℕ) (p : Found → Bool) (es : List Found) → below_all R k es ≡ true → with_key k (filter p es) ≡ []
none_below k p [] below = refl
none_below k p (e ∷ es) below =
    let both = and_parts (is_lt (R k e.0)) (below_all R k es) below in
    go (p e) (not_same k e.0 both.0) (none_below k p es both.1)
  where
    go : (b : Bool) → is_text k e.0 ≡ false → with_key k (filter p es) ≡ [] → with_key k (cond b (e ∷ filter p es) (filter p es)) ≡ []
    go true other rest = ap (λ (t : Bool). cond t (e ∷ with_key k (filter p es)) (with_key k (filter p es))) other ∙ rest
    go false other rest = rest

all_found : (q : Query) (k : List ℕ) (es : List Found) → is_sorted R es ≡ true → with_key k (filter (holds q) es) ≡ found_row q k (find R k es)
all_found q k [] sorted = refl
all_found q k (e ∷ es) sorted =
    let both = and_parts (below_all R e.0 es) (is_sorted R es) sorted in
    go (is_text k e.0) refl (holds q e) refl both.0 (all_found q k es both.1) ∙ ap (λ (t : Bool). found_row q k (cond t (Some e.1) (find R k es))) (texts_ties k e.0)
  where
    here : (h : Bool) → k ≡ e.0 → holds q e ≡ h → cond h (e ∷ []) [] ≡ cond (holds q (k, e.1)) ((k, e.1) ∷ []) []
    here h is met =
        ap (λ (t : Bool). cond t (e ∷ []) []) (sym met)
        ∙ sym (ap (λ (l : List ℕ). cond (holds q (l, e.1)) ((l, e.1) ∷ []) []) is)

    go : (t : Bool) → is_text k e.0 ≡ t → (h : Bool) → holds q e ≡ h → below_all R e.0 es ≡ true → with_key k (filter (holds q) es) ≡ found_row q k (find R k es)
        → with_key k (cond h (e ∷ filter (holds q) es) (filter (holds q) es)) ≡ found_row q k (cond t (Some e.1) (find R k es))
    go true is true met below rest =
        ap (λ (b : Bool). cond b (e ∷ with_key k (filter (holds q) es)) (with_key k (filter (holds q) es))) is
        ∙ (ap (λ (l : List Found). e ∷ l) (ap (λ (l : List ℕ). with_key l (filter (holds q) es)) (text_is k e.0 is) ∙ none_below e.0 (holds q) es below)
        ∙ here true (text_is k e.0 is) met)
    go true is false met below rest =
        (ap (λ (l : List ℕ). with_key l (filter (holds q) es)) (text_is k e.0 is) ∙ none_below e.0 (holds q) es below)
        ∙ here false (text_is k e.0 is) met
    go false is true met below rest = ap (λ (b : Bool). cond b (e ∷ with_key k (filter (holds q) es)) (with_key k (filter (holds q) es))) is ∙ rest
    go false is false met below rest = rest

pub is_true : (b : Bool) → T b → b ≡ true
is_true true t = refl
is_true false t = absurd t

still_one : (q : Query) (k : List ℕ) (o : Option Row) → reverse (found_row q k o) ≡ found_row q k o
still_one q k None = refl
still_one q k (Some row) = go (holds q (k, row))
  where
    go : (t : Bool) → reverse (one_if t (k, row)) ≡ one_if t (k, row)
    go true = refl
    go false = refl

-- what is found under keys that have all, in whatever order, is what is found among all rows
pub found_is : (q : Query) (rows : Rows) (ks : List (List ℕ)) → HasAllUnder q rows ks → arranged q (reverse (found_under q rows ks)) ≡ arranged q (filter (holds q) (entries rows))
found_is q rows ks all = arranged_same q (reverse (found_under q rows ks)) (filter (holds q) (entries rows)) (λ k.
    turned (λ (f : Found). is_text k f.0) (found_under q rows ks)
    ∙ (ap reverse (under_key q rows k ks ∙ once_or_none q rows k (times k ks) (all.once k) (λ row is met. all.all k row is met))
    ∙ (still_one q k (get rows k)
    ∙ (ap (found_row q k) (get-entries rows k) ∙ sym (all_found q k (entries rows) (is_true (is_sorted R (entries rows)) (entries_sorted rows)))))))
