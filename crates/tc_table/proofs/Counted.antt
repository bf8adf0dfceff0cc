-- How many rows a query finds.
use Rattle.std.proofs.Common.{◌≡◌, ◌∙◌, ℕ, suc, ◌+◌, ◌-◌, ◌<◌, ◌≤◌, Bool, true, false, cond, List, [], ◌∷◌, ◌++◌, length, take, get_or, reverse, Option, Some, None, refl, sym, ap, subst, arith}
use Rattle.std.specs.Prelude.{drop}
use Rattle.std.specs.FinMap.{get}
use Rattle.std.specs.Ordering.{is_lt}
use Rattle.std.proofs.lemmas.List.{length-append, length-drop, length-reverse, length-take, take_all}
use Rattle.tc_model.specs.Contents.{Rows}
use Rattle.tc_model.specs.Rows.{Row}
use Rattle.tc_model.specs.Search.{Found, arranged, found, holds, in_order, limited, placed, ranked}
use Rattle.tc_model.specs.declared.query.Query.{Query}
use Rattle.tc_model.specs.declared.query.Sort.{Sort}
use Rattle.td_index.specs.Entries.{one}
use Rattle.tc_table.specs.Searching.{HasAllUnder, found_row, found_under, kept, most_of}
use Rattle.tc_table.proofs.Finding.{found_is}
use Rattle.tc_table.proofs.Gathering.{under_more}

-- ---- sorted, skipped and limited

one_placed : (s : Option Sort) (f : Found) (gs : List Found) → length (placed s f gs) ≡ suc (length gs)
one_placed s f [] = refl
one_placed s f (g ∷ gs) = go (is_lt (ranked s f g)) (one_placed s f gs)
  where
    go : (b : Bool) → length (placed s f gs) ≡ suc (length gs) → length (cond b (f ∷ g ∷ gs) (g ∷ placed s f gs)) ≡ suc (suc (length gs))
    go true rest = refl
    go false rest = ap suc rest

all_placed : (s : Option Sort) (fs : List Found) → length (in_order s fs) ≡ length fs
all_placed s [] = refl
all_placed s (f ∷ fs) = one_placed s f (in_order s fs) ∙ ap suc (all_placed s fs)

most_kept : (o : Option ℕ) (fs : List Found) → length (limited o fs) ≡ most_of o (length fs)
most_kept None fs = refl
most_kept (Some n) fs = length-take n fs

so_many : (q : Query) (fs : List Found) → length (arranged q fs) ≡ kept q (length fs)
so_many q fs = most_kept q.maximum (drop q.skip (in_order q.sort fs)) ∙ ap (most_of q.maximum) (length-drop q.skip (in_order q.sort fs) ∙ ap (λ (n : ℕ). n - q.skip) (all_placed q.sort fs))

-- ---- rows that are read one by one

-- one that is there
one_or_none : (f : Found) (b t : Bool) → t ≡ b → one b ≡ length (cond t (f ∷ []) [])
one_or_none f true t is = ap (λ (x : Bool). length (cond x (f ∷ []) [])) (sym is)
one_or_none f false t is = ap (λ (x : Bool). length (cond x (f ∷ []) [])) (sym is)

pub asked_or_not : (q : Query) (key : List ℕ) (row : Row) (b : Bool) → holds q (key, row) ≡ b → one b ≡ length (found_row q key (Some row))
asked_or_not q key row b is = one_or_none (key, row) b (holds q (key, row)) is

pub one_counted : (q : Query) (rows : Rows) (ks : List (List ℕ)) (i : ℕ) (k at : List ℕ) (row : Option Row) (n m : ℕ) → i < length ks → k ≡ get_or ks i k → at ≡ k → row ≡ get rows at
    → n ≡ length (found_under q rows (take i ks)) → m ≡ length (found_row q at row) → n + m ≡ length (found_under q rows (take (i + 1) ks))
one_counted q rows ks i k at row n m less is same got so more =
    let under : length (found_under q rows (take (i + 1) ks)) ≡ length (found_under q rows (take i ks)) + length (found_row q at row) = ap length (under_more q rows ks i k at row less is same got) ∙ length-append (found_under q rows (take i ks)) (found_row q at row) in
    omega (arith, so, more, under)

pub all_counted : (q : Query) (rows : Rows) (ks : List (List ℕ)) (i n : ℕ) → length ks ≤ i → n ≡ length (found_under q rows (take i ks)) → n ≡ length (found_under q rows ks)
all_counted q rows ks i n all so = subst (λ (l : List (List ℕ)). n ≡ length (found_under q rows l)) (take_all i ks all) so

-- as many as are found among all rows
pub found_counted : (q : Query) (rows : Rows) (ks : List (List ℕ)) (n m : ℕ) → HasAllUnder q rows ks → n ≡ length (found_under q rows ks) → m ≡ kept q n → m ≡ length (found q rows)
unfolding found
found_counted q rows ks n m all is of =
    of
    ∙ (ap (kept q) (is ∙ sym (length-reverse (found_under q rows ks)))
    ∙ (sym (so_many q (reverse (found_under q rows ks))) ∙ ap length (found_is q rows ks all)))
