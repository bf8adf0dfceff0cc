-- Rows that are read one by one, and what is found of them.
use Rattle.std.proofs.Common.{◌≡◌, ◌∙◌, ℕ, ◌+◌, ◌-◌, ◌^◌, ◌<◌, ◌≤◌, Bool, true, false, cond, List, [], ◌∷◌, ◌++◌, length, take, get_or, reverse, Option, Some, None, refl, sym, ap, subst, arith, inl, inr, ⊎_elim}
use Rattle.std.specs.Prelude.{flat_map, min}
use Rattle.std.specs.FinMap.{get}
use Rattle.std.proofs.lemmas.Bool.{cases_lt}
use Rattle.std.proofs.lemmas.List.{append-nil, take_all}
use Rattle.tc_model.specs.Contents.{Rows}
use Rattle.tc_model.specs.Rows.{Row}
use Rattle.tc_model.specs.Search.{Found, arranged, found, holds}
use Rattle.tc_model.specs.declared.query.Query.{Query}
use Rattle.tc_space.specs.Stores.{Ticks}
use Rattle.td_index.proofs.Listed.{up_to}
use Rattle.tc_table.specs.Searching.{AreOne, HasAllUnder, found_at, found_row, found_under}
use Rattle.tc_table.proofs.Finding.{found_is}

behind : (xs ys zs : List Found) → (xs ++ ys) ++ zs ≡ xs ++ (ys ++ zs)
behind [] ys zs = refl
behind (x ∷ xs) ys zs = ap (λ (l : List Found). x ∷ l) (behind xs ys zs)

push : (f : List ℕ → List Found) (xs : List (List ℕ)) (x : List ℕ) → flat_map f (xs ++ x ∷ []) ≡ flat_map f xs ++ f x
push f [] x = append-nil (f x)
push f (y ∷ xs) x = ap (λ (l : List Found). f y ++ l) (push f xs x) ∙ sym (behind (f y) (flat_map f xs) (f x))

-- the rows under one key more
pub under_more : (q : Query) (rows : Rows) (ks : List (List ℕ)) (i : ℕ) (k at : List ℕ) (row : Option Row) → i < length ks → k ≡ get_or ks i k → at ≡ k → row ≡ get rows at → found_under q rows (take (i + 1) ks) ≡ found_under q rows (take i ks) ++ found_row q at row
under_more q rows ks i k at row less is same got = ap (found_under q rows) (up_to ks i k at less is same) ∙ (push (found_at q rows) (take i ks) at ∙ ap (λ (o : Option Row). found_under q rows (take i ks) ++ found_row q at o) (sym got))

-- one row more
pub one_more : (q : Query) (rows : Rows) (ks : List (List ℕ)) (i : ℕ) (k at : List ℕ) (row : Option Row) (xs next : List Found) → i < length ks → k ≡ get_or ks i k → at ≡ k → row ≡ get rows at
    → AreOne q xs (found_under q rows (take i ks)) → AreOne q next (xs ++ found_row q at row) → AreOne q next (found_under q rows (take (i + 1) ks))
one_more q rows ks i k at row xs next less is same got so step more =
    step more
    ∙ (ap (λ (l : List Found). arranged q (reverse l)) (behind xs (found_row q at row) more)
    ∙ (so (found_row q at row ++ more)
    ∙ ap (λ (l : List Found). arranged q (reverse l)) (sym (behind (found_under q rows (take i ks)) (found_row q at row) more) ∙ ap (λ (l : List Found). l ++ more) (sym under))))
  where
    under : found_under q rows (take (i + 1) ks) ≡ found_under q rows (take i ks) ++ found_row q at row
    under = under_more q rows ks i k at row less is same got

pub all_found : (q : Query) (rows : Rows) (ks : List (List ℕ)) (i : ℕ) (xs : List Found) → length ks ≤ i → AreOne q xs (found_under q rows (take i ks)) → arranged q (reverse xs) ≡ arranged q (reverse (found_under q rows ks))
all_found q rows ks i xs all so =
    let full : AreOne q xs (found_under q rows ks) = subst (λ (l : List (List ℕ)). AreOne q xs (found_under q rows l)) (take_all i ks all) so in
    ap (λ (l : List Found). arranged q (reverse l)) (sym (append-nil xs)) ∙ (full [] ∙ ap (λ (l : List Found). arranged q (reverse l)) (append-nil (found_under q rows ks)))

-- a row that isn't asked for, one that is, and none
pub not_asked : (q : Query) (key : List ℕ) (row : Row) (o : Option Row) (xs : List Found) → o ≡ Some row → holds q (key, row) ≡ false → AreOne q xs (xs ++ found_row q key o)
not_asked q key row o xs is none more =
    ap (λ (l : List Found). arranged q (reverse (l ++ more))) (sym (append-nil xs) ∙ ap (λ (l : List Found). xs ++ l) (sym (ap (found_row q key) is ∙ ap (λ (b : Bool). cond b ((key, row) ∷ []) []) none)))

pub is_asked : (q : Query) (key at : List ℕ) (row : Row) (o : Option Row) (xs next : List Found) → o ≡ Some row → holds q (key, row) ≡ true → at ≡ key → next ≡ xs ++ (at, row) ∷ [] → next ≡ xs ++ found_row q key o
is_asked q key at row o xs next is asked same made =
    made ∙ (ap (λ (l : List ℕ). xs ++ (l, row) ∷ []) same ∙ ap (λ (l : List Found). xs ++ l) (sym (ap (found_row q key) is ∙ ap (λ (b : Bool). cond b ((key, row) ∷ []) []) asked)))

pub none_asked : (q : Query) (key : List ℕ) (o : Option Row) (xs : List Found) → o ≡ None → AreOne q xs (xs ++ found_row q key o)
none_asked q key o xs is more = ap (λ (l : List Found). arranged q (reverse (l ++ more))) (sym (append-nil xs) ∙ ap (λ (p : Option Row). xs ++ found_row q key p) (sym is))

-- what is found of the rows under keys that have all
pub found_all : (q : Query) (rows : Rows) (ks : List (List ℕ)) (xs fs : List Found) → HasAllUnder q rows ks → arranged q (reverse xs) ≡ arranged q (reverse (found_under q rows ks)) → fs ≡ arranged q (reverse xs) → fs ≡ found q rows
unfolding found
found_all q rows ks xs fs all same is = is ∙ (same ∙ found_is q rows ks all)

-- where a row is asked for, and those that are kept are found in one with it
pub as_one : (q : Query) (xs ys zs : List Found) → ys ≡ zs → AreOne q xs ys → AreOne q xs zs
as_one q xs ys zs is one = subst (AreOne q xs) is one

-- ---- gets that are counted

pub ticks_refl : (g s : ℕ) → Ticks g g s s
ticks_refl g s = record { rises = omega arith; enough = inl (omega arith) }

-- one get more, and one step
pub ticks_one : (g h i s t u : ℕ) → t < 2 ^ 64 → Ticks g h s t → u ≡ min (t + 1) (2 ^ 64 - 1) → i ≡ min (h + 1) (2 ^ 64 - 1) → Ticks g i s u
ticks_one g h i s t u small first step got = record {
  rises = omega (arith, first.rises, small, step);
  enough = ⊎_elim
      (λ (so_far : h + s ≤ g + t). ⊎_elim (λ (room : t + 1 < 2 ^ 64 - 1). inl (omega (arith, so_far, room, step, got))) (λ (full : 2 ^ 64 - 1 ≤ t + 1). inr (omega (arith, full, step))) (cases_lt (t + 1) (2 ^ 64 - 1)))
      (λ (full : 2 ^ 64 - 1 ≤ t). inr (omega (arith, full, step)))
      first.enough;
}

-- where none was made before
pub ticks_from : (g h i s t : ℕ) → h ≡ g → Ticks h i s t → Ticks g i s t
ticks_from g h i s t same ticks = subst (λ (n : ℕ). Ticks n i s t) same ticks

pub ticks_kept : (g h s : ℕ) → h ≡ g → Ticks g h s s
ticks_kept g h s same = record { rises = omega arith; enough = inl (omega (arith, same)) }
