-- What putshl and addint make of the value that is held.
use Rattle.std.proofs.Common.{◌≡◌, ◌∙◌, ℕ, Bool, true, false, cond, List, [], ◌++◌, Option, Some, None, option_map, option_and_then, unwrap_or, refl, sym, ap}
use Rattle.std.specs.Prelude.{not}
use Rattle.tc_base.specs.declared.kind.Mode.TheVariants.{Over}
use Rattle.tc_base.specs.declared.request.Reply.TheVariants.{Done, Four}
use Rattle.std.specs.FinMap.{empty}
use Rattle.tc_model.specs.Apply.{Effect}
use Rattle.tc_model.specs.Contents.{Contents, hash, tree, fixed, table, is_narrow, is_table, kind_of}
use Rattle.tc_model.specs.Misc.{tables}
use Rattle.tc_model.specs.Stores.{add, held, put, shift, store, with_sum}
use Rattle.tc_model.specs.Values.{last, spelled, sum_of}
use Rattle.tc_engine.specs.Changes.{stored}
use Rattle.ty_answers.specs.Answers.{changed_by}
use Rattle.ty_answers.specs.Requests.{added, shifted}

-- a sum and the contents with it, as a request's effect
abbrev summed : Option (ℕ × Contents) → Effect
summed o = option_map (λ sum. (sum.1, Four sum.0)) o

shift_is : (c : Contents) (key value : List ℕ) (width : ℕ) → is_table c ≡ false → shift c key value width ≡ store Over c key (last width (unwrap_or (held c key) [] ++ value))
shift_is (hash memory m) key value width t = refl
shift_is (tree memory decimal ps) key value width t = refl
shift_is (fixed w most ids) key value width t = refl
shift_is (table rows indexes) key value width t = absurd cc

-- a table's kind is its own
pub tables_are : (c : Contents) → is_table c ≡ tables (kind_of c)
tables_are (hash true m) = refl
tables_are (hash false m) = refl
tables_are (tree true decimal ps) = refl
tables_are (tree false decimal ps) = refl
tables_are (fixed w most ids) = refl
tables_are (table rows indexes) = refl

pub table_shifts_none : (c : Contents) (key value : List ℕ) (width : ℕ) → is_table c ≡ true → shifted key value width c ≡ None
table_shifts_none (hash memory m) key value width t = absurd cc
table_shifts_none (tree memory decimal ps) key value width t = absurd cc
table_shifts_none (fixed w most ids) key value width t = absurd cc
table_shifts_none (table rows indexes) key value width t = refl

pub shows_shift : (c : Contents) (key value : List ℕ) (width : ℕ) (found : Option (List ℕ)) (after : List ℕ) → is_table c ≡ false → found ≡ held c key → after ≡ last width (unwrap_or found [] ++ value) → changed_by Done (stored Over key after) c ≡ shifted key value width c
shows_shift c key value width found after t is made = ap (λ v. changed_by Done (stored Over key v) c) (made ∙ ap (λ o. last width (unwrap_or o [] ++ value)) is) ∙ ap (λ o. changed_by Done (λ _. o) c) (sym (shift_is c key value width t))

pub not_narrow : (b : Bool) → true ≡ not b → b ≡ false
not_narrow true e = absurd cc
not_narrow false e = refl

pub narrow_adds_none : (c : Contents) (key : List ℕ) (number : ℕ) → is_narrow c ≡ true → added key number c ≡ None
narrow_adds_none (hash memory m) key number n = absurd cc
narrow_adds_none (tree memory decimal ps) key number n = absurd cc
narrow_adds_none (fixed w most ids) key number n = ap (λ b. summed (cond b None (with_sum (fixed w most ids) key number))) n
narrow_adds_none (table rows indexes) key number n = refl

-- a database that isn't narrow
adds : (c : Contents) (key : List ℕ) (number : ℕ) → is_narrow c ≡ false → add c key number ≡ with_sum c key number
adds (hash memory m) key number n = refl
adds (tree memory decimal ps) key number n = refl
adds (fixed w most ids) key number n = ap (λ b. cond b None (with_sum (fixed w most ids) key number)) n
adds (table rows indexes) key number n = absurd cc

put_is : (c : Contents) (key value : List ℕ) → is_narrow c ≡ false → put c key value ≡ store Over c key value
put_is (hash memory m) key value n = refl
put_is (tree memory decimal ps) key value n = refl
put_is (fixed w most ids) key value n = refl
put_is (table rows indexes) key value n = absurd cc

sum_none : (c : Contents) (key : List ℕ) (number : ℕ) (found : Option (List ℕ)) → found ≡ held c key → sum_of found number ≡ None → with_sum c key number ≡ None
sum_none c key number found is none = ap (λ o. option_and_then (λ n. option_map (λ after. (n, after)) (put c key (spelled n))) o) (ap (λ o. sum_of o number) (sym is) ∙ none)

pub no_sum : (c : Contents) (key : List ℕ) (number : ℕ) (found : Option (List ℕ)) → is_narrow c ≡ false → found ≡ held c key → sum_of found number ≡ None → added key number c ≡ None
no_sum c key number found n is none = ap summed (adds c key number n ∙ sum_none c key number found is none)

twice : (n : ℕ) (o : Option Contents) → summed (option_map (λ after. (n, after)) o) ≡ changed_by (Four n) (λ _. o) (hash true empty)
twice n None = refl
twice n (Some d) = refl

pub shows_sum : (c : Contents) (key : List ℕ) (number sum : ℕ) (found : Option (List ℕ)) (value : List ℕ) → is_narrow c ≡ false → found ≡ held c key → sum_of found number ≡ Some sum → value ≡ spelled sum → changed_by (Four sum) (stored Over key value) c ≡ added key number c
shows_sum c key number sum found value n is some spells =
    ap (λ v. changed_by (Four sum) (stored Over key v) c) spells
    ∙ (ap (λ o. changed_by (Four sum) (λ _. o) c) (sym (put_is c key (spelled sum) n))
    ∙ (sym (twice sum (put c key (spelled sum)))
    ∙ ap summed (sym (adds c key number n ∙ ap (λ o. option_and_then (λ n. option_map (λ after. (n, after)) (put c key (spelled n))) o) (ap (λ o. sum_of o number) (sym is) ∙ some)))))
