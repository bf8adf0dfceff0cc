-- The arguments of a search: texts of parts with zero bytes between.
use Rattle.std.specs.Prelude.{ℕ, ◌/◌, ◌%◌, ◌&&◌, ◌==◌, List, [], ◌∷◌, codes, filter_map, Option, Some, None, option_map, option_and_then, unwrap_or, nat_lt, if◌then◌else◌}
use Rattle.std.specs.List.{last_or}
use Rattle.tc_model.specs.declared.query.Query.{Query}
use Rattle.tc_model.specs.declared.query.Cond.{Cond}
use Rattle.tc_model.specs.declared.query.Sort.{Sort}
use Rattle.tc_model.specs.declared.query.Deed.{Deed}
use Rattle.tc_model.specs.declared.query.Deed.TheVariants as deed
use Rattle.tc_model.specs.Operators.{is_operator, is_complete}
use Rattle.tc_base.specs.Texts.{is_text}
use Rattle.tc_model.specs.Texts.{count_of, maximum_of, parts}

-- what one argument is
pub data Term : Type 0 where
  condition : (cond : Cond) → Term
  ordering : (sort : Sort) → Term
  limit : (maximum : Option ℕ) (skip : ℕ) → Term
  asks : (deed : Deed) → Term

-- adding 2 ^ 24 to an operator negates, adding 2 ^ 25 forbids an index
abbrev pub condition_of : List ℕ → List ℕ → ℕ → Option Term
condition_of column expression n =
    if nat_lt n 67108864 && (is_operator (n % 16777216) && is_complete (n % 16777216) expression)
    then Some (condition (record { column = column; operator = n % 16777216; negated = n / 16777216 % 2 == 1; unindexed = n / 33554432 == 1; expression = expression }))
    else None

-- the types of orders: string up and down, number up and down
abbrev pub way_of : List ℕ → Option ℕ
way_of text =
    if is_text text (codes "0") then Some 0
    else (if is_text text (codes "1") then Some 1
    else (if is_text text (codes "2") then Some 2
    else (if is_text text (codes "3") then Some 3 else None)))

abbrev pub ordering_of : List ℕ → List ℕ → Option Term
ordering_of column text = option_map (λ way. ordering (record { column = column; way = way })) (way_of text)

abbrev pub limit_of : List ℕ → Option ℕ → Option Term
limit_of maximum skip = option_and_then (λ most. option_map (λ n. limit most n) skip) (maximum_of maximum)

abbrev pub deed_of : List ℕ → Option Term
deed_of word =
    if is_text word (codes "get") then Some (asks deed.Get)
    else (if is_text word (codes "out") then Some (asks deed.Out)
    else (if is_text word (codes "count") then Some (asks deed.Count) else None))

abbrev pub term_of : List (List ℕ) → Option Term
term_of (word ∷ []) = deed_of word
term_of (word ∷ a ∷ []) = if is_text word (codes "setlimit") then limit_of a (Some 0) else None
term_of (word ∷ a ∷ b ∷ []) =
    if is_text word (codes "setlimit") then limit_of a (count_of b) else (if is_text word (codes "setorder") then ordering_of a b else None)
term_of (word ∷ column ∷ operator ∷ expression ∷ []) = if is_text word (codes "addcond") then option_and_then (condition_of column expression) (count_of operator) else None
term_of _ = None

-- each of the arguments is one
abbrev pub terms : List (List ℕ) → Option (List Term)
terms [] = Some []
terms (arg ∷ args) = option_and_then (λ t. option_map (λ ts. t ∷ ts) (terms args)) (term_of (parts arg))

-- ---- the query that they make: conditions in order, the last order and the last limit, and one deed at most

abbrev pub as_condition : Term → Option Cond
as_condition (condition c) = Some c
as_condition _ = None

abbrev pub as_ordering : Term → Option Sort
as_ordering (ordering s) = Some s
as_ordering _ = None

abbrev pub as_limit : Term → Option (Option ℕ × ℕ)
as_limit (limit maximum skip) = Some (maximum, skip)
as_limit _ = None

abbrev pub as_deed : Term → Option Deed
as_deed (asks d) = Some d
as_deed _ = None

abbrev pub made : List Term → List Deed → Option ℕ × ℕ → Option Query
made ts [] l = Some (record { conds = filter_map as_condition ts; sort = last_or None (filter_map as_ordering ts); maximum = l.0; skip = l.1; deed = deed.Keys })
made ts (d ∷ []) l = Some (record { conds = filter_map as_condition ts; sort = last_or None (filter_map as_ordering ts); maximum = l.0; skip = l.1; deed = d })
made ts _ l = None

unfoldable pub query_of : List (List ℕ) → Option Query
query_of args = option_and_then (λ ts. made ts (filter_map as_deed ts) (unwrap_or (last_or None (filter_map as_limit ts)) (None, 0))) (terms args)
