-- Queries that take rows out.
use Rattle.std.proofs.Common.{◌≡◌, ◌∙◌, ℕ, Bool, true, false, cond, List, [], ◌∷◌, refl, sym, ap, subst}
use Rattle.std.specs.Prelude.{◌&&◌, ◌||◌, ◌==◌, ◌%◌, ◌/◌, nat_lt, codes, filter_map, Option, Some, None, option_map, option_and_then, unwrap_or}
use Rattle.std.specs.List.{list_any, slice_split, onto_first, last_or}
use Rattle.std.specs.Cmp.Lexicographic.{same_text}
use Rattle.tc_base.specs.Texts.{is_text}
use Rattle.tc_engine.specs.Changes.{takes_out}
use Rattle.tc_model.specs.Operators.{is_operator, is_complete}
use Rattle.tc_model.specs.Queries.{Term, condition, ordering, limit, asks, term_of, deed_of, limit_of, ordering_of, way_of, condition_of, terms, made, query_of, as_condition, as_ordering, as_limit, as_deed}
use Rattle.tc_model.specs.Texts.{is_among, parts, count_of, maximum_of}
use Rattle.tc_model.specs.declared.query.Deed.{Deed}
use Rattle.tc_model.specs.declared.query.Deed.TheVariants as deed
use Rattle.tc_model.specs.declared.query.Query.{Query}

-- ---- a text is `out` only where it has one part

abbrev NotEmpty : List (List ℕ) → Type 0
NotEmpty [] = ⊥
NotEmpty (x ∷ xs) = Unit {0}

split_some : (p : ℕ → Bool) (xs : List ℕ) → NotEmpty (slice_split p xs)
split_some p [] = tt
split_some p (x ∷ xs) = go (p x) (slice_split p xs)
  where
    go : (b : Bool) (ps : List (List ℕ)) → NotEmpty (cond b ([] ∷ ps) (onto_first x ps))
    go true ps = tt
    go false [] = tt
    go false (q ∷ ps) = tt

onto_one : (x : ℕ) (ps : List (List ℕ)) (w : List ℕ) → NotEmpty ps → onto_first x ps ≡ w ∷ [] → (v : List ℕ) × (ps ≡ v ∷ []) × (x ∷ v ≡ w)
onto_one x [] w h e = absurd h
onto_one x (q ∷ ps) w h e = (q, cc, cc)

-- two parts are more than one
two_parts : (ps : List (List ℕ)) (w : List ℕ) → NotEmpty ps → [] ∷ ps ≡ w ∷ [] → ⊥
two_parts [] w h e = h
two_parts (q ∷ ps) w h e = cc

one_part : (p : ℕ → Bool) (xs w : List ℕ) → slice_split p xs ≡ w ∷ [] → xs ≡ w
one_part p [] w e = cc
one_part p (x ∷ xs) w e = go (p x) (one_part p xs) e
  where
    go : (b : Bool) → ((v : List ℕ) → slice_split p xs ≡ v ∷ [] → xs ≡ v) → cond b ([] ∷ slice_split p xs) (onto_first x (slice_split p xs)) ≡ w ∷ [] → x ∷ xs ≡ w
    go true rest e = absurd (two_parts (slice_split p xs) w (split_some p xs) e)
    go false rest e = let o = onto_one x (slice_split p xs) w (split_some p xs) e in ap (λ v. x ∷ v) (rest o.0 o.1) ∙ o.2

-- ---- the deed of a query is `out` just where that is among its arguments

abbrev is_out : Deed → Bool
is_out deed.Out = true
is_out _ = false

abbrev asks_out : Option Term → Bool
asks_out (Some (asks deed.Out)) = true
asks_out _ = false

-- only the word itself asks for it
deed_out : (word : List ℕ) → asks_out (deed_of word) ≡ true → is_text word (codes "out") ≡ true
deed_out word = go (is_text word (codes "get")) (is_text word (codes "out")) (is_text word (codes "count"))
  where
    go : (a b d : Bool) → asks_out (cond a (Some (asks deed.Get)) (cond b (Some (asks deed.Out)) (cond d (Some (asks deed.Count)) None))) ≡ true → b ≡ true
    go a true d e = refl
    go true false d e = absurd cc
    go false false true e = absurd cc
    go false false false e = absurd cc

limit_asks : (m : List ℕ) (skip : Option ℕ) → asks_out (limit_of m skip) ≡ false
limit_asks m skip = go (maximum_of m) skip
  where
    go : (a : Option (Option ℕ)) (b : Option ℕ) → asks_out (option_and_then (λ most. option_map (λ n. limit most n) b) a) ≡ false
    go None b = refl
    go (Some a) None = refl
    go (Some a) (Some b) = refl

ordering_asks : (c t : List ℕ) → asks_out (ordering_of c t) ≡ false
ordering_asks c t = go (way_of t)
  where
    go : (w : Option ℕ) → asks_out (option_map (λ way. ordering (record { column = c; way = way })) w) ≡ false
    go None = refl
    go (Some w) = refl

condition_asks : (c e : List ℕ) (n : ℕ) → asks_out (condition_of c e n) ≡ false
condition_asks c e n = go (nat_lt n 67108864 && (is_operator (n % 16777216) && is_complete (n % 16777216) e))
  where
    go : (b : Bool) → asks_out (cond b (Some (condition (record { column = c; operator = n % 16777216; negated = n / 16777216 % 2 == 1; unindexed = n / 33554432 == 1; expression = e }))) None) ≡ false
    go true = refl
    go false = refl

OneWord : List (List ℕ) → Type 0
OneWord ps = (w : List ℕ) × (ps ≡ w ∷ []) × (is_text w (codes "out") ≡ true)

term_out : (ps : List (List ℕ)) → asks_out (term_of ps) ≡ true → OneWord ps
unfolding OneWord
term_out [] e = absurd cc
term_out (w ∷ []) e = (w, refl, deed_out w e)
term_out (w ∷ a ∷ []) e = go (is_text w (codes "setlimit")) e
  where
    go : (b : Bool) → asks_out (cond b (limit_of a (Some 0)) None) ≡ true → OneWord (w ∷ a ∷ [])
    go true e = absurd (let h = limit_asks a (Some 0) in cc)
    go false e = absurd cc
term_out (w ∷ a ∷ b ∷ []) e = go (is_text w (codes "setlimit")) (is_text w (codes "setorder")) e
  where
    go : (s t : Bool) → asks_out (cond s (limit_of a (count_of b)) (cond t (ordering_of a b) None)) ≡ true → OneWord (w ∷ a ∷ b ∷ [])
    go true t e = absurd (let h = limit_asks a (count_of b) in cc)
    go false true e = absurd (let h = ordering_asks a b in cc)
    go false false e = absurd cc
term_out (w ∷ column ∷ operator ∷ expression ∷ []) e = go (is_text w (codes "addcond")) (count_of operator) e
  where
    go : (s : Bool) (n : Option ℕ) → asks_out (cond s (option_and_then (condition_of column expression) n) None) ≡ true → OneWord (w ∷ column ∷ operator ∷ expression ∷ [])
    go true None e = absurd cc
    go true (Some n) e = absurd (let h = condition_asks column expression n in cc)
    go false n e = absurd cc
term_out (w ∷ a ∷ b ∷ d ∷ f ∷ rest) e = absurd cc

arg_out : (arg : List ℕ) → asks_out (term_of (parts arg)) ≡ true → is_text (codes "out") arg ≡ true
unfolding OneWord
arg_out arg e =
    let o = term_out (parts arg) e in
    let same : arg ≡ codes "out" = one_part (λ b. b == 0) arg o.0 o.1 ∙ same_text o.0 (codes "out") (sym o.2) in
    ap (is_text (codes "out")) same

-- what is read of the first argument and of the others
Read : Option Term → Option (List Term) → List Term → Type 0
Read o u ts = (t : Term) × (us : List Term) × (o ≡ Some t) × (u ≡ Some us) × (t ∷ us ≡ ts)

read_both : (o : Option Term) (u : Option (List Term)) (ts : List Term) → option_and_then (λ t. option_map (λ us. t ∷ us) u) o ≡ Some ts → Read o u ts
unfolding Read
read_both None u ts e = absurd cc
read_both (Some t) None ts e = absurd cc
read_both (Some t) (Some us) ts e = (t, us, refl, refl, cc)

abbrev has_out : List Term → Bool
has_out ts = list_any is_out (filter_map as_deed ts)

out_read : (arg : List ℕ) (t : Term) → is_text (codes "out") arg ≡ true → term_of (parts arg) ≡ Some t → asks_out (Some t) ≡ true
out_read arg t is reads = let k : Some (asks deed.Out) ≡ Some t = ap (λ a. term_of (parts a)) (same_text (codes "out") arg (sym is)) ∙ reads in ap asks_out (sym k)

one_arg : (arg : List ℕ) (t : Term) → term_of (parts arg) ≡ Some t → asks_out (Some t) ≡ is_text (codes "out") arg
one_arg arg t reads = go (asks_out (Some t)) (is_text (codes "out") arg) refl refl
  where
    go : (a b : Bool) → asks_out (Some t) ≡ a → is_text (codes "out") arg ≡ b → a ≡ b
    go true true asked is = refl
    go true false asked is = sym (arg_out arg (ap asks_out reads ∙ asked)) ∙ is
    go false true asked is = sym asked ∙ out_read arg t is reads
    go false false asked is = refl

first_out : (t : Term) (us : List Term) → has_out (t ∷ us) ≡ (asks_out (Some t) || has_out us)
first_out (condition x) us = refl
first_out (ordering x) us = refl
first_out (limit x y) us = refl
first_out (asks deed.Keys) us = refl
first_out (asks deed.Get) us = refl
first_out (asks deed.Out) us = refl
first_out (asks deed.Count) us = refl

outs : (args : List (List ℕ)) (ts : List Term) → terms args ≡ Some ts → has_out ts ≡ is_among (codes "out") args
unfolding Read
outs [] ts e = let same : [] ≡ ts = cc in ap has_out (sym same)
outs (arg ∷ args) ts e =
    let r = read_both (term_of (parts arg)) (terms args) ts e in
    ap has_out (sym r.4) ∙ (first_out r.0 r.1 ∙ (λ i. one_arg arg r.0 r.2 i || outs args r.1 r.3 i))

or_false : (b : Bool) → b ≡ (b || false)
or_false true = refl
or_false false = refl

made_out : (ts : List Term) (ds : List Deed) (l : Option ℕ × ℕ) (q : Query) → made ts ds l ≡ Some q → is_out q.deed ≡ list_any is_out ds
made_out ts [] l q e = let same : record { conds = filter_map as_condition ts; sort = last_or None (filter_map as_ordering ts); maximum = l.0; skip = l.1; deed = deed.Keys } ≡ q = cc in ap (λ (x : Query). is_out x.deed) (sym same)
made_out ts (d ∷ []) l q e =
    let same : record { conds = filter_map as_condition ts; sort = last_or None (filter_map as_ordering ts); maximum = l.0; skip = l.1; deed = d } ≡ q = cc in
    ap (λ (x : Query). is_out x.deed) (sym same) ∙ or_false (is_out d)
made_out ts (d ∷ f ∷ ds) l q e = absurd cc

query_out : (args : List (List ℕ)) (q : Query) → query_of args ≡ Some q → is_out q.deed ≡ takes_out args
unfolding query_of
query_out args q e = go (terms args) (outs args) e
  where
    go : (o : Option (List Term)) → ((ts : List Term) → o ≡ Some ts → has_out ts ≡ is_among (codes "out") args) → option_and_then (λ ts. made ts (filter_map as_deed ts) (unwrap_or (last_or None (filter_map as_limit ts)) (None, 0))) o ≡ Some q → is_out q.deed ≡ takes_out args
    go None outs e = absurd cc
    go (Some ts) outs e = made_out ts (filter_map as_deed ts) (unwrap_or (last_or None (filter_map as_limit ts)) (None, 0)) q e ∙ outs ts refl

pub deed_is_out : (args : List (List ℕ)) (q : Query) → query_of args ≡ Some q → takes_out args ≡ true → q.deed ≡ deed.Out
deed_is_out args q e takes = only (q.deed) (query_out args q e ∙ takes)
  where
    only : (d : Deed) → is_out d ≡ true → d ≡ deed.Out
    only deed.Out is = refl
    only deed.Keys is = absurd (let bad : false ≡ true = is in cc)
    only deed.Get is = absurd (let bad : false ≡ true = is in cc)
    only deed.Count is = absurd (let bad : false ≡ true = is in cc)

pub out_is_asked : (args : List (List ℕ)) (q : Query) → query_of args ≡ Some q → q.deed ≡ deed.Out → takes_out args ≡ true
out_is_asked args q e is = sym (query_out args q e) ∙ ap is_out is

pub never_asked : (args : List (List ℕ)) (q : Query) → query_of args ≡ Some q → takes_out args ≡ false → q.deed ≡ deed.Out → ⊥
never_asked args q e plain is = absurd (let bad : true ≡ false = sym (out_is_asked args q e is) ∙ plain in cc)
