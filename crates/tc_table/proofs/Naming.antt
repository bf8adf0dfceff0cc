-- Which rows the keys of an index's tree name.
use Rattle.std.proofs.Common.{◌≡◌, ◌↔◌, ◌∙◌, ℕ, ◌+◌, ◌<◌, ◌≤◌, Bool, true, false, cond, List, [], ◌∷◌, ◌++◌, length, take, get_or, Option, Some, None, refl, sym, ap, subst, arith}
use Rattle.std.specs.Prelude.{◌&&◌, ◌||◌, filter, is_some, option_map}
use Rattle.std.specs.FinMap.{get, keys}
use Rattle.std.specs.List.{list_all, list_any}
use Rattle.std.proofs.lemmas.List.{take_all}
use Rattle.tc_base.specs.Texts.{is_text}
use Rattle.tc_base.specs.declared.order.Side.{Side}
use Rattle.tc_base.specs.declared.order.Side.TheVariants.{Before, Inside, After}
use Rattle.tc_base.specs.declared.seq.Pair.{Pair}
use Rattle.tc_space.specs.Changes.{is_inside}
use Rattle.tc_space.specs.declared.multi.Multi as multi
use Rattle.bt_order.specs.Values.{side_valued}
use Rattle.tc_model.specs.Contents.{Rows}
use Rattle.tc_model.specs.Indexes.{firsts}
use Rattle.tc_model.specs.Operators.{all_tokens, meets, some_token}
use Rattle.tc_model.specs.Rows.{Row, column}
use Rattle.tc_model.specs.Texts.{distinct, is_among, tokens}
use Rattle.tc_model.specs.Well.{AreRows}
use Rattle.tc_model.specs.declared.query.Cond.{Cond}
use Rattle.tc_model.specs.declared.query.IndexKind.{IndexKind}
use Rattle.tc_model.specs.declared.query.IndexKind.TheVariants as kinds
use Rattle.td_index.specs.Entries.{AreOwed, Firsts, entry, has_zero, one, times}
use Rattle.td_index.specs.Ranges.{candidates, passing}
use Rattle.td_index.proofs.Counting.{text_is, text_refl, times_append}
use Rattle.td_index.proofs.Keyed.{times_keys}
use Rattle.td_index.proofs.Listed.{up_to}
use Rattle.td_index.proofs.Ranging.{range_times}
use Rattle.td_plan.proofs.Covering.{valued}
use Rattle.td_plan.specs.Choices.{asks_all}
use Rattle.td_plan.specs.Spans.{IsWithin}
use Rattle.td_row.specs.Spelling.{row_bytes}
use Rattle.td_token.proofs.Coming.{distinct_has}
use Rattle.tc_table.specs.Parts.{parts_of, parts_of_row, parts_of_value}
use Rattle.tc_table.specs.Searching.{AreAsked, AreCounted, AreLeft, AreNamed, count_among, has_asked, has_tokens, is_named_at}
use Rattle.tc_table.specs.Valued.{got_valued, keys_valued, with_values}
use Rattle.tc_table.proofs.Testing.{all_distinct, any_distinct}
use Rattle.tc_table.specs.Wholes.{distinct_once, once_value, parts_some, row_whole}

-- ---- the keys of rows

there : (o : Option Row) → is_some (option_map row_bytes o) ≡ is_some o
there None = refl
there (Some row) = refl

pub times_rows : (rows : Rows) (k : List ℕ) → times k (keys rows) ≡ one (is_some (get rows k))
times_rows rows k =
    ap (times k) (sym (keys_valued row_bytes rows)) ∙ (times_keys (with_values row_bytes rows) k ∙ ap one (ap is_some (got_valued row_bytes rows k) ∙ there (get rows k)))

pub one_few : (b : Bool) → one b ≤ 1
one_few true = omega arith
one_few false = omega arith

pub rows_once : (rows : Rows) (k : List ℕ) → times k (keys rows) ≤ 1
rows_once rows k = omega (arith, times_rows rows k, one_few (is_some (get rows k)))

pub no_parts : (kind : IndexKind) (name : List ℕ) (rows : Rows) (k : List ℕ) → times k (keys rows) ≡ 0 → parts_of kind name rows k ≡ []
no_parts kind name rows k none = go (get rows k) (omega (arith, times_rows rows k, none))
  where
    go : (o : Option Row) → one (is_some o) ≡ 0 → parts_of_row kind name o ≡ []
    go None e = refl
    go (Some row) e = absurd (omega (arith, e))

pub whole_parts : (kind : IndexKind) (name : List ℕ) (rows : Rows) → AreRows rows → (k f : List ℕ) → 1 ≤ times f (parts_of kind name rows k) → has_zero f ≡ false
whole_parts kind name rows are k f some = go (get rows k) refl some
  where
    go : (o : Option Row) → get rows k ≡ o → 1 ≤ times f (parts_of_row kind name o) → has_zero f ≡ false
    go None e some = absurd (omega (arith, some))
    go (Some row) e some = row_whole kind name f row (are k row e) some

pub once_parts : (kind : IndexKind) (name : List ℕ) (rows : Rows) (k f : List ℕ) → times f (parts_of kind name rows k) ≤ 1
once_parts kind name rows k f = go (get rows k)
  where
    go : (o : Option Row) → times f (parts_of_row kind name o) ≤ 1
    go None = omega arith
    go (Some row) = once_value kind (column row name) f

-- ---- the keys inside a stretch

inside_is : (o : Side) (b : Bool) → (o ≡ Inside) ↔ (b ≡ true) → is_inside o ≡ b
inside_is Before true h = absurd (let e : Before ≡ Inside = h.1 refl in cc)
inside_is Before false h = refl
inside_is Inside true h = refl
inside_is Inside false h = sym (h.0 refl)
inside_is After true h = absurd (let e : After ≡ Inside = h.1 refl in cc)
inside_is After false h = refl

pub inside_times : (side : List ℕ → Side) (test : List ℕ → Bool) → ((v q : List ℕ) → has_zero v ≡ false → (side (entry v q) ≡ Inside) ↔ (test v ≡ true)) → (kind : IndexKind) (name : List ℕ) (rows : Rows) (ps : List Pair) → AreRows rows → AreOwed (parts_of kind name rows) ps
    → (k : List ℕ) → times k (candidates side ps) ≡ passing test (parts_of kind name rows k)
inside_times side test agrees kind name rows ps are owed k =
    range_times side test k (λ v q whole. inside_is (side (entry v q)) (test v) (agrees v q whole)) (parts_of kind name rows) (keys rows) ps owed (rows_once rows) (no_parts kind name rows) (whole_parts kind name rows are)

-- ---- values

plus_none : (n : ℕ) → n + 0 ≡ n
plus_none n = omega arith

-- of an index that has the value itself
alone : (kind : IndexKind) (c : Cond) (o : Option (List ℕ)) → ((v : List ℕ) → firsts kind v ≡ v ∷ []) → passing (λ v. meets c.operator (Some v) c.expression) (parts_of_value kind o) ≡ one (meets c.operator o c.expression)
alone kind c None itself = refl
alone kind c (Some v) itself = ap (passing (λ w. meets c.operator (Some w) c.expression)) (sym (parts_some kind v) ∙ itself v) ∙ plus_none (one (meets c.operator (Some v) c.expression))

lexical_row : (c : Cond) (o : Option Row) → passing (λ v. meets c.operator (Some v) c.expression) (parts_of_row kinds.Lexical c.column o) ≡ one (is_named_at kinds.Lexical c o)
lexical_row c None = refl
lexical_row c (Some row) = alone kinds.Lexical c (column row c.column) (λ v. refl)

decimal_row : (c : Cond) (o : Option Row) → passing (λ v. meets c.operator (Some v) c.expression) (parts_of_row kinds.Decimal c.column o) ≡ one (is_named_at kinds.Decimal c o)
decimal_row c None = refl
decimal_row c (Some row) = alone kinds.Decimal c (column row c.column) (λ v. refl)

pub lexical_named : (c : Cond) (side : List ℕ → Side) (rows : Rows) (ps : List Pair) (ks : List (List ℕ)) → ks ≡ candidates side ps → AreRows rows → IsWithin side c.operator c.expression → AreOwed (parts_of kinds.Lexical c.column rows) ps → AreNamed kinds.Lexical c rows ks
lexical_named c side rows ps ks is are within owed k =
    ap (times k) is ∙ (inside_times side (λ v. meets c.operator (Some v) c.expression) (λ v q whole. within v q whole) kinds.Lexical c.column rows ps are owed k ∙ lexical_row c (get rows k))

pub decimal_named : (c : Cond) (side : List ℕ → Side) (rows : Rows) (ps : List Pair) (ks : List (List ℕ)) → ks ≡ candidates side ps → AreRows rows → IsWithin side c.operator c.expression → AreOwed (parts_of kinds.Decimal c.column rows) ps → AreNamed kinds.Decimal c rows ks
decimal_named c side rows ps ks is are within owed k =
    ap (times k) is ∙ (inside_times side (λ v. meets c.operator (Some v) c.expression) (λ v q whole. within v q whole) kinds.Decimal c.column rows ps are owed k ∙ decimal_row c (get rows k))

-- ---- tokens

pub turned : (a b : List ℕ) → is_text a b ≡ is_text b a
turned a b = go (is_text a b) (is_text b a) refl refl
  where
    go : (s t : Bool) → is_text a b ≡ s → is_text b a ≡ t → s ≡ t
    go true true e f = refl
    go false false e f = refl
    go true false e f = sym (ap (λ (l : List ℕ). is_text b l) (text_is a b e) ∙ text_refl b) ∙ f
    go false true e f = sym e ∙ (ap (λ (l : List ℕ). is_text a l) (text_is b a f) ∙ text_refl a)

passing_text : (t : List ℕ) (fs : List (List ℕ)) → passing (λ v. is_text v t) fs ≡ times t fs
passing_text t [] = refl
passing_text t (f ∷ fs) = ap (λ (b : Bool). one b + passing (λ v. is_text v t) fs) (turned f t) ∙ ap (λ (n : ℕ). one (is_text t f) + n) (passing_text t fs)

-- the keys of the rows with a token
pub token_named : (t : List ℕ) (kind : IndexKind) (name : List ℕ) (rows : Rows) (ps : List Pair) (ks : List (List ℕ)) → ks ≡ candidates (side_valued t) ps → AreRows rows → AreOwed (parts_of kind name rows) ps → (k : List ℕ) → times k ks ≡ times t (parts_of kind name rows k)
token_named t kind name rows ps ks is are owed k =
    ap (times k) is ∙ (inside_times (side_valued t) (λ v. is_text v t) (λ v q whole. valued t v q whole) kind name rows ps are owed k ∙ passing_text t (parts_of kind name rows k))

times_filter : (p : List ℕ → Bool) (k : List ℕ) (xs : List (List ℕ)) → times k (filter p xs) ≡ cond (p k) (times k xs) 0
times_filter p k [] = none (p k)
  where
    none : (b : Bool) → times k [] ≡ cond b (times k []) 0
    none true = refl
    none false = refl
times_filter p k (x ∷ xs) = go (p x) refl (is_text k x) refl (p k) refl (times_filter p k xs)
  where
    go : (a : Bool) → p x ≡ a → (t : Bool) → is_text k x ≡ t → (b : Bool) → p k ≡ b → times k (filter p xs) ≡ cond b (times k xs) 0 → times k (cond a (x ∷ filter p xs) (filter p xs)) ≡ cond b (one t + times k xs) 0
    go true pa t is true pb rest = omega (arith, ap one is, rest)
    go false pa t is false pb rest = rest
    go true pa true is false pb rest = absurd (let e : true ≡ false = sym pa ∙ (ap p (sym (text_is k x is)) ∙ pb) in cc)
    go true pa false is false pb rest = omega (arith, ap one is, rest)
    go false pa true is true pb rest = absurd (let e : false ≡ true = sym pa ∙ (ap p (sym (text_is k x is)) ∙ pb) in cc)
    go false pa false is true pb rest = omega (arith, rest)

among_times : (t : List ℕ) (fs : List (List ℕ)) → times t fs ≤ 1 → one (is_among t fs) ≡ times t fs
among_times t [] few = refl
among_times t (f ∷ fs) few = go (is_text t f) refl few (λ less. among_times t fs less)
  where
    go : (b : Bool) → is_text t f ≡ b → one b + times t fs ≤ 1 → (times t fs ≤ 1 → one (is_among t fs) ≡ times t fs) → one (b || is_among t fs) ≡ one b + times t fs
    go true is few rest = omega (arith, few)
    go false is few rest = omega (arith, rest (omega (arith, few)))

pub some_among : (k : List ℕ) (ks : List (List ℕ)) → (is_among k ks ≡ true → 1 ≤ times k ks) × (is_among k ks ≡ false → times k ks ≡ 0)
some_among k [] = (λ e. absurd (let f : false ≡ true = e in cc), λ e. refl)
some_among k (j ∷ ks) = go (is_text k j) (some_among k ks)
  where
    go : (b : Bool) → (is_among k ks ≡ true → 1 ≤ times k ks) × (is_among k ks ≡ false → times k ks ≡ 0) → ((b || is_among k ks) ≡ true → 1 ≤ one b + times k ks) × ((b || is_among k ks) ≡ false → one b + times k ks ≡ 0)
    go true rest = (λ e. omega arith, λ e. absurd (let f : true ≡ false = e in cc))
    go false rest = (λ e. omega (arith, rest.0 e), λ e. omega (arith, rest.1 e))

-- nothing is left out yet
pub left_none : (h : Firsts) (ks : List (List ℕ)) → AreLeft [] ks h ks
left_none h ks k = refl

-- one token more that is asked for
pub left_more : (h : Firsts) (asked before ks others next : List (List ℕ)) (t : List ℕ) → ((k : List ℕ) → times t (h k) ≤ 1) → AreLeft asked before h ks → ((k : List ℕ) → times k others ≡ times t (h k)) → next ≡ filter (λ a. is_among a others) ks → AreLeft (asked ++ t ∷ []) before h next
left_more h asked before ks others next t once so has is k =
    ap (times k) is ∙ (times_filter (λ a. is_among a others) k ks ∙ (ap (λ (n : ℕ). cond (is_among k others) n 0) (so k) ∙ go (is_among k others) refl (is_among t (h k)) refl))
  where
    both : (p q : Bool) (n : ℕ) → cond q (cond p n 0) 0 ≡ cond (p && q) n 0
    both true true n = refl
    both true false n = refl
    both false true n = refl
    both false false n = refl

    pushed : (xs : List (List ℕ)) → list_all (λ a. is_among a (h k)) (xs ++ t ∷ []) ≡ (list_all (λ a. is_among a (h k)) xs && is_among t (h k))
    pushed [] = one_more (is_among t (h k))
      where
        one_more : (p : Bool) → (p && true) ≡ p
        one_more true = refl
        one_more false = refl
    pushed (x ∷ xs) = ap (λ p. is_among x (h k) && p) (pushed xs) ∙ assoc (is_among x (h k)) (list_all (λ a. is_among a (h k)) xs) (is_among t (h k))
      where
        assoc : (p q r : Bool) → (p && (q && r)) ≡ ((p && q) && r)
        assoc true q r = refl
        assoc false q r = refl

    go : (a : Bool) → is_among k others ≡ a → (b : Bool) → is_among t (h k) ≡ b → cond a (cond (list_all (λ x. is_among x (h k)) asked) (times k before) 0) 0 ≡ cond (list_all (λ x. is_among x (h k)) (asked ++ t ∷ [])) (times k before) 0
    go a is b at =
        ap (λ (q : Bool). cond q (cond (list_all (λ x. is_among x (h k)) asked) (times k before) 0) 0) (same a b is at)
        ∙ (both (list_all (λ x. is_among x (h k)) asked) b (times k before)
        ∙ ap (λ (p : Bool). cond p (times k before) 0) (ap (λ p. list_all (λ x. is_among x (h k)) asked && p) (sym at) ∙ sym (pushed asked)))
      where
        same : (a b : Bool) → is_among k others ≡ a → is_among t (h k) ≡ b → a ≡ b
        same true true e f = refl
        same false false e f = refl
        same true false e f = absurd (omega (arith, (some_among k others).0 e, has k, (some_among t (h k)).1 f))
        same false true e f = absurd (omega (arith, (some_among k others).1 e, has k, (some_among t (h k)).0 f))

pub left_step : (h : Firsts) (asked before ks others next : List (List ℕ)) (i : ℕ) (t : List ℕ) → i < length asked → t ≡ get_or asked i t → ((k : List ℕ) → times t (h k) ≤ 1) → AreLeft (take i asked) before h ks → ((k : List ℕ) → times k others ≡ times t (h k)) → next ≡ filter (λ a. is_among a others) ks
    → AreLeft (take (i + 1) asked) before h next
left_step h asked before ks others next i t less at once so has is = subst (λ (l : List (List ℕ)). AreLeft l before h next) (sym (up_to asked i t t less at refl)) (left_more h (take i asked) before ks others next t once so has is)

pub left_end : (h : Firsts) (asked before ks : List (List ℕ)) (i : ℕ) → length asked ≤ i → AreLeft (take i asked) before h ks → AreLeft asked before h ks
left_end h asked before ks i all so = subst (λ (l : List (List ℕ)). AreLeft l before h ks) (take_all i asked all) so

-- those of the first that is asked for, and of all others
pub asked_all : (h : Firsts) (t : List ℕ) (ts first ks : List (List ℕ)) → ((k : List ℕ) → times t (h k) ≤ 1) → ((k : List ℕ) → times k first ≡ times t (h k)) → AreLeft ts first h ks → AreAsked true (t ∷ ts) h ks
asked_all h t ts first ks once has left k =
    left k ∙ (ap (λ (n : ℕ). cond (has_asked true ts (h k)) n 0) (has k ∙ sym (among_times t (h k) (once k))) ∙ both (is_among t (h k)) (has_asked true ts (h k)))
  where
    both : (p q : Bool) → cond q (one p) 0 ≡ one (p && q)
    both true true = refl
    both true false = refl
    both false true = refl
    both false false = refl

pub asked_first : (h : Firsts) (asked : List (List ℕ)) (t : List ℕ) (ts first ks : List (List ℕ)) → asked ≡ t ∷ ts → ((k : List ℕ) → times t (h k) ≤ 1) → ((k : List ℕ) → times k first ≡ times t (h k)) → AreLeft ts first h ks → AreAsked true asked h ks
asked_first h asked t ts first ks is once has left = subst (λ (l : List (List ℕ)). AreAsked true l h ks) (sym is) (asked_all h t ts first ks once has left)

pub one_asked : (asked : List (List ℕ)) (t : List ℕ) (ts : List (List ℕ)) → asked ≡ t ∷ ts → has_asked true asked [] ≡ false
one_asked asked t ts is = ap (λ (l : List (List ℕ)). has_asked true l []) is

count_push : (asked ps : List (List ℕ)) (t : List ℕ) → count_among (asked ++ t ∷ []) ps ≡ count_among asked ps + times t ps
count_push [] ps t = omega arith
count_push (a ∷ more) ps t = omega (arith, count_push more ps t)

-- one token more that may be had
pub counted_more : (h : Firsts) (asked ks others next : List (List ℕ)) (t : List ℕ) → AreCounted asked h ks → ((k : List ℕ) → times k others ≡ times t (h k)) → next ≡ ks ++ others → AreCounted (asked ++ t ∷ []) h next
counted_more h asked ks others next t so has is k = ap (times k) is ∙ (times_append k ks others ∙ omega (arith, so k, has k, count_push asked (h k) t))

pub counted_step : (h : Firsts) (asked ks others next : List (List ℕ)) (i : ℕ) (t : List ℕ) → i < length asked → t ≡ get_or asked i t → AreCounted (take i asked) h ks → ((k : List ℕ) → times k others ≡ times t (h k)) → next ≡ ks ++ others → AreCounted (take (i + 1) asked) h next
counted_step h asked ks others next i t less at so has is = subst (λ (l : List (List ℕ)). AreCounted l h next) (sym (up_to asked i t t less at refl)) (counted_more h (take i asked) ks others next t so has is)

pub counted_end : (h : Firsts) (asked ks : List (List ℕ)) (i : ℕ) → length asked ≤ i → AreCounted (take i asked) h ks → AreCounted asked h ks
counted_end h asked ks i all so = subst (λ (l : List (List ℕ)). AreCounted l h ks) (take_all i asked all) so

some_counted : (asked ps : List (List ℕ)) → (list_any (λ t. is_among t ps) asked ≡ true → 1 ≤ count_among asked ps) × (list_any (λ t. is_among t ps) asked ≡ false → count_among asked ps ≡ 0)
some_counted [] ps = (λ e. absurd (let f : false ≡ true = e in cc), λ e. refl)
some_counted (t ∷ ts) ps = go (is_among t ps) refl (some_among t ps) (list_any (λ u. is_among u ps) ts) refl (some_counted ts ps)
  where
    go : (a : Bool) → is_among t ps ≡ a → (is_among t ps ≡ true → 1 ≤ times t ps) × (is_among t ps ≡ false → times t ps ≡ 0) → (b : Bool) → list_any (λ u. is_among u ps) ts ≡ b → (list_any (λ u. is_among u ps) ts ≡ true → 1 ≤ count_among ts ps) × (list_any (λ u. is_among u ps) ts ≡ false → count_among ts ps ≡ 0)
        → ((a || b) ≡ true → 1 ≤ times t ps + count_among ts ps) × ((a || b) ≡ false → times t ps + count_among ts ps ≡ 0)
    go true is here b at rest = (λ e. omega (arith, here.0 is), λ e. absurd (let f : true ≡ false = e in cc))
    go false is here true at rest = (λ e. omega (arith, rest.0 at), λ e. absurd (let f : true ≡ false = e in cc))
    go false is here false at rest = (λ e. absurd (let f : false ≡ true = e in cc), λ e. omega (arith, here.1 is, rest.1 at))

-- each of them once
pub asked_some : (h : Firsts) (asked ks next : List (List ℕ)) → AreCounted asked h ks → next ≡ distinct ks → AreAsked false asked h next
asked_some h asked ks next so is k =
    ap (times k) is ∙ (sym (among_times k (distinct ks) (distinct_once ks k)) ∙ ap one (distinct_has k ks ∙ same (is_among k ks) refl (has_asked false asked (h k)) refl))
  where
    same : (a : Bool) → is_among k ks ≡ a → (b : Bool) → has_asked false asked (h k) ≡ b → a ≡ b
    same true e true f = refl
    same false e false f = refl
    same true e false f = absurd (omega (arith, (some_among k ks).0 e, so k, (some_counted asked (h k)).1 f))
    same false e true f = absurd (omega (arith, (some_among k ks).1 e, so k, (some_counted asked (h k)).0 f))

-- ---- of rows

all_as : (f g : List ℕ → Bool) → ((t : List ℕ) → f t ≡ g t) → (ts : List (List ℕ)) → list_all f ts ≡ list_all g ts
all_as f g same [] = refl
all_as f g same (t ∷ ts) = ap (λ b. b && list_all f ts) (same t) ∙ ap (λ b. g t && b) (all_as f g same ts)

any_as : (f g : List ℕ → Bool) → ((t : List ℕ) → f t ≡ g t) → (ts : List (List ℕ)) → list_any f ts ≡ list_any g ts
any_as f g same [] = refl
any_as f g same (t ∷ ts) = ap (λ b. b || list_any f ts) (same t) ∙ ap (λ b. g t || b) (any_as f g same ts)

-- each of either once
asked_distinct : (all : Bool) (asked ps : List (List ℕ)) → has_asked all (distinct asked) (distinct ps) ≡ has_asked all asked ps
asked_distinct true asked ps = all_as (λ t. is_among t (distinct ps)) (λ t. is_among t ps) (λ t. distinct_has t ps) (distinct asked) ∙ all_distinct (λ t. is_among t ps) asked
asked_distinct false asked ps = any_as (λ t. is_among t (distinct ps)) (λ t. is_among t ps) (λ t. distinct_has t ps) (distinct asked) ∙ any_distinct (λ t. is_among t ps) asked

token_value : (all : Bool) (c : Cond) (o : Option (List ℕ)) → asks_all c.operator ≡ all → has_asked all (distinct (tokens c.expression)) [] ≡ false → has_asked all (distinct (tokens c.expression)) (parts_of_value kinds.Token o) ≡ has_tokens c o
token_value all c None is none = none
token_value all c (Some v) is none = ap (has_asked all (distinct (tokens c.expression))) (sym (parts_some kinds.Token v)) ∙ (asked_distinct all (tokens c.expression) (tokens v) ∙ go all is)
  where
    go : (b : Bool) → asks_all c.operator ≡ b → has_asked b (tokens c.expression) (tokens v) ≡ has_tokens c (Some v)
    go true is = ap (λ (a : Bool). cond a (all_tokens v c.expression) (some_token v c.expression)) (sym is)
    go false is = ap (λ (a : Bool). cond a (all_tokens v c.expression) (some_token v c.expression)) (sym is)

token_row : (all : Bool) (c : Cond) (o : Option Row) → asks_all c.operator ≡ all → has_asked all (distinct (tokens c.expression)) [] ≡ false → has_asked all (distinct (tokens c.expression)) (parts_of_row kinds.Token c.column o) ≡ is_named_at kinds.Token c o
token_row all c None is none = none
token_row all c (Some row) is none = token_value all c (column row c.column) is none

pub some_asked : (asked : List (List ℕ)) → has_asked false asked [] ≡ false
some_asked [] = refl
some_asked (t ∷ ts) = some_asked ts

-- the rows that have what is asked for are those that the index names
pub tokens_named : (all : Bool) (c : Cond) (asked : List (List ℕ)) (rows : Rows) (ks : List (List ℕ)) → asked ≡ distinct (tokens c.expression) → asks_all c.operator ≡ all → has_asked all asked [] ≡ false → AreAsked all asked (parts_of kinds.Token c.column rows) ks
    → AreNamed kinds.Token c rows ks
tokens_named all c asked rows ks wanted is none are k =
    are k ∙ ap one (ap (λ (l : List (List ℕ)). has_asked all l (parts_of kinds.Token c.column rows k)) wanted ∙ token_row all c (get rows k) is (ap (λ (l : List (List ℕ)). has_asked all l []) (sym wanted) ∙ none))
