-- Each row that meets a query is in the stretch of a condition of it that an index serves.
use Rattle.std.proofs.Common.{◌≡◌, ◌∙◌, ℕ, zero, suc, Bool, true, false, cond, List, [], ◌∷◌, ◌<◌, ◌≤◌, length, refl, sym, ap, subst, arith, ◌⊎◌, inl, inr, ⊎_elim}
use Rattle.std.specs.Prelude.{◌&&◌, not, find, Option, Some, None, option_map, slice_get}
use Rattle.std.specs.List.{list_all}
use Rattle.std.proofs.lemmas.Bool.{and_parts}
use Rattle.tc_base.specs.declared.seq.Pair.{Pair}
use Rattle.tc_base.specs.Texts.{is_text}
use Rattle.tc_model.specs.declared.query.Query.{Query}
use Rattle.tc_model.specs.declared.query.Cond.{Cond}
use Rattle.tc_model.specs.declared.query.IndexKind.{IndexKind}
use Rattle.tc_model.specs.declared.query.IndexKind.TheVariants as kinds
use Rattle.tc_model.specs.Operators.{meets}
use Rattle.tc_model.specs.Rows.{Row, column, is_column, is_part}
use Rattle.tc_model.specs.Search.{bytes_of, holds, is_met}
use Rattle.tc_model.specs.Texts.{not_empty}
use Rattle.td_plan.specs.Choices.{IsChosen, IsFirst, NoneServed, is_plain, is_served, serves}
use Rattle.td_plan.specs.Plans.{HasAll, IsCovered, IsIn}
use Rattle.td_plan.specs.Spans.{Covers, IsMet}
use Rattle.td_plan.specs.declared.choice.Choice.{Choice}
use Rattle.td_plan.specs.declared.choice.Indexed.{Indexed}
use Rattle.td_plan.specs.declared.span.Span.{Span}
use Rattle.td_plan.specs.declared.span.Span.TheVariants.{Value, Begin, Number, AllTokens, SomeToken}
use Rattle.td_plan.proofs.Parting.{no_zero, not_is}

some_is : {A : Type 0} (a b : A) → Some a ≡ Some b → a ≡ b
some_is a b e = cc

-- one of those that all pass
passes : {A : Type 0} (test : A → Bool) (xs : List A) (i : ℕ) (x : A) → list_all test xs ≡ true → slice_get xs i ≡ Some x → test x ≡ true
passes test [] i x all is = absurd cc
passes test (y ∷ ys) zero x all is = subst (λ z. test z ≡ true) (some_is y x is) (and_parts (test y) (list_all test ys) all).0
passes test (y ∷ ys) (suc i) x all is = passes test ys i x (and_parts (test y) (list_all test ys) all).1 is

-- a column's value is as it may be
pub value_of : (row : Row) (name value : List ℕ) → list_all is_column row ≡ true → column row name ≡ Some value → is_part value ≡ true
value_of [] name value all is = absurd cc
value_of (p ∷ row) name value all is = go (is_text p.key name) is (λ rest e. value_of row name value rest e)
  where
    both : (is_column p ≡ true) × (list_all is_column row ≡ true)
    both = and_parts (is_column p) (list_all is_column row) all

    go : (b : Bool) → option_map (λ (q : Pair). q.value) (cond b (Some p) (find (λ q. is_text q.key name) row)) ≡ Some value → (list_all is_column row ≡ true → column row name ≡ Some value → is_part value ≡ true) → is_part value ≡ true
    go true e later =
        let behind = (and_parts (not_empty p.key) (is_part p.key && is_part p.value) both.0).1 in
        subst (λ (v : List ℕ). is_part v ≡ true) (some_is p.value value e) (and_parts (is_part p.key) (is_part p.value) behind).1
    go false e later = later both.1 e

-- a plain condition that is met has a value that meets it
met_value : (c : Cond) (key : List ℕ) (row : Row) → is_plain c ≡ true → is_met (key, row) c ≡ true → (value : List ℕ) × (column row c.column ≡ Some value) × IsMet c.operator c.expression value
met_value c key row plain met =
    let parts = and_parts (not c.negated) (not c.unindexed && not_empty c.column) plain in
    let rest = and_parts (not c.unindexed) (not_empty c.column) parts.1 in
    let direct : meets c.operator (bytes_of c.column (key, row)) c.expression ≡ true =
    sym (ap (λ t. cond t (not (meets c.operator (bytes_of c.column (key, row)) c.expression)) (meets c.operator (bytes_of c.column (key, row)) c.expression)) (not_is c.negated parts.0)) ∙ met in
    let named : meets c.operator (column row c.column) c.expression ≡ true = sym (ap (λ t. meets c.operator (cond t (column row c.column) (Some key)) c.expression) rest.1) ∙ direct in
    go (column row c.column) refl named
  where
    go : (o : Option (List ℕ)) → column row c.column ≡ o → meets c.operator o c.expression ≡ true → (value : List ℕ) × (column row c.column ≡ Some value) × IsMet c.operator c.expression value
    go None is e = absurd cc
    go (Some value) is e = (value, is, e)

covered : (kind : IndexKind) (span : Span) (n : ℕ) (e value key : List ℕ) → Covers kind span n e → is_part value ≡ true → IsMet n e value → IsIn span e value key
covered kinds.Lexical (Value cut) n e value key covers part met = (covers value key (no_zero value part)).1 met
covered kinds.Lexical (Begin cut) n e value key covers part met = (covers value key (no_zero value part)).1 met
covered kinds.Decimal (Number cut) n e value key covers part met = (covers value key (no_zero value part)).1 met
covered kinds.Token AllTokens n e value key covers part met = covers.1 value met
covered kinds.Token SomeToken n e value key covers part met = covers.1 value met
covered kinds.Lexical (Number cut) n e value key covers part met = absurd covers
covered kinds.Lexical AllTokens n e value key covers part met = absurd covers
covered kinds.Lexical SomeToken n e value key covers part met = absurd covers
covered kinds.Decimal (Value cut) n e value key covers part met = absurd covers
covered kinds.Decimal (Begin cut) n e value key covers part met = absurd covers
covered kinds.Decimal AllTokens n e value key covers part met = absurd covers
covered kinds.Decimal SomeToken n e value key covers part met = absurd covers
covered kinds.Token (Value cut) n e value key covers part met = absurd covers
covered kinds.Token (Begin cut) n e value key covers part met = absurd covers
covered kinds.Token (Number cut) n e value key covers part met = absurd covers

pub has_all : (q : Query) (kind : IndexKind) (span : Span) (i : ℕ) (c : Cond) → slice_get q.conds i ≡ Some c → is_plain c ≡ true → Covers kind span c.operator c.expression → HasAll q span c
has_all q kind span i c is plain covers key row well meets_all =
    let found = met_value c key row plain (passes (is_met (key, row)) q.conds i c meets_all is) in (
      found.0,
      found.1,
      covered kind span c.operator c.expression found.0 key covers (value_of row c.column found.0 well.columns found.1) found.2,
    )

-- ---- an item that is there

pub within : {A : Type 0} (xs : List A) (i : ℕ) (x : A) → slice_get xs i ≡ Some x → i < length xs
within [] i x is = absurd cc
within (y ∷ ys) zero x is = omega arith
within (y ∷ ys) (suc i) x is = omega (arith, within ys i x is)

pub item_is : {A : Type 0} (xs : List A) (i : ℕ) (x y : A) → slice_get xs i ≡ Some x → slice_get xs i ≡ Some y → x ≡ y
item_is xs i x y a b = some_is x y (sym a ∙ b)

-- ---- what was chosen

pub serves_it : (c : Cond) (x : Indexed) → is_served c x ≡ true → serves x.kind c.operator c.expression ≡ true
serves_it c x served =
    let rest = (and_parts (is_plain c) (is_text x.column c.column && serves x.kind c.operator c.expression) served).1 in
    (and_parts (is_text x.column c.column) (serves x.kind c.operator c.expression) rest).1

pub served_is : (q : Query) (indexes : List Indexed) (choice : Choice) (c : Cond) (x : Indexed) → IsChosen q indexes choice → slice_get q.conds choice.cond ≡ Some c → slice_get indexes choice.index ≡ Some x → is_served c x ≡ true
served_is q indexes choice c x chosen at_cond at_index =
    let served = chosen.served in
    let here = served.2.here in
    subst (λ (y : Indexed). is_served c y ≡ true) (item_is indexes choice.index here.0 x here.1 at_index)
    (subst (λ (d : Cond). is_served d here.0 ≡ true) (item_is q.conds choice.cond served.0 c served.1 at_cond) here.2)

pub chosen_all : (q : Query) (indexes : List Indexed) (choice : Choice) (span : Span) → IsChosen q indexes choice → IsCovered q indexes choice span → (c : Cond) → slice_get q.conds choice.cond ≡ Some c → HasAll q span c
chosen_all q indexes choice span chosen covers c is =
    let here = chosen.served.2.here in
    let served : is_served c here.0 ≡ true = served_is q indexes choice c here.0 chosen is here.1 in
    has_all q here.0.kind span choice.cond c is (and_parts (is_plain c) (is_text here.0.column c.column && serves here.0.kind c.operator c.expression) served).0 (covers c here.0 is here.1)

pub chosen_plain : (q : Query) (indexes : List Indexed) (choice : Choice) (c : Cond) → IsChosen q indexes choice → slice_get q.conds choice.cond ≡ Some c → is_plain c ≡ true
chosen_plain q indexes choice c chosen is =
    let here = chosen.served.2.here in
    (and_parts (is_plain c) (is_text here.0.column c.column && serves here.0.kind c.operator c.expression) (served_is q indexes choice c here.0 chosen is here.1)).0

-- a row that meets the query has a value that meets the condition that was chosen
pub chosen_met : (q : Query) (indexes : List Indexed) (choice : Choice) (c : Cond) → IsChosen q indexes choice → slice_get q.conds choice.cond ≡ Some c → (key : List ℕ) (row : Row) → holds q (key, row) ≡ true → (value : List ℕ) × (column row c.column ≡ Some value) × IsMet c.operator c.expression value
chosen_met q indexes choice c chosen is key row met = met_value c key row (chosen_plain q indexes choice c chosen is) (passes (is_met (key, row)) q.conds choice.cond c met is)

-- ---- nothing else was

le_or : (m n : ℕ) → (m ≤ n) ⊎ (n < m)
le_or zero n = inl (omega arith)
le_or (suc m) zero = inr (omega arith)
le_or (suc m) (suc n) = ⊎_elim (λ e. inl (omega (arith, e))) (λ e. inr (omega (arith, e))) (le_or m n)

-- a condition that is served isn't in front of the one that was chosen
not_before : (q : Query) (indexes : List Indexed) (n : ℕ) (y : Choice) → NoneServed q indexes n → IsChosen q indexes y → n ≤ y.cond
not_before q indexes n y none chosen = ⊎_elim (λ is. is) (λ less. absurd (clash less)) (le_or n y.cond)
  where
    clash : y.cond < n → ⊥
    clash less =
        let served = chosen.served in
        let here = served.2.here in
        let e : true ≡ false = sym here.2 ∙ none y.cond served.0 less served.1 y.index here.0 (within indexes y.index here.0 here.1) here.1 in
        absurd cc

first_least : {A : Type 0} (test : A → Bool) (xs : List A) (m n : ℕ) → IsFirst test xs m → IsFirst test xs n → m ≤ n
first_least test xs m n first other = ⊎_elim (λ is. is) (λ less. absurd (clash less)) (le_or m n)
  where
    clash : n < m → ⊥
    clash less =
        let here = other.here in
        let e : true ≡ false = sym here.2 ∙ first.before n here.0 less here.1 in
        absurd cc

-- where none is served none was chosen
pub none_chosen : (q : Query) (indexes : List Indexed) (y : Choice) → NoneServed q indexes (length q.conds) → IsChosen q indexes y → ⊥
none_chosen q indexes y none chosen = omega (arith, not_before q indexes (length q.conds) y none chosen, within q.conds y.cond chosen.served.0 chosen.served.1)

-- one choice alone is the first
pub conds_same : (q : Query) (indexes : List Indexed) (x y : Choice) → IsChosen q indexes x → IsChosen q indexes y → x.cond ≡ y.cond
conds_same q indexes x y a b = omega (arith, not_before q indexes x.cond y a.first b, not_before q indexes y.cond x b.first a)

pub indexes_same : (q : Query) (indexes : List Indexed) (x y : Choice) → IsChosen q indexes x → IsChosen q indexes y → x.index ≡ y.index
indexes_same q indexes x y a b =
    let same : a.served.0 ≡ b.served.0 = item_is q.conds y.cond a.served.0 b.served.0 (sym (ap (slice_get q.conds) (conds_same q indexes x y a b)) ∙ a.served.1) b.served.1 in
    let first : IsFirst (is_served b.served.0) indexes x.index = subst (λ (c : Cond). IsFirst (is_served c) indexes x.index) same a.served.2 in
    omega (arith, first_least (is_served b.served.0) indexes x.index y.index first b.served.2, first_least (is_served b.served.0) indexes y.index x.index b.served.2 first)
