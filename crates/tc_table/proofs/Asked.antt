-- The keys that a chosen index names have all rows that meet the query, and are as many as the rows that it names.
use Rattle.std.proofs.Common.{◌≡◌, ◌∙◌, ℕ, zero, suc, ◌+◌, ◌≤◌, Bool, true, false, cond, List, [], ◌∷◌, length, map, Option, Some, None, refl, sym, ap, subst, arith}
use Rattle.std.specs.Prelude.{◌&&◌, filter, is_some, slice_get}
use Rattle.std.specs.Cmp.Lexicographic.{texts_ties}
use Rattle.std.specs.Ordering.{is_lt}
use Rattle.std.specs.FinMap.{entries, entries_sorted, find, get, get-entries, is_sorted, keys}
use Rattle.std.specs.FinMap.Entries.{below_all}
use Rattle.std.proofs.lemmas.Bool.{and_parts}
use Rattle.tc_base.specs.Texts.{is_text}
use Rattle.tc_space.specs.declared.space.Space.{Ghosts}
use Rattle.tc_space.specs.declared.records.Records as records
use Rattle.tc_space.specs.declared.multi.Multi as multi
use Rattle.tc_model.specs.Contents.{Rows}
use Rattle.tc_model.specs.Operators.{all_tokens, meets, some_token}
use Rattle.tc_model.specs.Rows.{Row, column}
use Rattle.tc_model.specs.Search.{Found, holds}
use Rattle.tc_model.specs.Well.{AreRows}
use Rattle.tc_model.specs.declared.query.Cond.{Cond}
use Rattle.tc_model.specs.declared.query.IndexKind.{IndexKind}
use Rattle.tc_model.specs.declared.query.IndexKind.TheVariants as kinds
use Rattle.tc_model.specs.declared.query.Query.{Query}
use Rattle.td_index.specs.Entries.{one, times}
use Rattle.td_index.proofs.Counting.{one_false, one_true, same_length, text_is}
use Rattle.td_plan.proofs.Planning.{chosen_met, conds_same, indexes_same, item_is, none_chosen, served_is}
use Rattle.td_plan.specs.Choices.{IsChosen, NoneServed, is_plain, serves}
use Rattle.td_plan.specs.Plans.{IsCovered}
use Rattle.td_plan.specs.Spans.{Covers, IsMet}
use Rattle.td_plan.specs.declared.choice.Choice.{Choice}
use Rattle.td_plan.specs.declared.choice.Indexed.{Indexed}
use Rattle.td_plan.specs.declared.span.Span.{Span}
use Rattle.td_plan.specs.declared.span.Span.TheVariants.{Value, Begin, Number, AllTokens, SomeToken}
use Rattle.tc_table.specs.Searching.{AreNamed, HasAllUnder, NamesAt, NamesPlanned, OfPlanned, has_tokens, indexed, is_named, is_named_at, named}
use Rattle.tc_table.specs.Sides.{AllStand, name_of}
use Rattle.tc_table.specs.Tables.{Holds}
use Rattle.tc_table.specs.declared.side.Side.{Side}
use Rattle.tc_table.specs.declared.table.Table.{Table}
use Rattle.tc_table.proofs.Finding.{R, is_true, not_same}
use Rattle.tc_table.proofs.Naming.{one_few, rows_once, times_rows}

-- ---- as many as the rows that are named

abbrev first_of : Found → List ℕ
first_of f = f.0

none_times : (k : List ℕ) (p : Found → Bool) (es : List Found) → below_all R k es ≡ true → times k (map first_of (filter p es)) ≡ 0
none_times k p [] below = refl
none_times k p (e ∷ es) below =
    let both = and_parts (is_lt (R k e.0)) (below_all R k es) below in
    go (p e) (not_same k e.0 both.0) (none_times k p es both.1)
  where
    go : (b : Bool) → is_text k e.0 ≡ false → times k (map first_of (filter p es)) ≡ 0 → times k (map first_of (cond b (e ∷ filter p es) (filter p es))) ≡ 0
    go true other rest = omega (arith, one_false (is_text k e.0) other, rest)
    go false other rest = rest

module _ (kind : IndexKind) (c : Cond) where
  abbrev passes : Found → Bool
  passes e = is_named kind c e.1

  named_times : (k : List ℕ) (es : List Found) → is_sorted R es ≡ true → times k (map first_of (filter passes es)) ≡ one (is_named_at kind c (find R k es))
  named_times k [] sorted = refl
  named_times k (e ∷ es) sorted =
      let both = and_parts (below_all R e.0 es) (is_sorted R es) sorted in
      go (is_text k e.0) refl (passes e) refl (λ is. ap (λ (l : List ℕ). times l (map first_of (filter passes es))) (text_is k e.0 is) ∙ none_times e.0 passes es both.0) (named_times k es both.1)
      ∙ ap (λ (t : Bool). one (is_named_at kind c (cond t (Some e.1) (find R k es)))) (texts_ties k e.0)
    where
      go : (t : Bool) → is_text k e.0 ≡ t → (h : Bool) → passes e ≡ h → (is_text k e.0 ≡ true → times k (map first_of (filter passes es)) ≡ 0) → times k (map first_of (filter passes es)) ≡ one (is_named_at kind c (find R k es))
          → times k (map first_of (cond h (e ∷ filter passes es) (filter passes es))) ≡ one (is_named_at kind c (cond t (Some e.1) (find R k es)))
      go true is true met none rest = omega (arith, one_true (is_text k e.0) is, none is, one_true (passes e) met)
      go true is false met none rest = omega (arith, none is, one_false (passes e) met)
      go false is true met none rest = omega (arith, one_false (is_text k e.0) is, rest)
      go false is false met none rest = rest

  lengths : (fs : List Found) → length (map first_of fs) ≡ length fs
  lengths [] = refl
  lengths (f ∷ fs) = ap suc (lengths fs)

  pub length_named : (rows : Rows) (ks : List (List ℕ)) → AreNamed kind c rows ks → length ks ≡ named kind c rows
  length_named rows ks are =
      same_length ks (map first_of (filter passes (entries rows))) (λ k. are k ∙ (ap (λ (o : Option Row). one (is_named_at kind c o)) (get-entries rows k) ∙ sym (named_times k (entries rows) (is_true (is_sorted R (entries rows)) (entries_sorted rows)))))
      ∙ lengths (filter passes (entries rows))

  -- where each row that meets the query is named
  pub named_under : (q : Query) (rows : Rows) (ks : List (List ℕ)) → AreNamed kind c rows ks → ((k : List ℕ) (row : Row) → holds q (k, row) ≡ true → is_named kind c row ≡ true) → HasAllUnder q rows ks
  named_under q rows ks are all = record {
    once = λ k. omega (arith, are k, one_few (is_named_at kind c (get rows k)));
    all = λ k row is met. omega (arith, are k, one_true (is_named_at kind c (get rows k)) (ap (is_named_at kind c) is ∙ all k row met));
  }

-- all keys
pub all_under : (q : Query) (rows : Rows) (ks : List (List ℕ)) → ks ≡ keys rows → HasAllUnder q rows ks
all_under q rows ks are = record {
  once = λ k. omega (arith, ap (times k) are, rows_once rows k);
  all = λ k row is met. omega (arith, ap (times k) are, times_rows rows k, there (get rows k) row is);
}
  where
    there : (o : Option Row) (row : Row) → o ≡ Some row → 1 ≤ one (is_some o)
    there None row e = absurd (let f : None ≡ Some row = e in cc)
    there (Some r) row e = omega arith

-- ---- a value that meets the condition is named

pub met_named : (c : Cond) (kind : IndexKind) (span : Span) (row : Row) (value : List ℕ) → Covers kind span c.operator c.expression → column row c.column ≡ Some value → IsMet c.operator c.expression value → is_named kind c row ≡ true
met_named c kinds.Lexical span row value covers is met = ap (λ o. meets c.operator o c.expression) is ∙ met
met_named c kinds.Decimal span row value covers is met = ap (λ o. meets c.operator o c.expression) is ∙ met
met_named c kinds.Token AllTokens row value covers is met = ap (has_tokens c) is ∙ (ap (λ (b : Bool). cond b (all_tokens value c.expression) (some_token value c.expression)) covers.0 ∙ covers.1 value met)
met_named c kinds.Token SomeToken row value covers is met = ap (has_tokens c) is ∙ (ap (λ (b : Bool). cond b (all_tokens value c.expression) (some_token value c.expression)) covers.0 ∙ covers.1 value met)
met_named c kinds.Token (Value cut) row value covers is met = absurd covers
met_named c kinds.Token (Begin cut) row value covers is met = absurd covers
met_named c kinds.Token (Number cut) row value covers is met = absurd covers

-- ---- the index that was chosen

module _ {L D : Type 0} where
  abbrev pub IsAt : List (Side L D) → ℕ → Indexed → Type 0
  IsAt xs n i = (x : Side L D) × (slice_get xs n ≡ Some x) × (x.kind ≡ i.kind) × (name_of x.tree ≡ i.column)

  pub side_at : (xs : List (Side L D)) (n : ℕ) (i : Indexed) → slice_get (indexed xs) n ≡ Some i → IsAt xs n i
  side_at [] n i at = absurd (let e : None ≡ Some i = at in cc)
  side_at (x ∷ xs) zero i at = (x, refl, ap (λ (j : Indexed). j.kind) (is at), ap (λ (j : Indexed). j.column) (is at))
    where
      is : {j : Indexed} → Some j ≡ Some i → j ≡ i
      is e = cc
  side_at (x ∷ xs) (suc n) i at = side_at xs n i at

module _ {S L OL D OD : Type 0} (s : Ghosts S) (l : multi.Ghosts L S OL) (d : multi.Ghosts D S OD) where
  pub chosen_named : (q : Query) (xs : List (Side L D)) (choice : Choice) (span : Span) (c : Cond) (i : Indexed) (a : S) (ks : List (List ℕ)) (rows : Rows) → IsChosen q (indexed xs) choice → IsCovered q (indexed xs) choice span
      → slice_get q.conds choice.cond ≡ Some c → slice_get (indexed xs) choice.index ≡ Some i → NamesAt s l d c span choice.index xs a ks → AreRows rows → AllStand s l d xs a rows → AreNamed i.kind c rows ks
  chosen_named q xs choice span c i a ks rows chosen covers at_cond at_index names are stand =
      let at : IsAt xs choice.index i = side_at xs choice.index i at_index in
      let rest = (and_parts (is_plain c) (is_text i.column c.column && serves i.kind c.operator c.expression) (served_is q (indexed xs) choice c i chosen at_cond at_index)).1 in
      let column_is : i.column ≡ c.column = text_is i.column c.column (and_parts (is_text i.column c.column) (serves i.kind c.operator c.expression) rest).0 in
      subst (λ (k : IndexKind). AreNamed k c rows ks) at.2
      (names rows at.0 are stand at.1 (at.3 ∙ column_is) (subst (λ (k : IndexKind). Covers k span c.operator c.expression) (sym at.2) (covers c i at_cond at_index)))

pub chosen_under : (q : Query) (indexes : List Indexed) (choice : Choice) (span : Span) (c : Cond) (i : Indexed) (rows : Rows) (ks : List (List ℕ)) → IsChosen q indexes choice → IsCovered q indexes choice span → slice_get q.conds choice.cond ≡ Some c → slice_get indexes choice.index ≡ Some i
    → AreNamed i.kind c rows ks → HasAllUnder q rows ks
chosen_under q indexes choice span c i rows ks chosen covers at_cond at_index are =
    named_under i.kind c q rows ks are (λ k row met.
    let found = chosen_met q indexes choice c chosen at_cond k row met in
    met_named c i.kind span row found.0 (covers c i at_cond at_index) found.1 found.2)

-- whichever is chosen, it is this
pub only_named : (q : Query) (indexes : List Indexed) (x y : Choice) (c e : Cond) (i j : Indexed) (rows : Rows) → IsChosen q indexes x → IsChosen q indexes y → slice_get q.conds x.cond ≡ Some c → slice_get q.conds y.cond ≡ Some e → slice_get indexes x.index ≡ Some i → slice_get indexes y.index ≡ Some j
    → named i.kind c rows ≡ named j.kind e rows
only_named q indexes x y c e i j rows a b at_c at_e at_i at_j =
    let conds : c ≡ e = item_is q.conds y.cond c e (sym (ap (slice_get q.conds) (conds_same q indexes x y a b)) ∙ at_c) at_e in
    let same : i ≡ j = item_is indexes y.index i j (sym (ap (slice_get indexes) (indexes_same q indexes x y a b)) ∙ at_i) at_j in
    ap (λ (z : Cond). named i.kind z rows) conds ∙ ap (λ (z : Indexed). named z.kind e rows) same

module _ {S R L OL D OD : Type 0} (s : Ghosts S) (r : records.Ghosts R S) (l : multi.Ghosts L S OL) (d : multi.Ghosts D S OD) where
  pub planned_named : (q : Query) (t : Table R L D) (choice : Choice) (span : Span) (cond : Cond) (a : S) (ks : List (List ℕ)) → IsChosen q (indexed t.sides.items) choice → IsCovered q (indexed t.sides.items) choice span → slice_get q.conds choice.cond ≡ Some cond
      → NamesAt s l d cond span choice.index t.sides.items a ks → NamesPlanned s r l d q choice t a ks
  planned_named q t choice span cond a ks chosen covers is names c i rows at_cond at_index h =
      chosen_named s l d q t.sides.items choice span c i a ks rows chosen covers at_cond at_index (subst (λ (e : Cond). NamesAt s l d e span choice.index t.sides.items a ks) (item_is q.conds choice.cond cond c is at_cond) names) h.are h.indexes

  pub planned_under : (q : Query) (t : Table R L D) (choice : Choice) (span : Span) (a : S) (ks : List (List ℕ)) → IsChosen q (indexed t.sides.items) choice → IsCovered q (indexed t.sides.items) choice span → NamesPlanned s r l d q choice t a ks → (rows : Rows) → Holds s r l d t a rows → HasAllUnder q rows ks
  planned_under q t choice span a ks chosen covers names rows h =
      let served = chosen.served in
      let here = served.2.here in
      chosen_under q (indexed t.sides.items) choice span served.0 here.0 rows ks chosen covers served.1 here.1 (names served.0 here.0 rows served.1 here.1 h)

  pub planned_few : (q : Query) (t : Table R L D) (choice : Choice) (a : S) (ks : List (List ℕ)) → IsChosen q (indexed t.sides.items) choice → NamesPlanned s r l d q choice t a ks → OfPlanned s r l d q t a (λ n. length ks ≤ n)
  planned_few q t choice a ks chosen names x c i rows other at_cond at_index h =
      let served = chosen.served in
      let here = served.2.here in
      omega (arith, length_named here.0.kind served.0 rows ks (names served.0 here.0 rows served.1 here.1 h), only_named q (indexed t.sides.items) choice x served.0 c here.0 i rows chosen other served.1 at_cond here.1 at_index)

  pub none_planned : (q : Query) (t : Table R L D) (a : S) (P : ℕ → Type 0) → NoneServed q (indexed t.sides.items) (length q.conds) → OfPlanned s r l d q t a P
  none_planned q t a P none x c i rows chosen at_cond at_index h = absurd (none_chosen q (indexed t.sides.items) x none chosen)

  -- as many more may be read
  pub planned_more : (q : Query) (t : Table R L D) (a : S) (m n k : ℕ) → n ≤ m + k → OfPlanned s r l d q t a (λ most. k ≤ most) → OfPlanned s r l d q t a (λ most. n ≤ m + most)
  planned_more q t a m n k few planned x c i rows chosen at_cond at_index h = omega (arith, few, planned x c i rows chosen at_cond at_index h)
