-- Where an index of values serves the only condition, the keys that it names are those of the rows that meet it.
use Rattle.std.proofs.Common.{◌≡◌, ◌∙◌, ℕ, zero, suc, ◌+◌, ◌≤◌, Bool, true, false, cond, List, [], ◌∷◌, ◌++◌, length, reverse, Option, Some, None, refl, sym, ap, arith}
use Rattle.std.specs.Prelude.{◌&&◌, not, drop, take, slice_get}
use Rattle.std.specs.List.{list_all, take-map, drop-map}
use Rattle.std.specs.FinMap.{get}
use Rattle.std.specs.Ordering.{is_lt}
use Rattle.std.proofs.lemmas.Bool.{and_parts}
use Rattle.std.proofs.lemmas.List.{length-map, map-append, reverse-append}
use Rattle.tc_base.specs.Orders.{lexical}
use Rattle.tc_base.specs.Texts.{is_text}
use Rattle.tc_model.specs.Contents.{Rows}
use Rattle.tc_model.specs.Operators.{meets}
use Rattle.tc_model.specs.Rows.{Row, column}
use Rattle.tc_model.specs.Search.{Found, arranged, bytes_of, found, holds, in_order, is_met, limited, placed}
use Rattle.tc_model.specs.Texts.{not_empty}
use Rattle.tc_model.specs.declared.query.Cond.{Cond}
use Rattle.tc_model.specs.declared.query.IndexKind.{IndexKind}
use Rattle.tc_model.specs.declared.query.IndexKind.TheVariants as kinds
use Rattle.tc_model.specs.declared.query.Query.{Query}
use Rattle.tc_model.specs.declared.query.Sort.{Sort}
use Rattle.tc_space.specs.declared.space.Space.{Ghosts}
use Rattle.tc_space.specs.declared.records.Records as records
use Rattle.tc_space.specs.declared.multi.Multi as multi
use Rattle.td_index.specs.Entries.{one, times}
use Rattle.td_index.proofs.Counting.{one_true, text_refl}
use Rattle.td_plan.proofs.Planning.{chosen_plain}
use Rattle.td_plan.specs.Choices.{IsChosen, is_plain}
use Rattle.td_plan.specs.Plans.{IsCovered}
use Rattle.td_plan.specs.declared.choice.Choice.{Choice}
use Rattle.td_plan.specs.declared.span.Span.{Span}
use Rattle.tc_table.specs.Searching.{AreArranged, AreNamed, HasAllUnder, IsAlone, NamesPlanned, firsts_of, found_at, found_row, found_under, indexed, is_named, is_named_at, kept, of_values}
use Rattle.tc_table.specs.Tables.{Holds}
use Rattle.tc_table.specs.declared.table.Table.{Table}
use Rattle.tc_table.proofs.Asked.{planned_under}
use Rattle.tc_table.proofs.Counted.{found_counted}
use Rattle.tc_table.proofs.Finding.{found_is}

-- ---- without a sort the keys alone give the order

abbrev placed_key : List ℕ → List (List ℕ) → List (List ℕ)
placed_key k [] = k ∷ []
placed_key k (j ∷ js) = cond (is_lt (lexical k j)) (k ∷ j ∷ js) (j ∷ placed_key k js)

keys_placed : (f : Found) (gs : List Found) → firsts_of (placed None f gs) ≡ placed_key f.0 (firsts_of gs)
keys_placed f [] = refl
keys_placed f (g ∷ gs) = go (is_lt (lexical f.0 g.0)) (keys_placed f gs)
  where
    go : (b : Bool) → firsts_of (placed None f gs) ≡ placed_key f.0 (firsts_of gs) → firsts_of (cond b (f ∷ g ∷ gs) (g ∷ placed None f gs)) ≡ cond b (f.0 ∷ g.0 ∷ firsts_of gs) (g.0 ∷ placed_key f.0 (firsts_of gs))
    go true rest = refl
    go false rest = ap (λ (l : List (List ℕ)). g.0 ∷ l) rest

abbrev keys_in_order : List (List ℕ) → List (List ℕ)
keys_in_order [] = []
keys_in_order (k ∷ ks) = placed_key k (keys_in_order ks)

keys_ordered : (fs : List Found) → firsts_of (in_order None fs) ≡ keys_in_order (firsts_of fs)
keys_ordered [] = refl
keys_ordered (f ∷ fs) = keys_placed f (in_order None fs) ∙ ap (placed_key f.0) (keys_ordered fs)

abbrev few_keys : Option ℕ → List (List ℕ) → List (List ℕ)
few_keys None ks = ks
few_keys (Some n) ks = take n ks

keys_limited : (o : Option ℕ) (fs : List Found) → firsts_of (limited o fs) ≡ few_keys o (firsts_of fs)
keys_limited None fs = refl
keys_limited (Some n) fs = sym (take-map (λ (f : Found). f.0) n fs)

keys_turned : (fs : List Found) → firsts_of (reverse fs) ≡ reverse (firsts_of fs)
keys_turned [] = refl
keys_turned (f ∷ fs) =
    ap firsts_of (reverse-append (f ∷ []) fs)
    ∙ (map-append (λ (g : Found). g.0) (reverse fs) (f ∷ [])
    ∙ (ap (λ (l : List (List ℕ)). l ++ f.0 ∷ []) (keys_turned fs) ∙ sym (reverse-append (f.0 ∷ []) (firsts_of fs))))

abbrev keys_arranged : Query → List (List ℕ) → List (List ℕ)
keys_arranged q ks = few_keys q.maximum (drop q.skip (keys_in_order (reverse ks)))

arranged_is : (q : Query) → q.sort ≡ None → (fs : List Found) → firsts_of (arranged q (reverse fs)) ≡ keys_arranged q (firsts_of fs)
arranged_is q none fs =
    keys_limited q.maximum (drop q.skip (in_order q.sort (reverse fs)))
    ∙ (ap (few_keys q.maximum) (sym (drop-map (λ (f : Found). f.0) q.skip (in_order q.sort (reverse fs))))
    ∙ (ap (λ (s : Option Sort). few_keys q.maximum (drop q.skip (firsts_of (in_order s (reverse fs))))) none
    ∙ ap (λ (l : List (List ℕ)). few_keys q.maximum (drop q.skip l)) (keys_ordered (reverse fs) ∙ ap keys_in_order (keys_turned fs))))

-- of rows that have the keys, by others that have them
pub keys_same : (q : Query) (keys ks : List (List ℕ)) (rows fs : List Found) → q.sort ≡ None → firsts_of rows ≡ keys → fs ≡ arranged q (reverse rows) → ks ≡ firsts_of fs → AreArranged q keys ks
keys_same q keys ks rows fs none are found is gs same =
    is ∙ (ap firsts_of found ∙ (arranged_is q none rows ∙ (ap (keys_arranged q) (are ∙ sym same) ∙ sym (arranged_is q none gs))))

-- ---- the only condition

some_is : {A : Type 0} (a b : A) → Some a ≡ Some b → a ≡ b
some_is a b e = cc

not_is : (b : Bool) → not b ≡ true → b ≡ false
not_is true e = absurd cc
not_is false e = refl

alone_is : (cs : List Cond) (n : ℕ) (c : Cond) → length cs ≡ 1 → slice_get cs n ≡ Some c → cs ≡ c ∷ []
alone_is [] n c one at = absurd cc
alone_is (d ∷ []) zero c one at = ap (λ (e : Cond). e ∷ []) (some_is d c at)
alone_is (d ∷ []) (suc n) c one at = absurd cc
alone_is (d ∷ e ∷ cs) n c one at = absurd (omega (arith, one))

-- a plain condition is met where its column's value meets it
met_plain : (c : Cond) (key : List ℕ) (row : Row) → is_plain c ≡ true → is_met (key, row) c ≡ meets c.operator (column row c.column) c.expression
met_plain c key row plain =
    let parts = and_parts (not c.negated) (not c.unindexed && not_empty c.column) plain in
    let rest = and_parts (not c.unindexed) (not_empty c.column) parts.1 in
    ap (λ (t : Bool). cond t (not (meets c.operator (bytes_of c.column (key, row)) c.expression)) (meets c.operator (bytes_of c.column (key, row)) c.expression)) (not_is c.negated parts.0)
    ∙ ap (λ (t : Bool). meets c.operator (cond t (column row c.column) (Some key)) c.expression) rest.1

and_true : (b : Bool) → (b && true) ≡ b
and_true true = refl
and_true false = refl

value_named : (kind : IndexKind) (c : Cond) (row : Row) → of_values kind ≡ true → is_named kind c row ≡ meets c.operator (column row c.column) c.expression
value_named kinds.Lexical c row values = refl
value_named kinds.Decimal c row values = refl
value_named kinds.Token c row values = absurd (let e : false ≡ true = values in cc)

is_one : (b : Bool) → 1 ≤ one b → b ≡ true
is_one true few = refl
is_one false few = absurd (omega (arith, few))

module _ (q : Query) (c : Cond) (kind : IndexKind) (only : q.conds ≡ c ∷ []) (plain : is_plain c ≡ true) (values : of_values kind ≡ true) where
  named_holds : (key : List ℕ) (row : Row) → is_named kind c row ≡ holds q (key, row)
  named_holds key row = value_named kind c row values ∙ (sym (met_plain c key row plain) ∙ (sym (and_true (is_met (key, row) c)) ∙ sym (ap (λ (cs : List Cond). list_all (is_met (key, row)) cs) only)))

  abbrev IsFound : Rows → List ℕ → Type 0
  IsFound rows k = (row : Row) × (get rows k ≡ Some row) × (holds q (k, row) ≡ true)

  named_found : (rows : Rows) (ks : List (List ℕ)) → AreNamed kind c rows ks → (k : List ℕ) → 1 ≤ times k ks → IsFound rows k
  named_found rows ks are k few = go (get rows k) refl (omega (arith, few, are k))
    where
      go : (o : Option Row) → get rows k ≡ o → 1 ≤ one (is_named_at kind c o) → IsFound rows k
      go None is more = absurd (omega (arith, more))
      go (Some row) is more = (row, is, sym (named_holds k row) ∙ is_one (is_named kind c row) more)

  one_key : (rows : Rows) (k : List ℕ) → IsFound rows k → firsts_of (found_at q rows k) ≡ k ∷ []
  one_key rows k here = ap (λ (o : Option Row). firsts_of (found_row q k o)) here.1 ∙ ap (λ (b : Bool). firsts_of (cond b ((k, here.0) ∷ []) [])) here.2

  each_key : (rows : Rows) (ks : List (List ℕ)) → ((k : List ℕ) → 1 ≤ times k ks → IsFound rows k) → firsts_of (found_under q rows ks) ≡ ks
  each_key rows [] all = refl
  each_key rows (k ∷ ks) all =
      map-append (λ (f : Found). f.0) (found_at q rows k) (found_under q rows ks)
      ∙ (ap (λ (l : List (List ℕ)). l ++ firsts_of (found_under q rows ks)) (one_key rows k (all k (omega (arith, one_true (is_text k k) (text_refl k)))))
      ∙ ap (λ (l : List (List ℕ)). k ∷ l) (each_key rows ks (λ j few. all j (omega (arith, few)))))

  pub keys_found : (rows : Rows) (ks : List (List ℕ)) → AreNamed kind c rows ks → firsts_of (found_under q rows ks) ≡ ks
  keys_found rows ks are = each_key rows ks (named_found rows ks are)

-- ---- the rows of a table

found_keys : (q : Query) (rows : Rows) (ks out : List (List ℕ)) → HasAllUnder q rows ks → firsts_of (found_under q rows ks) ≡ ks → AreArranged q ks out → out ≡ firsts_of (found q rows)
unfolding found
found_keys q rows ks out all each is = is (found_under q rows ks) each ∙ ap firsts_of (found_is q rows ks all)

module _ {S R L OL D OD : Type 0} (s : Ghosts S) (r : records.Ghosts R S) (l : multi.Ghosts L S OL) (d : multi.Ghosts D S OD) where
  -- the keys that the chosen index names are those of the rows that meet the query
  exact_keys : (q : Query) (t : Table R L D) (choice : Choice) (a : S) (ks : List (List ℕ)) → IsChosen q (indexed t.sides.items) choice → IsAlone q (indexed t.sides.items) choice → NamesPlanned s r l d q choice t a ks
      → (rows : Rows) → Holds s r l d t a rows → firsts_of (found_under q rows ks) ≡ ks
  exact_keys q t choice a ks chosen alone names rows h =
      let served = chosen.served in
      let by = alone.by in
      keys_found q served.0 by.0.kind (alone_is q.conds choice.cond served.0 alone.one served.1) (chosen_plain q (indexed t.sides.items) choice served.0 chosen served.1) by.2 rows ks (names served.0 by.0 rows served.1 by.1 h)

  module _ (q : Query) (t : Table R L D) (choice : Choice) (span : Span) (a : S) (ks : List (List ℕ)) (chosen : IsChosen q (indexed t.sides.items) choice) (covers : IsCovered q (indexed t.sides.items) choice span) (alone : IsAlone q (indexed t.sides.items) choice) (names : NamesPlanned s r l d q choice t a ks) where
    pub exact_found : (out : List (List ℕ)) → AreArranged q ks out → (rows : Rows) → Holds s r l d t a rows → out ≡ firsts_of (found q rows)
    exact_found out is rows h = found_keys q rows ks out (planned_under s r l d q t choice span a ks chosen covers names rows h) (exact_keys q t choice a ks chosen alone names rows h) is

    pub exact_counted : (n m : ℕ) → n ≡ length ks → m ≡ kept q n → (rows : Rows) → Holds s r l d t a rows → m ≡ length (found q rows)
    exact_counted n m is of rows h =
        let so_many : n ≡ length (found_under q rows ks) = is ∙ (ap length (sym (exact_keys q t choice a ks chosen alone names rows h)) ∙ length-map (found_under q rows ks) (λ (f : Found). f.0)) in
        found_counted q rows ks n m (planned_under s r l d q t choice span a ks chosen covers names rows h) so_many of
