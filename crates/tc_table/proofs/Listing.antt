-- What an index is owed of rows is in the list of the pairs that the abstract database gives it.
use Rattle.std.proofs.Common.{◌≡◌, ◌∙◌, ℕ, Bool, true, false, cond, List, [], ◌∷◌, ◌++◌, map, Option, Some, sym, refl, ap}
use Rattle.std.specs.Prelude.{flat_map, option_to_list}
use Rattle.std.specs.Cmp.Lexicographic.{texts_ties}
use Rattle.std.specs.Ordering.{is_lt}
use Rattle.std.specs.FinMap.{entries, entries_sorted, find, get, get-entries, is_sorted, keys}
use Rattle.std.specs.FinMap.Entries.{below_all}
use Rattle.std.proofs.lemmas.Bool.{and_parts}
use Rattle.tc_base.specs.Lists.{pair}
use Rattle.tc_base.specs.Texts.{is_text}
use Rattle.tc_base.specs.declared.seq.Pair.{Pair}
use Rattle.tc_model.specs.Contents.{Rows}
use Rattle.tc_model.specs.Indexes.{firsts, index_pairs}
use Rattle.tc_model.specs.Rows.{Row, column}
use Rattle.tc_model.specs.Search.{Found}
use Rattle.tc_model.specs.Well.{AreRows}
use Rattle.tc_model.specs.declared.query.IndexKind.{IndexKind}
use Rattle.td_index.specs.Entries.{Firsts, entry, owed, times}
use Rattle.td_index.proofs.Counting.{text_refl}
use Rattle.td_index.proofs.Parting.{all_entries, owed_listed, row_entries}
use Rattle.tc_table.specs.Laws.{IndexLaw, entry_of}
use Rattle.tc_table.specs.Parts.{parts_of, parts_of_row}
use Rattle.tc_table.proofs.Finding.{R, is_true, not_same}
use Rattle.tc_table.proofs.Naming.{no_parts, rows_once, turned, whole_parts}

-- ---- what a map has of its entries

-- each of some entries is found among all
abbrev AreFound : List Found → List Found → Type 0
AreFound all [] = Unit {0}
AreFound all (e ∷ es) = (find R e.0 all ≡ Some e.1) × AreFound all es

found_more : (x : Found) (all es : List Found) → below_all R x.0 es ≡ true → AreFound all es → AreFound (x ∷ all) es
found_more x all [] below found = tt
found_more x all (e ∷ es) below found =
    let both = and_parts (is_lt (R x.0 e.0)) (below_all R x.0 es) below in
    let other : is_text e.0 x.0 ≡ false = turned e.0 x.0 ∙ not_same x.0 e.0 both.0 in
    (ap (λ (t : Bool). cond t (Some x.1) (find R e.0 all)) (sym (texts_ties e.0 x.0) ∙ other) ∙ found.0, found_more x all es both.1 found.1)

found_all : (es : List Found) → is_sorted R es ≡ true → AreFound es es
found_all [] sorted = tt
found_all (e ∷ es) sorted =
    let both = and_parts (below_all R e.0 es) (is_sorted R es) sorted in
    (ap (λ (t : Bool). cond t (Some e.1) (find R e.0 es)) (sym (texts_ties e.0 e.0) ∙ text_refl e.0), found_more e es es both.0 (found_all es both.1))

-- ---- the tree keys of the pairs

module _ (kind : IndexKind) (name : List ℕ) where
  abbrev parts_at : Found → List (List ℕ)
  parts_at e = flat_map (firsts kind) (option_to_list (column e.1 name))

  abbrev pairs_at : Found → List Pair
  pairs_at e = map (λ first. pair first e.0) (parts_at e)

  keys_at : (k : List ℕ) (fs : List (List ℕ)) → map entry_of (map (λ first. pair first k) fs) ≡ row_entries k fs
  keys_at k [] = refl
  keys_at k (f ∷ fs) = ap (λ (l : List (List ℕ)). entry f k ∷ l) (keys_at k fs)

  joined : (ps qs : List Pair) → map entry_of (ps ++ qs) ≡ map entry_of ps ++ map entry_of qs
  joined [] qs = refl
  joined (p ∷ ps) qs = ap (λ (l : List (List ℕ)). entry_of p ∷ l) (joined ps qs)

  -- by what a function gives the keys of the entries
  abbrev Gives : Firsts → List Found → Type 0
  Gives h [] = Unit {0}
  Gives h (e ∷ es) = (h e.0 ≡ parts_at e) × Gives h es

  listed : (h : Firsts) (es : List Found) → Gives h es → map entry_of (flat_map pairs_at es) ≡ all_entries h (map (λ e. e.0) es)
  listed h [] gives = refl
  listed h (e ∷ es) gives =
      joined (pairs_at e) (flat_map pairs_at es)
      ∙ (ap (λ (l : List (List ℕ)). l ++ map entry_of (flat_map pairs_at es)) (keys_at e.0 (parts_at e))
      ∙ (ap (λ (l : List (List ℕ)). row_entries e.0 (parts_at e) ++ l) (listed h es gives.1)
      ∙ ap (λ (fs : List (List ℕ)). row_entries e.0 fs ++ all_entries h (map (λ f. f.0) es)) (sym gives.0)))

  gives_all : (rows : Rows) (es : List Found) → AreFound (entries rows) es → Gives (parts_of kind name rows) es
  gives_all rows [] found = tt
  gives_all rows (e ∷ es) found = (ap (parts_of_row kind name) (get-entries rows e.0 ∙ found.0), gives_all rows es found.1)

  pairs_owed : (rows : Rows) → AreRows rows → (x : List ℕ) → times x (map entry_of (index_pairs rows name kind)) ≡ owed (parts_of kind name rows) x
  unfolding index_pairs
  pairs_owed rows are x =
      ap (times x) (listed (parts_of kind name rows) (entries rows) (gives_all rows (entries rows) (found_all (entries rows) (is_true (is_sorted R (entries rows)) (entries_sorted rows)))))
      ∙ owed_listed (parts_of kind name rows) (keys rows) (rows_once rows) (no_parts kind name rows) (whole_parts kind name rows are) x

pub law : IndexLaw
law rows name kind ps are = (λ owed_is x. owed_is x ∙ sym (pairs_owed kind name rows are x), λ keys_are x. keys_are x ∙ pairs_owed kind name rows are x)
