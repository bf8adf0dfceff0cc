-- What holds of tables whatever they stand on: names and types of indexes stay where their trees do, and what is held over files has to do with its own files alone.
use Rattle.std.specs.Prelude.{◌≡◌, ◌⊎◌, ℕ, ◌+◌, ◌≤◌, List, [], ◌∷◌, Option}
use Rattle.std.proofs.Common.{◌∙◌, refl, sym, ap, subst, inl, inr, ⊎_elim, arith}
use Rattle.tc_base.specs.Files.{Files}
use Rattle.tc_base.specs.declared.kind.Form.{Form}
use Rattle.tc_base.specs.declared.kind.Form.TheVariants.{Keep}
use Rattle.tc_space.specs.declared.records.Records as records
use Rattle.tc_space.specs.declared.multi.Multi as multi
use Rattle.tc_base.specs.declared.order.Decimal.{Decimal as ByNumbers}
use Rattle.tc_base.specs.declared.order.Lexical.{Lexical as ByBytes}
use Rattle.tc_hash.specs.declared.hash.Hash.{Hash}
use Rattle.tc_hash.specs.Ending.{slack_in}
use Rattle.tc_hash.specs.Repacking.{IsPackedFrom}
use Rattle.td_index.specs.Entries.{Firsts}
use Rattle.tc_model.specs.Contents.{Contents, Indexes, Rows}
use Rattle.tc_table.specs.Over.{AllOver, HoldsOver, SideOver, TreeOver}
use Rattle.tc_table.specs.Parts.{parts_of}
use Rattle.tc_table.specs.Sides.{name_of, tree_file}
use Rattle.tc_table.specs.declared.side.Side.{Side}
use Rattle.tc_table.specs.declared.side.Sorted.{Sorted}
use Rattle.tc_table.specs.declared.side.Sorted.TheVariants.{Lexical, Decimal}
use Rattle.tc_table.specs.declared.table.Table.{Table}
use Rattle.ty_base.specs.Holding.{AreApart, NoLogs, SaysAlike}
use Rattle.tc_tabledb.specs.declared.holding.TableEngine.{TableEngine}
use Rattle.tc_tabledb.specs.Files.{AreEmpty, AreFilesOf, AreNone, HaveIndexes, IsIndexOf, IsIndexPlace, IsRowsFile, IsTableFile, Reopens, index_files}
use Rattle.tc_tabledb.specs.Holding.{AllMade, AllPackedFrom, ArePackedFrom, DecimalList, HoldsEngine, HoldsTable, LexicalList}
use Rattle.tc_tabledb.specs.Informing.{IsTold, lines_of}
use Rattle.tc_tabledb.specs.Laying.{layout_of, main_layout, slack_of}

-- ---- files

pub no_logs : NoLogs IsTableFile
no_logs = (
  λ own. ⊎_elim (λ (e : 1 ≡ 0). absurd (omega (arith, e))) (λ (place : IsIndexPlace 1). let low = place.0 in absurd (omega (arith, low))) own,
  λ own. ⊎_elim (λ (e : 2 ≡ 0). absurd (omega (arith, e))) (λ (place : IsIndexPlace 2). let low = place.0 in absurd (omega (arith, low))) own,
)

-- two lists of files that agree, where these are all its own
abbrev Agree : List ℕ → Files → Files → Type 0
Agree [] f g = Unit {0}
Agree (n ∷ ns) f g = (f n ≡ g n) × Agree ns f g

main_agrees : (f g : Files) → AreApart IsTableFile f g → f 0 ≡ g 0
main_agrees f g apart = sym (apart 0 (inl refl))

place_agrees : (f g : Files) → AreApart IsTableFile f g → (n : ℕ) → IsIndexPlace n → f n ≡ g n
place_agrees f g apart n place = sym (apart n (inr place))

all_agree : (f g : Files) → AreApart IsTableFile f g → Agree index_files f g
all_agree f g apart =
    let at : (n : ℕ) → 3 ≤ n → n ≤ 18 → f n ≡ g n = λ n low high. place_agrees f g apart n (low, high) in
    (at 3 (omega arith) (omega arith), (at 4 (omega arith) (omega arith), (at 5 (omega arith) (omega arith), (at 6 (omega arith) (omega arith), (at 7 (omega arith) (omega arith), (at 8 (omega arith) (omega arith), (at 9 (omega arith) (omega arith), (at 10 (omega arith) (omega arith), (at 11 (omega arith) (omega arith), (at 12 (omega arith) (omega arith), (at 13 (omega arith) (omega arith), (at 14 (omega arith) (omega arith), (at 15 (omega arith) (omega arith), (at 16 (omega arith) (omega arith), (at 17 (omega arith) (omega arith), (at 18 (omega arith) (omega arith), tt))))))))))))))))

have_moved : (rows : Rows) (f g : Files) (fs : List ℕ) (seen : List (List ℕ)) (indexes : Indexes) → Agree fs f g → HaveIndexes rows f fs seen indexes → HaveIndexes rows g fs seen indexes
have_moved rows f g [] seen indexes same have = have
have_moved rows f g (n ∷ ns) seen indexes same have = ⊎_elim
    (λ none. inl (sym same.0 ∙ none.0, have_moved rows f g ns seen indexes same.1 none.1))
    (λ some. inr (some.0, some.1, some.2, subst (λ (bytes : List ℕ). IsIndexOf rows seen bytes some.0 some.1) same.0 some.3, have_moved rows f g ns _ some.2 same.1 some.4, some.5))
    have

empty_moved : (f g : Files) (fs : List ℕ) → Agree fs f g → AreEmpty f fs → AreEmpty g fs
empty_moved f g [] same none = tt
empty_moved f g (n ∷ ns) same none = (sym same.0 ∙ none.0, empty_moved f g ns same.1 none.1)

packed_moved : (from f g : Files) (fs : List ℕ) → Agree fs f g → AllPackedFrom from f fs → AllPackedFrom from g fs
packed_moved from f g [] same packed = tt
packed_moved from f g (n ∷ ns) same packed = (⊎_elim (λ none. inl (sym same.0 ∙ none)) (λ p. inr (subst (λ (bytes : List ℕ). IsPackedFrom (from n) Keep bytes) same.0 p)) packed.0, packed_moved from f g ns same.1 packed.1)

from_moved : (f g files : Files) (fs : List ℕ) → Agree fs f g → AllPackedFrom f files fs → AllPackedFrom g files fs
from_moved f g files [] same packed = tt
from_moved f g files (n ∷ ns) same packed = (⊎_elim (λ none. inl none) (λ p. inr (subst (λ (bytes : List ℕ). IsPackedFrom bytes Keep (files n)) same.0 p)) packed.0, from_moved f g files ns same.1 packed.1)

slack_moved : (f g : Files) (fs : List ℕ) → Agree fs f g → slack_of g fs ≡ slack_of f fs
slack_moved f g [] same = refl
slack_moved f g (n ∷ ns) same = λ i. slack_in (sym same.0 i) + slack_moved f g ns same.1 i

files_moved : (f g : Files) (c : Contents) → AreApart IsTableFile f g → AreFilesOf f c → AreFilesOf g c
files_moved f g c apart are = record {
  rows = are.rows;
  indexes = are.indexes;
  is = are.is;
  main = subst (λ (bytes : List ℕ). IsRowsFile bytes are.rows) (main_agrees f g apart) are.main;
  have = have_moved are.rows f g index_files [] are.indexes (all_agree f g apart) are.have;
}

reopens_moved : (f g : Files) (c : Contents) → AreApart IsTableFile f g → Reopens f c → Reopens g c
reopens_moved f g c apart r = ⊎_elim
    (λ (none : AreNone f c). inl (record { main = sym (main_agrees f g apart) ∙ none.main; indexes = empty_moved f g index_files (all_agree f g apart) none.indexes; is = none.is }))
    (λ (are : AreFilesOf f c). inr (files_moved f g c apart are))
    r

-- ---- what a table holds

module _ {S R L OL D OD : Type 0} (r : records.Ghosts R S) (l : multi.Ghosts L S OL) (d : multi.Ghosts D S OD) where
  pub tree_moved : (x : Sorted L D) (f g : Files) (h : Firsts) → f (tree_file l d x) ≡ g (tree_file l d x) → TreeOver l d x f h → TreeOver l d x g h
  tree_moved (Lexical i) f g h same over = record { pairs = over.pairs; held = subst (λ (bytes : List ℕ). l.holds i.tree bytes over.pairs) same over.held; exact = over.exact }
  tree_moved (Decimal i) f g h same over = record { pairs = over.pairs; held = subst (λ (bytes : List ℕ). d.holds i.tree bytes over.pairs) same over.held; exact = over.exact }

  sides_moved : (xs : List (Side L D)) (f g : Files) (rows : Rows) → AreApart IsTableFile f g → AllMade r l d xs → AllOver l d xs f rows → AllOver l d xs g rows
  sides_moved [] f g rows apart made over = tt
  sides_moved (x ∷ xs) f g rows apart made over = (
    record { fits = over.0.fits; stands = tree_moved x.tree f g (parts_of x.kind (name_of x.tree) rows) (place_agrees f g apart (tree_file l d x.tree) made.0.file) over.0.stands },
    sides_moved xs f g rows apart made.1 over.1,
  )

  table_moved : (t : Table R L D) (total : Option ℕ) (f g : Files) (c : Contents) → AreApart IsTableFile f g → HoldsTable r l d t total f c → HoldsTable r l d t total g c
  table_moved t total f g c apart h = record {
    rows = h.rows;
    is = h.is;
    held = record {
      store = h.held.store;
      held = subst (λ (bytes : List ℕ). r.holds t.rows bytes h.held.store) (place_of (r.file_of t.rows) h.main) h.held.held;
      spelled = h.held.spelled;
      are = h.held.are;
      apart = h.held.apart;
      indexes = sides_moved t.sides.items f g h.rows apart h.made h.held.indexes;
    };
    main = h.main;
    sort = h.sort;
    made = h.made;
    distinct = h.distinct;
    rest = λ n at away. sym (place_agrees f g apart n at) ∙ h.rest n at away;
    counted = h.counted;
  }
    where
      place_of : (n : ℕ) → n ≡ 0 → f n ≡ g n
      place_of n is = subst (λ (m : ℕ). f m ≡ g m) (sym is) (main_agrees f g apart)

module _ {S : Type 0} (r : records.Ghosts (Hash S) S) (l : multi.Ghosts (LexicalList S) S ByBytes) (d : multi.Ghosts (DecimalList S) S ByNumbers) where
  pub moved_apart : (e : TableEngine S) (f g : Files) → AreApart IsTableFile f g → SaysAlike (HoldsEngine r l d e) Reopens layout_of (λ from form files. ArePackedFrom from form files) (λ files text. IsTold files text) f g
  unfolding files_moved
  moved_apart e f g apart = record {
    held = λ c h. table_moved r l d e.table e.total f g c apart h;
    stand = λ c h. reopens_moved f g c apart h;
    laid = λ i. main_layout (sym (main_agrees f g apart) i) (slack_moved f g (0 ∷ index_files) (main_agrees f g apart, all_agree f g apart) i);
    tight = λ from form h. record { main = subst (λ (bytes : List ℕ). IsPackedFrom (from 0) form bytes) (main_agrees f g apart) h.main; indexes = packed_moved from f g index_files (all_agree f g apart) h.indexes };
    tight_from = λ form files h. record { main = subst (λ (bytes : List ℕ). IsPackedFrom bytes form (files 0)) (main_agrees f g apart) h.main; indexes = from_moved f g files index_files (all_agree f g apart) h.indexes };
    told = λ text h. record { contents = h.contents; stand = files_moved f g h.contents apart h.stand; are = subst (λ (bytes : List ℕ). text ≡ lines_of bytes h.stand.indexes) (main_agrees f g apart) h.are };
  }
