-- A limit that a call of the engine met.
use Rattle.std.proofs.Common.{◌≡◌, ◌∙◌, ℕ, ◌≤◌, Bool, true, Option, Some, None, List, refl, sym, ap, subst, inl, arith}
use Rattle.std.specs.Prelude.{is_some, option_map, unwrap_or, if◌then◌else◌}
use Rattle.std.specs.Cmp.Lexicographic.{slice_cmp}
use Rattle.std.specs.FinMap.{empty, entries, get, insert, len, len-empty, remove}
use Rattle.std.specs.List.Sorted.{IsStrictlySortedBy}
use Rattle.std.specs.Map.{keys_of}
use Rattle.std.specs.Ordering.{nat_cmp}
use Rattle.tc_base.specs.Files.{Files}
use Rattle.tc_base.specs.Maps.{Map}
use Rattle.tc_base.specs.declared.kind.Mode.{Mode}
use Rattle.tc_base.specs.declared.order.Decimal.{Decimal}
use Rattle.tc_base.specs.declared.order.Lexical.{Lexical}
use Rattle.tc_base.specs.Orders.{lexical}
use Rattle.tc_base.specs.declared.order.Order.{Ghosts as Orders}
use Rattle.tc_base.specs.declared.seq.Pair.{Pair}
use Rattle.tc_space.specs.declared.multi.Multi as multi
use Rattle.tc_space.specs.declared.records.Records.{Ghosts as Stores}
use Rattle.tc_space.specs.declared.space.Space.{Ghosts}
use Rattle.tc_hash.specs.declared.hash.Hash.{Hash}
use Rattle.tc_hashdb.specs.Changing.{last_values}
use Rattle.tc_model.specs.Contents.{Contents, Indexes, Rows, table}
use Rattle.tc_model.specs.Maps.{without}
use Rattle.tc_model.specs.Rows.{Row}
use Rattle.tc_model.specs.Stores.{put_row}
use Rattle.tc_model.specs.Well.{AreRows, IsRow}
use Rattle.tc_model.specs.declared.query.IndexKind.{IndexKind}
use Rattle.tc_model.proofs.WellStores.{MayBeWell, store_row_well}
use Rattle.tc_table.specs.Clearing.{FullEmptying}
use Rattle.tc_table.specs.Tables.{FullOut, FullPut, Holds}
use Rattle.tc_table.proofs.Spelled.{next_out, rows_out}
use Rattle.td_index.proofs.Counting.{text_refl}
use Rattle.ty_base.specs.Holding as base
use Rattle.tc_tabledb.specs.Changing.{FullGiven, all_out}
use Rattle.tc_tabledb.specs.Filling.{Fills}
use Rattle.tc_tabledb.specs.Holding.{DecimalList, HoldsEngine, LexicalList, indexes_of}
use Rattle.tc_tabledb.specs.Members.{AreTableStores}
use Rattle.tc_tabledb.specs.declared.holding.TableEngine.{TableEngine}
use Rattle.tc_tabledb.proofs.Lifting.{rows_held}
use Rattle.tc_tabledb.specs.Storing.{FullTexts, Told, all_put}
use Rattle.tc_tabledb.proofs.Limits as limits
use Rattle.tc_tabledb.proofs.Manies.{are_stored, pairs_put, texts_put}
use Rattle.tc_tabledb.proofs.Texts as texts

-- ---- rows that are put are rows

abbrev no_indexes : Indexes
no_indexes = empty

few_none : len (empty {X = IndexKind} {R = slice_cmp nat_cmp}) ≤ 16
few_none = let e = len-empty (slice_cmp nat_cmp) IndexKind in omega arith

rows_put : (mode : Mode) (rows : Rows) (key : List ℕ) (row : Row) (after : Rows) → AreRows rows → IsRow row → put_row mode rows key row ≡ Some after → AreRows after
rows_put mode rows key row after are is gives = (subst MayBeWell (ap (option_map (λ (n : Rows). table n no_indexes)) gives) (store_row_well mode (table rows no_indexes) key row (are, few_none) is)).0

-- ---- calls

module _ {S : Type 0} (s : Ghosts S) (r : Stores (Hash S) S) (ol : Orders Lexical) (od : Orders Decimal) (l : multi.Ghosts (LexicalList S) S Lexical) (d : multi.Ghosts (DecimalList S) S Decimal) (stores : AreTableStores s r ol od l d) where
  abbrev Held : TableEngine S → S → Contents → Type 0
  Held e a c = base.Held s (HoldsEngine r l d) e a c

  pub fine_of : (e : TableEngine S) (files : Files) (c : Contents) → HoldsEngine r l d e files c → limits.IsFine s r ol od l d stores e.table
  fine_of e files c h = record { main = h.main; made = h.made; distinct = h.distinct }

  abbrev FillsAs : TableEngine S → S → Rows → Option Rows → Type 0
  FillsAs e b rows o = Fills s b (table rows (indexes_of e.table.sides.items)) (table (unwrap_or o rows) (indexes_of e.table.sides.items))

  pub put_fills : (mode : Mode) (key : List ℕ) (row : Row) (e : TableEngine S) (a b : S) → IsRow row → (c : Contents) (h : Held e a c) → FullPut s r l d ol.cmp od.cmp mode key row e.table a b → FillsAs e b h.1.rows (put_row mode h.1.rows key row)
  put_fills mode key row e a b well c h full =
      let rows : Rows = h.1.rows in
      let holds : Holds s r l d e.table a rows = rows_held s r l d e a c h in
      let gives = full.gives rows holds in
      subst (λ (o : Option Rows). FillsAs e b rows o) (sym gives)
      (limits.put_fills s r ol od l d stores mode key row e.table a b rows (insert rows key full.new) rows h.0 (fine_of e (s.now a) c h.1) holds refl
      (λ n is. ap (λ (o : Option Rows). get (unwrap_or o rows) key) (sym gives ∙ is))
      (λ k other. inl refl) holds.are (rows_put mode rows key row (insert rows key full.new) holds.are well gives) full)

  pub out_fills : (key : List ℕ) (e : TableEngine S) (a b : S) (c : Contents) (h : Held e a c) → FullOut s r l d ol.cmp od.cmp key e.table a b → FillsAs e b h.1.rows (without h.1.rows key)
  out_fills key e a b c h full =
      let rows : Rows = h.1.rows in
      let holds : Holds s r l d e.table a rows = rows_held s r l d e a c h in
      let taken : without rows key ≡ Some (remove rows key) = ap (λ (o : Option Row). if is_some o then Some (remove rows key) else None) (full.had rows holds) in
      subst (λ (o : Option Rows). FillsAs e b rows o) (sym taken)
      (limits.out_fills s r ol od l d stores key e.table a b rows (remove rows key) rows h.0 (fine_of e (s.now a) c h.1) holds refl
      (next_out rows key key ∙ ap (λ (t : Bool). if t then None else get rows key) (text_refl key))
      (λ k other. inl refl) holds.are (rows_out rows key holds.are) full)

  pub clear_fills : (e : TableEngine S) (a b : S) (c : Contents) (h : Held e a c) → FullEmptying s r l d e.table a b → FillsAs e b h.1.rows (Some empty)
  clear_fills e a b c h full = limits.clear_fills s r ol od l d stores e.table a b h.1.rows h.0 (fine_of e (s.now a) c h.1) (rows_held s r l d e a c h) full

  pub each_fills : (keys : List (List ℕ)) (e : TableEngine S) (a b : S) (c : Contents) (h : Held e a c) → FullGiven s r l d ol.cmp od.cmp keys e.table a b → FillsAs e b h.1.rows (Some (all_out keys h.1.rows))
  each_fills keys e a b c h full = limits.each_fills s r ol od l d stores keys e.table a b h.1.rows h.0 (fine_of e (s.now a) c h.1) (rows_held s r l d e a c h) full

  pub texts_fill : (es : List Told) (e : TableEngine S) (a b : S) → IsStrictlySortedBy lexical (keys_of es) → (c : Contents) (h : Held e a c) → FullTexts s r l d ol.cmp od.cmp es e.table a b → FillsAs e b h.1.rows (Some (all_put es h.1.rows))
  texts_fill es e a b rising c h full = texts.texts_fill s r ol od l d stores es e.table a b h.1.rows h.0 (fine_of e (s.now a) c h.1) rising (rows_held s r l d e a c h) full

  pub pairs_fill : (ps shown : List Pair) (stored : Bool) (m : Map) → shown ≡ ps → stored ≡ are_stored shown → stored ≡ true → m ≡ last_values ps → IsStrictlySortedBy lexical (keys_of (entries m)) → (e : TableEngine S) (a b : S) (c : Contents) (h : Held e a c) → FullTexts s r l d ol.cmp od.cmp (entries m) e.table a b
      → FillsAs e b h.1.rows (Some (pairs_put ps h.1.rows))
  pairs_fill ps shown stored m same is all values rising e a b c h full = subst (λ (rows : Rows). FillsAs e b h.1.rows (Some rows)) (texts_put ps shown stored m same is all values rising h.1.rows) (texts_fill (entries m) e a b rising c h full)
