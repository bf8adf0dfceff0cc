-- Which rows a search reads, and what it makes of them.
use Rattle.std.specs.Prelude.{◌≡◌, ◌≤◌, ◌+◌, ◌-◌, min, ℕ, Bool, true, false, List, [], ◌∷◌, ◌++◌, length, map, filter, flat_map, reverse, slice_get, Option, Some, None, if◌then◌else◌}
use Rattle.std.specs.FinMap.{entries, get}
use Rattle.tc_model.specs.Contents.{Rows}
use Rattle.tc_model.specs.Operators.{all_tokens, meets, some_token}
use Rattle.tc_model.specs.Rows.{Row, column}
use Rattle.tc_model.specs.Search.{Found, arranged, holds}
use Rattle.tc_model.specs.declared.query.Cond.{Cond}
use Rattle.tc_model.specs.declared.query.IndexKind.{IndexKind}
use Rattle.tc_model.specs.declared.query.IndexKind.TheVariants as kinds
use Rattle.tc_model.specs.declared.query.Query.{Query}
use Rattle.td_index.specs.Entries.{one, times}
use Rattle.td_index.specs.Entries.{Firsts, Stands}
use Rattle.tc_model.specs.Texts.{is_among}
use Rattle.tc_model.specs.Well.{AreRows}
use Rattle.td_plan.specs.Spans.{Covers}
use Rattle.td_plan.specs.declared.span.Span.{Span}
use Rattle.tc_table.specs.Parts.{parts_of}
use Rattle.std.specs.List.{list_all, list_any}
use Rattle.tc_space.specs.declared.space.Space.{Ghosts}
use Rattle.tc_space.specs.declared.records.Records as records
use Rattle.tc_space.specs.declared.multi.Multi as multi
use Rattle.td_plan.specs.Choices.{IsChosen, asks_all}
use Rattle.td_plan.specs.declared.choice.Choice.{Choice}
use Rattle.td_plan.specs.declared.choice.Indexed.{Indexed}
use Rattle.tc_table.specs.Sides.{AllStand, SideStands, name_of}
use Rattle.tc_table.specs.Tables.{Holds}
use Rattle.tc_table.specs.declared.side.Side.{Side}
use Rattle.tc_table.specs.declared.side.Sorted.{Sorted}
use Rattle.tc_table.specs.declared.side.Sorted.TheVariants.{Lexical, Decimal}
use Rattle.tc_table.specs.declared.table.Table.{Table}

-- the indexed columns and their types
abbrev pub as_indexed : {L D : Type 0} → Side L D → Indexed
as_indexed x = record { column = name_of x.tree; kind = x.kind }

abbrev pub indexed : {L D : Type 0} → List (Side L D) → List Indexed
indexed xs = map as_indexed xs

-- ---- the rows that a chosen index names

-- a value has all tokens that are asked for, or some
abbrev pub has_tokens : Cond → Option (List ℕ) → Bool
has_tokens c None = false
has_tokens c (Some value) = if asks_all c.operator then all_tokens value c.expression else some_token value c.expression

-- of an index of values those whose value meets the condition, of one of tokens those with all tokens, or some
abbrev pub is_named : IndexKind → Cond → Row → Bool
is_named kinds.Lexical c row = meets c.operator (column row c.column) c.expression
is_named kinds.Decimal c row = meets c.operator (column row c.column) c.expression
is_named kinds.Token c row = has_tokens c (column row c.column)

abbrev pub is_named_at : IndexKind → Cond → Option Row → Bool
is_named_at kind c None = false
is_named_at kind c (Some row) = is_named kind c row

-- these are the primary keys of the rows that it names, each once
abbrev pub AreNamed : IndexKind → Cond → Rows → List (List ℕ) → Type 0
AreNamed kind c rows keys = (k : List ℕ) → times k keys ≡ one (is_named_at kind c (get rows k))

-- how many rows it names
abbrev pub named : IndexKind → Cond → Rows → ℕ
named kind c rows = length (filter (λ e. is_named kind c e.1) (entries rows))

-- ---- the rows under keys that a query asks for

abbrev pub found_row : Query → List ℕ → Option Row → List Found
found_row q key None = []
found_row q key (Some row) = if holds q (key, row) then (key, row) ∷ [] else []

abbrev pub found_at : Query → Rows → List ℕ → List Found
found_at q rows key = found_row q key (get rows key)

abbrev pub found_under : Query → Rows → List (List ℕ) → List Found
found_under q rows keys = flat_map (found_at q rows) keys

-- these and those are found in one, whatever comes in front of them
abbrev pub AreOne : Query → List Found → List Found → Type 0
AreOne q xs ys = (more : List Found) → arranged q (reverse (xs ++ more)) ≡ arranged q (reverse (ys ++ more))

-- how many are kept of so many, and how many are found where so many rows meet the query
abbrev pub most_of : Option ℕ → ℕ → ℕ
most_of None n = n
most_of (Some m) n = min m n

abbrev pub kept : Query → ℕ → ℕ
kept q n = most_of q.maximum (n - q.skip)

-- each row that meets the query is under one of these keys, none of which comes twice
pub record HasAllUnder (q : Query) (rows : Rows) (keys : List (List ℕ)) : Type 0 where
  pub once : (k : List ℕ) → times k keys ≤ 1
  pub all : (k : List ℕ) (row : Row) → get rows k ≡ Some row → holds q (k, row) ≡ true → 1 ≤ times k keys

-- ---- the most rows that are read

module _ {S R L OL D OD : Type 0} (s : Ghosts S) (r : records.Ghosts R S) (l : multi.Ghosts L S OL) (d : multi.Ghosts D S OD) where
  -- of how many rows the chosen index names, where one serves
  abbrev pub OfPlanned : Query → Table R L D → S → (ℕ → Type 0) → Type 0
  OfPlanned q t space P = (x : Choice) (c : Cond) (i : Indexed) (rows : Rows) → IsChosen q (indexed t.sides.items) x → slice_get q.conds x.cond ≡ Some c → slice_get (indexed t.sides.items) x.index ≡ Some i → Holds s r l d t space rows → P (named i.kind c rows)

  -- with these is found what is found of the rows under these keys
  abbrev pub FindsUnder : Query → Table R L D → S → List (List ℕ) → List Found → Type 0
  FindsUnder q t space keys fs = (rows : Rows) → Holds s r l d t space rows → arranged q (reverse fs) ≡ arranged q (reverse (found_under q rows keys))

  -- so many of the rows under these keys meet the query
  abbrev pub CountsUnder : Query → Table R L D → S → List (List ℕ) → ℕ → Type 0
  CountsUnder q t space keys n = (rows : Rows) → Holds s r l d t space rows → n ≡ length (found_under q rows keys)

  -- these are the keys of the rows that the chosen index names
  abbrev pub NamesPlanned : Query → Choice → Table R L D → S → List (List ℕ) → Type 0
  NamesPlanned q x t space keys = (c : Cond) (i : Indexed) (rows : Rows) → slice_get q.conds x.cond ≡ Some c → slice_get (indexed t.sides.items) x.index ≡ Some i → Holds s r l d t space rows → AreNamed i.kind c rows keys

-- ---- the only condition

-- an index of values, not of tokens
abbrev pub of_values : IndexKind → Bool
of_values kinds.Lexical = true
of_values kinds.Decimal = true
of_values kinds.Token = false

-- there is one condition alone, and the chosen index is one of values
pub record IsAlone (q : Query) (indexes : List Indexed) (x : Choice) : Type 0 where
  pub one : length q.conds ≡ 1
  pub by : (i : Indexed) × (slice_get indexes x.index ≡ Some i) × (of_values i.kind ≡ true)

-- an index of values serves the only condition: its pairs say which rows meet the query
abbrev pub IsExact : Query → List Indexed → Type 0
IsExact q indexes = (x : Choice) × IsChosen q indexes x × IsAlone q indexes x

-- the primary keys of rows
abbrev pub firsts_of : List Found → List (List ℕ)
firsts_of fs = map (λ f. f.0) fs

-- what a query without an order finds of rows that have these keys
abbrev pub AreArranged : Query → List (List ℕ) → List (List ℕ) → Type 0
AreArranged q keys found = (fs : List Found) → firsts_of fs ≡ keys → found ≡ firsts_of (arranged q (reverse fs))

-- ---- what tokens name

-- whether parts have all tokens of an expression, or some
abbrev pub has_asked : Bool → List (List ℕ) → List (List ℕ) → Bool
has_asked true asked parts = list_all (λ t. is_among t parts) asked
has_asked false asked parts = list_any (λ t. is_among t parts) asked

-- so many of some texts are among parts
abbrev pub count_among : List (List ℕ) → List (List ℕ) → ℕ
count_among [] parts = 0
count_among (t ∷ ts) parts = times t parts + count_among ts parts

-- these are the keys of the rows that give an index these parts, if all of some texts are among them, each as often as before
abbrev pub AreLeft : List (List ℕ) → List (List ℕ) → Firsts → List (List ℕ) → Type 0
AreLeft asked before h keys = (k : List ℕ) → times k keys ≡ (if has_asked true asked (h k) then times k before else 0)

-- each key comes as often as one of these texts is among its parts
abbrev pub AreCounted : List (List ℕ) → Firsts → List (List ℕ) → Type 0
AreCounted asked h keys = (k : List ℕ) → times k keys ≡ count_among asked (h k)

-- each key comes once where it has what is asked for, else not
abbrev pub AreAsked : Bool → List (List ℕ) → Firsts → List (List ℕ) → Type 0
AreAsked all asked h keys = (k : List ℕ) → times k keys ≡ one (has_asked all asked (h k))

-- of a tree that stands for parts of rows
module _ {S M O : Type 0} (s : Ghosts S) (m : multi.Ghosts M S O) where
  abbrev pub OfRows : M → S → (Firsts → Type 0) → Type 0
  OfRows tree space P = (kind : IndexKind) (name : List ℕ) (rows : Rows) → AreRows rows → Stands s m tree space (parts_of kind name rows) → P (parts_of kind name rows)

  -- the keys of the rows that a stretch of it names
  abbrev pub NamesKeys : Cond → Span → M → S → List (List ℕ) → Type 0
  NamesKeys c span tree space keys = (kind : IndexKind) (rows : Rows) → AreRows rows → Covers kind span c.operator c.expression → Stands s m tree space (parts_of kind c.column rows) → AreNamed kind c rows keys

  -- of the rows that have all tokens of its expression, or some
  abbrev pub AsksTokens : Cond → Bool → M → S → List (List ℕ) → Type 0
  AsksTokens c all tree space keys = (rows : Rows) → AreRows rows → asks_all c.operator ≡ all → Stands s m tree space (parts_of kinds.Token c.column rows) → AreNamed kinds.Token c rows keys

-- of an index, and of the one at a place
module _ {S L OL D OD : Type 0} (s : Ghosts S) (l : multi.Ghosts L S OL) (d : multi.Ghosts D S OD) where
  abbrev pub NamesTree : Cond → Span → Sorted L D → S → List (List ℕ) → Type 0
  NamesTree c span (Lexical i) space keys = NamesKeys s l c span i.tree space keys
  NamesTree c span (Decimal i) space keys = NamesKeys s d c span i.tree space keys

  abbrev pub NamesSide : Cond → Span → Side L D → S → List (List ℕ) → Type 0
  NamesSide c span x space keys = (rows : Rows) → AreRows rows → SideStands s l d x space rows → name_of x.tree ≡ c.column → Covers x.kind span c.operator c.expression → AreNamed x.kind c rows keys

  abbrev pub NamesAt : Cond → Span → ℕ → List (Side L D) → S → List (List ℕ) → Type 0
  NamesAt c span place xs space keys = (rows : Rows) (x : Side L D) → AreRows rows → AllStand s l d xs space rows → slice_get xs place ≡ Some x → name_of x.tree ≡ c.column → Covers x.kind span c.operator c.expression → AreNamed x.kind c rows keys
