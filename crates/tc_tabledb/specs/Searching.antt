-- Searches, and what is done with the rows that they find.
use Rattle.std.specs.Prelude.{◌≡◌, ◌≤◌, ◌+◌, ℕ, List, [], ◌∷◌, flat_map, length, map, Option, Some, None, option_map}
use Rattle.std.specs.Fmt.{decimal}
use Rattle.tc_base.specs.Files.{Files}
use Rattle.tc_base.specs.declared.order.Decimal.{Decimal}
use Rattle.tc_base.specs.declared.order.Lexical.{Lexical}
use Rattle.tc_space.specs.Frames.{Others}
use Rattle.tc_space.specs.declared.multi.Multi as multi
use Rattle.tc_space.specs.declared.records.Records as records
use Rattle.tc_space.specs.declared.space.Space.{Ghosts}
use Rattle.tc_hash.specs.declared.hash.Hash.{Hash}
use Rattle.tc_engine.specs.Changes.{Change}
use Rattle.tc_engine.specs.Rows.{Adds, item_row}
use Rattle.tc_engine.specs.declared.rows.Rows.{Rows as Gathering}
use Rattle.tc_model.specs.Contents.{Contents, table}
use Rattle.tc_model.specs.Meaning.{reply_of, searched, without_rows}
use Rattle.tc_model.specs.Search.{Found}
use Rattle.tc_model.specs.declared.query.Deed.{Deed}
use Rattle.tc_model.specs.declared.query.Deed.TheVariants as deeds
use Rattle.tc_model.specs.declared.query.Query.{Query}
use Rattle.tc_table.specs.Searching.{OfPlanned}
use Rattle.ty_base.specs.Holding.{Held, KeepsNumbers, Layout, ReadsHeld}
use Rattle.tc_tabledb.specs.Holding.{DecimalList, HoldsEngine, LexicalList}
use Rattle.tc_tabledb.specs.declared.holding.TableEngine.{TableEngine}

-- what there is to say of rows that were found
abbrev pub said : Deed → List Found → List (List ℕ)
said deeds.Keys fs = map (λ f. f.0) fs
said deeds.Get fs = flat_map reply_of fs
said deeds.Out fs = []
said deeds.Count fs = decimal (length fs) ∷ []

-- the rows that were found are taken out
abbrev pub dropped : List Found → Change
dropped fs (table rows indexes) = Some (table (without_rows rows fs) indexes)
dropped fs _ = None

-- what a query makes of contents
abbrev pub found_for : Query → Change
found_for q c = option_map (λ o. o.0) (searched c q)

-- a change of contents was made, in its own files, whose numbers stay
pub record Turns {S E : Type 0} (s : Ghosts S) (own : ℕ → Type 0) (layout : Files → Layout) (holds : E → Files → Contents → Type 0) (f : Change) (e e' : E) (old new : S) : Type 0 where
  pub sound : s.sound new
  pub others : Others s own old new
  pub numbered : (c : Contents) → Held s holds e old c → KeepsNumbers (layout (s.now old)) (layout (s.now new))
  pub made : (c : Contents) → Held s holds e old c → (d : Contents) × (f c ≡ Some d) × Held s holds e' new d

abbrev pub DropsFound : {S E : Type 0} → Ghosts S → (ℕ → Type 0) → (Files → Layout) → (E → Files → Contents → Type 0) → List Found → E → E → S → S → Type 0
DropsFound s own layout holds fs e e' old new = Turns s own layout holds (dropped fs) e e' old new

-- besides, what there is to say was added
pub record Searches {S E : Type 0} (s : Ghosts S) (own : ℕ → Type 0) (layout : Files → Layout) (holds : E → Files → Contents → Type 0) (q : Query) (e e' : E) (old new : S) (r r' : Gathering) : Type 0 where
  pub turns : Turns s own layout holds (found_for q) e e' old new
  pub says : (c : Contents) → Held s holds e old c → (items : List (List ℕ)) × (option_map (λ o. o.1) (searched c q) ≡ Some items) × Adds r r' (map item_row items)

-- nothing is written, and where an index serves a condition, no more rows are got than the index names that serves the first such condition
pub record ReadsNamed {S : Type 0} (s : Ghosts S) (r : records.Ghosts (Hash S) S) (l : multi.Ghosts (LexicalList S) S Lexical) (d : multi.Ghosts (DecimalList S) S Decimal) (q : Query) (e e' : TableEngine S) (old new : S) : Type 0 where
  pub reads : ReadsHeld s (HoldsEngine r l d) e e' old new
  pub named : OfPlanned s r l d q e.table old (λ n. r.gets e'.table.rows ≤ r.gets e.table.rows + n)
