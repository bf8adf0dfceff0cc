-- What a database that is no table answers to the calls of tables.
use Rattle.std.specs.Prelude.{◌≡◌, ℕ, List, [], Bool, true, false, Option, Some, None, option_and_then, option_map}
use Rattle.std.proofs.Common.{refl, ap}
use Rattle.tc_base.specs.Files.{Files}
use Rattle.tc_base.specs.declared.kind.Mode.{Mode}
use Rattle.tc_base.specs.declared.seq.Pair.{Pair}
use Rattle.tc_space.specs.Frames.{others_refl, reads_refl}
use Rattle.tc_space.specs.declared.space.Space.{Ghosts}
use Rattle.tc_model.specs.declared.query.Query.{Query}
use Rattle.tc_model.specs.Contents.{Contents, hash, tree, fixed, table, is_table}
use Rattle.tc_model.specs.Meaning.{row_held, searched}
use Rattle.tc_model.specs.Queries.{query_of}
use Rattle.tc_model.specs.Rows.{Row, row_of_call, texts_of}
use Rattle.tc_model.specs.Stores.{store_row}
use Rattle.ty_base.specs.Holding.{Held, Layout, numbers_refl}
use Rattle.tc_engine.specs.Changes.{Change, found_by, index_set, row_stored, search_of}
use Rattle.tc_engine.specs.Effects.{Makes}
use Rattle.tc_engine.specs.Rows.{AreItems, adds_nothing}
use Rattle.tc_engine.specs.declared.rows.Rows.{Rows}

never_then : {A B : Type 0} (f : A → Option B) (o : Option A) → ((x : A) → f x ≡ None) → option_and_then f o ≡ None
never_then f None never = refl
never_then f (Some x) never = never x

no_row_in : (c : Contents) (mode : Mode) (key : List ℕ) (row : Row) → is_table c ≡ false → store_row mode c key row ≡ None
no_row_in (hash memory m) mode key row plain = refl
no_row_in (tree memory decimal ps) mode key row plain = refl
no_row_in (fixed width most ids) mode key row plain = refl
no_row_in (table rows indexes) mode key row plain = absurd cc

never_searched : (c : Contents) (q : Query) → is_table c ≡ false → searched c q ≡ None
never_searched (hash memory m) q plain = refl
never_searched (tree memory decimal ps) q plain = refl
never_searched (fixed width most ids) q plain = refl
never_searched (table rows indexes) q plain = absurd cc

pub no_row : (c : Contents) (mode : Mode) (key : List ℕ) (columns : List Pair) → is_table c ≡ false → row_stored mode key columns c ≡ None
no_row c mode key columns plain = never_then (store_row mode c key) (row_of_call columns) (λ row. no_row_in c mode key row plain)

pub no_index : (c : Contents) (column code : List ℕ) → is_table c ≡ false → index_set column code c ≡ None
no_index (hash memory m) column code plain = refl
no_index (tree memory decimal ps) column code plain = refl
no_index (fixed width most ids) column code plain = refl
no_index (table rows indexes) column code plain = absurd cc

no_search : (c : Contents) (conditions : List (List ℕ)) → is_table c ≡ false → search_of conditions c ≡ None
no_search c conditions plain = never_then (searched c) (query_of conditions) (λ q. never_searched c q plain)

pub none_found : (c : Contents) (conditions : List (List ℕ)) → is_table c ≡ false → found_by conditions c ≡ None
none_found c conditions plain = ap (option_map (λ o. o.0)) (no_search c conditions plain)

no_texts : (c : Contents) (key : List ℕ) → is_table c ≡ false → option_map texts_of (row_held c key) ≡ None
no_texts (hash memory m) key plain = refl
no_texts (tree memory decimal ps) key plain = refl
no_texts (fixed width most ids) key plain = refl
no_texts (table rows indexes) key plain = absurd cc

none_added : (texts : Option (List (List ℕ))) (rows : Rows) → texts ≡ None → AreItems texts false rows rows
none_added texts rows none = record { there = λ f. absurd cc; none = λ f. (none, adds_nothing rows) }

pub no_row_added : (c : Contents) (key : List ℕ) (rows : Rows) → is_table c ≡ false → AreItems (option_map texts_of (row_held c key)) false rows rows
no_row_added c key rows plain = none_added (option_map texts_of (row_held c key)) rows (no_texts c key plain)

pub none_said : (c : Contents) (conditions : List (List ℕ)) (rows : Rows) → is_table c ≡ false → AreItems (option_map (λ o. o.1) (search_of conditions c)) false rows rows
none_said c conditions rows plain = none_added (option_map (λ o. o.1) (search_of conditions c)) rows (ap (option_map (λ o. o.1)) (no_search c conditions plain))

module _ {S E : Type 0} (s : Ghosts S) (own : ℕ → Type 0) (layout : Files → Layout) (holds : E → Files → Contents → Type 0) where
  -- a change that fails, whatever is held
  pub makes_none : (f : Change) (e : E) (a : S) → s.sound a → ((c : Contents) → Held s holds e a c → f c ≡ None) → Makes s own layout holds f false e e a a
  makes_none f e a sound none = record {
    sound = sound;
    others = others_refl s own a;
    numbered = λ c h. numbers_refl (layout (s.now a));
    made = λ yes. absurd cc;
    fails = λ no. none;
    same = λ no. reads_refl s (Held s holds) e a sound;
  }
