-- What a misc request makes of contents, and the elements of its reply. None where it fails.
use Rattle.std.specs.Prelude.{ℕ, Bool, ◌&&◌, ◌||◌, List, [], ◌∷◌, length, take, map, fold, flat_map, codes, Option, Some, None, option_map, option_and_then, is_some, nat_le, nat_lt, if◌then◌else◌}
use Rattle.std.specs.List.{list_all}
use Rattle.std.specs.Fmt.{decimal}
use Rattle.std.specs.FinMap.{get, insert, remove, len}
use Rattle.tc_base.specs.declared.seq.Pair.{Pair}
use Rattle.tc_base.specs.declared.kind.Mode.TheVariants.{Over}
use Rattle.tc_model.specs.declared.misc.Misc.{Misc}
use Rattle.tc_model.specs.declared.misc.Misc.TheVariants.{Put, PutRow, Out, Get, GetRow, PutList, PutDups, OutList, GetList, PutDup, Range, Vanish, SetIndex, Search}
use Rattle.tc_model.specs.declared.query.IndexKind.{IndexKind}
use Rattle.tc_model.specs.declared.query.IndexKind.TheVariants as index
use Rattle.tc_model.specs.declared.query.Query.{Query}
use Rattle.tc_model.specs.declared.query.Deed.{Deed}
use Rattle.tc_model.specs.declared.query.Deed.TheVariants as deed
use Rattle.tc_base.specs.Texts.{is_text}
use Rattle.tc_model.specs.Texts.{not_empty, maximum_of}
use Rattle.tc_base.specs.Orders.{order}
use Rattle.tc_base.specs.Lists.{from_on, before}
use Rattle.tc_model.specs.Rows.{Row, is_part, row_of_call, row_text, texts_of}
use Rattle.tc_model.specs.Contents.{Contents, tree, table, emptied, Rows, Indexes}
use Rattle.tc_model.specs.Maps.{without}
use Rattle.tc_model.specs.Stores.{held, all_pairs, store, store_row, out, clear, put_last}
use Rattle.tc_model.specs.Queries.{query_of}
use Rattle.tc_model.specs.Search.{Found, found}

abbrev pub Outcome : Type 0
Outcome = Option (Contents × List (List ℕ))

-- the contents change, and there is nothing to say
abbrev pub changes : Option Contents → Outcome
changes o = option_map (λ c. (c, [])) o

-- the contents stay, and these are the elements
abbrev pub tells : Contents → Option (List (List ℕ)) → Outcome
tells c o = option_map (λ items. (c, items)) o

-- pair by pair; if one fails, the whole fails
abbrev pub each : (Contents → Pair → Option Contents) → Option Contents → List Pair → Option Contents
each f c ps = fold (λ o p. option_and_then (λ c. f c p) o) c ps

-- ---- rows and indexes

abbrev pub row_held : Contents → List ℕ → Option Row
row_held (table rows indexes) key = get rows key
row_held _ key = None

-- lexical, decimal, of tokens, or none: to be removed
abbrev pub index_of : List ℕ → Option (Option IndexKind)
index_of code =
    if is_text code (codes "0") then Some (Some index.Lexical)
    else (if is_text code (codes "1") then Some (Some index.Decimal)
    else (if is_text code (codes "2") then Some (Some index.Token)
    else (if is_text code (codes "9999") then Some None else None)))

-- an index that isn't there can't be removed, and there are at most 16
abbrev pub with_index : Indexes → List ℕ → Option IndexKind → Option Indexes
with_index indexes column None = without indexes column
with_index indexes column (Some type') = if is_some (get indexes column) || nat_lt (len indexes) 16 then Some (insert indexes column type') else None

abbrev pub set_index : Contents → List ℕ → List ℕ → Option Contents
set_index (table rows indexes) column code =
    if not_empty column && is_part column then option_map (λ after. table rows after) (option_and_then (with_index indexes column) (index_of code)) else None
set_index _ column code = None

-- ---- searches

abbrev pub reply_of : Found → List (List ℕ)
reply_of f = f.0 ∷ row_text f.1 ∷ []

abbrev pub without_rows : Rows → List Found → Rows
without_rows rows fs = fold (λ m f. remove m f.0) rows fs

-- what is done with the rows found
abbrev pub done_with : Deed → Rows → Indexes → List Found → Contents × List (List ℕ)
done_with deed.Keys rows indexes fs = (table rows indexes, map (λ f. f.0) fs)
done_with deed.Get rows indexes fs = (table rows indexes, flat_map reply_of fs)
done_with deed.Out rows indexes fs = (table (without_rows rows fs) indexes, [])
done_with deed.Count rows indexes fs = (table rows indexes, decimal (length fs) ∷ [])

abbrev pub searched : Contents → Query → Outcome
searched (table rows indexes) q = Some (done_with q.deed rows indexes (found q rows))
searched _ q = None

-- ---- ranges

abbrev pub at_most : Option ℕ → List Pair → List Pair
at_most None ps = ps
at_most (Some n) ps = take n ps

-- the pairs of a tree from one key on and before another
abbrev pub ranged : Contents → List ℕ → Option (List ℕ) → Option ℕ → List Pair
ranged (tree memory decimal ps) from to maximum = at_most maximum (before (order decimal) to (from_on (order decimal) from ps))
ranged _ from to maximum = []

-- ---- what each means

abbrev pub meaning : Misc → Contents → Outcome
meaning (Put mode key value) c = changes (store mode c key value)
meaning (PutRow mode key columns) c = changes (option_and_then (store_row mode c key) (row_of_call columns))
meaning (Out key) c = changes (out c key)
meaning (Get key) c = tells c (option_map (λ value. value ∷ []) (held c key))
meaning (GetRow key) c = tells c (option_map texts_of (row_held c key))
meaning (PutList pairs) c = changes (each (λ c p. store Over c p.key p.value) (Some c) pairs)
meaning (PutDups pairs) c = changes (each (λ c p. put_last c p.key p.value) (Some c) pairs)
meaning (OutList keys) c = changes (Some (fold clear c keys))
meaning (GetList keys) c = tells c (Some (texts_of (flat_map (all_pairs c) keys)))
meaning (PutDup key value) c = changes (put_last c key value)
meaning (Range from maximum to) c = tells c (option_map (λ most. texts_of (ranged c from to most)) (maximum_of maximum))
meaning Vanish c = changes (Some (emptied c))
meaning (SetIndex column code) c = changes (set_index c column code)
meaning (Search conditions) c = option_and_then (searched c) (query_of conditions)

-- ---- a key of more than 1,048,576 bytes fails

abbrev pub keys_of : Misc → List (List ℕ)
keys_of (Put mode key value) = key ∷ []
keys_of (PutRow mode key columns) = key ∷ []
keys_of (Out key) = key ∷ []
keys_of (Get key) = key ∷ []
keys_of (GetRow key) = key ∷ []
keys_of (PutList pairs) = map (λ p. p.key) pairs
keys_of (PutDups pairs) = map (λ p. p.key) pairs
keys_of (OutList keys) = keys
keys_of (GetList keys) = keys
keys_of (PutDup key value) = key ∷ []
keys_of (Range from maximum None) = from ∷ []
keys_of (Range from maximum (Some to)) = from ∷ to ∷ []
keys_of _ = []

abbrev pub are_short : List (List ℕ) → Bool
are_short keys = list_all (λ key. nat_le (length key) 1048576) keys

unfoldable pub done : Misc → Contents → Outcome
done m c = if are_short (keys_of m) then meaning m c else None
