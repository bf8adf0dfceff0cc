-- What is read of contents and stored in them, kind by kind. None where it fails.
use Rattle.std.specs.Prelude.{ℕ, ◌+◌, Bool, List, [], ◌++◌, length, map, sum_by, Option, Some, None, option_map, option_and_then, option_to_list, unwrap_or, is_some, nat_lt, if◌then◌else◌}
use Rattle.std.specs.FinMap.{get, insert, len, keys, entries}
use Rattle.tc_base.specs.declared.seq.Pair.{Pair}
use Rattle.tc_base.specs.declared.kind.Mode.{Mode}
use Rattle.tc_base.specs.declared.kind.Mode.TheVariants.{Over, Keep, Cat}
use Rattle.tc_base.specs.Orders.{order}
use Rattle.tc_model.specs.Values.{allowed, last, sum_of, spelled}
use Rattle.tc_model.specs.Maps.{with_value, without, bytes_in}
use Rattle.tc_base.specs.Lists.{pair, values, first, with_first, with_last, without_first, without_all}
use Rattle.tc_base.specs.Lists as list
use Rattle.tc_model.specs.Arrays.{id_of, value_at, with_cell, named, key_texts}
use Rattle.tc_model.specs.Rows.{Row, row_of_text, row_text, texts_of, with_lacking}
use Rattle.tc_model.specs.Contents.{Contents, hash, tree, fixed, table, Rows}

-- ---- what is held

-- the value that get gives: of a tree the first of the key, of a table the row text
abbrev pub held : Contents → List ℕ → Option (List ℕ)
held (hash memory m) key = get m key
held (tree memory decimal ps) key = first ps key
held (fixed width most ids) key = value_at most ids key
held (table rows indexes) key = option_map row_text (get rows key)

abbrev pub is_held : Contents → List ℕ → Bool
is_held c key = is_some (held c key)

-- the value of a key, no bytes where it isn't held
abbrev pub value_of : Contents → List ℕ → List ℕ
value_of c key = unwrap_or (held c key) []

-- a key as replies have it
abbrev pub replied : Contents → List ℕ → List ℕ
replied (fixed width most ids) key = named ids key
replied _ key = key

-- a key and the value that get gives, where it is held
abbrev pub first_pair : Contents → List ℕ → List Pair
first_pair c key = map (pair (replied c key)) (option_to_list (held c key))

-- the same with each value that a tree has of the key
abbrev pub all_pairs : Contents → List ℕ → List Pair
all_pairs (tree memory decimal ps) key = map (pair key) (values ps key)
all_pairs c key = first_pair c key

-- the distinct keys, in the database's order
abbrev pub all_keys : Contents → List (List ℕ)
all_keys (hash memory m) = keys m
all_keys (tree memory decimal ps) = list.keys ps
all_keys (fixed width most ids) = key_texts ids
all_keys (table rows indexes) = keys rows

-- the number of pairs of a tree, else of keys
abbrev pub count : Contents → ℕ
count (hash memory m) = len m
count (tree memory decimal ps) = length ps
count (fixed width most ids) = len ids
count (table rows indexes) = len rows

abbrev pub bytes_of : List (List ℕ) → ℕ
bytes_of texts = sum_by length texts

-- the bytes of all keys and values; of a table those of primary keys, names and values
abbrev pub size_of : Contents → ℕ
size_of (hash memory m) = bytes_in m
size_of (tree memory decimal ps) = bytes_of (texts_of ps)
size_of (fixed width most ids) = bytes_of (key_texts ids) + sum_by (λ e. length e.1) (entries ids)
size_of (table rows indexes) = sum_by (λ e. length e.0 + bytes_of (texts_of e.1)) (entries rows)

-- ---- rows

-- a row whose text has more than 16,777,216 bytes is refused
abbrev pub with_row : Rows → List ℕ → Row → Option Rows
with_row rows key row = option_map (λ text. insert rows key row) (allowed (row_text row))

abbrev pub put_row : Mode → Rows → List ℕ → Row → Option Rows
put_row Over rows key row = with_row rows key row
put_row Keep rows key row = if is_some (get rows key) then None else with_row rows key row
put_row Cat rows key row = with_row rows key (with_lacking (unwrap_or (get rows key) []) row)

-- only a table takes a row
abbrev pub store_row : Mode → Contents → List ℕ → Row → Option Contents
store_row mode (table rows indexes) key row = option_map (λ after. table after indexes) (put_row mode rows key row)
store_row mode _ key row = None

-- ---- values

-- a value is set, of a tree the first of its key; a key of a fixed-length database has to name an id
abbrev pub put : Contents → List ℕ → List ℕ → Option Contents
put (hash memory m) key value = option_map (hash memory) (with_value m key value)
put (tree memory decimal ps) key value = option_map (λ v. tree memory decimal (with_first (order decimal) ps key v)) (allowed value)
put (fixed width most ids) key value = option_map (fixed width most) (option_and_then (λ id. with_cell width ids id value) (id_of most ids key))
put (table rows indexes) key text = option_and_then (store_row Over (table rows indexes) key) (row_of_text text)

-- put, putkeep and putcat; on a table the value is a row text
abbrev pub store : Mode → Contents → List ℕ → List ℕ → Option Contents
store mode (table rows indexes) key text = option_and_then (store_row mode (table rows indexes) key) (row_of_text text)
store Over c key value = put c key value
store Keep c key value = if is_held c key then None else put c key value
store Cat c key value = put c key (value_of c key ++ value)

-- putshl: the last bytes of the old value and the new one joined
abbrev pub shift : Contents → List ℕ → List ℕ → ℕ → Option Contents
shift (table rows indexes) key value width = None
shift c key value width = put c key (last width (value_of c key ++ value))

-- the sum, and the contents with it in four bytes
abbrev pub with_sum : Contents → List ℕ → ℕ → Option (ℕ × Contents)
with_sum c key number = option_and_then (λ n. option_map (λ after. (n, after)) (put c key (spelled n))) (sum_of (held c key) number)

-- addint
abbrev pub add : Contents → List ℕ → ℕ → Option (ℕ × Contents)
add (table rows indexes) key number = None
add (fixed width most ids) key number = if nat_lt width 4 then None else with_sum (fixed width most ids) key number
add c key number = with_sum c key number

-- takes a key out, of a tree its first value
abbrev pub out : Contents → List ℕ → Option Contents
out (hash memory m) key = option_map (hash memory) (without m key)
out (tree memory decimal ps) key = if is_some (first ps key) then Some (tree memory decimal (without_first (order decimal) ps key)) else None
out (fixed width most ids) key = option_map (fixed width most) (option_and_then (without ids) (id_of most ids key))
out (table rows indexes) key = option_map (λ after. table after indexes) (without rows key)

-- takes out what is held of a key, of a tree all its values
abbrev pub clear : Contents → List ℕ → Contents
clear (tree memory decimal ps) key = tree memory decimal (without_all (order decimal) ps key)
clear c key = unwrap_or (out c key) c

-- putdup: adds a value behind those of its key, which only a tree does
abbrev pub put_last : Contents → List ℕ → List ℕ → Option Contents
put_last (tree memory decimal ps) key value = option_map (λ v. tree memory decimal (with_last (order decimal) ps key v)) (allowed value)
put_last _ key value = None
