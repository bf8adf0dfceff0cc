-- What parts of the plain bodies compute.
use Rattle.std.specs.Prelude.{ℕ, ℤ, Bool, true, false, not, List, [], ◌∷◌, ◌++◌, length, map, flat_map, filter, Option, Some, None, option_map, option_and_then, is_some, unwrap_or, if◌then◌else◌}
use Rattle.std.specs.FinMap.{get}
use Rattle.std.specs.Fmt.{decimal}
use Rattle.tc_base.specs.declared.request.Request.{Request}
use Rattle.tc_base.specs.declared.request.Request.TheVariants.{Put, PutKeep, PutCat, PutShl, PutNr, Out, IterInit, IterNext, AddInt, Vanish, Misc as Call, Repl}
use Rattle.tc_base.specs.declared.kind.Mode.{Mode}
use Rattle.tc_base.specs.declared.kind.Mode.TheVariants.{Over, Keep, Cat}
use Rattle.tc_base.specs.Orders.{order}
use Rattle.std.specs.List.{list_all, list_any}
use Rattle.std.specs.declared.cmp.Ordering.{Ordering}
use Rattle.std.specs.Ordering.{is_lt, is_gt, is_ge}
use Rattle.tc_base.specs.declared.seq.Pair.{Pair}
use Rattle.tc_base.specs.Texts.{is_text}
use Rattle.tc_base.specs.Lists.{pair, first, with_first, without_first}
use Rattle.tc_base.specs.Decimal.{text_number}
use Rattle.tc_model.specs.Texts.{is_among}
use Rattle.tc_model.specs.Operators.{same_number}
use Rattle.tc_model.specs.Rows.{Row, has, row_of_text, with_lacking}
use Rattle.tc_model.specs.Values.{allowed}
use Rattle.tc_model.specs.Maps.{without}
use Rattle.tc_model.specs.Arrays.{Array, id_of, with_cell}
use Rattle.tc_model.specs.Contents.{Contents, Rows}
use Rattle.tc_model.specs.Meaning.{reply_of, without_rows}
use Rattle.tc_model.specs.Search.{Found}
use Rattle.tc_model.specs.Stores.{is_held, value_of, put, store_row, store, put_last}
use Rattle.tc_model.specs.declared.misc.Misc.{Misc}
use Rattle.tc_model.specs.declared.query.Deed.{Deed}
use Rattle.tc_model.specs.declared.query.Deed.TheVariants as deed
use Rattle.tc_model.specs.declared.misc.Misc.TheVariants as misc
use Rattle.tc_plain.specs.declared.apply.Way.{Way}
use Rattle.tc_plain.specs.declared.apply.Way.TheVariants.{Begin, Step, Link, Plain}
use Rattle.tc_plain.specs.declared.trees.Part.{Part}
use Rattle.tc_plain.specs.declared.trees.Part.TheVariants.{Below, Above, From}

-- how a key of a part compares with the key beside it
abbrev pub is_in : Part → Ordering → Bool
is_in Below o = is_lt o
is_in Above o = is_gt o
is_in From o = is_ge o

abbrev pub part_of : Part → (List ℕ → List ℕ → Ordering) → List Pair → List ℕ → List Pair
part_of part R ps key = filter (λ p. is_in part (R p.key key)) ps

-- a column with the value of another where it has its name
abbrev pub given : Pair → Pair → Pair
given p q = if is_text q.key p.key then pair q.key p.value else q

-- the columns whose names a row lacks
abbrev pub lacking : Row → Row → Row
lacking row more = filter (λ p. not (has row p.key)) more

-- all, or some, of the tokens e are among v; some of them have this number
abbrev pub has_all : List (List ℕ) → List (List ℕ) → Bool
has_all v e = list_all (λ t. is_among t v) e

abbrev pub has_some : List (List ℕ) → List (List ℕ) → Bool
has_some v e = list_any (λ t. is_among t v) e

abbrev pub has_number : ℤ → List (List ℕ) → Bool
has_number n e = list_any (λ t. same_number n (text_number t)) e

-- ---- one kind's part of what is stored

abbrev pub put_tree : Bool → List Pair → List ℕ → List ℕ → Option (List Pair)
put_tree decimal ps key value = option_map (with_first (order decimal) ps key) (allowed value)

abbrev pub put_cell : ℕ → ℕ → Array → List ℕ → List ℕ → Option Array
put_cell width most ids key value = option_and_then (λ id. with_cell width ids id value) (id_of most ids key)

abbrev pub out_tree : Bool → List Pair → List ℕ → Option (List Pair)
out_tree decimal ps key = if is_some (first ps key) then Some (without_first (order decimal) ps key) else None

abbrev pub out_cell : ℕ → Array → List ℕ → Option Array
out_cell most ids key = option_and_then (without ids) (id_of most ids key)

abbrev pub longer_row : Rows → List ℕ → Row → Row
longer_row rows key more = with_lacking (unwrap_or (get rows key) []) more

abbrev pub store_text : Mode → Contents → List ℕ → List ℕ → Option Contents
store_text mode c key text = option_and_then (store_row mode c key) (row_of_text text)

abbrev pub store_value : Mode → Contents → List ℕ → List ℕ → Option Contents
store_value Over c key value = put c key value
store_value Keep c key value = if is_held c key then None else put c key value
store_value Cat c key value = put c key (value_of c key ++ value)

-- ---- misc

-- a pair is put, or comes behind the values of its key
abbrev pub put_pair : Bool → Contents → Pair → Option Contents
put_pair true = λ c p. put_last c p.key p.value
put_pair false = λ c p. store Over c p.key p.value

-- those that change nothing, but for a search
abbrev pub is_asking : Misc → Bool
is_asking (misc.Get key) = true
is_asking (misc.GetRow key) = true
is_asking (misc.GetList keys) = true
is_asking (misc.Range from maximum to) = true
is_asking _ = false

-- what is answered of the rows found, and the rows that are left
abbrev pub items_of : Deed → List Found → List (List ℕ)
items_of deed.Keys fs = map (λ f. f.0) fs
items_of deed.Get fs = flat_map reply_of fs
items_of deed.Out fs = []
items_of deed.Count fs = decimal (length fs) ∷ []

abbrev pub rows_left : Deed → Rows → List Found → Rows
rows_left deed.Out rows fs = without_rows rows fs
rows_left _ rows fs = rows

-- ---- requests

-- those that may change contents
abbrev pub is_change : Request → Bool
is_change (Put key value) = true
is_change (PutKeep key value) = true
is_change (PutCat key value) = true
is_change (PutShl key value width) = true
is_change (PutNr key value) = true
is_change (Out key) = true
is_change (AddInt key number) = true
is_change Vanish = true
is_change (Call name options args) = true
is_change _ = false

-- which way a request goes
abbrev pub way_of : Request → Way
way_of IterInit = Begin
way_of IterNext = Step
way_of (Repl timestamp server) = Link
way_of _ = Plain
