-- What requests make of contents, with the contents last: the contents after, or none where it fails.
use Rattle.std.specs.Prelude.{ℕ, Bool, List, codes, take, fold, Option, Some, None, option_and_then, option_map, unwrap_or}
use Rattle.tc_base.specs.declared.seq.Pair.{Pair}
use Rattle.tc_base.specs.declared.kind.Mode.{Mode}
use Rattle.tc_base.specs.declared.kind.Mode.TheVariants.{Over}
use Rattle.tc_model.specs.Contents.{Contents, emptied}
use Rattle.tc_model.specs.Queries.{query_of}
use Rattle.tc_model.specs.Rows.{row_of_call}
use Rattle.tc_model.specs.Stores.{store, store_row, out, clear, put_last}
use Rattle.tc_model.specs.Texts.{is_among}
use Rattle.tc_model.specs.Meaning.{Outcome, each, searched, set_index}

abbrev pub Change : Type 0
Change = Contents → Option Contents

abbrev pub stored : Mode → List ℕ → List ℕ → Change
stored mode key value c = store mode c key value

abbrev pub pushed : List ℕ → List ℕ → Change
pushed key value c = put_last c key value

abbrev pub taken : List ℕ → Change
taken key c = out c key

abbrev pub all_stored : List Pair → Change
all_stored pairs c = each (λ c p. store Over c p.key p.value) (Some c) pairs

abbrev pub all_pushed : List Pair → Change
all_pushed pairs c = each (λ c p. put_last c p.key p.value) (Some c) pairs

abbrev pub all_cleared : List (List ℕ) → Change
all_cleared keys c = Some (fold clear c keys)

abbrev pub all_gone : Change
all_gone c = Some (emptied c)

-- a row of these columns, in a table
abbrev pub row_stored : Mode → List ℕ → List Pair → Change
row_stored mode key columns c = option_and_then (store_row mode c key) (row_of_call columns)

-- an index of a table set, or taken away
abbrev pub index_set : List ℕ → List ℕ → Change
index_set column code c = set_index c column code

-- what a search makes of a table, and what it says
abbrev pub search_of : List (List ℕ) → Contents → Outcome
search_of conditions c = option_and_then (searched c) (query_of conditions)

abbrev pub found_by : List (List ℕ) → Change
found_by conditions c = option_map (λ o. o.0) (search_of conditions c)

-- it may take rows out
abbrev pub takes_out : List (List ℕ) → Bool
takes_out conditions = is_among (codes "out") conditions

-- the contents after a change, or before it where it fails
abbrev pub wanted : Change → Contents → Contents
wanted f c = unwrap_or (f c) c

-- the first n, or all
abbrev pub first_of : {A : Type 0} → Option ℕ → List A → List A
first_of None xs = xs
first_of (Some n) xs = take n xs
