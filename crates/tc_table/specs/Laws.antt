-- What an index has of rows, in the words of the abstract database.
use Rattle.std.specs.Prelude.{◌≡◌, ◌↔◌, ℕ, List, map}
use Rattle.tc_base.specs.declared.seq.Pair.{Pair}
use Rattle.tc_model.specs.Contents.{Rows}
use Rattle.tc_model.specs.Indexes.{index_pairs}
use Rattle.tc_model.specs.Well.{AreRows}
use Rattle.tc_model.specs.declared.query.IndexKind.{IndexKind}
use Rattle.td_index.specs.Entries.{AreOwed, entry, keys_of, times}
use Rattle.tc_table.specs.Parts.{parts_of}

-- the tree key of a pair
abbrev pub entry_of : Pair → List ℕ
entry_of p = entry p.key p.value

-- its keys are those of the pairs of the rows, each as often as there
abbrev pub AreKeysOf : Rows → List ℕ → IndexKind → List Pair → Type 0
AreKeysOf rows name kind ps = (x : List ℕ) → times x (keys_of ps) ≡ times x (map entry_of (index_pairs rows name kind))

-- so it is exactly where it has its parts of them
abbrev pub IndexLaw : Type 0
IndexLaw = (rows : Rows) (name : List ℕ) (kind : IndexKind) (ps : List Pair) → AreRows rows → AreOwed (parts_of kind name rows) ps ↔ AreKeysOf rows name kind ps
