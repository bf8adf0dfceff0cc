-- The pairs of a table's index.
use Rattle.std.specs.Prelude.{ℕ, List, [], ◌∷◌, map, flat_map, option_to_list}
use Rattle.std.specs.FinMap.{entries}
use Rattle.tc_base.specs.declared.seq.Pair.{Pair}
use Rattle.tc_model.specs.declared.query.IndexKind.{IndexKind}
use Rattle.tc_model.specs.declared.query.IndexKind.TheVariants.{Lexical, Decimal, Token}
use Rattle.tc_base.specs.Lists.{pair}
use Rattle.tc_model.specs.Texts.{tokens, distinct}
use Rattle.tc_model.specs.Rows.{column}
use Rattle.tc_model.specs.Contents.{Rows}

-- what an index has of a column's value: the value itself, or its tokens
abbrev pub firsts : IndexKind → List ℕ → List (List ℕ)
firsts Lexical value = value ∷ []
firsts Decimal value = value ∷ []
firsts Token value = distinct (tokens value)

-- the pairs of what it has of a column's value and a primary key, of the rows that have the column
unfoldable pub index_pairs : Rows → List ℕ → IndexKind → List Pair
index_pairs rows name type' = flat_map (λ e. map (λ first. pair first e.0) (flat_map (firsts type') (option_to_list (column e.1 name)))) (entries rows)
