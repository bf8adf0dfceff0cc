-- Worked examples of a table's indexes and their pairs.
use Rattle.std.specs.Prelude.{◌≡◌, ℕ, List, [], ◌∷◌, codes}
use Rattle.std.specs.FinMap.{empty, insert}
use Rattle.tc_base.specs.declared.request.Request.{Request}
use Rattle.tc_base.specs.declared.request.Request.TheVariants.{Misc}
use Rattle.tc_base.specs.declared.request.Reply.TheVariants.{FailMisc, List as Items}
use Rattle.tc_model.specs.declared.query.IndexKind.TheVariants.{Lexical, Token}
use Rattle.tc_model.specs.declared.query.IndexKind.{IndexKind}
use Rattle.std.specs.Ordering.{nat_cmp}
use Rattle.std.specs.Cmp.Lexicographic.{slice_cmp}
use Rattle.tc_base.specs.Lists.{pair}
use Rattle.tc_model.specs.Contents.{table, Rows}
use Rattle.tc_model.specs.Misc.{misc_of}
use Rattle.tc_model.specs.Meaning.{done}
use Rattle.tc_model.specs.Indexes.{index_pairs}
use Rattle.tc_plain.proofs.Scripts.{answers, computing, map_of}

abbrev three : Rows
three = insert (insert (insert empty (codes "p1") (pair (codes "n") (codes "2") ∷ [])) (codes "p2") []) (codes "p3") (pair (codes "m") (codes "9") ∷ pair (codes "n") (codes "1") ∷ [])

-- each token of a value once
pairs_of_tokens : index_pairs (insert empty (codes "p1") (pair (codes "c") (codes "red, blue red") ∷ [])) (codes "c") Token ≡ pair (codes "red") (codes "p1") ∷ pair (codes "blue") (codes "p1") ∷ []
unfolding index_pairs
pairs_of_tokens = simp computing

-- the rows that have the column
pairs_of_rows : index_pairs three (codes "n") Lexical ≡ pair (codes "2") (codes "p1") ∷ pair (codes "1") (codes "p3") ∷ []
unfolding index_pairs
pairs_of_rows = simp computing

abbrev set_index : List ℕ → List ℕ → Request
set_index column code = Misc (codes "setindex") 0 (column ∷ code ∷ [])

-- what isn't there can't be removed; codes are exact
set_and_removed : answers (table empty empty) (set_index (codes "n") (codes "0") ∷ set_index (codes "n") (codes "0") ∷ set_index (codes "n") (codes "9999") ∷ set_index (codes "n") (codes "9999") ∷ set_index (codes "m") (codes "1") ∷ set_index (codes "m") (codes "00") ∷ set_index [] (codes "0") ∷ [])
    ≡ Items [] ∷ Items [] ∷ Items [] ∷ FailMisc ∷ Items [] ∷ FailMisc ∷ FailMisc ∷ []
unfolding misc_of done
set_and_removed = simp computing

abbrev lexical_on : List ℕ → List (List ℕ × IndexKind)
lexical_on [] = []
lexical_on (b ∷ names) = (b ∷ [], Lexical) ∷ lexical_on names

-- sixteen indexes are the most: one that is there may be set again
sixteen : answers (table empty (map_of (slice_cmp nat_cmp) (lexical_on (codes "abcdefghijklmnop")))) (set_index (codes "q") (codes "0") ∷ set_index (codes "p") (codes "1") ∷ set_index (codes "p") (codes "9999") ∷ set_index (codes "q") (codes "0") ∷ [])
    ≡ FailMisc ∷ Items [] ∷ Items [] ∷ Items [] ∷ []
unfolding misc_of done
sixteen = simp computing
