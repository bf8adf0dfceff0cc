-- Worked examples on tables: what a script of requests is answered.
use Rattle.std.specs.Prelude.{◌≡◌, ℕ, List, [], ◌∷◌, codes}
use Rattle.std.specs.List.{join_with_byte}
use Rattle.std.specs.FinMap.{empty, insert}
use Rattle.tc_base.specs.declared.request.Request.{Request}
use Rattle.tc_base.specs.declared.request.Request.TheVariants.{Put, PutKeep, PutCat, PutShl, Get, Size, Misc}
use Rattle.tc_base.specs.declared.request.Reply.TheVariants.{Done, Fail, FailMisc, Value, Eight, List as Items}
use Rattle.tc_base.specs.Decimal.{text_number, digits, behind_digits, decimal, nine}
use Rattle.tc_base.specs.Lists.{pair}
use Rattle.tc_model.specs.Contents.{Contents, table}
use Rattle.tc_model.specs.Misc.{misc_of}
use Rattle.tc_model.specs.Meaning.{done}
use Rattle.tc_model.specs.Queries.{query_of}
use Rattle.tc_model.specs.Search.{found}
use Rattle.tc_plain.proofs.Scripts.{answers, computing, decimals}

abbrev fresh : Contents
fresh = table empty empty

-- parts with zero bytes between
abbrev text : List (List ℕ) → List ℕ
text parts = join_with_byte 0 parts

abbrev n_is : List ℕ → List ℕ
n_is value = text (codes "n" ∷ value ∷ [])

abbrev search : List (List ℕ) → Request
search conditions = Misc (codes "search") 0 conditions

-- a name that comes again gives its value to the earlier place, and an odd last part is dropped; an empty name fails
row_texts : answers fresh (Put (codes "p1") (text (codes "n" ∷ codes "2" ∷ codes "n" ∷ codes "3" ∷ codes "x" ∷ [])) ∷ Get (codes "p1") ∷ Put (codes "p1") (text ([] ∷ codes "2" ∷ [])) ∷ Get (codes "p1") ∷ [])
    ≡ Done ∷ Value (n_is (codes "3")) ∷ Fail ∷ Value (n_is (codes "3")) ∷ []
row_texts = simp computing

-- putcat leaves a column that is there; putshl fails
columns_added : answers fresh (Put (codes "p1") (n_is (codes "2")) ∷ PutCat (codes "p1") (text (codes "n" ∷ codes "9" ∷ codes "m" ∷ [] ∷ [])) ∷ Get (codes "p1") ∷ PutShl (codes "p1") (codes "x") 1 ∷ PutKeep (codes "p1") [] ∷ Size ∷ [])
    ≡ Done ∷ Done ∷ Value (text (codes "n" ∷ codes "2" ∷ codes "m" ∷ [] ∷ [])) ∷ Fail ∷ Fail ∷ Eight 5 ∷ []
columns_added = simp computing

abbrev three_rows : List Request → List Request
three_rows rs = Misc (codes "setindex") 0 (codes "n" ∷ codes "1" ∷ []) ∷ Put (codes "p1") (n_is (codes "2")) ∷ Put (codes "p2") (n_is (codes "02")) ∷ Put (codes "p3") (n_is (codes "x")) ∷ rs

abbrev n_equals_2 : List ℕ
n_equals_2 = text (codes "addcond" ∷ codes "n" ∷ codes "8" ∷ codes "2" ∷ [])

abbrev by_n : List ℕ
by_n = text (codes "setorder" ∷ codes "n" ∷ codes "2" ∷ [])

-- equal numbers are ordered by their bytes
ties_by_bytes : answers fresh (three_rows (search (n_equals_2 ∷ by_n ∷ []) ∷ Put (codes "p2") (n_is (codes "3")) ∷ search (n_equals_2 ∷ by_n ∷ []) ∷ []))
    ≡ Items [] ∷ Done ∷ Done ∷ Done ∷ Items (codes "p2" ∷ codes "p1" ∷ []) ∷ Done ∷ Items (codes "p1" ∷ []) ∷ []
unfolding misc_of done query_of found text_number digits behind_digits decimal nine
ties_by_bytes = simp computing

-- out takes out what is found, count counts it, get gives row texts
abbrev found_and : List (List ℕ) → Request
found_and more = search (n_equals_2 ∷ by_n ∷ more)

abbrev held_rows : Contents
held_rows = table (insert (insert (insert empty (codes "p1") (pair (codes "n") (codes "2") ∷ [])) (codes "p2") (pair (codes "n") (codes "02") ∷ [])) (codes "p3") (pair (codes "n") (codes "x") ∷ [])) empty

deeds : answers held_rows (found_and (codes "count" ∷ []) ∷ found_and (codes "out" ∷ []) ∷ search [] ∷ []) ≡ Items (codes "2" ∷ []) ∷ Items [] ∷ Items (codes "p3" ∷ []) ∷ []
unfolding misc_of done query_of found text_number digits behind_digits decimal nine
deeds = simp (computing, decimals)

-- one is left out, and one is kept
skipped : answers held_rows (found_and (codes "get" ∷ text (codes "setlimit" ∷ codes "1" ∷ codes "1" ∷ []) ∷ []) ∷ []) ≡ Items (codes "p1" ∷ n_is (codes "2") ∷ []) ∷ []
unfolding misc_of done query_of found text_number digits behind_digits decimal nine
skipped = simp computing

abbrev on_n : List ℕ → List ℕ → Request
on_n operator expression = search (text (codes "addcond" ∷ codes "n" ∷ operator ∷ expression ∷ []) ∷ [])

-- 13 asks for two tokens, 7 is none, and there is one deed at most; no token is among all tokens
refused_searches : answers fresh (three_rows (on_n (codes "13") (codes "5") ∷ on_n (codes "7") (codes "5") ∷ search (codes "get" ∷ codes "count" ∷ []) ∷ on_n (codes "4") [] ∷ []))
    ≡ Items [] ∷ Done ∷ Done ∷ Done ∷ FailMisc ∷ FailMisc ∷ FailMisc ∷ Items (codes "p1" ∷ codes "p2" ∷ codes "p3" ∷ []) ∷ []
unfolding misc_of done query_of found text_number digits behind_digits decimal nine
refused_searches = simp computing

-- 16777216 negates: of the rows without the column too
negations : answers fresh (three_rows (Put (codes "p4") [] ∷ on_n (codes "16777224") (codes "2") ∷ on_n (codes "50331661") (codes "1 3") ∷ on_n (codes "13") (codes "3,1") ∷ []))
    ≡ Items [] ∷ Done ∷ Done ∷ Done ∷ Done ∷ Items (codes "p3" ∷ codes "p4" ∷ []) ∷ Items (codes "p3" ∷ codes "p4" ∷ []) ∷ Items (codes "p1" ∷ codes "p2" ∷ []) ∷ []
unfolding misc_of done query_of found text_number digits behind_digits decimal nine
negations = simp computing
