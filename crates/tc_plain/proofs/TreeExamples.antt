-- Worked examples on trees: what a script of requests is answered.
use Rattle.std.specs.Prelude.{◌≡◌, [], ◌∷◌, true, false, codes, negsuc, refl}
use Rattle.tc_base.specs.declared.request.Request.TheVariants.{Put, Get, Out, FwmKeys, Rnum, Misc}
use Rattle.tc_base.specs.declared.request.Reply.TheVariants.{Done, Value, Eight, List as Items}
use Rattle.tc_base.specs.Decimal.{text_number, digits, behind_digits, decimal, nine}
use Rattle.tc_base.specs.Lists.{pair}
use Rattle.tc_base.specs.Orders.{value_part}
use Rattle.tc_model.specs.Contents.{Contents, tree}
use Rattle.tc_model.specs.Misc.{misc_of}
use Rattle.tc_model.specs.Meaning.{done}
use Rattle.tc_plain.proofs.Scripts.{answers, goes_on}

abbrev fresh : Contents
fresh = tree false false []

-- putdup adds behind, out takes the first value, range gives pairs
first_and_last : answers fresh (Put (codes "k") (codes "1") ∷ Misc (codes "putdup") 0 (codes "k" ∷ codes "2" ∷ []) ∷ Rnum ∷ Get (codes "k") ∷ Out (codes "k") ∷ Get (codes "k")
    ∷ Misc (codes "range") 0 (codes "a" ∷ codes "10" ∷ []) ∷ [])
    ≡ Done ∷ Items [] ∷ Eight 2 ∷ Value (codes "1") ∷ Done ∷ Value (codes "2") ∷ Items (codes "k" ∷ codes "2" ∷ []) ∷ []
unfolding misc_of done goes_on
first_and_last = refl

keys_come_and_go : answers fresh (Put (codes "c") [] ∷ Put (codes "a") [] ∷ Put (codes "e") [] ∷ Put (codes "b") [] ∷ Put (codes "d") [] ∷ FwmKeys [] (negsuc 0)
    ∷ Out (codes "a") ∷ Out (codes "b") ∷ Out (codes "c") ∷ Out (codes "d") ∷ Out (codes "e") ∷ Rnum ∷ [])
    ≡ Done ∷ Done ∷ Done ∷ Done ∷ Done ∷ Items (codes "a" ∷ codes "b" ∷ codes "c" ∷ codes "d" ∷ codes "e" ∷ [])
    ∷ Done ∷ Done ∷ Done ∷ Done ∷ Done ∷ Eight 0 ∷ []
unfolding goes_on
keys_come_and_go = refl

-- getlist gives each value of a key, outlist takes them all
all_values : answers (tree false false (pair (codes "k") (codes "1") ∷ pair (codes "k") (codes "2") ∷ [])) (Misc (codes "getlist") 0 (codes "k" ∷ []) ∷ Misc (codes "outlist") 0 (codes "k" ∷ []) ∷ Rnum ∷ [])
    ≡ Items (codes "k" ∷ codes "1" ∷ codes "k" ∷ codes "2" ∷ []) ∷ Items [] ∷ Eight 0 ∷ []
unfolding misc_of done goes_on
all_values = refl

-- in decimal order 9 stands before 10, and 010 before 10 by its bytes
decimal_order : answers (tree true true []) (Put (codes "10") [] ∷ Put (codes "9") [] ∷ Put (codes "010") [] ∷ FwmKeys [] (negsuc 0) ∷ [])
    ≡ Done ∷ Done ∷ Done ∷ Items (codes "9" ∷ codes "010" ∷ codes "10" ∷ []) ∷ []
unfolding goes_on text_number digits behind_digits decimal nine value_part
decimal_order = refl
