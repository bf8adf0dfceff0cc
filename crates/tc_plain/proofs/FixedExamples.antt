-- Worked examples on a fixed-length database of width 3 with ids up to 67,108,800.
use Rattle.std.specs.Prelude.{◌≡◌, List, [], ◌∷◌, codes, negsuc}
use Rattle.std.specs.FinMap.{empty}
use Rattle.tc_base.specs.declared.request.Request.{Request}
use Rattle.tc_base.specs.declared.request.Request.TheVariants.{Put, Get, MGet, Out, FwmKeys, Rnum, Size, AddInt}
use Rattle.tc_base.specs.declared.request.Reply.TheVariants.{Done, Fail, Value, Eight, List as Items, Pairs}
use Rattle.tc_base.specs.Lists.{pair}
use Rattle.tc_model.specs.Contents.{fixed}
use Rattle.tc_plain.proofs.Scripts.{answers, computing, decimals}

abbrev two_held : List Request → List Request
two_held rs = Put (codes "1") (codes "abcdef") ∷ Put (codes "next") [] ∷ rs

cut_and_next : answers (fixed 3 67108800 empty) (two_held (Get (codes "2") ∷ Get (codes "3") ∷ Get (codes "1") ∷ [])) ≡ Done ∷ Done ∷ Value [] ∷ Fail ∷ Value (codes "abc") ∷ []
cut_and_next = simp computing

-- the greatest id rises with a put and falls with an out; keys are answered in decimal
greatest_rises : answers (fixed 3 67108800 empty) (two_held (Put (codes "5") (codes "z") ∷ FwmKeys [] (negsuc 0) ∷ Get (codes "max") ∷ Out (codes "5") ∷ Get (codes "max") ∷ []))
    ≡ Done ∷ Done ∷ Done ∷ Items (codes "1" ∷ codes "2" ∷ codes "5" ∷ []) ∷ Value (codes "z") ∷ Done ∷ Value [] ∷ []
greatest_rises = simp (computing, decimals)

ids_are_named : answers (fixed 3 67108800 empty) (two_held (MGet (codes "max" ∷ codes "007" ∷ codes "001" ∷ []) ∷ Size ∷ [])) ≡ Done ∷ Done ∷ Pairs (pair (codes "2") [] ∷ pair (codes "1") (codes "abc") ∷ []) ∷ Eight 5 ∷ []
ids_are_named = simp (computing, decimals)

-- no id: 0, no digits, past the greatest allowed, no bytes; min of what is empty; addint in a narrow width
no_id : answers (fixed 3 67108800 empty) (Get (codes "0") ∷ Get (codes "x") ∷ Get (codes "67108801") ∷ Get [] ∷ Put (codes "min") (codes "v") ∷ Put (codes "prev") (codes "v") ∷ AddInt (codes "1") 1 ∷ Put (codes "67108800") (codes "v") ∷ Put (codes "next") (codes "v") ∷ Rnum ∷ [])
    ≡ Fail ∷ Fail ∷ Fail ∷ Fail ∷ Fail ∷ Fail ∷ Fail ∷ Done ∷ Fail ∷ Eight 1 ∷ []
no_id = simp computing
