-- Worked examples on a map in memory: what a script of requests is answered.
use Rattle.std.specs.Prelude.{◌≡◌, List, [], ◌∷◌, true, codes, pos, negsuc}
use Rattle.std.specs.FinMap.{empty}
use Rattle.tc_base.specs.Endian.{le_number, le_bytes}
use Rattle.tc_base.specs.declared.request.Request.{Request}
use Rattle.tc_base.specs.declared.request.Request.TheVariants.{Put, PutShl, AddInt, AddDouble, Ext, Get, MGet, Out, IterInit, IterNext, FwmKeys, Stat, Misc}
use Rattle.tc_base.specs.declared.request.Reply.TheVariants.{Done, Fail, FailMisc, Value, Four, List as Items, Pairs}
use Rattle.tc_base.specs.Lists.{pair}
use Rattle.tc_model.specs.Contents.{Contents, hash}
use Rattle.tc_model.specs.Misc.{misc_of}
use Rattle.tc_model.specs.Meaning.{done}
use Rattle.tc_plain.proofs.Scripts.{answers, computing, decimals}

abbrev fresh : Contents
fresh = hash true empty

-- the last bytes are kept
putshl_keeps_last : answers fresh (PutShl (codes "k") (codes "abc") 4 ∷ PutShl (codes "k") (codes "de") 4 ∷ Get (codes "k") ∷ PutShl (codes "k") (codes "f") 0 ∷ Get (codes "k") ∷ [])
    ≡ Done ∷ Done ∷ Value (codes "bcde") ∷ Done ∷ Value [] ∷ []
putshl_keeps_last = simp computing

-- four bytes, the least first; three are none
addint_adds : answers fresh (Put (codes "n") (255 ∷ 255 ∷ 255 ∷ 127 ∷ []) ∷ AddInt (codes "n") 1 ∷ Get (codes "n") ∷ Put (codes "n") (codes "abc") ∷ AddInt (codes "n") 1 ∷ [])
    ≡ Done ∷ Four 2147483648 ∷ Value (0 ∷ 0 ∷ 0 ∷ 128 ∷ []) ∷ Done ∷ Fail ∷ []
unfolding le_number le_bytes
addint_adds = simp computing

-- a key that is asked twice is answered twice, one that isn't held is passed over
mget_repeats : answers fresh (Put (codes "one") (codes "first") ∷ MGet (codes "one" ∷ codes "one" ∷ codes "x" ∷ []) ∷ [])
    ≡ Done ∷ Pairs (pair (codes "one") (codes "first") ∷ pair (codes "one") (codes "first") ∷ []) ∷ []
mget_repeats = simp computing

-- the walk has the keys held at its start, and passes over those that are gone; one that has none left stays as it is
walk_passes : answers fresh (IterNext ∷ Put (codes "a") (codes "1") ∷ Put (codes "b") (codes "2") ∷ Put (codes "c") (codes "3") ∷ IterInit ∷ Out (codes "a") ∷ Put (codes "d") (codes "4")
    ∷ IterNext ∷ IterNext ∷ IterNext ∷ IterNext ∷ FwmKeys [] (negsuc 0) ∷ FwmKeys [] (pos 0) ∷ [])
    ≡ Fail ∷ Done ∷ Done ∷ Done ∷ Done ∷ Done ∷ Done
    ∷ Value (codes "b") ∷ Value (codes "c") ∷ Fail ∷ Fail ∷ Items (codes "b" ∷ codes "c" ∷ codes "d" ∷ []) ∷ Items [] ∷ []
walk_passes = simp computing

stat_tells : answers fresh (Put (codes "a") (codes "1") ∷ Stat ∷ []) ≡ Done ∷ Value (codes "type\ton-memory hash\nrnum\t1\nsize\t2\n") ∷ []
stat_tells = simp (computing, decimals)

abbrev one_held : List Request → List Request
one_held rs = Put (codes "one") (codes "first") ∷ rs

-- an odd number of options fails what updates, and is ignored elsewhere
odd_options : answers fresh (one_held (Misc (codes "get") 1 (codes "one" ∷ []) ∷ Misc (codes "out") 1 (codes "one" ∷ []) ∷ Get (codes "one") ∷ []))
    ≡ Done ∷ Items (codes "first" ∷ []) ∷ FailMisc ∷ Value (codes "first") ∷ []
unfolding misc_of done
odd_options = simp computing

-- no such name; a name of tables alone; requests that always fail
refused_calls : answers fresh (one_held (Misc (codes "nosuch") 0 [] ∷ Misc (codes "setindex") 0 (codes "c" ∷ codes "0" ∷ []) ∷ AddDouble (codes "k") 1 2 ∷ Ext (codes "f") 0 (codes "k") (codes "v") ∷ []))
    ≡ Done ∷ FailMisc ∷ FailMisc ∷ Fail ∷ Fail ∷ []
unfolding misc_of done
refused_calls = simp computing
