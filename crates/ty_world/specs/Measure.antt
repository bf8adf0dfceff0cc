-- How much a script still holds.
use Rattle.std.specs.Prelude.{ℕ, suc, ◌+◌, ◌&&◌, List, [], ◌∷◌, ◌++◌, length, nat_eq, nat_lt, if◌then◌else◌}
use Rattle.tc_io.specs.declared.act.Act.{Act}
use Rattle.tc_io.specs.declared.act.Act.TheVariants.{Opened, Read, Ended, Quiet}
use Rattle.tc_io.specs.Script.{Script, Lines, is_read}
use Rattle.ty_world.specs.Frames.{frames}
use Rattle.ty_world.specs.Clients.{Client, is_client}

-- the bytes still to come of an open connection
abbrev pub coming : ℕ → List Act → List ℕ
coming c [] = []
coming c (Opened d ∷ acts) = coming c acts
coming c (Read d bytes ∷ acts) = if nat_eq c d && is_read bytes then bytes ++ coming c acts else coming c acts
coming c (Ended d ∷ acts) = if nat_eq c d then [] else coming c acts
coming c (Quiet ∷ acts) = coming c acts

-- the whole pieces of the connections still to be opened
abbrev pub requests_in : ℕ → List Act → ℕ
requests_in given [] = 0
requests_in given (Opened d ∷ acts) = if nat_lt d given then requests_in given acts else frames (coming d acts) + requests_in (suc d) acts
requests_in given (Read d bytes ∷ acts) = requests_in given acts
requests_in given (Ended d ∷ acts) = requests_in given acts
requests_in given (Quiet ∷ acts) = requests_in given acts

abbrev pub text_of : List Act → Client → List ℕ
text_of acts k = k.unread ++ (if k.ended then [] else coming k.conn acts)

-- neither a feed nor the link has pieces that are to be served
abbrev pub left_of : List Act → Client → ℕ
left_of acts k = if is_client k.role then frames (text_of acts k) else 0

abbrev pub total : List Act → List Client → ℕ
total acts [] = 0
total acts (k ∷ ks) = left_of acts k + total acts ks

-- what falls with each turn
abbrev pub measure : List Client → List Act → Lines → ℕ
measure ks acts l = length acts + (total acts ks + requests_in l.given acts)

-- so many turns suffice where nothing is dialled: one for each event of the script, and each whole piece
abbrev pub most_alone : Script → ℕ
most_alone s = length s.acts + requests_in s.lines.given s.acts

-- and with a master: each event counts twice, one more, and one for each event that found a whole record on the link
abbrev pub most_linked : Script → ℕ → ℕ
most_linked s looked = (length s.acts + most_alone s) + 1 + looked
