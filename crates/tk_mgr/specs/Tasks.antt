-- What a task makes of contents, where it commits, and what it prints.
use Rattle.std.specs.Prelude.{◌≡◌, ℕ, zero, suc, ℤ, pos, negsuc, ◌/◌, ◌*◌, ◌==◌, min, Bool, true, false, List, [], ◌∷◌, ◌++◌, map, flat_map, Option, Some, None, codes, if◌then◌else◌}
use Rattle.std.specs.Fmt.{decimal}
use Rattle.std.specs.List.{join_with_byte}
use Rattle.tc_base.specs.Files.{Files}
use Rattle.tc_base.specs.declared.request.Request.{Request}
use Rattle.tc_base.specs.declared.request.Request.TheVariants as request
use Rattle.tc_base.specs.declared.request.Reply.{Reply}
use Rattle.tc_base.specs.declared.request.Reply.TheVariants as reply
use Rattle.tc_base.specs.declared.seq.Pair.{Pair}
use Rattle.tc_model.specs.Contents.{Contents, kind_of, is_table}
use Rattle.tc_model.specs.Stores.{count, size_of, value_of}
use Rattle.tc_model.specs.Stats.{kind_text}
use Rattle.tc_model.specs.Apply.{apply, at_most, keys_from}
use Rattle.tk_words.specs.declared.order.PutWord.{PutWord}
use Rattle.tk_words.specs.declared.order.PutWord.TheVariants.{Over, Keep, Cat, Dup}
use Rattle.tk_mgr.specs.declared.task.Task.{Task}
use Rattle.tk_mgr.specs.declared.task.Task.TheVariants.{Put, Out, Get, List as Lists, Optimize, Inform, SetIndex, Search, SearchOut, Drill}
use Rattle.tk_mgr.specs.declared.task.Wanted.{Wanted}
use Rattle.tk_mgr.specs.Drills.{drilled, summary}

-- ---- the request that a task stands for

abbrev pub put_request : PutWord → List ℕ → List ℕ → Request
put_request Over key value = request.Put key value
put_request Keep key value = request.PutKeep key value
put_request Cat key value = request.PutCat key value
put_request Dup key value = request.Misc (codes "putdup") 0 (key ∷ value ∷ [])

-- so many keys are asked for, all where no number is given
abbrev pub maximum_of : Option ℕ → ℤ
maximum_of None = negsuc 0
maximum_of (Some n) = pos (min n 2147483647)

-- ---- the calls of a table

-- a column and the code of a type
abbrev pub index_request : List ℕ → ℕ → Request
index_request column code = request.Misc (codes "setindex") 0 (column ∷ decimal code ∷ [])

-- an argument of a search is a word and parts, with zero bytes between
abbrev pub condition_arg : List ℕ → List ℕ → List ℕ → List ℕ
condition_arg column operator expression = join_with_byte 0 (codes "addcond" ∷ column ∷ operator ∷ expression ∷ [])

-- three texts each; fewer at the end are none
abbrev pub condition_args : List (List ℕ) → List (List ℕ)
condition_args (column ∷ operator ∷ expression ∷ more) = condition_arg column operator expression ∷ condition_args more
condition_args _ = []

abbrev pub sort_args : Option Pair → List (List ℕ)
sort_args None = []
sort_args (Some p) = join_with_byte 0 (codes "setorder" ∷ p.key ∷ p.value ∷ []) ∷ []

-- without a maximum there is no limit
abbrev pub most_text : Option ℕ → List ℕ
most_text None = codes "-1"
most_text (Some n) = decimal n

abbrev pub limit_arg : Option ℕ → ℕ → List ℕ
limit_arg maximum skip = join_with_byte 0 (codes "setlimit" ∷ most_text maximum ∷ decimal skip ∷ [])

abbrev pub search_args : Wanted → List (List ℕ)
search_args w = condition_args w.conditions ++ (sort_args w.sort ++ limit_arg w.maximum w.skip ∷ [])

abbrev pub find_request : Wanted → Request
find_request w = request.Misc (codes "search") 0 (search_args w)

abbrev pub out_request : Wanted → Request
out_request w = request.Misc (codes "search") 0 (search_args w ++ codes "out" ∷ [])

-- none where files are packed or told of; a drill makes many
abbrev pub request_of : Task → Option Request
request_of (Put word key value) = Some (put_request word key value)
request_of (Out key) = Some (request.Out key)
request_of (Get key) = Some (request.Get key)
request_of (Lists maximum values) = Some (request.FwmKeys [] (maximum_of maximum))
request_of (Optimize large) = None
request_of Inform = None
request_of (SetIndex column code) = Some (index_request column code)
request_of (Search wanted values) = Some (find_request wanted)
request_of (SearchOut wanted) = Some (out_request wanted)
request_of (Drill seed n) = None

-- ---- contents along a task

abbrev pub asked : Option Request → Contents → Contents
asked None c = c
asked (Some r) c = (apply false r c None).contents

abbrev pub answered : Option Request → Contents → Bool
answered None c = true
answered (Some r) c = (apply false r c None).ok

-- whether its request succeeds; those of a drill are counted
abbrev pub ok_of : Task → Contents → Bool
ok_of task c = answered (request_of task) c

-- how many requests it makes: none where files are packed or told of
abbrev pub steps_of : Task → ℕ
steps_of (Drill seed n) = n
steps_of (Optimize large) = 0
steps_of Inform = 0
steps_of task = 1

-- the contents behind so many of them
abbrev pub at_step : Task → Contents → ℕ → Contents
at_step (Drill seed n) c k = (drilled k seed c).contents
at_step task c zero = c
at_step task c (suc k) = asked (request_of task) c

abbrev pub after : Task → Contents → Contents
after task c = at_step task c (steps_of task)

-- ---- the marks at which it commits, the last in front

-- behind each hundred requests, and before the first
abbrev pub hundreds : ℕ → ℕ → Contents → List Contents
hundreds seed zero c = c ∷ []
hundreds seed (suc n) c = (drilled (100 * suc n) seed c).contents ∷ hundreds seed n c

abbrev pub before_last : Task → Contents → List Contents
before_last (Drill seed n) c = hundreds seed (n / 100) c
before_last task c = c ∷ []

abbrev pub all_marks : Task → Contents → List Contents
all_marks task c = after task c ∷ before_last task c

-- ---- what it prints

-- of a row, its zero bytes as tabs
abbrev pub shown : Contents → List ℕ → List ℕ
shown c value = if is_table c then map (λ b. if b == 0 then 9 else b) value else value

abbrev pub line : List ℕ → List ℕ
line text = text ++ 10 ∷ []

abbrev pub keys_listed : Option ℕ → Contents → List (List ℕ)
keys_listed maximum c = at_most (maximum_of maximum) (keys_from c [])

-- a key, a tab, and the value that get gives
abbrev pub pair_line : Contents → List ℕ → List ℕ
pair_line c key = key ++ (9 ∷ line (shown c (value_of c key)))

-- a line for each of these keys
abbrev pub key_lines : Bool → Contents → List (List ℕ) → List ℕ
key_lines values c keys = flat_map (λ key. if values then pair_line c key else line key) keys

abbrev pub list_text : Bool → Option ℕ → Contents → List ℕ
list_text values maximum c = key_lines values c (keys_listed maximum c)

-- ---- the keys that a search finds: the elements of its reply

abbrev pub elements : Reply → List (List ℕ)
elements (reply.List items) = items
elements _ = []

abbrev pub keys_found : Wanted → Contents → List (List ℕ)
keys_found w c = elements (apply false (find_request w) c None).reply

abbrev pub search_text : Bool → Wanted → Contents → List ℕ
search_text values w c = key_lines values c (keys_found w c)

-- a name, a colon, a space, and a value
abbrev pub told_line : List ℕ → List ℕ → List ℕ
told_line name value = name ++ (codes ": " ++ line value)

abbrev pub told_of : Contents → List ℕ
told_of c = told_line (codes "type") (kind_text (kind_of c)) ++ (told_line (codes "record number") (decimal (count c)) ++ told_line (codes "size") (decimal (size_of c)))

abbrev pub text_of : Task → Contents → List ℕ
text_of (Get key) c = line (shown c (value_of c key))
text_of (Lists maximum values) c = list_text values maximum c
text_of (Search wanted values) c = search_text values wanted c
text_of (Drill seed n) c = summary n (drilled n seed c)
text_of _ c = []

-- of a database whose files were these: an inspection tells of them behind what it tells of contents
abbrev pub Prints : (Files → List ℕ → Type 0) → Task → Files → Contents → List ℕ → Type 0
Prints lines Inform files c text = (tail : List ℕ) × lines files tail × (text ≡ told_of c ++ tail)
Prints lines task files c text = text ≡ text_of task c
