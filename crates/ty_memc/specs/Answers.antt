-- What a text command asks of the database, by the value of its key, and what is replied.
use Rattle.std.specs.Prelude.{ℕ, ◌+◌, ◌-◌, ◌^◌, ◌%◌, Bool, true, false, not, List, [], ◌++◌, length, is_some, Option, Some, None, option_and_then, flat_map, codes, decimal, if◌then◌else◌}
use Rattle.tc_base.specs.declared.request.Request.{Request}
use Rattle.tc_base.specs.declared.request.Request.TheVariants as request
use Rattle.ty_memc.specs.declared.text.Word.{Word}
use Rattle.ty_memc.specs.declared.text.Word.TheVariants.{Set, Add, Replace, Append}
use Rattle.ty_memc.specs.declared.text.Text.{Text}
use Rattle.ty_memc.specs.declared.text.Text.TheVariants.{Store, Get, Delete, Count, Flush, Version, Other}
use Rattle.ty_memc.specs.declared.text.Then.{Then}
use Rattle.ty_memc.specs.declared.text.Then.TheVariants.{Say, Do}
use Rattle.ty_memc.specs.Lines.{number}

-- a line, and none where no reply is wanted
abbrev pub line : Bool → List ℕ → List ℕ
line quiet text = if quiet then [] else text ++ codes "\r\n"

abbrev pub say : Bool → List ℕ → Then
say quiet text = Say (line quiet text)

abbrev pub does : Bool → Request → List ℕ → Then
does quiet r text = Do r (line quiet text)

-- up, round at 2^64; down, to 0 at least
abbrev pub counted : Bool → ℕ → ℕ → ℕ
counted false by n = (n + by) % 2 ^ 64
counted true by n = n - by

abbrev pub count_on : List ℕ → Bool → ℕ → Bool → Option ℕ → Then
count_on key down by quiet None = say quiet (codes "CLIENT_ERROR cannot increment or decrement non-numeric value")
count_on key down by quiet (Some n) = does quiet (request.Put key (decimal (counted down by n))) (decimal (counted down by n))

abbrev pub does_if : Bool → Bool → Request → Then
does_if wanted quiet r = if wanted then does quiet r (codes "STORED") else say quiet (codes "NOT_STORED")

-- by whether its key is held
abbrev pub store_on : Word → List ℕ → List ℕ → Bool → Bool → Then
store_on Set key value quiet is_held = does_if true quiet (request.Put key value)
store_on Add key value quiet is_held = does_if (not is_held) quiet (request.PutKeep key value)
store_on Replace key value quiet is_held = does_if is_held quiet (request.Put key value)
store_on Append key value quiet is_held = does_if is_held quiet (request.PutCat key value)

-- the value that the key has, none where it has none. Of a get nothing is said here
abbrev pub then_of : Text → Option (List ℕ) → Then
then_of (Store word key value quiet) got = store_on word key value quiet (is_some got)
then_of (Delete key quiet) None = say quiet (codes "NOT_FOUND")
then_of (Delete key quiet) (Some held) = does quiet (request.Out key) (codes "DELETED")
then_of (Count key by down quiet) None = say quiet (codes "NOT_FOUND")
then_of (Count key by down quiet) (Some held) = count_on key down by quiet (number 20 (2 ^ 64 - 1) held)
then_of (Flush quiet) got = does quiet request.Vanish (codes "OK")
then_of Version got = say false (codes "VERSION 1.1")
then_of Other got = say false (codes "ERROR")
then_of (Get keys) got = Say []

-- the key whose value is asked for first
abbrev pub asked : Text → Option (List ℕ)
asked (Store Set key value quiet) = None
asked (Store word key value quiet) = Some key
asked (Delete key quiet) = Some key
asked (Count key by down quiet) = Some key
asked _ = None

abbrev pub is_quiet : Text → Bool
is_quiet (Store word key value quiet) = quiet
is_quiet (Delete key quiet) = quiet
is_quiet (Count key by down quiet) = quiet
is_quiet (Flush quiet) = quiet
is_quiet _ = false

abbrev pub server_error : Bool → List ℕ
server_error quiet = line quiet (codes "SERVER_ERROR")

-- of a get, for a key and its value
abbrev pub value_lines : List ℕ → Option (List ℕ) → List ℕ
value_lines key None = []
value_lines key (Some value) = codes "VALUE " ++ (key ++ (codes " 0 " ++ (decimal (length value) ++ (codes "\r\n" ++ (value ++ codes "\r\n")))))

abbrev pub values : (List ℕ → Option (List ℕ)) → List (List ℕ) → List ℕ
values look keys = flat_map (λ key. value_lines key (look key)) keys ++ codes "END\r\n"

-- where each key may have a value
abbrev pub then_by : (List ℕ → Option (List ℕ)) → Text → Then
then_by look (Get keys) = Say (values look keys)
then_by look t = then_of t (option_and_then look (asked t))

-- the requests that a text command asks for
abbrev pub IsAsked : Request → Type 0
IsAsked (request.Put key value) = Unit {0}
IsAsked (request.PutKeep key value) = Unit {0}
IsAsked (request.PutCat key value) = Unit {0}
IsAsked (request.Out key) = Unit {0}
IsAsked request.Vanish = Unit {0}
IsAsked _ = ⊥
