-- The requests of a drill: each is determined by the seed and its place.
use Rattle.std.specs.Prelude.{ℕ, zero, suc, ◌+◌, ◌*◌, ◌-◌, ◌/◌, ◌%◌, ◌^◌, Bool, false, List, [], ◌∷◌, ◌++◌, None, codes, nat_lt, nat_eq, if◌then◌else◌}
use Rattle.std.specs.Fmt.{decimal}
use Rattle.tc_base.specs.declared.request.Request.{Request}
use Rattle.tc_base.specs.declared.request.Request.TheVariants.{Put, PutCat, Out}
use Rattle.tc_model.specs.Contents.{Contents, is_table}
use Rattle.tc_model.specs.Stores.{count, size_of}
use Rattle.tc_model.specs.Apply.{Step, apply}

-- the number that is drawn behind another
abbrev pub drawn : ℕ → ℕ
drawn x = (x * 6364136223846793005 + 1442695040888963407) % 2 ^ 64

-- one of a thousand keys
abbrev pub key_of : ℕ → List ℕ
key_of x = decimal (1 + x / 2 ^ 33 % 1000)

abbrev pub number_text : ℕ → List ℕ
number_text x = decimal (x / 2 ^ 44)

-- of a table a row with one column, `v`
abbrev pub value_of : Bool → ℕ → List ℕ
value_of table x = if table then 118 ∷ 0 ∷ number_text x else number_text x

-- two of four numbers put, one joins behind, one takes out
abbrev pub request_of : Bool → ℕ → Request
request_of table x = if nat_lt (x / 2 ^ 20 % 4) 2 then Put (key_of x) (value_of table x) else if nat_eq (x / 2 ^ 20 % 4) 2 then PutCat (key_of x) (value_of table x) else Out (key_of x)

-- the number drawn last, the contents, and how many requests succeeded
pub record Drilled : Type 0 where
  pub drawn_last : ℕ
  pub contents : Contents
  pub accepted : ℕ

abbrev pub begun : ℕ → Contents → Drilled
begun seed c = record { drawn_last = seed; contents = c; accepted = 0 }

abbrev pub step_of : Drilled → Step
step_of d = apply false (request_of (is_table d.contents) (drawn d.drawn_last)) d.contents None

abbrev pub one_more : Drilled → Drilled
one_more d = record { drawn_last = drawn d.drawn_last; contents = (step_of d).contents; accepted = if (step_of d).ok then d.accepted + 1 else d.accepted }

-- behind so many requests
unfoldable pub drilled : ℕ → ℕ → Contents → Drilled
drilled zero seed c = begun seed c
drilled (suc n) seed c = one_more (drilled n seed c)

-- how many were made, how many of them succeeded and failed, and what is held in the end
abbrev pub summary : ℕ → Drilled → List ℕ
summary n d =
    codes "requests " ++ (decimal n
    ++ (codes " ok " ++ (decimal d.accepted
    ++ (codes " refused " ++ (decimal (n - d.accepted)
    ++ (codes " records " ++ (decimal (count d.contents)
    ++ (codes " size " ++ (decimal (size_of d.contents) ++ 10 ∷ [])))))))))
