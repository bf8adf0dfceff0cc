-- The ids that keys name, by the least and the greatest id held.
use Rattle.std.specs.Prelude.{ℕ, ◌+◌, ◌-◌, ◌==◌, Bool, true, false, List, [], ◌∷◌, codes, min, max, Option, Some, None, if◌then◌else◌}
use Rattle.tc_base.specs.Texts.{is_text}
use Rattle.tc_base.specs.declared.seq.Pair.{Pair}
use Rattle.tc_model.specs.Texts.{is_number, number}
use Rattle.tc_model.specs.Arrays.{as_id}

-- the number that a key names, 0 of a key that names none
abbrev pub number_by : ℕ → ℕ → List ℕ → ℕ
number_by least greatest key =
    if is_text key (codes "min") then least
    else (if is_text key (codes "max") then greatest
    else (if is_text key (codes "prev") then least - 1
    else (if is_text key (codes "next") then greatest + 1
    else (if is_number 20 key then number key else 0))))

-- the id that it names: from 1 to the greatest allowed
abbrev pub id_by : ℕ → ℕ → ℕ → List ℕ → Option ℕ
id_by most least greatest key = as_id most (number_by least greatest key)

-- the least id once another is held
abbrev pub least_with : ℕ → ℕ → ℕ
least_with least id = if least == 0 then id else min least id

-- an id is named, and of it this holds
abbrev pub is_named : Option ℕ → (ℕ → Bool) → Bool
is_named None test = false
is_named (Some id) test = test id

-- each key names an id when its turn comes, with those before it held
abbrev pub all_named : ℕ → ℕ → ℕ → List Pair → Bool
all_named most least greatest [] = true
all_named most least greatest (p ∷ ps) = is_named (id_by most least greatest p.key) (λ id. all_named most (least_with least id) (max greatest id) ps)
