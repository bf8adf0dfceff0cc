-- Digits are none of the words that name an id.
use Rattle.std.proofs.Common.{◌≡◌, ◌∙◌, ℕ, ◌+◌, ◌-◌, Bool, true, false, List, refl, sym, ap}
use Rattle.std.specs.Prelude.{codes, if◌then◌else◌}
use Rattle.std.proofs.lemmas.Slice.Eq.{bytes_eq-Decides}
use Rattle.tc_base.specs.Texts.{is_text}
use Rattle.tc_model.specs.Texts.{is_number, number}
use Rattle.tc_fixeddb.specs.Naming.{number_by}

other : (key word : List ℕ) → is_number 20 key ≡ true → is_number 20 word ≡ false → false ≡ is_text key word
other key word digits none = go (is_text key word) refl
  where
    go : (b : Bool) → is_text key word ≡ b → false ≡ is_text key word
    go true e = absurd (let never : true ≡ false = sym digits ∙ ap (is_number 20) ((bytes_eq-Decides key word).0 e) ∙ none in cc)
    go false e = sym e

-- digits name the number that they spell
pub digits_name : (least greatest : ℕ) (key : List ℕ) → is_number 20 key ≡ true → number key ≡ number_by least greatest key
digits_name least greatest key digits =
    let lowest = other key (codes "min") digits refl in
    let highest = other key (codes "max") digits refl in
    let before = other key (codes "prev") digits refl in
    let behind = other key (codes "next") digits refl in
    let is = sym digits in
    λ i.
    if lowest i then least
    else (if highest i then greatest
    else (if before i then least - 1
    else (if behind i then greatest + 1
    else (if is i then number key else 0))))
