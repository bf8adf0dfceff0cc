-- What stands at a place after bytes are put back.
use Rattle.std.proofs.Common.{◌≡◌, ℕ, ◌+◌, ◌-◌, ◌<◌, ◌≤◌, List, [], ◌∷◌, length, get_or, ◌∙◌, arith}
use Rattle.std.proofs.lemmas.List.{places, length-replicate}
use Rattle.tc_base.specs.Files.{wrote, resized}
use Rattle.ud_log.specs.Entries.{Entry, put_back, Inside}

pub length-wrote : (at : ℕ) (bytes old : List ℕ) → at + length bytes ≤ length old → length (wrote at bytes old) ≡ length old
unfolding wrote
length-wrote at bytes old fits = grind (arith, places)

pub wrote_before : (at : ℕ) (bytes old : List ℕ) (p : ℕ) → at ≤ length old → p < at → get_or (wrote at bytes old) p 0 ≡ get_or old p 0
unfolding wrote
wrote_before at bytes old p fits low = grind (arith, places)

pub wrote_inside : (at : ℕ) (bytes old : List ℕ) (p : ℕ) → at ≤ length old → at ≤ p → p < at + length bytes → get_or (wrote at bytes old) p 0 ≡ get_or bytes (p - at) 0
unfolding wrote
wrote_inside at bytes old p fits low high = grind (arith, places)

pub wrote_behind : (at : ℕ) (bytes old : List ℕ) (p : ℕ) → at ≤ length old → at + length bytes ≤ p → get_or (wrote at bytes old) p 0 ≡ get_or old p 0
unfolding wrote
wrote_behind at bytes old p fits high = grind (arith, places)

pub length-resized : (n : ℕ) (old : List ℕ) → length (resized n old) ≡ n
unfolding resized
length-resized n old = grind (arith, places, length-replicate {A = ℕ})

pub resized_at : (n : ℕ) (old : List ℕ) (p : ℕ) → p < n → get_or (resized n old) p 0 ≡ get_or old p 0
unfolding resized
resized_at n old p low = grind (arith, places)

pub length-put_back : (n : ℕ) (es : List Entry) (old : List ℕ) → Inside n es → length old ≡ n → length (put_back es old) ≡ n
length-put_back n [] old fits is = is
length-put_back n (e ∷ es) old fits is =
    let rest : length (put_back es old) ≡ n = length-put_back n es old fits.1 is in
    length-wrote e.at e.bytes (put_back es old) (omega (arith, fits.0)) ∙ rest
