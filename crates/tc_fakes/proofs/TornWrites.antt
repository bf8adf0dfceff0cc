-- Torn writes in two parts: over old bytes, and behind them.
use Rattle.std.proofs.Common.{◌≡◌, ℕ, ◌+◌, ◌-◌, ◌<◌, ◌≤◌, min, List, ◌++◌, length, take, drop, sym, ◌∙◌, ap, arith, length-take, append_assoc}
use Rattle.std.proofs.lemmas.List.{places, same_lists, take_min, take-append-le}
use Rattle.std.proofs.lemmas.Bool.{le-leb, lt-leb}
use Rattle.tc_base.specs.Files.{wrote}
use Rattle.tc_fakes.specs.Chosen.{torn, torn_over}
use Rattle.tc_fakes.specs.declared.choice.Choice.{Choice}

pub torn_inside : (c : Choice) (at : ℕ) (bytes i : List ℕ) → at ≤ length i → torn c at bytes i ≡ take at i ++ torn_over c (take (length i - at) bytes) ++ drop (at + length bytes) i ++ take c.keep (drop (length i - at) bytes)
unfolding torn
torn_inside c at bytes i fits = rw (le-leb at (length i) fits)

pub torn_beyond : (c : Choice) (at : ℕ) (bytes i : List ℕ) → length i < at → torn c at bytes i ≡ i
unfolding torn
torn_beyond c at bytes i far = rw (lt-leb at (length i) far)

pub length-torn_over : (c : Choice) (bytes : List ℕ) → length (torn_over c bytes) ≡ length bytes
length-torn_over c bytes = grind (arith, places)

over_is : (n : ℕ) (xs : List ℕ) → take (min (length xs) n) xs ≡ take n xs
over_is n xs = same_lists _ _ (grind (arith, places)) (λ i d h. grind (arith, places))

more_is : (n : ℕ) (xs : List ℕ) → drop (min (length xs) n) xs ≡ drop n xs
more_is n xs = same_lists _ _ (grind (arith, places)) (λ i d h. grind (arith, places))

rest_is : (at k : ℕ) (bytes old more : List ℕ) → at ≤ length old → k ≡ min (length bytes) (length old - at) → drop (at + k) (old ++ more) ≡ drop (at + length bytes) old ++ more
rest_is at k bytes old more fits ek = same_lists _ _ (grind (arith, places)) (λ i d h. grind (arith, places))

pub torn_in_parts : (c : Choice) (at k m : ℕ) (bytes old over more : List ℕ) → at ≤ length old → k ≡ min (length bytes) (length old - at) → over ≡ take k bytes → more ≡ drop k bytes → m ≡ min c.keep (length more) → wrote at (torn_over c over) (old ++ take m more) ≡ torn c at bytes old
unfolding wrote
torn_in_parts c at k m bytes old over more fits ek eo em ekeep =
    let over_all : over ≡ take (length old - at) bytes = eo ∙ ap (λ n. take n bytes) ek ∙ over_is (length old - at) bytes in
    let more_all : more ≡ drop (length old - at) bytes = em ∙ ap (λ n. drop n bytes) ek ∙ more_is (length old - at) bytes in
    let kept : take m more ≡ take c.keep more = ap (λ n. take n more) ekeep ∙ take_min c.keep more in
    let long : length (torn_over c over) ≡ k = length-torn_over c over ∙ ap length eo ∙ length-take k bytes ∙ omega arith in
    let front : take at (old ++ take m more) ≡ take at old = take-append-le at old (take m more) fits in
    let rest : drop (at + length (torn_over c over)) (old ++ take m more) ≡ drop (at + length bytes) old ++ take c.keep more = ap (λ n. drop (at + n) (old ++ take m more)) long ∙ rest_is at k bytes old (take m more) fits ek ∙ ap (λ (l : List ℕ). drop (at + length bytes) old ++ l) kept in
    rw (torn_inside c at bytes old fits, front, rest, ← over_all, ← more_all) (sym (append_assoc (take at old ++ torn_over c over) (drop (at + length bytes) old) (take c.keep more)))
