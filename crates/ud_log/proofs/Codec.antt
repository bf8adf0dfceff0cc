-- What is spelled is read again.
use Rattle.std.proofs.Common.{◌≡◌, ⊎_elim, ℕ, zero, suc, ◌+◌, ◌-◌, ◌/◌, ◌^◌, ◌<◌, ◌≤◌, List, [], ◌∷◌, ◌++◌, length, take, drop, refl, sym, ◌∙◌, ap, arith, append_assoc, length-append, length-take, true, false, nat_le, cond}
use Rattle.std.proofs.lemmas.List.{take_at, drop_at, drop-drop, drop-take, take-take}
use Rattle.std.proofs.lemmas.Bool.{cases_lt}
use Rattle.std.proofs.lemmas.Bool.Decides.{nat_tests}
use Rattle.ud_log.specs.Entries.{Entry}
use Rattle.ud_log.specs.Grammar.{Fits, Each}
use Rattle.ud_log.specs.Log.{spelled, number, entry_bytes, entries_bytes, entries_in, entry_at}

pub length-spelled : (width n : ℕ) → length (spelled width n) ≡ width
length-spelled zero n = refl
length-spelled (suc width) n = ap suc (length-spelled width (n / 256))

pub number-spelled : (width n : ℕ) → n < 256 ^ width → number (spelled width n) ≡ n
number-spelled zero n low = omega arith
number-spelled (suc width) n low =
    let rest : number (spelled width (n / 256)) ≡ n / 256 = number-spelled width (n / 256) (grind (arith, low)) in
    omega (arith, rest)

pub length-entry : (e : Entry) → length (entry_bytes e) ≡ 20 + length e.bytes
unfolding entry_bytes
length-entry e = simp (length-append, length-spelled) (omega arith)

test_true : (a b : ℕ) → a ≤ b → nat_le a b ≡ true
test_true a b le = grind (arith, nat_tests)

test_false : (a b : ℕ) → b < a → nat_le a b ≡ false
test_false a b lt = grind (arith, nat_tests)

pub step : (most : ℕ) (bytes : List ℕ) (size : ℕ) → number (take 4 (drop 12 bytes)) ≡ size → 20 + size ≤ length bytes → entries_in (suc most) bytes ≡ entry_at size bytes ∷ entries_in most (drop (20 + size) bytes)
step most bytes size is le =
    let there : nat_le (20 + number (take 4 (drop 12 bytes))) (length bytes) ≡ true = test_true (20 + number (take 4 (drop 12 bytes))) (length bytes) (omega (arith, is, le)) in
    ap (λ b. cond b (entry_at (number (take 4 (drop 12 bytes))) bytes ∷ entries_in most (drop (20 + number (take 4 (drop 12 bytes))) bytes)) []) there
    ∙ ap (λ k. entry_at k bytes ∷ entries_in most (drop (20 + k) bytes)) is

pub stop : (most : ℕ) (bytes : List ℕ) → length bytes < 20 + number (take 4 (drop 12 bytes)) → entries_in most bytes ≡ []
stop zero bytes short = refl
stop (suc most) bytes short =
    ap (λ b. cond b (entry_at (number (take 4 (drop 12 bytes))) bytes ∷ entries_in most (drop (20 + number (take 4 (drop 12 bytes))) bytes)) []) (test_false (20 + number (take 4 (drop 12 bytes))) (length bytes) short)

-- what is read at the front of an entry is the entry
module _ (e : Entry) (rest : List ℕ) (fits : Fits e) where
  abbrev there : List ℕ
  there = entry_bytes e ++ rest

  pub size_is : number (take 4 (drop 12 there)) ≡ length e.bytes
  unfolding entry_bytes
  size_is = number-spelled 4 (length e.bytes) fits.size

  pub entry_is : entry_at (length e.bytes) there ≡ e
  unfolding entry_bytes
  entry_is =
      let n = length e.bytes in
      let file : number (take 4 there) ≡ e.file = number-spelled 4 e.file fits.file in
      let at : number (take 8 (drop 4 there)) ≡ e.at = number-spelled 8 e.at fits.at in
      let old : take n (drop 16 there) ≡ e.bytes = ap (λ (l : List ℕ). take n l) (append_assoc e.bytes (spelled 4 e.again) rest) ∙ take_at e.bytes (spelled 4 e.again ++ rest) n refl in
      let behind : drop (16 + n) there ≡ spelled 4 e.again ++ rest = sym (drop-drop n 16 there) ∙ ap (λ (l : List ℕ). drop n l) (append_assoc e.bytes (spelled 4 e.again) rest) ∙ drop_at e.bytes (spelled 4 e.again ++ rest) n refl in
      let again : number (take 4 (drop (16 + n) there)) ≡ e.again = ap (λ (l : List ℕ). number (take 4 l)) behind ∙ number-spelled 4 e.again fits.again in
      λ i. record { file = file i; at = at i; bytes = old i; again = again i }

pub entries_whole : (most : ℕ) (e : Entry) (rest : List ℕ) → Fits e → entries_in (suc most) (entry_bytes e ++ rest) ≡ e ∷ entries_in most rest
entries_whole most e rest fits =
    let bytes = entry_bytes e ++ rest in
    let n = length e.bytes in
    let long : length bytes ≡ 20 + n + length rest = length-append (entry_bytes e) rest ∙ ap (λ k. k + length rest) (length-entry e) in
    let left : drop (20 + n) bytes ≡ rest = drop_at (entry_bytes e) rest (20 + n) (length-entry e) in
    step most bytes n (size_is e rest fits) (omega (arith, long))
    ∙ (λ i. entry_is e rest fits i ∷ entries_in most (left i))

-- an entry that is cut short isn't whole
pub entries_cut : (most k : ℕ) (e : Entry) → Fits e → k < length (entry_bytes e) → entries_in most (take k (entry_bytes e)) ≡ []
unfolding entry_bytes
entries_cut most k e fits short =
    let bytes = take k (entry_bytes e) in
    let long : length bytes ≡ k = length-take k (entry_bytes e) ∙ omega (arith, short) in
    stop most bytes (⊎_elim (λ low. omega (arith, long, low))
    (λ high.
    let split : k ≡ 12 + (k - 12) = omega (arith, high) in
    let same : take 4 (drop 12 bytes) ≡ spelled 4 (length e.bytes) =
    ap (λ j. take 4 (drop 12 (take j (entry_bytes e)))) split
    ∙ ap (λ (l : List ℕ). take 4 l) (drop-take 12 (k - 12) (entry_bytes e))
    ∙ take-take 4 (k - 12) (drop 12 (entry_bytes e)) (omega (arith, high)) in
    let size : number (take 4 (drop 12 bytes)) ≡ length e.bytes = ap number same ∙ number-spelled 4 (length e.bytes) fits.size in
    omega (arith, size, long, short, length-entry e))
    (cases_lt k 16))

pub entries_all : (most : ℕ) (es : List Entry) (rest : List ℕ) → Each es → entries_in (length es + most) (entries_bytes es ++ rest) ≡ es ++ entries_in most rest
entries_all most [] rest fit = ap (λ k. entries_in k rest) (omega arith)
entries_all most (e ∷ es) rest fit =
    ap (λ (l : List ℕ). entries_in (length (e ∷ es) + most) l) (append_assoc (entry_bytes e) (entries_bytes es) rest)
    ∙ ap (λ k. entries_in k (entry_bytes e ++ (entries_bytes es ++ rest))) more
    ∙ entries_whole (length es + most) e (entries_bytes es ++ rest) fit.0
    ∙ ap (λ (l : List Entry). e ∷ l) (entries_all most es rest fit.1)
  where
    more : length (e ∷ es) + most ≡ suc (length es + most)
    more = omega arith
