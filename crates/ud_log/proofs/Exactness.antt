-- What a log is read as is what it spells, and the other way round.
use Rattle.std.proofs.Common.{◌≡◌, ◌∙◌, inl, inr, ℕ, zero, suc, ◌+◌, ◌-◌, ◌*◌, ◌^◌, ◌<◌, ◌≤◌, List, [], ◌∷◌, ◌++◌, length, take, drop, refl, sym, ap, subst, arith, append_assoc, length-append, length-drop, take-append-drop}
use Rattle.std.proofs.lemmas.Bool.{cases_lt}
use Rattle.std.proofs.lemmas.List.{drop_at, drop-drop, length-take-le, append-nil}
use Rattle.tc_base.specs.Bytes.{IsBytes}
use Rattle.ud_log.specs.Entries.{Entry}
use Rattle.ud_log.specs.Log.{spelled, number, numbers_in, numbers_bytes, magic, entry_bytes, entries_bytes, entry_at, entries_in, lengths, entries}
use Rattle.ud_log.specs.Grammar.{Fits, Each, FitEight, HasNoEntry, Spells, ReadsAs, GrammarIsExact}
use Rattle.ud_log.proofs.Codec.{number-spelled, length-entry, step, stop, entries_all, size_is}
use Rattle.ud_log.proofs.Heading.{length-lengths}
use Rattle.ud_log.proofs.Scanning.{field, bytes_take, bytes_drop, entry_spelled}

-- ---- numbers

number_low : (width : ℕ) (bs : List ℕ) → IsBytes bs → length bs ≡ width → number bs < 256 ^ width
number_low zero [] are long = omega arith
number_low zero (b ∷ bs) are long = absurd (omega (arith, long))
number_low (suc width) [] are long = absurd (omega (arith, long))
number_low (suc width) (b ∷ bs) are long =
    let low : b < 256 = are 0 in
    let rest : number bs < 256 ^ width = number_low width bs (λ k. are (suc k)) (omega (arith, long)) in
    omega (arith, low, rest)

low_at : (n k : ℕ) (bytes : List ℕ) → IsBytes bytes → k + n ≤ length bytes → number (take n (drop k bytes)) < 256 ^ n
low_at n k bytes are fits = number_low n (take n (drop k bytes)) (bytes_take n (drop k bytes) (bytes_drop k bytes are)) (length-take-le n (drop k bytes) (omega (arith, length-drop k bytes, fits)))

-- ---- lengths

numbers_again : (ns rest : List ℕ) → FitEight ns → numbers_in (length ns) (numbers_bytes ns ++ rest) ≡ ns
numbers_again [] rest low = refl
numbers_again (n ∷ ns) rest low =
    let whole : number (spelled 8 n) ≡ n = number-spelled 8 n low.0 in
    let more : numbers_in (length ns) (numbers_bytes ns ++ rest) ≡ ns = numbers_again ns rest low.1 in
    λ i. whole i ∷ more i

length-numbers : (ns : List ℕ) → length (numbers_bytes ns) ≡ 8 * length ns
length-numbers [] = refl
length-numbers (n ∷ ns) = omega (arith, length-numbers ns)

numbers_spelled : (n : ℕ) (bytes : List ℕ) → IsBytes bytes → 8 * n ≤ length bytes → numbers_bytes (numbers_in n bytes) ++ drop (8 * n) bytes ≡ bytes
numbers_spelled zero bytes are fits = refl
numbers_spelled (suc n) bytes are fits =
    let here : spelled 8 (number (take 8 bytes)) ≡ take 8 bytes = field 8 (number (take 8 bytes)) (take 8 bytes) (bytes_take 8 bytes are) (length-take-le 8 bytes (omega (arith, fits))) refl in
    let more : numbers_bytes (numbers_in n (drop 8 bytes)) ++ drop (8 * n) (drop 8 bytes) ≡ drop 8 bytes = numbers_spelled n (drop 8 bytes) (bytes_drop 8 bytes are) (omega (arith, length-drop 8 bytes, fits)) in
    let last : drop (8 * suc n) bytes ≡ drop (8 * n) (drop 8 bytes) = ap (λ k. drop k bytes) (omega arith) ∙ sym (drop-drop (8 * n) 8 bytes) in
    append_assoc (spelled 8 (number (take 8 bytes))) (numbers_bytes (numbers_in n (drop 8 bytes))) (drop (8 * suc n) bytes)
    ∙ (λ i. here i ++ (numbers_bytes (numbers_in n (drop 8 bytes)) ++ last i))
    ∙ ap (λ (l : List ℕ). take 8 bytes ++ l) more
    ∙ take-append-drop 8 bytes

numbers_fit : (n : ℕ) (bytes : List ℕ) → IsBytes bytes → 8 * n ≤ length bytes → FitEight (numbers_in n bytes)
numbers_fit zero bytes are fits = tt
numbers_fit (suc n) bytes are fits = (low_at 8 0 bytes are (omega (arith, fits)), numbers_fit n (drop 8 bytes) (bytes_drop 8 bytes are) (omega (arith, length-drop 8 bytes, fits)))

-- ---- entries

abbrev size_in : List ℕ → ℕ
size_in bytes = number (take 4 (drop 12 bytes))

entry_fits : (size : ℕ) (bytes : List ℕ) → IsBytes bytes → size ≡ size_in bytes → 20 + size ≤ length bytes → Fits (entry_at size bytes)
entry_fits size bytes are is fits = record {
  file = low_at 4 0 bytes are (omega (arith, fits));
  at = low_at 8 4 bytes are (omega (arith, fits));
  size = omega (arith, length-take-le size (drop 16 bytes) (omega (arith, length-drop 16 bytes, fits)), is, low_at 4 12 bytes are (omega (arith, fits)));
  again = low_at 4 (16 + size) bytes are (omega (arith, fits));
}

whole_entry : (size : ℕ) (bytes : List ℕ) → IsBytes bytes → size ≡ size_in bytes → 20 + size ≤ length bytes → entry_bytes (entry_at size bytes) ≡ take (20 + size) bytes
whole_entry size bytes are is fits = entry_spelled bytes size (bytes_take 16 bytes are) (bytes_take 4 (drop (16 + size) bytes) (bytes_drop (16 + size) bytes are)) fits is

-- no entry stands in front exactly where the bytes are fewer than it wants
too_few : (bytes : List ℕ) → IsBytes bytes → HasNoEntry bytes → length bytes < 20 + size_in bytes
too_few bytes are none = elim (cases_lt (length bytes) (20 + size_in bytes)) [
  | inl less ↦ less
  | inr more ↦ absurd (none (entry_at (size_in bytes) bytes) (drop (20 + size_in bytes) bytes) (entry_fits (size_in bytes) bytes are refl more)
      (sym (take-append-drop (20 + size_in bytes) bytes) ∙ ap (λ (l : List ℕ). l ++ drop (20 + size_in bytes) bytes) (sym (whole_entry (size_in bytes) bytes are refl more))))
]

none_of : (bytes : List ℕ) → length bytes < 20 + size_in bytes → HasNoEntry bytes
none_of bytes less e more fits is =
    let s : size_in bytes ≡ length e.bytes = ap size_in is ∙ size_is e more fits in
    omega (arith, less, s, ap length is, length-append (entry_bytes e) more, length-entry e)

-- the entries that are read, with what is left
record Read (most : ℕ) (bytes : List ℕ) : Type 0 where
  pub fit : Each (entries_in most bytes)
  pub is : bytes ≡ entries_bytes (entries_in most bytes) ++ drop (length (entries_bytes (entries_in most bytes))) bytes
  pub none : length bytes ≤ most → HasNoEntry (drop (length (entries_bytes (entries_in most bytes))) bytes)

read_none : (most : ℕ) (bytes : List ℕ) → entries_in most bytes ≡ [] → (length bytes ≤ most → HasNoEntry bytes) → Read most bytes
read_none most bytes e none = record {
  fit = subst Each (sym e) tt;
  is = ap (λ (es : List Entry). entries_bytes es ++ drop (length (entries_bytes es)) bytes) (sym e);
  none = λ le. subst (λ (es : List Entry). HasNoEntry (drop (length (entries_bytes es)) bytes)) (sym e) (none le);
}

read_more : (most : ℕ) (bytes : List ℕ) → IsBytes bytes → 20 + size_in bytes ≤ length bytes → Read most (drop (20 + size_in bytes) bytes) → Read (suc most) bytes
read_more most bytes are fits r =
    let size : ℕ = size_in bytes in
    let e : Entry = entry_at size bytes in
    let rest : List ℕ = drop (20 + size) bytes in
    let es : List Entry = entries_in most rest in
    let all : entries_in (suc most) bytes ≡ e ∷ es = step most bytes size refl fits in
    let whole : entry_bytes e ≡ take (20 + size) bytes = whole_entry size bytes are refl fits in
    let long : length (entry_bytes e) ≡ 20 + size = ap length whole ∙ length-take-le (20 + size) bytes fits in
    let left : drop (length (entry_bytes e ++ entries_bytes es)) bytes ≡ drop (length (entries_bytes es)) rest = ap (λ k. drop k bytes) (omega (arith, length-append (entry_bytes e) (entries_bytes es), long)) ∙ sym (drop-drop (length (entries_bytes es)) (20 + size) bytes) in
    let is : bytes ≡ entries_bytes (e ∷ es) ++ drop (length (entries_bytes (e ∷ es))) bytes =
    sym (take-append-drop (20 + size) bytes) ∙ (λ i. sym whole i ++ r.is i) ∙ sym (append_assoc (entry_bytes e) (entries_bytes es) (drop (length (entries_bytes es)) rest)) ∙ ap (λ (l : List ℕ). (entry_bytes e ++ entries_bytes es) ++ l) (sym left) in
    record {
      fit = subst Each (sym all) (entry_fits size bytes are refl fits, r.fit);
      is = is ∙ ap (λ (xs : List Entry). entries_bytes xs ++ drop (length (entries_bytes xs)) bytes) (sym all);
      none = λ le. subst (λ (xs : List Entry). HasNoEntry (drop (length (entries_bytes xs)) bytes)) (sym all) (subst HasNoEntry (sym left) (r.none (omega (arith, length-drop (20 + size) bytes, le, fits))));
    }

read : (most : ℕ) (bytes : List ℕ) → IsBytes bytes → Read most bytes
read zero bytes are = read_none zero bytes refl (λ le. none_of bytes (omega (arith, le)))
read (suc most) bytes are = elim (cases_lt (length bytes) (20 + size_in bytes)) [
  | inl less ↦ read_none (suc most) bytes (stop (suc most) bytes less) (λ le. none_of bytes less)
  | inr more ↦ read_more most bytes are more (read most (drop (20 + size_in bytes) bytes) (bytes_drop (20 + size_in bytes) bytes are))
]

-- ---- the whole log

entries_long : (es : List Entry) → length es ≤ length (entries_bytes es)
entries_long [] = omega arith
entries_long (e ∷ es) = omega (arith, entries_long es, length-append (entry_bytes e) (entries_bytes es), length-entry e)

to_read : (log lens : List ℕ) (es : List Entry) (rest : List ℕ) → IsBytes log → Spells log lens es rest → ReadsAs log lens es rest
unfolding lengths
to_read log lens es rest are s =
    let numbers : List ℕ = numbers_bytes lens in
    let tail : List ℕ = entries_bytes es ++ rest in
    let n : length numbers ≡ 144 = omega (arith, length-numbers lens, s.eighteen) in
    let all : log ≡ (magic ++ numbers) ++ tail = s.is in
    let long : length log ≡ 152 + (length (entries_bytes es) + length rest) = omega (arith, ap length all, n, length-append numbers tail, length-append (entries_bytes es) rest) in
    let behind : drop 152 log ≡ tail = ap (λ (l : List ℕ). drop 152 l) all ∙ drop_at (magic ++ numbers) tail 152 (omega (arith, n)) in
    let left : drop (152 + length (entries_bytes es)) log ≡ rest = sym (drop-drop (length (entries_bytes es)) 152 log) ∙ ap (λ (l : List ℕ). drop (length (entries_bytes es)) l) behind ∙ drop_at (entries_bytes es) rest (length (entries_bytes es)) refl in
    let rest_are : IsBytes rest = subst IsBytes left (bytes_drop (152 + length (entries_bytes es)) log are) in
    let none : (most : ℕ) → entries_in most rest ≡ [] = (λ most. stop most rest (too_few rest rest_are s.no_entry)) in
    let most : length log ≡ length es + (length log - length es) = omega (arith, long, entries_long es) in
    record {
      long = omega (arith, long);
      marked = ap (λ (l : List ℕ). take 8 l) s.is;
      lens_are = ap (λ (l : List ℕ). numbers_in 18 (drop 8 l)) s.is ∙ ap (λ k. numbers_in k (numbers ++ tail)) (sym s.eighteen) ∙ numbers_again lens tail s.lens_fit;
      entries_are = ap (λ (l : List ℕ). entries_in (length log) l) behind ∙ ap (λ k. entries_in k tail) most ∙ entries_all (length log - length es) es rest s.fit ∙ ap (λ (l : List Entry). es ++ l) (none (length log - length es)) ∙ append-nil es;
      rest_is = left;
    }

to_spelled : (log lens : List ℕ) (es : List Entry) (rest : List ℕ) → IsBytes log → ReadsAs log lens es rest → Spells log lens es rest
unfolding lengths
to_spelled log lens es rest are r =
    let behind : List ℕ = drop 152 log in
    let found = read (length log) behind (bytes_drop 152 log are) in
    let left : drop (length (entries_bytes (entries log))) behind ≡ rest = ap (λ (xs : List Entry). drop (length (entries_bytes xs)) behind) r.entries_are ∙ drop-drop (length (entries_bytes es)) 152 log ∙ r.rest_is in
    let numbers : numbers_bytes (lengths log) ++ drop (8 * 18) (drop 8 log) ≡ drop 8 log = numbers_spelled 18 (drop 8 log) (bytes_drop 8 log are) (omega (arith, length-drop 8 log, r.long)) in
    let at : drop (8 * 18) (drop 8 log) ≡ behind = drop-drop (8 * 18) 8 log in
    let front : log ≡ magic ++ (numbers_bytes (lengths log) ++ behind) = sym (take-append-drop 8 log) ∙ (λ i. r.marked i ++ (sym numbers ∙ ap (λ (l : List ℕ). numbers_bytes (lengths log) ++ l) at) i) in
    record {
      eighteen = sym (ap length r.lens_are) ∙ length-lengths log;
      lens_fit = subst FitEight r.lens_are (numbers_fit 18 (drop 8 log) (bytes_drop 8 log are) (omega (arith, length-drop 8 log, r.long)));
      fit = subst Each r.entries_are found.fit;
      no_entry = subst HasNoEntry left (found.none (omega (arith, length-drop 152 log)));
      is = front ∙ (λ i. magic ++ (numbers_bytes (r.lens_are i) ++ found.is i)) ∙ (λ i. magic ++ (numbers_bytes lens ++ (entries_bytes (r.entries_are i) ++ left i)));
    }

pub grammar_is_exact : GrammarIsExact
grammar_is_exact log lens es rest are = (to_read log lens es rest are, to_spelled log lens es rest are)
