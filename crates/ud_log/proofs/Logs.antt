-- What the log's bytes stand for, whole or cut short.
use Rattle.std.proofs.Common.{◌≡◌, ◌⊎◌, inl, inr, ⊎_elim, ℕ, zero, suc, ◌+◌, ◌-◌, ◌*◌, ◌^◌, ◌<◌, ◌≤◌, List, [], ◌∷◌, ◌++◌, length, take, drop, get_or, refl, sym, ◌∙◌, ap, arith, append_assoc, length-append, length-take, true, false, nat_eq, nat_lt, nat_le, cond, ◌&&◌}
use Rattle.std.proofs.lemmas.List.{drop_at, take_all, append-nil}
use Rattle.std.proofs.lemmas.Bool.{cases_lt}
use Rattle.std.proofs.lemmas.Bool.Decides.{nat_tests}
use Rattle.ud_log.specs.Entries.{Entry}
use Rattle.tc_base.specs.Files.{Files}
use Rattle.ud_log.specs.Log.{spelled, number, entry_bytes, entries_bytes, entries_in, numbers_in, numbers_bytes, magic, lengths, entries}
use Rattle.ud_log.specs.Grammar.{Fits, Each}
use Rattle.ud_log.proofs.Codec.{number-spelled, length-entry, entries_all, entries_cut}
use Rattle.ud_log.specs.Good.{IsGood, AllGood, AllShort}
use Rattle.ud_log.specs.Undo.{is_data, lens_from, lens_of, place_of, length_of, agrees, all_short, all_formed, all_inside, rule, Log, nothing, undoes, broken, log_of, header, log_bytes}

pub data_below : (f : ℕ) → is_data f ≡ true → f ≤ 18
data_below f is = grind (arith, nat_tests)

pub fits_of : (kept : Files) (e : Entry) → AllShort kept → IsGood kept e → Fits e
fits_of kept e short good = record {
  file = omega (arith, data_below e.file good.is_data);
  at = omega (arith, good.inside, short e.file);
  size = omega (arith, good.few);
  again = omega (arith, good.few, good.same);
}

pub all_fit : (kept : Files) (es : List Entry) → AllShort kept → AllGood kept es → Each es
all_fit kept [] short good = tt
all_fit kept (e ∷ es) short good = (fits_of kept e short good.0, all_fit kept es short good.1)

-- lengths, and where they stand

each_from : (n f : ℕ) (kept : Files) → AllShort kept → (k : ℕ) → get_or (lens_from n f kept) k 0 < 256 ^ 8
each_from zero f kept short k = omega arith
each_from (suc n) f kept short zero = omega (arith, short f)
each_from (suc n) f kept short (suc k) = each_from n (f + 1) kept short k

short_all : (kept : Files) → AllShort kept → (k : ℕ) → get_or (lens_of kept) k 0 < 256 ^ 8
short_all kept short zero = omega (arith, short 0)
short_all kept short (suc k) = each_from 17 2 kept short k

numbers_all : (ns : List ℕ) (rest : List ℕ) → ((k : ℕ) → get_or ns k 0 < 256 ^ 8) → numbers_in (length ns) (numbers_bytes ns ++ rest) ≡ ns
numbers_all [] rest low = refl
numbers_all (n ∷ ns) rest low =
    let whole : number (spelled 8 n) ≡ n = number-spelled 8 n (low 0) in
    let more : numbers_in (length ns) (numbers_bytes ns ++ rest) ≡ ns = numbers_all ns rest (λ k. low (suc k)) in
    λ i. whole i ∷ more i

length-numbers : (ns : List ℕ) → length (numbers_bytes ns) ≡ 8 * length ns
length-numbers [] = refl
length-numbers (n ∷ ns) = omega (arith, length-numbers ns)

pub length-header : (kept : Files) → length (header kept) ≡ 152
unfolding header
length-header kept = ap (λ k. 8 + k) (length-numbers (lens_of kept))

from_at : (n f k : ℕ) (kept : Files) → k < n → get_or (lens_from n f kept) k 0 ≡ length (kept (f + k))
from_at zero f k kept low = absurd (omega arith)
from_at (suc n) f zero kept low = ap (λ (j : ℕ). length (kept j)) (omega arith)
from_at (suc n) f (suc k) kept low =
    let e : f + 1 + k ≡ f + suc k = omega arith in
    from_at n (f + 1) k kept (omega arith) ∙ ap (λ (j : ℕ). length (kept j)) e

data_low : (f : ℕ) → is_data (suc f) ≡ true → 1 ≤ f
data_low f is = grind (arith, nat_tests)

pub length_of_is : (kept : Files) (f : ℕ) → is_data f ≡ true → length_of (lens_of kept) f ≡ length (kept f)
length_of_is kept zero is = refl
length_of_is kept (suc zero) is = absurd (omega (arith, data_low zero is))
length_of_is kept (suc (suc k)) is =
    let e : 2 + k ≡ suc (suc k) = omega arith in
    from_at 17 2 k kept (omega (arith, data_below (suc (suc k)) is)) ∙ ap (λ (j : ℕ). length (kept j)) e

le_test : (a b : ℕ) → a ≤ b → nat_le a b ≡ true
le_test a b le = grind (arith, nat_tests)

same_test : (m : ℕ) → nat_eq m m ≡ true
same_test m = grind (arith, nat_tests)

eq_test : (a b : ℕ) → a ≡ b → nat_eq a b ≡ true
eq_test a b is = grind (arith, nat_tests)

pub formed_good : (kept : Files) (es : List Entry) → AllGood kept es → all_formed es ≡ true
formed_good kept [] good = refl
formed_good kept (e ∷ es) good =
    λ i. good.0.is_data i && le_test 1 (length e.bytes) good.0.some i && le_test (length e.bytes) 4096 good.0.few i && eq_test e.again (length e.bytes) good.0.same i && formed_good kept es good.1 i

pub inside_good : (kept : Files) (es : List Entry) → AllGood kept es → all_inside (lens_of kept) es ≡ true
inside_good kept [] good = refl
inside_good kept (e ∷ es) good =
    λ i. le_test (e.at + length e.bytes) (length_of (lens_of kept) e.file) (omega (arith, good.0.inside, length_of_is kept e.file good.0.is_data)) i && inside_good kept es good.1 i

short_from : (n f : ℕ) (kept : Files) → AllShort kept → all_short (lens_from n f kept) ≡ true
short_from zero f kept short = refl
short_from (suc n) f kept short = λ i. le_test (length (kept f)) (2 ^ 40) (short f) i && short_from n (f + 1) kept short i

pub short_lens : (kept : Files) → AllShort kept → all_short (lens_of kept) ≡ true
short_lens kept short = λ i. le_test (length (kept 0)) (2 ^ 40) (short 0) i && short_from 17 2 kept short i

agrees_front : (ms : List ℕ) (x : List ℕ) (k : ℕ) → agrees ms (take k (ms ++ x)) ≡ true
agrees_front [] x k = refl
agrees_front (m ∷ ms) x zero = refl
agrees_front (m ∷ ms) x (suc k) = λ i. same_test m i && agrees_front ms x k i

agrees_whole : (ms : List ℕ) (x : List ℕ) → agrees ms (ms ++ x) ≡ true
agrees_whole [] x = refl
agrees_whole (m ∷ ms) x = λ i. same_test m i && agrees_whole ms x i

-- a header that is cut short
pub log_cut : (kept : Files) (k : ℕ) → k < 152 → log_of (take k (header kept)) ≡ nothing
unfolding log_of header
log_cut kept k low =
    let bytes = take k (header kept) in
    let front : agrees magic bytes ≡ true = agrees_front magic (numbers_bytes (lens_of kept)) k in
    let short : nat_lt (length bytes) 152 ≡ true = grind (arith, nat_tests, length-take k (header kept)) in
    ap (λ b. cond b (cond (nat_lt (length bytes) 152) nothing (rest bytes)) (broken (rule 1))) front ∙ ap (λ b. cond b nothing (rest bytes)) short
  where
    rest : List ℕ → Log
    rest log = cond (all_short (lengths log)) (cond (all_formed (entries log)) (cond (all_inside (lengths log) (entries log)) (undoes (lengths log) (entries log)) (broken (rule 4))) (broken (rule 3))) (broken (rule 2))

entries_long : (es : List Entry) → length es ≤ length (entries_bytes es)
entries_long [] = omega arith
entries_long (e ∷ es) = omega (arith, entries_long es, length-append (entry_bytes e) (entries_bytes es), length-entry e)

front_of : (kept : Files) (tail : List ℕ) → agrees magic (header kept ++ tail) ≡ true
unfolding header
front_of kept tail = ap (λ (l : List ℕ). agrees magic l) (append_assoc magic (numbers_bytes (lens_of kept)) tail) ∙ agrees_whole magic (numbers_bytes (lens_of kept) ++ tail)

lens_read : (kept : Files) (tail : List ℕ) → AllShort kept → lengths (header kept ++ tail) ≡ lens_of kept
unfolding header lengths
lens_read kept tail short = numbers_all (lens_of kept) tail (short_all kept short)

-- the log with whole entries, and then what isn't one
pub log_whole : (kept : Files) (es : List Entry) (rest : List ℕ) → AllShort kept → AllGood kept es → ((most : ℕ) → entries_in most rest ≡ []) → log_of (log_bytes kept es ++ rest) ≡ undoes (lens_of kept) es
unfolding log_of
log_whole kept es rest short good none =
    let bytes = log_bytes kept es ++ rest in
    let tail = entries_bytes es ++ rest in
    let split : bytes ≡ header kept ++ tail = append_assoc (header kept) (entries_bytes es) rest in
    let long : length bytes ≡ 152 + (length (entries_bytes es) + length rest) = ap length split ∙ length-append (header kept) tail ∙ omega (arith, length-header kept, length-append (entries_bytes es) rest) in
    let front : agrees magic bytes ≡ true = ap (λ (l : List ℕ). agrees magic l) split ∙ front_of kept tail in
    let whole : nat_lt (length bytes) 152 ≡ false = grind (arith, nat_tests, long) in
    let lens : lengths bytes ≡ lens_of kept = ap lengths split ∙ lens_read kept tail short in
    let behind : drop 152 bytes ≡ tail = ap (λ (l : List ℕ). drop 152 l) split ∙ drop_at (header kept) tail 152 (length-header kept) in
    let most : length bytes ≡ length es + (length bytes - length es) = omega (arith, long, entries_long es) in
    let entries_are : entries bytes ≡ es =
    ap (λ (l : List ℕ). entries_in (length bytes) l) behind
    ∙ ap (λ k. entries_in k tail) most
    ∙ entries_all (length bytes - length es) es rest (all_fit kept es short good)
    ∙ ap (λ (l : List Entry). es ++ l) (none (length bytes - length es))
    ∙ append-nil es in
    let short_lengths : all_short (lengths bytes) ≡ true = ap all_short lens ∙ short_lens kept short in
    let formed : all_formed (entries bytes) ≡ true = ap all_formed entries_are ∙ formed_good kept es good in
    let inside : all_inside (lengths bytes) (entries bytes) ≡ true = (λ i. all_inside (lens i) (entries_are i)) ∙ inside_good kept es good in
    (λ i. cond (front i) (cond (whole i) nothing (cond (short_lengths i) (cond (formed i) (cond (inside i) (undoes (lens i) (entries_are i)) (broken (rule 4))) (broken (rule 3))) (broken (rule 2)))) (broken (rule 1)))

pub entries_more : (es : List Entry) (e : Entry) → entries_bytes (es ++ e ∷ []) ≡ entries_bytes es ++ entry_bytes e
entries_more [] e = append-nil (entry_bytes e)
entries_more (f ∷ es) e = ap (λ (l : List ℕ). entry_bytes f ++ l) (entries_more es e) ∙ sym (append_assoc (entry_bytes f) (entries_bytes es) (entry_bytes e))

pub good_more : (kept : Files) (es : List Entry) (e : Entry) → AllGood kept es → IsGood kept e → AllGood kept (es ++ e ∷ [])
good_more kept [] e good last = (last, tt)
good_more kept (f ∷ es) e good last = (good.0, good_more kept es e good.1 last)

no_entries : (most : ℕ) → entries_in most [] ≡ []
no_entries zero = refl
no_entries (suc most) = refl

pub log_done : (kept : Files) (es : List Entry) → AllShort kept → AllGood kept es → log_of (log_bytes kept es) ≡ undoes (lens_of kept) es
log_done kept es short good = ap log_of (sym (append-nil (log_bytes kept es))) ∙ log_whole kept es [] short good no_entries

-- an entry being appended stands whole or doesn't count
pub log_append : (kept : Files) (es : List Entry) (e : Entry) (k : ℕ) → AllShort kept → AllGood kept es → IsGood kept e
    → (log_of (log_bytes kept es ++ take k (entry_bytes e)) ≡ undoes (lens_of kept) es) ⊎ (log_of (log_bytes kept es ++ take k (entry_bytes e)) ≡ undoes (lens_of kept) (es ++ e ∷ []))
log_append kept es e k short good last =
    ⊎_elim (λ low. inl (log_whole kept es (take k (entry_bytes e)) short good (λ most. entries_cut most k e (fits_of kept e short last) low)))
    (λ high.
    let all : log_bytes kept es ++ take k (entry_bytes e) ≡ log_bytes kept (es ++ e ∷ []) =
    ap (λ (l : List ℕ). log_bytes kept es ++ l) (take_all k (entry_bytes e) high) ∙ append_assoc (header kept) (entries_bytes es) (entry_bytes e) ∙ ap (λ (l : List ℕ). header kept ++ l) (sym (entries_more es e)) in
    inr (ap log_of all ∙ log_done kept (es ++ e ∷ []) short (good_more kept es e good last)))
    (cases_lt k (length (entry_bytes e)))

lens_from_same : (a b : Files) (n f : ℕ) → ((g : ℕ) → f ≤ g → g < f + n → a g ≡ b g) → lens_from n f a ≡ lens_from n f b
lens_from_same a b zero f same = refl
lens_from_same a b (suc n) f same = λ i. length (same f (omega arith) (omega arith) i) ∷ lens_from_same a b n (f + 1) (λ g low high. same g (omega arith) (omega arith)) i

in_data : (g : ℕ) → 2 ≤ g → g < 19 → is_data g ≡ true
in_data g low high = grind (arith, nat_tests)

-- lengths are those of the data files alone
pub lens_data : (a b : Files) → ((f : ℕ) → is_data f ≡ true → a f ≡ b f) → lens_of a ≡ lens_of b
lens_data a b same = λ i. length (same 0 refl i) ∷ lens_from_same a b 17 2 (λ g low high. same g (in_data g low (omega (arith, high)))) i

pub header_data : (a b : Files) → ((f : ℕ) → is_data f ≡ true → a f ≡ b f) → header a ≡ header b
unfolding header
header_data a b same = ap (λ (l : List ℕ). magic ++ numbers_bytes l) (lens_data a b same)

place_apart : (f : ℕ) → is_data zero ≡ true → is_data (suc f) ≡ true → zero ≡ f → ⊥
place_apart f dz df is = absurd (omega (arith, data_low f df, is))

-- each place has one data file
pub place_one : (f g : ℕ) → is_data f ≡ true → is_data g ≡ true → place_of f ≡ place_of g → f ≡ g
place_one zero zero df dg is = refl
place_one zero (suc g) df dg is = absurd (place_apart g df dg is)
place_one (suc f) zero df dg is = absurd (place_apart f dg df (sym is))
place_one (suc f) (suc g) df dg is = ap suc is

pub place_low : (f : ℕ) → is_data f ≡ true → place_of f < 18
place_low zero isd = omega arith
place_low (suc f) isd = omega (arith, data_below (suc f) isd)
