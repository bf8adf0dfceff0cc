-- The log read entry by entry, from the front.
use Rattle.std.proofs.Common.{◌≡◌, ⊎_elim, ℕ, zero, suc, ◌+◌, ◌-◌, ◌*◌, ◌/◌, ◌%◌, ◌<◌, ◌≤◌, List, [], ◌∷◌, ◌++◌, length, take, drop, get_or, refl, sym, ◌∙◌, ap, subst, arith, append_assoc, length-append, length-take, length-drop, take-append-drop, true, false, Bool, ◌&&◌, nat_le, nat_lt, nat_eq, min}
use Rattle.std.proofs.lemmas.List.{places, append-nil, drop-drop, drop-take, take-take, get_or-take, get_or-drop, take_all}
use Rattle.std.proofs.lemmas.Bool.{cases_lt}
use Rattle.std.proofs.lemmas.Bool.Decides.{nat_tests}
use Rattle.std.proofs.Math.Seq.{take-add}
use Rattle.tc_base.specs.Bytes.{IsBytes}
use Rattle.ud_log.specs.Entries.{Entry}
use Rattle.ud_log.specs.Scan.{Scanned, ScannedAll}
use Rattle.ud_log.specs.Log.{spelled, number, magic, entry_bytes, entries_bytes, numbers_in, entry_at, entries_in, lengths, entries}
use Rattle.ud_log.specs.Undo.{length_of, agrees, all_short, is_formed, all_formed, all_inside, rule, nothing, undoes, broken, log_of}
use Rattle.ud_log.proofs.Codec.{step, stop, length-entry}

-- ---- bytes that are read are spelled again

pub spelled-number : (bs : List ℕ) → IsBytes bs → spelled (length bs) (number bs) ≡ bs
spelled-number [] fits = refl
spelled-number (b ∷ bs) fits =
    let low : b < 256 = fits 0 in
    let head : (b + 256 * number bs) % 256 ≡ b = omega (arith, low) in
    let tail : (b + 256 * number bs) / 256 ≡ number bs = omega (arith, low) in
    λ i. head i ∷ (ap (spelled (length bs)) tail ∙ spelled-number bs (λ k. fits (suc k))) i

pub field : (width n : ℕ) (bs : List ℕ) → IsBytes bs → length bs ≡ width → n ≡ number bs → spelled width n ≡ bs
field width n bs fits long is = (λ i. spelled (sym long i) (is i)) ∙ spelled-number bs fits

pub bytes_take : (n : ℕ) (l : List ℕ) → IsBytes l → IsBytes (take n l)
bytes_take n l fits k = ⊎_elim (λ low. subst (λ x. x < 256) (sym (get_or-take n l k 0 low)) (fits k)) (λ high. subst (λ x. x < 256) (sym (past n l k high)) (omega arith)) (cases_lt k n)
  where
    past : (m : ℕ) (xs : List ℕ) (j : ℕ) → m ≤ j → get_or (take m xs) j 0 ≡ 0
    past m xs j high = grind (arith, places)

pub bytes_drop : (n : ℕ) (l : List ℕ) → IsBytes l → IsBytes (drop n l)
bytes_drop n l fits k = subst (λ x. x < 256) (sym (get_or-drop n l k 0)) (fits (n + k))

five : (a b c d e l : List ℕ) (s : ℕ) → a ≡ take 4 l → b ≡ take 8 (drop 4 l) → c ≡ take 4 (drop 12 l) → d ≡ take s (drop 16 l) → e ≡ take 4 (drop (16 + s) l) → a ++ b ++ c ++ d ++ e ≡ take (20 + s) l
five a b c d e l s pa pb pc pd pe =
    (λ i. pa i ++ pb i ++ pc i ++ pd i ++ pe i)
    ∙ (λ i. sym (take-add 4 8 l) i ++ take 4 (drop 12 l) ++ take s (drop 16 l) ++ take 4 (drop (16 + s) l))
    ∙ (λ i. sym (take-add 12 4 l) i ++ take s (drop 16 l) ++ take 4 (drop (16 + s) l))
    ∙ (λ i. sym (take-add 16 s l) i ++ take 4 (drop (16 + s) l))
    ∙ sym (take-add (16 + s) 4 l)
    ∙ ap (λ n. take n l) same
  where
    same : 16 + s + 4 ≡ 20 + s
    same = omega arith

-- an entry whose numbers were read
pub entry_spelled : (l : List ℕ) (s : ℕ) → IsBytes (take 16 l) → IsBytes (take 4 (drop (16 + s) l)) → 20 + s ≤ length l → s ≡ number (take 4 (drop 12 l)) → entry_bytes (entry_at s l) ≡ take (20 + s) l
unfolding entry_bytes
entry_spelled l s front back fits is =
    let long : length (take s (drop 16 l)) ≡ s = length-take s (drop 16 l) ∙ omega (arith, length-drop 16 l, fits) in
    five (spelled 4 (number (take 4 l))) (spelled 8 (number (take 8 (drop 4 l)))) (spelled 4 (length (take s (drop 16 l)))) (take s (drop 16 l)) (spelled 4 (number (take 4 (drop (16 + s) l)))) l s
    (field 4 (number (take 4 l)) (take 4 l) (part 0 4 (omega arith)) (omega (arith, length-take 4 l, fits)) refl)
    (field 8 (number (take 8 (drop 4 l))) (take 8 (drop 4 l)) (part 4 8 (omega arith)) (omega (arith, length-take 8 (drop 4 l), length-drop 4 l, fits)) refl)
    (field 4 (length (take s (drop 16 l))) (take 4 (drop 12 l)) (part 12 4 (omega arith)) (omega (arith, length-take 4 (drop 12 l), length-drop 12 l, fits)) (long ∙ is))
    refl
    (field 4 (number (take 4 (drop (16 + s) l))) (take 4 (drop (16 + s) l)) back (omega (arith, length-take 4 (drop (16 + s) l), length-drop (16 + s) l, fits)) refl)
  where
    part : (k n : ℕ) → k + n ≤ 16 → IsBytes (take n (drop k l))
    part k n le = subst IsBytes (same k n le) (bytes_take n (drop k (take 16 l)) (bytes_drop k (take 16 l) front))
      where
        same : (k n : ℕ) → k + n ≤ 16 → take n (drop k (take 16 l)) ≡ take n (drop k l)
        same k n le =
            let split : 16 ≡ k + (16 - k) = omega (arith, le) in
            ap (λ j. take n (drop k (take j l))) split ∙ ap (λ (x : List ℕ). take n x) (drop-take k (16 - k) l) ∙ take-take n (16 - k) (drop k l) (omega (arith, le))

-- ---- the scan

pub scan_start : (log lens : List ℕ) → Scanned log lens 152 true
scan_start log lens = record { done = []; most = length log; spelled = refl; there = refl; parts = refl; formed = refl; inside = refl; enough = omega arith }

entries_join : (es : List Entry) (e : Entry) → entries_bytes (es ++ e ∷ []) ≡ entries_bytes es ++ entry_bytes e
entries_join [] e = append-nil (entry_bytes e)
entries_join (f ∷ es) e = ap (λ (l : List ℕ). entry_bytes f ++ l) (entries_join es e) ∙ sym (append_assoc (entry_bytes f) (entries_bytes es) (entry_bytes e))

formed_join : (es : List Entry) (e : Entry) → all_formed es ≡ true → all_formed (es ++ e ∷ []) ≡ is_formed e
formed_join [] e is = and_true_right (is_formed e)
  where
    and_true_right : (b : Bool) → (b && true) ≡ b
    and_true_right true = refl
    and_true_right false = refl
formed_join (f ∷ es) e is = first (is_formed f) (all_formed es) is ∙ formed_join es e (rest (is_formed f) (all_formed es) is)
  where
    first : (a b : Bool) → (a && b) ≡ true → (a && all_formed (es ++ e ∷ [])) ≡ all_formed (es ++ e ∷ [])
    first true b h = refl
    first false b h = absurd cc

    rest : (a b : Bool) → (a && b) ≡ true → b ≡ true
    rest true b h = h
    rest false b h = absurd cc

inside_join : (lens : List ℕ) (es : List Entry) (e : Entry) → all_inside lens (es ++ e ∷ []) ≡ (all_inside lens es && nat_le (e.at + length e.bytes) (length_of lens e.file))
inside_join lens [] e = and_true_right (nat_le (e.at + length e.bytes) (length_of lens e.file))
  where
    and_true_right : (b : Bool) → (b && true) ≡ b
    and_true_right true = refl
    and_true_right false = refl
inside_join lens (f ∷ es) e = ap (λ b. nat_le (f.at + length f.bytes) (length_of lens f.file) && b) (inside_join lens es e) ∙ regroup (nat_le (f.at + length f.bytes) (length_of lens f.file)) (all_inside lens es) (nat_le (e.at + length e.bytes) (length_of lens e.file))
  where
    regroup : (a b c : Bool) → (a && (b && c)) ≡ ((a && b) && c)
    regroup true b c = refl
    regroup false b c = refl

-- one more entry
module _ (log lens : List ℕ) (place size : ℕ) (fine : Bool) (sc : Scanned log lens place fine) (le : place ≤ length log) (is : size ≡ number (take 4 (drop 12 (drop place log)))) (fits : 20 + size ≤ length log - place) where
  abbrev rest : List ℕ
  rest = drop place log

  abbrev found : Entry
  found = entry_at size rest

  rest_long : length rest ≡ length log - place
  rest_long = length-drop place log

  found_bytes : length found.bytes ≡ size
  found_bytes = length-take size (drop 16 rest) ∙ omega (arith, length-drop 16 rest, rest_long, fits)

  some_most : (m : ℕ) → 20 ≤ m → m ≡ suc (m - 1)
  some_most m high = omega (arith, high)

  steps : entries_in sc.most rest ≡ found ∷ entries_in (sc.most - 1) (drop (20 + size) rest)
  steps = ap (λ m. entries_in m rest) (some_most sc.most (omega (arith, sc.enough, fits, le))) ∙ step (sc.most - 1) rest size (sym is) (omega (arith, rest_long, fits))

  all_parts : entries log ≡ (sc.done ++ found ∷ []) ++ entries_in (sc.most - 1) (drop (20 + size) rest)
  all_parts = sc.parts ∙ ap (λ (l : List Entry). sc.done ++ l) steps ∙ sym (append_assoc sc.done (found ∷ []) (entries_in (sc.most - 1) (drop (20 + size) rest)))

  pub scan_more : IsBytes (take 16 rest) → IsBytes (take 4 (drop (16 + size) rest)) → is_formed found ≡ true → Scanned log lens (place + 20 + size) (fine && nat_le (found.at + size) (length_of lens found.file))
  scan_more front back formed =
      let next : drop (20 + size) rest ≡ drop (place + 20 + size) log = drop-drop (20 + size) place log ∙ ap (λ k. drop k log) there in
      record {
        done = sc.done ++ found ∷ [];
        most = sc.most - 1;
        spelled =
            sc.spelled
            ∙ ap (λ (l : List ℕ). entries_bytes sc.done ++ l) (sym (take-append-drop (20 + size) rest) ∙ (λ i. sym (entry_spelled rest size front back (omega (arith, rest_long, fits)) is) i ++ next i))
            ∙ sym (append_assoc (entries_bytes sc.done) (entry_bytes found) (drop (place + 20 + size) log))
            ∙ ap (λ (l : List ℕ). l ++ drop (place + 20 + size) log) (sym (entries_join sc.done found));
        there = omega (arith, sc.there, ap length (entries_join sc.done found), length-append (entries_bytes sc.done) (entry_bytes found), length-entry found, found_bytes);
        parts = all_parts ∙ ap (λ (l : List ℕ). (sc.done ++ found ∷ []) ++ entries_in (sc.most - 1) l) next;
        formed = formed_join sc.done found sc.formed ∙ formed;
        inside = inside_join lens sc.done found ∙ (λ i. sc.inside i && nat_le (found.at + found_bytes i) (length_of lens found.file));
        enough = omega (arith, sc.enough, fits, le);
      }
    where
      there : place + (20 + size) ≡ place + 20 + size
      there = omega arith

  pub scan_broken : is_formed found ≡ false → all_formed (entries log) ≡ false
  scan_broken bad =
      ap all_formed all_parts ∙ front_bad (sc.done ++ found ∷ []) (entries_in (sc.most - 1) (drop (20 + size) rest)) (formed_join sc.done found sc.formed ∙ bad)
    where
      front_bad : (a b : List Entry) → all_formed a ≡ false → all_formed (a ++ b) ≡ false
      front_bad [] b h = absurd cc
      front_bad (f ∷ a) b h = cases (is_formed f) (all_formed a) (all_formed (a ++ b)) h (λ k. front_bad a b k)
        where
          cases : (x y z : Bool) → (x && y) ≡ false → (y ≡ false → z ≡ false) → (x && z) ≡ false
          cases true y z h more = more h
          cases false y z h more = refl

-- no whole entry stands there
pub scan_done : (log lens : List ℕ) (place : ℕ) (fine : Bool) → Scanned log lens place fine → length (drop place log) < 20 + number (take 4 (drop 12 (drop place log))) → ScannedAll log lens place fine
scan_done log lens place fine sc short =
    let none : entries log ≡ sc.done = sc.parts ∙ ap (λ (l : List Entry). sc.done ++ l) (stop sc.most (drop place log) short) ∙ append-nil sc.done in
    record {
      spelled = sc.spelled ∙ ap (λ (es : List Entry). entries_bytes es ++ drop place log) (sym none);
      there = sc.there ∙ ap (λ (es : List Entry). 152 + length (entries_bytes es)) (sym none);
      formed = ap all_formed none ∙ sc.formed;
      inside = ap (λ (es : List Entry). all_inside lens es) none ∙ sc.inside;
    }

-- ---- the rules, in their order

module _ (log : List ℕ) where
  pub broken_one : agrees magic log ≡ false → log_of log ≡ broken (rule 1)
  unfolding log_of
  broken_one is = rw is refl

  module _ (front : agrees magic log ≡ true) where
    pub says_nothing : length log < 152 → log_of log ≡ nothing
    unfolding log_of
    says_nothing low =
        let short : nat_lt (length log) 152 ≡ true = grind (arith, nat_tests) in
        rw (front, short) refl

    module _ (long : 152 ≤ length log) where
      not_short : nat_lt (length log) 152 ≡ false
      not_short = grind (arith, nat_tests)

      pub broken_two : all_short (lengths log) ≡ false → log_of log ≡ broken (rule 2)
      unfolding log_of
      broken_two is = rw (front, not_short, is) refl

      module _ (short : all_short (lengths log) ≡ true) where
        pub broken_three : all_formed (entries log) ≡ false → log_of log ≡ broken (rule 3)
        unfolding log_of
        broken_three is = rw (front, not_short, short, is) refl

        pub broken_four : all_formed (entries log) ≡ true → all_inside (lengths log) (entries log) ≡ false → log_of log ≡ broken (rule 4)
        unfolding log_of
        broken_four formed is = rw (front, not_short, short, formed, is) refl

        pub says_undo : all_formed (entries log) ≡ true → all_inside (lengths log) (entries log) ≡ true → log_of log ≡ undoes (lengths log) (entries log)
        unfolding log_of
        says_undo formed inside = rw (front, not_short, short, formed, inside) refl

-- the front of a log is enough for the magic word and the lengths
agrees_front : (ms bs : List ℕ) (n : ℕ) → length ms ≤ n → agrees ms (take n bs) ≡ agrees ms bs
agrees_front [] bs n le = refl
agrees_front (m ∷ ms) bs zero le = absurd (omega arith)
agrees_front (m ∷ ms) [] (suc n) le = refl
agrees_front (m ∷ ms) (b ∷ bs) (suc n) le = ap (λ t. nat_eq m b && t) (agrees_front ms bs n (omega (arith, le)))

pub magic_front : (log : List ℕ) (n : ℕ) → 8 ≤ n → agrees magic (take n log) ≡ agrees magic log
magic_front log n le = agrees_front magic log n (omega (arith, le))

numbers_front : (k : ℕ) (bs : List ℕ) (n : ℕ) → 8 * k ≤ n → numbers_in k (take n bs) ≡ numbers_in k bs
numbers_front zero bs n le = refl
numbers_front (suc k) bs n le =
    let split : n ≡ 8 + (n - 8) = omega (arith, le) in
    let rest : numbers_in k (drop 8 (take n bs)) ≡ numbers_in k (drop 8 bs) = ap (λ j. numbers_in k (drop 8 (take j bs))) split ∙ ap (numbers_in k) (drop-take 8 (n - 8) bs) ∙ numbers_front k (drop 8 bs) (n - 8) (omega (arith, le)) in
    λ i. number (take-take 8 n bs (omega (arith, le)) i) ∷ rest i

pub lengths_front : (log : List ℕ) (n : ℕ) → 152 ≤ n → lengths (take n log) ≡ lengths log
unfolding lengths
lengths_front log n le =
    let split : n ≡ 8 + (n - 8) = omega (arith, le) in
    ap (λ j. numbers_in 18 (drop 8 (take j log))) split ∙ ap (numbers_in 18) (drop-take 8 (n - 8) log) ∙ numbers_front 18 (drop 8 log) (n - 8) (omega (arith, le))

pub magic_read : (log : List ℕ) (n len : ℕ) → n ≡ min len 152 → len ≡ length log → agrees magic (take n log) ≡ agrees magic log
magic_read log n len is all = ⊎_elim
    (λ low. ap (agrees magic) (take_all n log (omega (arith, low, is, all))))
    (λ high. magic_front log n (omega (arith, high, is)))
    (cases_lt len 152)
