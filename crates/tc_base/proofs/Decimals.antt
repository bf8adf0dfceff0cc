-- Digits, decimals and signs at the front of a text.
use Rattle.std.proofs.Common.{◌≡◌, ◌≢◌, ◌⊎◌, inl, inr, ℕ, ◌+◌, ◌-◌, ◌*◌, ◌^◌, ◌<◌, ◌≤◌, true, false, leb, eqb, min, List, [], ◌∷◌, ◌++◌, length, take, drop, get_or, replicate, refl, sym, ap, ◌∙◌, arith, add-one, length-append}
use Rattle.std.specs.List.{prefix_len}
use Rattle.std.proofs.Math.IntN.{pos, neg_ℤ, ◌-ℤ◌}
use Rattle.std.proofs.lemmas.Int.{ints}
use mir.Val.{to_z, of_z}
use mir.Syntax.{w128}
use Rattle.std.proofs.Math.Nat.{pow-suc}
use Rattle.std.proofs.lemmas.Bool.{and_parts, and_left, and_right, leb-true, le-leb, lt-leb, eq-eqb, ne_eqb}
use Rattle.std.proofs.lemmas.List.{take_all, take_rest, length-take-le, length-replicate, get_or-take, get_or_append_left, get_or-append_right, get_or-replicate, drop_all}
use Rattle.std.proofs.lemmas.List.Sums.{fold_more, prefix_len_is, prefix_len_passes, prefix_len-le-length}
use Rattle.tc_base.specs.Decimal.{is_digit, digits, behind_digits, decimal, fraction, nine, magnitude, signed, text_number}

pub digit_range : (b : ℕ) → is_digit b ≡ true → (48 ≤ b) × (b ≤ 57)
digit_range b h = let p = and_parts (leb 48 b) (leb b 57) h in (leb-true 48 b p.0, leb-true b 57 p.1)

pub is_digit-in : (b : ℕ) → 48 ≤ b → b ≤ 57 → is_digit b ≡ true
is_digit-in b h k = let e : leb 48 b ≡ true = le-leb 48 b h in let f : leb b 57 ≡ true = le-leb b 57 k in rw (e, f) refl

pub is_digit-below : (b : ℕ) → b < 48 → is_digit b ≡ false
is_digit-below b h = and_left (leb 48 b) (leb b 57) (lt-leb 48 b h)

pub is_digit-above : (b : ℕ) → 57 < b → is_digit b ≡ false
is_digit-above b h = and_right (leb 48 b) (leb b 57) (lt-leb b 57 h)

pub run_stops : (text : List ℕ) (n : ℕ) → n < length text → ((k : ℕ) → k < n → is_digit (get_or text k 0) ≡ true) → is_digit (get_or text n 0) ≡ false → n ≡ prefix_len is_digit text
run_stops text n within before here = sym (prefix_len_is is_digit text n 0 (omega arith) before (λ _. here))

pub run_ends : (text : List ℕ) (n : ℕ) → n ≡ length text → ((k : ℕ) → k < n → is_digit (get_or text k 0) ≡ true) → n ≡ prefix_len is_digit text
run_ends text n end before = sym (prefix_len_is is_digit text n 0 (omega arith) before (λ h. absurd (omega (arith, h))))

pub in_run : (text : List ℕ) (i : ℕ) → i < prefix_len is_digit text → (48 ≤ get_or text i 0) × (get_or text i 0 ≤ 57)
in_run text i h = digit_range (get_or text i 0) (prefix_len_passes is_digit text i 0 h)

pub decimal_more : (ds : List ℕ) (i : ℕ) → i < length ds → decimal (take (i + 1) ds) ≡ decimal (take i ds) * 10 + (get_or ds i 0 - 48)
unfolding decimal
decimal_more ds i h = fold_more (λ n d. n * 10 + (d - 48)) 0 ds i 0 h

pub decimal-nil : decimal [] ≡ 0
unfolding decimal
decimal-nil = refl

pub nine-nil : decimal (nine []) ≡ 0
unfolding decimal nine
nine-nil = refl

-- one digit more before the point
pub whole_more : (text : List ℕ) (run i w d : ℕ) → run ≡ prefix_len is_digit text → run ≤ length text → i < run → w ≡ min (10 ^ 18 - 1) (decimal (take i text)) → d ≡ get_or text i 0 - 48 → min (w * 10 + d) (10 ^ 18 - 1) ≡ min (10 ^ 18 - 1) (decimal (take (i + 1) text))
whole_more text run i w d is within less value byte =
    rw (decimal_more text i (omega arith)) (omega (arith, value, byte))

pub whole_all : (text : List ℕ) (run i w : ℕ) → run ≡ prefix_len is_digit text → i ≡ run → w ≡ min (10 ^ 18 - 1) (decimal (take i text)) → w ≡ min (10 ^ 18 - 1) (decimal (digits text))
unfolding digits
whole_all text run i w is end value = value ∙ ap (λ (m : ℕ). min (10 ^ 18 - 1) (decimal (take m text))) (end ∙ is)

length-nine : (ds : List ℕ) → length (nine ds) ≡ 9
unfolding nine
length-nine ds = length-take-le 9 (ds ++ replicate 9 48) (omega (arith, length-append ds (replicate 9 48), length-replicate {A = ℕ} 9 48))

-- a digit of the nine
pub nine_in : (rest : List ℕ) (run i : ℕ) → run ≡ prefix_len is_digit rest → run ≤ length rest → i < 9 → i < run → get_or (nine (digits rest)) i 0 ≡ get_or rest i 0
unfolding nine digits
nine_in rest run i is within few less =
    let long : length (take (prefix_len is_digit rest) rest) ≡ prefix_len is_digit rest = length-take-le (prefix_len is_digit rest) rest (prefix_len-le-length is_digit rest) in
    get_or-take 9 (take (prefix_len is_digit rest) rest ++ replicate 9 48) i 0 few
    ∙ get_or_append_left (take (prefix_len is_digit rest) rest) (replicate 9 48) 0 i (omega (arith, long))
    ∙ get_or-take (prefix_len is_digit rest) rest i 0 (omega arith)

pub nine_past : (rest : List ℕ) (run i : ℕ) → run ≡ prefix_len is_digit rest → run ≤ length rest → i < 9 → run ≤ i → get_or (nine (digits rest)) i 0 ≡ 48
unfolding nine digits
nine_past rest run i is within few past =
    let long : length (take (prefix_len is_digit rest) rest) ≡ prefix_len is_digit rest = length-take-le (prefix_len is_digit rest) rest (prefix_len-le-length is_digit rest) in
    get_or-take 9 (take (prefix_len is_digit rest) rest ++ replicate 9 48) i 0 few
    ∙ get_or-append_right (take (prefix_len is_digit rest) rest) (replicate 9 48) (prefix_len is_digit rest) i 0 long (omega arith)
    ∙ get_or-replicate 9 (i - prefix_len is_digit rest) 48 0 (omega arith)

pub nine_more : (rest : List ℕ) (i v d : ℕ) → i < 9 → v ≡ decimal (take i (nine (digits rest))) → d ≡ get_or (nine (digits rest)) i 0 - 48 → v * 10 + d ≡ decimal (take (i + 1) (nine (digits rest)))
nine_more rest i v d few value byte = rw (decimal_more (nine (digits rest)) i (omega (arith, length-nine (digits rest))), value, byte) refl

pub nine_all : (rest : List ℕ) (i v : ℕ) → 9 ≤ i → v ≡ decimal (take i (nine (digits rest))) → v ≡ decimal (nine (digits rest))
nine_all rest i v end value = value ∙ ap decimal (take_all i (nine (digits rest)) (omega (arith, length-nine (digits rest))))

pub ten_more : (v i d : ℕ) → v < 10 ^ i → d ≤ 9 → v * 10 + d < 10 ^ (i + 1)
ten_more v i d h k = rw add-one (omega (arith, pow-suc 10 i))

pub fraction_none : (text : List ℕ) → (length text ≡ 0) ⊎ (get_or text 0 0 ≢ 46) → fraction text ≡ []
fraction_none [] h = refl
fraction_none (b ∷ rest) (inl h) = absurd (omega (arith, h))
fraction_none (b ∷ rest) (inr ne) = let e : eqb b 46 ≡ false = ne_eqb b 46 ne in rw e refl

pub fraction_some : (text : List ℕ) → 0 < length text → get_or text 0 0 ≡ 46 → fraction text ≡ digits (drop 1 text)
fraction_some [] h is = absurd (omega (arith, h))
fraction_some (b ∷ rest) h is = let e : eqb b 46 ≡ true = eq-eqb b 46 is in rw e refl

pub behind_is : (text : List ℕ) (run : ℕ) → run ≡ prefix_len is_digit text → take (length text - run) (drop run text) ≡ behind_digits text
unfolding behind_digits
behind_is text run is = take_rest text run ∙ ap (λ (n : ℕ). drop n text) is

pub signed_none : (body : List ℕ) → length body ≡ 0 → signed body ≡ pos 0
unfolding decimal nine digits behind_digits
signed_none [] h = refl
signed_none (b ∷ rest) h = absurd (omega (arith, h))

pub signed_minus : (body : List ℕ) → 0 < length body → get_or body 0 0 ≡ 45 → signed body ≡ neg_ℤ (pos (magnitude (drop 1 body)))
signed_minus [] h is = absurd (omega (arith, h))
signed_minus (b ∷ rest) h is = let e : eqb b 45 ≡ true = eq-eqb b 45 is in rw e refl

pub signed_plus : (body : List ℕ) → 0 < length body → get_or body 0 0 ≡ 43 → signed body ≡ pos (magnitude (drop 1 body))
signed_plus [] h is = absurd (omega (arith, h))
signed_plus (b ∷ rest) h is = let e : eqb b 45 ≡ false = ne_eqb b 45 (omega arith) in let f : eqb b 43 ≡ true = eq-eqb b 43 is in rw (e, f) refl

pub signed_plain : (body : List ℕ) → 0 < length body → get_or body 0 0 ≢ 45 → get_or body 0 0 ≢ 43 → signed body ≡ pos (magnitude body)
signed_plain [] h m p = absurd (omega (arith, h))
signed_plain (b ∷ rest) h m p = let e : eqb b 45 ≡ false = ne_eqb b 45 m in let f : eqb b 43 ≡ false = ne_eqb b 43 p in rw (e, f) refl

pub text_is : (text body : List ℕ) → body ≡ drop (prefix_len (λ b. leb b 32) text) text → text_number text ≡ signed body
unfolding text_number
text_is text body is = ap signed (sym is)

pub blanks_stop : (text : List ℕ) (i : ℕ) → i < length text → ((k : ℕ) → k < i → leb (get_or text k 0) 32 ≡ true) → 32 < get_or text i 0 → take (length text - i) (drop i text) ≡ drop (prefix_len (λ b. leb b 32) text) text
blanks_stop text i within before here = take_rest text i ∙ ap (λ (n : ℕ). drop n text) (sym (prefix_len_is (λ b. leb b 32) text i 0 (omega arith) before (λ _. lt-leb (get_or text i 0) 32 here)))

pub blanks_end : (text : List ℕ) (i : ℕ) → length text ≤ i → i ≤ length text → ((k : ℕ) → k < i → leb (get_or text k 0) 32 ≡ true) → [] ≡ drop (prefix_len (λ b. leb b 32) text) text
blanks_end text i h k before = sym (ap (λ (n : ℕ). drop n text) (prefix_len_is (λ b. leb b 32) text i 0 k before (λ l. absurd (omega (arith, l)))) ∙ drop_all i text h)

-- ---- the sign in 128 bits

pub as_positive : (n k : ℕ) → n < 10 ^ 27 → n ≡ k → to_z w128 n ≡ pos k
as_positive n k h e = omega (arith, ints, e)

pub as_negative : (n k : ℕ) → n < 10 ^ 27 → n ≡ k → to_z w128 (of_z w128 (pos 0 -ℤ to_z w128 n)) ≡ neg_ℤ (pos k)
as_negative n k h e = omega (arith, ints, e)
