-- Options read one by one, beside options read from the front.
use Rattle.std.proofs.Common.{◌≡◌, ℕ, zero, suc, ◌≤◌, List, [], ◌∷◌, ◌++◌, length, take, drop, Bool, true, false, ◌&&◌, Option, Some, None, refl, sym, ap, ◌∙◌, ◌⊎◌, inl, inr, arith, append_assoc, append-nil, length-drop}
use Rattle.std.specs.Prelude.{is_some, if◌then◌else◌}
use Rattle.std.proofs.lemmas.Bool.{and_parts}
use Rattle.std.proofs.lemmas.List.Folds.{list_all-append}
use Rattle.std.specs.List.{list_all}
use Rattle.tk_words.specs.declared.options.Takes.{Takes}
use Rattle.tk_words.specs.Words.{Word, is_word, ◌>>=◌, only_if}
use Rattle.tk_words.specs.Options.{Opt, Choices, count, fit, arguments, taken_by, given, has, differs, are_apart, is_option, options_at, options_of}
use Rattle.tk_words.specs.Seen.{option_front}

abbrev Read : Type 0
Read = Option (Choices × List Word)

-- with what was read before
abbrev pub behind : Choices → Read → Read
behind before read = read >>= λ r. Some (before ++ r.0, r.1)

abbrev checked : Read → Read
checked read = read >>= λ r. only_if (are_apart r.0) r

-- some options were read, and the rest gives what is behind them
pub record GoesOn (os : List Opt) (all : List Word) (before : Choices) (rest : List Word) : Type 0 where
  pub n : ℕ
  pub room : length rest ≤ n
  pub is : options_at (length all) os all ≡ behind before (options_at n os rest)
  pub apart : are_apart before ≡ true

-- ---- what is made and what is refused

only_if_says : {A : Type 0} (holds : Bool) (x y : A) → only_if holds x ≡ Some y → (holds ≡ true) × (x ≡ y)
only_if_says true x y e = (refl, cc)
only_if_says false x y e = absurd cc

only_if_refuses : {A : Type 0} (holds : Bool) (x : A) → only_if holds x ≡ None → holds ≡ false
only_if_refuses true x e = absurd cc
only_if_refuses false x e = refl

option_says : (ws : List Word) (w : Word) (b : List Word) → option_front ws ≡ Some (w, b) → (ws ≡ w ∷ b) × (is_option w ≡ true)
option_says [] w b e = absurd cc
option_says (v ∷ vs) w b e =
    let s : (is_option v ≡ true) × ((v, vs) ≡ (w, b)) = only_if_says (is_option v) (v, vs) (w, b) e in
    let same : v ≡ w = ap (λ (p : Word × List Word). p.0) s.1 in
    let rest : vs ≡ b = ap (λ (p : Word × List Word). p.1) s.1 in
    (cc, sym (ap is_option same) ∙ s.0)

shorter : (takes : Takes) (b : List Word) (a : List Word × List Word) → arguments takes b ≡ Some a → length a.1 ≤ length b
shorter takes b a e =
    let s : (fit takes (take (count takes) b) ≡ true) × ((take (count takes) b, drop (count takes) b) ≡ a) = only_if_says _ _ _ e in
    let rest : drop (count takes) b ≡ a.1 = ap (λ (p : List Word × List Word). p.1) s.1 in
    omega (arith, sym (ap (λ (l : List Word). length l) rest) ∙ length-drop (count takes) b)

-- ---- options read one behind the other

behind_nil : (r : Read) → behind [] r ≡ r
behind_nil None = refl
behind_nil (Some r) = refl

behind_behind : (a b : Choices) (r : Read) → behind a (behind b r) ≡ behind (a ++ b) r
behind_behind a b None = refl
behind_behind a b (Some r) = ap (λ (c : Choices). Some (c, r.1)) (sym (append_assoc a b r.0))

read_unknown : (n : ℕ) (os : List Opt) (w : Word) (b : List Word) → suc (length b) ≤ n → is_option w ≡ true → taken_by os w ≡ None → options_at n os (w ∷ b) ≡ None
read_unknown zero os w b room is unknown = absurd (omega arith)
read_unknown (suc n) os w b room is unknown = rw (is, unknown) refl

read_unfit : (n : ℕ) (os : List Opt) (w : Word) (b : List Word) (takes : Takes) → suc (length b) ≤ n → is_option w ≡ true → taken_by os w ≡ Some takes → arguments takes b ≡ None → options_at n os (w ∷ b) ≡ None
read_unfit zero os w b takes room is known unfit = absurd (omega arith)
read_unfit (suc n) os w b takes room is known unfit = rw (is, known, unfit) refl

pub record Next (n : ℕ) (os : List Opt) (ws : List Word) (w : Word) (a : List Word × List Word) : Type 0 where
  pub m : ℕ
  pub room : length a.1 ≤ m
  pub is : options_at n os ws ≡ behind ((w, a.0) ∷ []) (options_at m os a.1)

read_next : (n : ℕ) (os : List Opt) (w : Word) (b : List Word) (takes : Takes) (a : List Word × List Word) → suc (length b) ≤ n → is_option w ≡ true → taken_by os w ≡ Some takes → arguments takes b ≡ Some a → Next n os (w ∷ b) w a
read_next zero os w b takes a room is known fits = absurd (omega arith)
read_next (suc n) os w b takes a room is known fits =
    let less : length a.1 ≤ length b = shorter takes b a fits in
    record { m = n; room = omega arith; is = rw (is, known, fits) refl }

read_end : (n : ℕ) (os : List Opt) (ws : List Word) → length ws ≤ n → option_front ws ≡ None → options_at n os ws ≡ Some ([], ws)
read_end zero os [] room none = refl
read_end (suc n) os [] room none = refl
read_end zero os (w ∷ ws) room none = absurd (omega arith)
read_end (suc n) os (w ∷ ws) room none =
    let is : is_option w ≡ false = only_if_refuses (is_option w) (w, ws) none in
    rw is refl

-- ---- no option twice

not_given : (b : Bool) (x : List Word) (y : Option (List Word)) → is_some (if b then Some x else y) ≡ false → (b ≡ false) × (is_some y ≡ false)
not_given true x y e = absurd cc
not_given false x y e = (refl, e)

given_parts : (b : Bool) (x : List Word) (y : Option (List Word)) → is_some (if b then Some x else y) ≡ true → (b ≡ true) ⊎ (is_some y ≡ true)
given_parts true x y e = inl refl
given_parts false x y e = inr e

and_no : (b : Bool) → (b && false) ≡ false
and_no true = refl
and_no false = refl

apart_more : (before : Choices) (w : Word) (a : List Word) → are_apart before ≡ true → has before w ≡ false → are_apart (before ++ (w, a) ∷ []) ≡ true
apart_more [] w a apart new = refl
apart_more (c ∷ cs) w a apart new =
    let parts : (is_word c.0 w ≡ false) × (has cs w ≡ false) = not_given (is_word c.0 w) c.1 (given cs w) new in
    let both : (list_all (differs c) cs ≡ true) × (are_apart cs ≡ true) = and_parts (list_all (differs c) cs) (are_apart cs) apart in
    rw (list_all-append (differs c) cs ((w, a) ∷ []), both.0, parts.0, apart_more cs w a both.1 parts.1) refl

twice : (before : Choices) (w : Word) (a : List Word) (rest : Choices) → has before w ≡ true → are_apart ((before ++ (w, a) ∷ []) ++ rest) ≡ false
twice [] w a rest old = absurd cc
twice (c ∷ cs) w a rest old =
    elim (given_parts (is_word c.0 w) c.1 (given cs w) old) [
      | inl same ↦ rw (append_assoc cs ((w, a) ∷ []) rest, list_all-append (differs c) cs ((w, a) ∷ rest), same, and_no (list_all (differs c) cs)) refl
      | inr again ↦ rw (twice cs w a rest again) (and_no (list_all (differs c) ((cs ++ (w, a) ∷ []) ++ rest)))
    ]

checked_twice : (before : Choices) (w : Word) (a : List Word) (r : Read) → has before w ≡ true → checked (behind (before ++ (w, a) ∷ []) r) ≡ None
checked_twice before w a None old = refl
checked_twice before w a (Some r) old = rw (twice before w a r.0 old) refl

-- ---- the steps of the loop

pub goes_start : (os : List Opt) (all : List Word) → GoesOn os all [] all
goes_start os all = record { n = length all; room = omega arith; is = sym (behind_nil (options_at (length all) os all)); apart = refl }

pub goes_end : (os : List Opt) (all : List Word) (before : Choices) (ws : List Word) → GoesOn os all before ws → option_front ws ≡ None → options_of os all ≡ Some (before, ws)
unfolding options_of
goes_end os all before ws g none = rw (g.is, read_end g.n os ws g.room none, append-nil before, g.apart) refl

pub goes_unknown : (os : List Opt) (all : List Word) (before : Choices) (ws : List Word) (w : Word) (b : List Word) → GoesOn os all before ws → option_front ws ≡ Some (w, b) → taken_by os w ≡ None → options_of os all ≡ None
unfolding options_of
goes_unknown os all before ws w b g first unknown =
    let s : (ws ≡ w ∷ b) × (is_option w ≡ true) = option_says ws w b first in
    let room : suc (length b) ≤ g.n = omega (arith, g.room, ap (λ (l : List Word). length l) s.0) in
    rw (g.is, s.0, read_unknown g.n os w b room s.1 unknown) refl

pub goes_unfit : (os : List Opt) (all : List Word) (before : Choices) (ws : List Word) (w : Word) (b : List Word) (takes : Takes) → GoesOn os all before ws → option_front ws ≡ Some (w, b) → taken_by os w ≡ Some takes → arguments takes b ≡ None → options_of os all ≡ None
unfolding options_of
goes_unfit os all before ws w b takes g first known unfit =
    let s : (ws ≡ w ∷ b) × (is_option w ≡ true) = option_says ws w b first in
    let room : suc (length b) ≤ g.n = omega (arith, g.room, ap (λ (l : List Word). length l) s.0) in
    rw (g.is, s.0, read_unfit g.n os w b takes room s.1 known unfit) refl

next : (os : List Opt) (all : List Word) (before : Choices) (ws : List Word) (w : Word) (b : List Word) (takes : Takes) (a : List Word × List Word) → (g : GoesOn os all before ws) → option_front ws ≡ Some (w, b) → taken_by os w ≡ Some takes → arguments takes b ≡ Some a → Next g.n os ws w a
next os all before ws w b takes a g first known fits =
    let s : (ws ≡ w ∷ b) × (is_option w ≡ true) = option_says ws w b first in
    let room : suc (length b) ≤ g.n = omega (arith, g.room, ap (λ (l : List Word). length l) s.0) in
    rw s.0 (read_next g.n os w b takes a room s.1 known fits)

pub goes_twice : (os : List Opt) (all : List Word) (before : Choices) (ws : List Word) (w : Word) (b : List Word) (takes : Takes) (a : List Word × List Word) → GoesOn os all before ws → option_front ws ≡ Some (w, b) → taken_by os w ≡ Some takes → arguments takes b ≡ Some a → has before w ≡ true → options_of os all ≡ None
unfolding options_of
goes_twice os all before ws w b takes a g first known fits old =
    let n : Next g.n os ws w a = next os all before ws w b takes a g first known fits in
    rw (g.is, n.is, behind_behind before ((w, a.0) ∷ []) (options_at n.m os a.1)) (checked_twice before w a.0 (options_at n.m os a.1) old)

pub goes_step : (os : List Opt) (all : List Word) (before : Choices) (ws : List Word) (w : Word) (b : List Word) (takes : Takes) (a : List Word × List Word) → GoesOn os all before ws → option_front ws ≡ Some (w, b) → taken_by os w ≡ Some takes → arguments takes b ≡ Some a → has before w ≡ false → GoesOn os all (before ++ (w, a.0) ∷ []) a.1
goes_step os all before ws w b takes a g first known fits new =
    let n : Next g.n os ws w a = next os all before ws w b takes a g first known fits in
    record {
      n = n.m;
      room = n.room;
      is = rw (g.is, n.is) (behind_behind before ((w, a.0) ∷ []) (options_at n.m os a.1));
      apart = apart_more before w a.0 g.apart new;
    }
