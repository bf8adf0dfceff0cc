-- The tokens of a text, from its front.
use Rattle.std.proofs.Common.{◌≡◌, ◌∙◌, ℕ, ◌+◌, ◌<◌, ◌≤◌, Bool, true, false, cond, not, List, [], ◌∷◌, length, take, drop, get_or, refl, sym, ap, arith, ◌⊎◌, inl, inr, length-drop, length-take}
use Rattle.std.specs.Prelude.{filter}
use Rattle.std.specs.List.{slice_split, position_or_len}
use Rattle.std.proofs.lemmas.Bool.{cases_lt, le-leb}
use Rattle.std.proofs.lemmas.List.{drop_more, take_all, drop_all}
use Rattle.std.proofs.lemmas.List.Splits.{slice_split_first, slice_split_none, slice_split-cons_yes}
use Rattle.std.proofs.lemmas.List.Sums.{passes_at_first, fails_before_first, prefix_len-le-length}
use Rattle.tc_model.specs.Texts.{not_empty, tokens}
use Rattle.td_query.specs.Tokens.{is_blank}

-- a blank in front is no part of a token
pub blank_first : (b : ℕ) (text : List ℕ) → is_blank b ≡ true → tokens (b ∷ text) ≡ tokens text
blank_first b text e = ap (filter not_empty) (slice_split-cons_yes is_blank b text e)

kept : (x : List ℕ) (xs : List (List ℕ)) → 0 < length x → filter not_empty (x ∷ xs) ≡ x ∷ filter not_empty xs
kept x xs some = ap (λ b. cond b (x ∷ filter not_empty xs) (filter not_empty xs)) (le-leb 1 (length x) (omega (arith, some)))

-- the bytes up to a blank are the first token
token_first : (text : List ℕ) (n : ℕ) → n ≡ position_or_len is_blank text → 0 < n → tokens text ≡ take n text ∷ tokens (drop n text)
token_first text n is some = elim (cases_lt n (length text)) [
  | inl less ↦
      let within : position_or_len is_blank text < length text = omega (arith, is, less) in
      let passes : is_blank (get_or text n 0) ≡ true = ap (λ (m : ℕ). is_blank (get_or text m 0)) is ∙ passes_at_first is_blank text 0 within in
      let back : tokens (drop n text) ≡ tokens (drop (n + 1) text) = ap tokens (drop_more text n 0 less) ∙ blank_first (get_or text n 0) (drop (n + 1) text) passes in
      let parts : slice_split is_blank text ≡ take n text ∷ slice_split is_blank (drop (n + 1) text) = slice_split_first is_blank text 0 within ∙ ap (λ (m : ℕ). take m text ∷ slice_split is_blank (drop (m + 1) text)) (sym is) in
      ap (filter not_empty) parts ∙ kept (take n text) (slice_split is_blank (drop (n + 1) text)) (long text n less some) ∙ ap (λ (ts : List (List ℕ)). take n text ∷ ts) (sym back)
  | inr all ↦
      let parts : slice_split is_blank text ≡ text ∷ [] = slice_split_none is_blank text (λ k d h. fails_before_first is_blank text k d (omega (arith, is, all, h))) in
      ap (filter not_empty) parts ∙ kept text [] (omega (arith, is, all, some, prefix_len-le-length (λ b. not (is_blank b)) text)) ∙ ap (λ (x : List ℕ). x ∷ []) (sym (take_all n text all)) ∙ ap (λ (l : List ℕ). take n text ∷ tokens l) (sym (drop_all n text all))
]
  where
    long : (text : List ℕ) (n : ℕ) → n < length text → 0 < n → 0 < length (take n text)
    long text n less some = grind (arith, length-take)

-- cut there
pub first_cut : (text x y : List ℕ) (n : ℕ) → n ≡ position_or_len is_blank text → 0 < position_or_len is_blank text → x ≡ take n text → y ≡ drop n text → tokens text ≡ x ∷ tokens y
first_cut text x y n is some front back =
    token_first text n is (omega (arith, is, some)) ∙ ap (λ (l : List ℕ). l ∷ tokens (drop n text)) (sym front) ∙ ap (λ (l : List ℕ). x ∷ tokens l) (sym back)

pub first_short : (text y : List ℕ) (n : ℕ) → n ≡ position_or_len is_blank text → 0 < position_or_len is_blank text → y ≡ drop n text → length y < length text
first_short text y n is some back = omega (arith, is, some, ap length back, length-drop n text, prefix_len-le-length (λ b. not (is_blank b)) text)

-- where no blank stands, a token begins
pub begins : (text rest : List ℕ) (i : ℕ) → i < length text → is_blank (get_or text i 0) ≡ false → rest ≡ drop i text → 0 < position_or_len is_blank rest
begins text rest i less no_blank is =
    let more : position_or_len is_blank rest ≡ 1 + position_or_len is_blank (drop (i + 1) text) = ap (position_or_len is_blank) (is ∙ drop_more text i 0 less) ∙ ap (λ t. cond (not t) (1 + position_or_len is_blank (drop (i + 1) text)) 0) no_blank in
    omega (arith, more)
