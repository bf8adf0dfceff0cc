-- The first word of a line, and those behind it.
use Rattle.std.proofs.Common.{◌≡◌, ℕ, suc, ◌+◌, ◌<◌, Bool, true, false, cond, not, List, [], ◌∷◌, length, take, drop, refl, sym, ap, ◌∙◌, arith, length-drop}
use Rattle.std.specs.Prelude.{Some, None}
use Rattle.std.specs.List.{prefix_len}
use Rattle.ty_memc.specs.Words.{is_space, is_letter, begins_word, longer, words, front}

one_more : (n : ℕ) → suc n ≡ 1 + n
one_more n = omega arith

words_spaces : (l : List ℕ) → words l ≡ words (drop (prefix_len is_space l) l)
unfolding words
words_spaces [] = refl
words_spaces (b ∷ l) = go (words_spaces l) (is_space b) refl
  where
    go : words l ≡ words (drop (prefix_len is_space l) l) → (t : Bool) → is_space b ≡ t → words (b ∷ l) ≡ words (drop (cond t (1 + prefix_len is_space l) 0) (b ∷ l))
    go h true e = ap (λ (x : Bool). cond x (words l) (cond (begins_word l) (longer b (words l)) ((b ∷ []) ∷ words l))) e ∙ h ∙ ap (λ (n : ℕ). words (drop n (b ∷ l))) (one_more (prefix_len is_space l))
    go h false e = refl

begins : (l : List ℕ) → (drop (prefix_len is_space l) l ≡ [] → ⊥) → begins_word (drop (prefix_len is_space l) l) ≡ true
begins [] some = absurd (some refl)
begins (b ∷ l) some = go (begins l) (is_space b) refl some
  where
    go : ((drop (prefix_len is_space l) l ≡ [] → ⊥) → begins_word (drop (prefix_len is_space l) l) ≡ true) → (t : Bool) → is_space b ≡ t → (drop (cond t (1 + prefix_len is_space l) 0) (b ∷ l) ≡ [] → ⊥) → begins_word (drop (cond t (1 + prefix_len is_space l) 0) (b ∷ l)) ≡ true
    go h true e some = ap (λ (n : ℕ). begins_word (drop n (b ∷ l))) (sym (one_more (prefix_len is_space l))) ∙ h (λ e. some (ap (λ (n : ℕ). drop n (b ∷ l)) (sym (one_more (prefix_len is_space l))) ∙ e))
    go h false e some = ap not e

none_first : (l : List ℕ) → begins_word l ≡ false → prefix_len is_letter l ≡ 0
none_first [] e = refl
none_first (b ∷ l) e = ap (λ (t : Bool). cond t (1 + prefix_len is_letter l) 0) e

some_first : (l : List ℕ) → begins_word l ≡ true → 0 < prefix_len is_letter l
some_first [] e = absurd cc
some_first (b ∷ l) e = go (is_letter b) e
  where
    go : (t : Bool) → t ≡ true → 0 < cond t (1 + prefix_len is_letter l) 0
    go true e = omega arith
    go false e = absurd cc

words_run : (l : List ℕ) → begins_word l ≡ true → words l ≡ take (prefix_len is_letter l) l ∷ words (drop (prefix_len is_letter l) l)
unfolding words
words_run [] e = absurd cc
words_run (b ∷ l) e = go (words_run l) (is_space b) e
  where
    rest : (begins_word l ≡ true → words l ≡ take (prefix_len is_letter l) l ∷ words (drop (prefix_len is_letter l) l)) → (t : Bool) → begins_word l ≡ t → cond t (longer b (words l)) ((b ∷ []) ∷ words l) ≡ (b ∷ take (prefix_len is_letter l) l) ∷ words (drop (prefix_len is_letter l) l)
    rest h true f = ap (longer b) (h f)
    rest h false f = ap (λ (n : ℕ). (b ∷ take n l) ∷ words (drop n l)) (sym (none_first l f))

    go : (begins_word l ≡ true → words l ≡ take (prefix_len is_letter l) l ∷ words (drop (prefix_len is_letter l) l)) → (t : Bool) → not t ≡ true → cond t (words l) (cond (begins_word l) (longer b (words l)) ((b ∷ []) ∷ words l)) ≡ take (cond (not t) (1 + prefix_len is_letter l) 0) (b ∷ l) ∷ words (drop (cond (not t) (1 + prefix_len is_letter l) 0) (b ∷ l))
    go h true e = absurd cc
    go h false e = rest h (begins_word l) refl ∙ ap (λ (n : ℕ). take n (b ∷ l) ∷ words (drop n (b ∷ l))) (one_more (prefix_len is_letter l))

-- ---- as a reader finds them

nil_of : (l : List ℕ) → length l ≡ 0 → l ≡ []
nil_of [] e = refl
nil_of (x ∷ l) e = absurd (omega (arith, e))

filled : (l : List ℕ) → 0 < length l → l ≡ [] → ⊥
filled l some e = omega (arith, some, ap length e)

pub word_none : (line l : List ℕ) → l ≡ drop (prefix_len is_space line) line → length l ≡ 0 → front (words line) ≡ None
unfolding words
word_none line l is none = ap front (words_spaces line ∙ ap words (sym is ∙ nil_of l none))

begins_there : (line l : List ℕ) → l ≡ drop (prefix_len is_space line) line → 0 < length l → begins_word l ≡ true
begins_there line l is some = ap begins_word is ∙ begins line (λ e. filled l some (is ∙ e))

pub word_some : (line l : List ℕ) (n : ℕ) → l ≡ drop (prefix_len is_space line) line → 0 < length l → n ≡ prefix_len is_letter l → front (words line) ≡ Some (take n l, words (drop n l))
word_some line l n is some letters =
    ap front (words_spaces line ∙ ap words (sym is) ∙ words_run l (begins_there line l is some)) ∙ ap (λ (m : ℕ). Some (take m l, words (drop m l))) (sym letters)

pub word_less : (line l : List ℕ) (n : ℕ) → l ≡ drop (prefix_len is_space line) line → 0 < length l → n ≡ prefix_len is_letter l → length (drop n l) < length line
word_less line l n is some letters =
    let s = some_first l (begins_there line l is some) in
    omega (arith, s, some, letters, length-drop n l, ap length is, length-drop (prefix_len is_space line) line)
