-- A key that is read and hashed piece by piece.
use Rattle.std.proofs.Common.{◌≡◌, ◌∙◌, inl, inr, ℕ, zero, suc, ◌+◌, ◌-◌, ◌*◌, ◌%◌, ◌^◌, ◌<◌, ◌≤◌, min, List, [], ◌∷◌, ◌++◌, length, take, drop, replicate, get_or, refl, sym, ap, arith}
use Rattle.std.specs.Prelude.{bit_xor}
use Rattle.std.specs.List.{fold}
use Rattle.std.proofs.lemmas.List.{drop-drop, drop_more, length-take-le, take-take, take_all}
use Rattle.std.proofs.lemmas.Bool.{cases_lt}
use Rattle.std.proofs.lemmas.List.Sums.{fold-append, fold_more}
use Rattle.std.proofs.Math.Seq.{take-add}
use Rattle.tc_base.specs.Hashes.{back_hash, front_step}
use Rattle.tc_base.proofs.Hashing.{back-cons, back-nil}
use Rattle.tc_space.specs.Frames.{OnlyReads}
use Rattle.tc_space.specs.declared.space.Space.{Ghosts}
use Rattle.tc_reach.specs.declared.window.Window.{Window}
use Rattle.tc_reach.specs.Windows.{Shows}
use Rattle.hf_survey.specs.Facts.{front_of}
use Rattle.hf_survey.specs.Hashing.{back_from}
use Rattle.hf_survey.specs.Passes.{Looks, LooksAt}
use Rattle.hf_survey.proofs.Viewing.{looks_on}

-- ---- hashes

pub back_end : (h : ℕ) → back_from h [] ≡ h
unfolding back_from
back_end h = refl

back_on : (h b : ℕ) (key : List ℕ) → back_from h (b ∷ key) ≡ bit_xor (back_from h key * 31 % 2 ^ 32) b
unfolding back_from
back_on h b key = refl

pub back_all : (key : List ℕ) → back_from 751 key ≡ back_hash key
back_all [] = back_end 751 ∙ sym back-nil
back_all (b ∷ key) = back_on 751 b key ∙ (ap (λ (h : ℕ). bit_xor (h * 31 % 2 ^ 32) b) (back_all key) ∙ sym (back-cons b key))

back_apart : (h : ℕ) (xs ys : List ℕ) → back_from h (xs ++ ys) ≡ back_from (back_from h ys) xs
back_apart h [] ys = sym (back_end (back_from h ys))
back_apart h (x ∷ xs) ys = back_on h x (xs ++ ys) ∙ (ap (λ (k : ℕ). bit_xor (k * 31 % 2 ^ 32) x) (back_apart h xs ys) ∙ sym (back_on (back_from h ys) x xs))

-- one byte more of a piece
pub front_byte : (bytes : List ℕ) (first i h b : ℕ) → i < length bytes → h ≡ fold front_step first (take i bytes) → b ≡ get_or bytes i 0 → (h * 37 % 2 ^ 64 + b) % 2 ^ 64 ≡ fold front_step first (take (i + 1) bytes)
front_byte bytes first i h b less is byte = rw (fold_more front_step first bytes i 0 less, is, byte) (joined (fold front_step first (take i bytes) * 37) (get_or bytes i 0))
  where
    joined : (x y : ℕ) → (x % 2 ^ 64 + y) % 2 ^ 64 ≡ (x + y) % 2 ^ 64
    joined x y = omega arith

pub back_byte : (bytes : List ℕ) (last i h b : ℕ) → i < length bytes → h ≡ back_from last (drop (length bytes - i) bytes) → b ≡ get_or bytes (length bytes - 1 - i) 0 → bit_xor (h * 31 % 2 ^ 32) b ≡ back_from last (drop (length bytes - (i + 1)) bytes)
back_byte bytes last i h b less is byte =
    let j : ℕ = length bytes - 1 - i in
    let here : length bytes - (i + 1) ≡ j = omega arith in
    let next : j + 1 ≡ length bytes - i = omega arith in
    let d : drop j bytes ≡ get_or bytes j 0 ∷ drop (j + 1) bytes = drop_more bytes j 0 (omega arith) in
    rw (here, d, back_on, next, is, byte) refl

-- one piece more of a key that begins at a place
pub front_piece : (file : List ℕ) (first start done count at h : ℕ) (bytes : List ℕ) → h ≡ fold front_step first (take done (drop start file)) → at ≡ start + done → bytes ≡ take count (drop at file) → fold front_step h bytes ≡ fold front_step first (take (done + count) (drop start file))
front_piece file first start done count at h bytes is there read =
    let next : drop done (drop start file) ≡ drop at file = drop-drop done start file ∙ ap (λ (n : ℕ). drop n file) (sym there) in
    (λ i. fold front_step (is i) ((read ∙ ap (take count) (sym next)) i))
    ∙ sym (fold-append front_step first (take done (drop start file)) (take count (drop done (drop start file))))
    ∙ ap (fold front_step first) (sym (take-add done count (drop start file)))

pub back_piece : (file : List ℕ) (last start long left more count h at : ℕ) (bytes : List ℕ) → left + count ≡ more → more ≤ long → h ≡ back_from last (take (long - more) (drop (start + more) file)) → at ≡ start + left → bytes ≡ take count (drop at file) → back_from h bytes ≡ back_from last (take (long - left) (drop (start + left) file))
back_piece file last start long left more count h at bytes sum le is there read =
    let here : List ℕ = drop (start + left) file in
    let many : long - left ≡ count + (long - more) = omega (arith, sum, le) in
    let next : drop count here ≡ drop (start + more) file = drop-drop count (start + left) file ∙ ap (λ (n : ℕ). drop n file) (omega (arith, sum)) in
    (λ i. back_from ((is ∙ ap (λ l. back_from last (take (long - more) l)) (sym next)) i) ((read ∙ ap (λ n. take count (drop n file)) there) i))
    ∙ sym (back_apart last (take count here) (take (long - more) (drop count here)))
    ∙ ap (back_from last) (sym (take-add count (long - more) here) ∙ ap (λ n. take n here) (sym many))

-- ---- the first bytes

front_same : (key : List ℕ) (n : ℕ) → n ≡ min (length key) 16 → take 16 (take n key) ≡ take 16 key
front_same key n is = elim (cases_lt (length key) 16) [
  | inl short ↦ ap (take 16) (take_all n key (omega (arith, is, short)))
  | inr long ↦ take-take 16 n key (omega (arith, is, long))
]

-- those of as many bytes of a key as are asked for, or of all
pub front_taken : (key : List ℕ) (n : ℕ) → n ≡ min (length key) 16 → front_of (take n key) ≡ front_of key
front_taken key n is =
    let long : length (take n key) ≡ n = length-take-le n key (omega (arith, is)) in
    let few : 16 - length (take n key) ≡ 16 - length key = omega (arith, long, is) in
    λ i. front_same key n is i ++ replicate (few i) 0

-- ---- through a window

pub looks_at_on : {S : Type 0} (s : Ghosts S) (file start long : ℕ) (old new : S) (w v : Window) → LooksAt s old file start long w → OnlyReads s old new → Looks s new file v → LooksAt s new file start long v
looks_at_on s file start long old new w v at reads looks = record {
  looks = looks;
  inside = λ t. omega (arith, at.inside t, ap length (reads.files t file));
  small = λ t. omega (arith, at.small t, ap length (reads.files t file));
}
