-- How often texts stand among others.
use Rattle.std.proofs.Common.{◌≡◌, ◌∙◌, ℕ, suc, ◌+◌, ◌≤◌, Bool, true, false, cond, List, [], ◌∷◌, ◌++◌, length, refl, sym, ap, arith, ◌⊎◌, inl, inr, ⊎_elim}
use Rattle.std.specs.Cmp.Lexicographic.{same_text, nat_list_eq_equiv}
use Rattle.tc_base.specs.Texts.{is_text}
use Rattle.td_index.specs.Entries.{one, times, less_one}

pub text_is : (a b : List ℕ) → is_text a b ≡ true → a ≡ b
text_is a b e = same_text a b (sym e)

pub text_refl : (a : List ℕ) → is_text a a ≡ true
text_refl a = nat_list_eq_equiv.refl a

pub either : (b : Bool) → (b ≡ true) ⊎ (b ≡ false)
either true = inl refl
either false = inr refl

pub clash : {A : Type 0} → (b : Bool) → b ≡ true → b ≡ false → A
clash b e f = let g : true ≡ false = sym e ∙ f in absurd cc

pub one_true : (b : Bool) → b ≡ true → one b ≡ 1
one_true b e = ap one e

pub one_false : (b : Bool) → b ≡ false → one b ≡ 0
one_false b e = ap one e

pub one_most : (b : Bool) → one b ≤ 1
one_most true = omega arith
one_most false = omega arith

pub times_append : (x : List ℕ) (xs ys : List (List ℕ)) → times x (xs ++ ys) ≡ times x xs + times x ys
times_append x [] ys = omega arith
times_append x (y ∷ xs) ys = omega (arith, times_append x xs ys)

pub times_push : (x y : List ℕ) (ys : List (List ℕ)) → times x (ys ++ y ∷ []) ≡ times x (y ∷ ys)
times_push x y ys = omega (arith, times_append x ys (y ∷ []))

pub taken_out : (x z : List ℕ) (xs : List (List ℕ)) → 1 ≤ times x xs → times z xs ≡ one (is_text z x) + times z (less_one x xs)
taken_out x z [] some = absurd (omega (arith, some))
taken_out x z (y ∷ ys) some = elim (is_text x y) as (λ t. is_text x y ≡ t → 1 ≤ one t + times x ys → one (is_text z y) + times z ys ≡ one (is_text z x) + times z (cond t ys (y ∷ less_one x ys))) [
  | true ↦ λ e more. ap (λ (l : List ℕ). one (is_text z l) + times z ys) (sym (text_is x y e))
  | false ↦ λ e more. omega (arith, taken_out x z ys (omega (arith, more)))
] refl some

pub one_shorter : (x : List ℕ) (xs : List (List ℕ)) → 1 ≤ times x xs → length xs ≡ suc (length (less_one x xs))
one_shorter x [] some = absurd (omega (arith, some))
one_shorter x (y ∷ ys) some = elim (is_text x y) as (λ t. 1 ≤ one t + times x ys → suc (length ys) ≡ suc (length (cond t ys (y ∷ less_one x ys)))) [
  | true ↦ λ more. refl
  | false ↦ λ more. ap suc (one_shorter x ys (omega (arith, more)))
] some

nothing : (xs : List (List ℕ)) → length xs ≤ 0 → xs ≡ []
nothing [] e = refl
nothing (x ∷ xs) e = absurd (omega (arith, e))

-- what is there that each of others names, and is no more than those, is those: where none of them comes twice
pub all_there : (xs ys : List (List ℕ)) → ((z : List ℕ) → times z ys ≤ 1) → ((z : List ℕ) → 1 ≤ times z ys → 1 ≤ times z xs) → length xs ≤ length ys → (z : List ℕ) → times z xs ≡ times z ys
all_there xs [] once there few z = ap (times z) (nothing xs few)
all_there xs (y ∷ ys) once there few z =
    let here : 1 ≤ times y xs = there y (omega (arith, one_true (is_text y y) (text_refl y))) in
    let rest : times z (less_one y xs) ≡ times z ys = all_there (less_one y xs) ys
    (λ w. omega (arith, once w))
    (λ w named. ⊎_elim
    (λ (e : is_text w y ≡ true). absurd (omega (arith, once w, one_true (is_text w y) e, named)))
    (λ (e : is_text w y ≡ false). omega (arith, there w (omega (arith, named)), taken_out y w xs here, one_false (is_text w y) e)) (either (is_text w y)))
    (omega (arith, one_shorter y xs here, few)) z in
    omega (arith, taken_out y z xs here, rest)

-- lists that have each text as often as the other are as long
pub same_length : (xs ys : List (List ℕ)) → ((z : List ℕ) → times z xs ≡ times z ys) → length xs ≡ length ys
same_length [] [] same = refl
same_length (x ∷ xs) [] same = absurd (omega (arith, same x, one_true (is_text x x) (text_refl x)))
same_length xs (y ∷ ys) same =
    let here : 1 ≤ times y xs = omega (arith, same y, one_true (is_text y y) (text_refl y)) in
    one_shorter y xs here ∙ ap suc (same_length (less_one y xs) ys (λ z. omega (arith, taken_out y z xs here, same z)))
