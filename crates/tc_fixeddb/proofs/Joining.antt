-- Lists of at most so many, joined; and what is left of a list by two tests.
use Rattle.std.proofs.Common.{rules, ◌≡◌, ◌∙◌, ℕ, zero, suc, ◌-◌, ◌≤◌, ◌<◌, Bool, true, false, cond, ◌||◌, List, [], ◌∷◌, ◌++◌, map, filter, length, take, refl, sym, ap, subst, arith}
use Rattle.std.specs.Prelude.{Option, Some, None, option_map, nat_le, nat_lt}
use Rattle.std.specs.Ordering.{nat_cmp, eq_by_cmp, is_eq}
use Rattle.std.specs.Cmp.{nat_cmp_is}
use Rattle.std.specs.declared.cmp.Ordering.TheVariants.{Equal}
use Rattle.std.specs.List.{list_any}
use Rattle.tc_engine.specs.Changes as changes
use Rattle.tc_space.specs.declared.space.Space.{Ghosts}
use Rattle.tc_model.specs.Arrays.{Array}
use Rattle.tc_fixed.specs.declared.fixed.Fixed.{Fixed}
use Rattle.tc_fixed.specs.Listing.{first_of}
use Rattle.tc_fixeddb.specs.Changing.{ListsOn, OfIds}

take_more : (n : ℕ) (xs ys : List ℕ) → take n xs ++ take (n - length (take n xs)) ys ≡ take n (xs ++ ys)
take_more zero xs ys = refl
take_more (suc n) [] ys = let all : suc n - 0 ≡ suc n = omega arith in ap (λ k. take k ys) all
take_more (suc n) (x ∷ xs) ys = let less : suc n - suc (length (take n xs)) ≡ n - length (take n xs) = omega arith in ap (λ k. x ∷ (take n xs ++ take k ys)) less ∙ ap (λ l. x ∷ l) (take_more n xs ys)

pub first_joined : (most : Option ℕ) (xs ys old new : List ℕ) → old ≡ first_of most xs → new ≡ old ++ first_of (option_map (λ n. n - length old) most) ys → new ≡ first_of most (xs ++ ys)
first_joined None xs ys old new is more = more ∙ ap (λ l. l ++ ys) is
first_joined (Some n) xs ys old new is more = more ∙ (λ i. is i ++ take (n - length (is i)) ys) ∙ take_more n xs ys

-- of whatever ids are held
pub lists_on : {S : Type 0} (s : Ghosts S) (most rest : Option ℕ) (f : Array → List ℕ) (v : Fixed S) (a : S) (old new : List ℕ) → rest ≡ option_map (λ n. n - length old) most → OfIds s v a (λ m. new ≡ old ++ first_of rest (f m)) → ListsOn s most f v a old new
lists_on s most rest f v a old new is listed m means before was = first_joined most before (f m) old new was (subst (λ (r : Option ℕ). new ≡ old ++ first_of r (f m)) is (listed m means))

pub first_none : (most : Option ℕ) → [] ≡ first_of {A = ℕ} most []
first_none None = refl
first_none (Some zero) = refl
first_none (Some (suc n)) = refl

pub kept_all : (p q : ℕ → Bool) (xs : List ℕ) → ((x : ℕ) → p x ≡ true → q x ≡ true) → filter q (filter p xs) ≡ filter p xs
kept_all p q [] each = refl
kept_all p q (x ∷ xs) each = go (kept_all p q xs each) (p x) refl
  where
    go : filter q (filter p xs) ≡ filter p xs → (b : Bool) → p x ≡ b → filter q (cond b (x ∷ filter p xs) (filter p xs)) ≡ cond b (x ∷ filter p xs) (filter p xs)
    go rest true is = ap (λ b. cond b (x ∷ filter q (filter p xs)) (filter q (filter p xs))) (each x is) ∙ ap (λ l. x ∷ l) rest
    go rest false is = rest

pub kept_none : (p q : ℕ → Bool) (xs : List ℕ) → ((x : ℕ) → p x ≡ true → q x ≡ false) → filter q (filter p xs) ≡ []
kept_none p q [] each = refl
kept_none p q (x ∷ xs) each = go (kept_none p q xs each) (p x) refl
  where
    go : filter q (filter p xs) ≡ [] → (b : Bool) → p x ≡ b → filter q (cond b (x ∷ filter p xs) (filter p xs)) ≡ []
    go rest true is = ap (λ b. cond b (x ∷ filter q (filter p xs)) (filter q (filter p xs))) (each x is) ∙ rest
    go rest false is = rest

behind_or : (b : Bool) → b || true ≡ true
behind_or true = refl
behind_or false = refl

pub le_is : (m n : ℕ) → m ≤ n → nat_le m n ≡ true
le_is m n le = search (rules, le)

pub lt_is : (m n : ℕ) → m < n → nat_lt m n ≡ true
lt_is m n lt = search (rules, lt)

-- a test that each of a list passes
pub all_pass : (p : ℕ → Bool) (xs : List ℕ) → ((q : ℕ) → list_any (eq_by_cmp nat_cmp q) xs ≡ true → p q ≡ true) → filter p xs ≡ xs
all_pass p [] each = refl
all_pass p (x ∷ xs) each =
    let here : eq_by_cmp nat_cmp x x ≡ true = ap is_eq (sym (nat_cmp_is x x Equal refl)) in
    let one : p x ≡ true = each x (ap (λ b. b || list_any (eq_by_cmp nat_cmp x) xs) here) in
    ap (λ b. cond b (x ∷ filter p xs) (filter p xs)) one ∙ ap (λ l. x ∷ l) (all_pass p xs (λ q any. each q (ap (λ b. eq_by_cmp nat_cmp q x || b) any ∙ behind_or (eq_by_cmp nat_cmp q x))))

-- one that none of a list passes
pub none_pass : (p : ℕ → Bool) (xs : List ℕ) → ((q : ℕ) → list_any (eq_by_cmp nat_cmp q) xs ≡ true → p q ≡ false) → filter p xs ≡ []
none_pass p [] each = refl
none_pass p (x ∷ xs) each =
    let here : eq_by_cmp nat_cmp x x ≡ true = ap is_eq (sym (nat_cmp_is x x Equal refl)) in
    let one : p x ≡ false = each x (ap (λ b. b || list_any (eq_by_cmp nat_cmp x) xs) here) in
    ap (λ b. cond b (x ∷ filter p xs) (filter p xs)) one ∙ none_pass p xs (λ q any. each q (ap (λ b. eq_by_cmp nat_cmp q x || b) any ∙ behind_or (eq_by_cmp nat_cmp q x)))

-- ---- as texts

map_take : (f : ℕ → List ℕ) (n : ℕ) (xs : List ℕ) → map f (take n xs) ≡ take n (map f xs)
map_take f zero xs = refl
map_take f (suc n) [] = refl
map_take f (suc n) (x ∷ xs) = ap (λ l. f x ∷ l) (map_take f n xs)

pub map_first : (f : ℕ → List ℕ) (most : Option ℕ) (xs : List ℕ) → map f (first_of most xs) ≡ changes.first_of most (map f xs)
map_first f None xs = refl
map_first f (Some n) xs = map_take f n xs

pub map_filter : (f : ℕ → List ℕ) (p : List ℕ → Bool) (xs : List ℕ) → map f (filter (λ x. p (f x)) xs) ≡ filter p (map f xs)
map_filter f p [] = refl
map_filter f p (x ∷ xs) = elim (p (f x)) as (λ b. map f (cond b (x ∷ filter (λ y. p (f y)) xs) (filter (λ y. p (f y)) xs)) ≡ cond b (f x ∷ filter p (map f xs)) (filter p (map f xs))) [
  | true ↦ ap (λ l. f x ∷ l) (map_filter f p xs)
  | false ↦ map_filter f p xs
]

pub no_texts : (most : Option ℕ) → [] ≡ changes.first_of {A = List ℕ} most []
no_texts None = refl
no_texts (Some zero) = refl
no_texts (Some (suc n)) = refl
