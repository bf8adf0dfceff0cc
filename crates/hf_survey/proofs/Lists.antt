-- Items of lists by place.
use Rattle.std.proofs.Common.{◌≡◌, ◌∙◌, ◌⊎◌, inl, inr, ℕ, zero, suc, ◌+◌, ◌<◌, List, [], ◌∷◌, ◌++◌, length, refl, sym, ap, arith, Option, Some, None, Result, Ok, Err, length-append}
use Rattle.std.specs.Prelude.{slice_get, map, IfOk, OnOk}

pub get_low : {A : Type 0} (xs : List A) (i : ℕ) (x : A) → slice_get xs i ≡ Some x → i < length xs
get_low [] i x h = absurd (let e : None ≡ Some x = h in cc)
get_low (y ∷ xs) zero x h = omega arith
get_low (y ∷ xs) (suc i) x h = let l = get_low xs i x h in omega (arith, l)

pub get_front : {A : Type 0} (xs : List A) (z : A) (i : ℕ) → i < length xs → slice_get (xs ++ z ∷ []) i ≡ slice_get xs i
get_front [] z i h = absurd (omega (arith, h))
get_front (y ∷ xs) z zero h = refl
get_front (y ∷ xs) z (suc i) h = get_front xs z i (omega (arith, h))

pub get_end : {A : Type 0} (xs : List A) (z : A) → slice_get (xs ++ z ∷ []) (length xs) ≡ Some z
get_end [] z = refl
get_end (y ∷ xs) z = get_end xs z

pub long : {A : Type 0} (xs : List A) (z : A) → length (xs ++ z ∷ []) ≡ length xs + 1
long xs z = length-append xs (z ∷ [])

-- an item of a list with one more
pub which : {A : Type 0} (xs : List A) (z : A) (i : ℕ) (x : A) → slice_get (xs ++ z ∷ []) i ≡ Some x → (slice_get xs i ≡ Some x) ⊎ ((i ≡ length xs) × (x ≡ z))
which [] z zero x h = inr (refl, let e : Some z ≡ Some x = h in let f : z ≡ x = cc in sym f)
which [] z (suc i) x h = absurd (let e : None ≡ Some x = h in cc)
which (y ∷ xs) z zero x h = inl h
which (y ∷ xs) z (suc i) x h = step (which xs z i x h)
  where
    step : (slice_get xs i ≡ Some x) ⊎ ((i ≡ length xs) × (x ≡ z)) → (slice_get (y ∷ xs) (suc i) ≡ Some x) ⊎ ((suc i ≡ length (y ∷ xs)) × (x ≡ z))
    step (inl e) = inl e
    step (inr e) = inr (ap suc e.0, e.1)

pub same_item : {A : Type 0} (o : Option A) (x y : A) → o ≡ Some x → o ≡ Some y → x ≡ y
same_item o x y h i = let e : Some x ≡ Some y = sym h ∙ i in cc

-- ---- mapped lists

pub get_map : {A B : Type 0} (f : A → B) (xs : List A) (i : ℕ) (x : A) → slice_get xs i ≡ Some x → slice_get (map f xs) i ≡ Some (f x)
get_map f [] i x h = absurd (let e : None ≡ Some x = h in cc)
get_map f (y ∷ xs) zero x h = let e : y ≡ x = (let g : Some y ≡ Some x = h in cc) in ap (λ z. Some (f z)) e
get_map f (y ∷ xs) (suc i) x h = get_map f xs i x h

pub got_map : {A B : Type 0} (f : A → B) (xs : List A) (i : ℕ) (y : B) → slice_get (map f xs) i ≡ Some y → (x : A) × (slice_get xs i ≡ Some x) × (y ≡ f x)
got_map f [] i y h = absurd (let e : None ≡ Some y = h in cc)
got_map f (x ∷ xs) zero y h = (x, refl, let e : f x ≡ y = (let g : Some (f x) ≡ Some y = h in cc) in sym e)
got_map f (x ∷ xs) (suc i) y h = got_map f xs i y h

pub map_push : {A B : Type 0} (f : A → B) (xs : List A) (x : A) → map f (xs ++ x ∷ []) ≡ map f xs ++ f x ∷ []
map_push f [] x = refl
map_push f (y ∷ xs) x = ap (λ l. f y ∷ l) (map_push f xs x)

pub map_long : {A B : Type 0} (f : A → B) (xs : List A) → length (map f xs) ≡ length xs
map_long f [] = refl
map_long f (y ∷ xs) = ap suc (map_long f xs)

-- an item stands at each place below the length
pub get_some : {A : Type 0} (xs : List A) (i : ℕ) → i < length xs → (x : A) × (slice_get xs i ≡ Some x)
get_some [] i low = absurd (omega (arith, low))
get_some (x ∷ xs) zero low = (x, refl)
get_some (x ∷ xs) (suc i) low = get_some xs i (omega (arith, low))

-- ---- two lists, one behind the other

pub get_before : {A : Type 0} (xs ys : List A) (i : ℕ) (x : A) → slice_get xs i ≡ Some x → slice_get (xs ++ ys) i ≡ Some x
get_before [] ys i x h = absurd (let e : None ≡ Some x = h in cc)
get_before (y ∷ xs) ys zero x h = h
get_before (y ∷ xs) ys (suc i) x h = get_before xs ys i x h

pub get_behind : {A : Type 0} (xs ys : List A) (i : ℕ) → slice_get (xs ++ ys) (length xs + i) ≡ slice_get ys i
get_behind [] ys i = ap (slice_get ys) (omega arith)
get_behind (y ∷ xs) ys i = let e : suc (length xs) + i ≡ suc (length xs + i) = omega arith in ap (slice_get (y ∷ (xs ++ ys))) e ∙ get_behind xs ys i

pub get_either : {A : Type 0} (xs ys : List A) (i : ℕ) (x : A) → slice_get (xs ++ ys) i ≡ Some x → (slice_get xs i ≡ Some x) ⊎ ((j : ℕ) × (slice_get ys j ≡ Some x))
get_either [] ys i x h = inr (i, h)
get_either (y ∷ xs) ys zero x h = inl h
get_either (y ∷ xs) ys (suc i) x h = get_either xs ys i x h

-- what is true of a result is so of another thing that follows from it
pub if_ok : {A E : Type 0} {P Q : A → Type 0} (r : Result A E) → ((x : A) → P x → Q x) → IfOk r P → IfOk r Q
if_ok (Ok x) f h = f x h
if_ok (Err e) f h = tt

pub if_ok_with : {A E M : Type 0} {P Q : A → Type 0} (r : Result A E) → OnOk r M → ((x : A) → M → P x → Q x) → IfOk r P → IfOk r Q
if_ok_with (Ok x) m f h = f x m h
if_ok_with (Err e) m f h = tt
