-- Texts that are read two by two.
use Rattle.std.proofs.Common.{◌≡◌, ◌∙◌, ℕ, List, [], ◌∷◌, ◌++◌, Option, Some, None, true, false, map, refl, ap, sym, append_assoc}
use Rattle.std.specs.Prelude.{option_map, is_some}
use Rattle.tc_base.specs.declared.seq.Pair.{Pair}
use Rattle.tc_base.specs.Lists.{pair}
use Rattle.tc_model.specs.Misc.{paired}

abbrev texts_of : List Pair → List (List ℕ)
texts_of [] = []
texts_of (p ∷ ps) = p.key ∷ p.value ∷ texts_of ps

-- the texts of pairs, and one in front of the next
abbrev pub laid : List Pair → Option (List ℕ) → List (List ℕ)
laid ps None = texts_of ps
laid ps (Some key) = texts_of ps ++ key ∷ []

texts_push : (ps : List Pair) (key value : List ℕ) → texts_of ps ++ key ∷ value ∷ [] ≡ texts_of (ps ++ pair key value ∷ [])
texts_push [] key value = refl
texts_push (p ∷ ps) key value = ap (λ xs. p.key ∷ p.value ∷ xs) (texts_push ps key value)

-- a value comes behind its key
pub laid_pair : (xs : List (List ℕ)) (ps : List Pair) (key value : List ℕ) → xs ≡ laid ps (Some key) → xs ++ value ∷ [] ≡ laid (ps ++ pair key value ∷ []) None
laid_pair xs ps key value e = ap (λ ys. ys ++ value ∷ []) e ∙ append_assoc (texts_of ps) (key ∷ []) (value ∷ []) ∙ texts_push ps key value

paired_even : (ps : List Pair) → paired (laid ps None) ≡ Some ps
paired_even [] = refl
paired_even (p ∷ ps) = ap (option_map (λ qs. p ∷ qs)) (paired_even ps)

paired_odd : (ps : List Pair) (key : List ℕ) → paired (laid ps (Some key)) ≡ None
paired_odd [] key = refl
paired_odd (p ∷ ps) key = ap (option_map (λ qs. p ∷ qs)) (paired_odd ps key)

as_it_is : (xs : List (List ℕ)) → map (λ x. x) xs ≡ xs
as_it_is [] = refl
as_it_is (x ∷ xs) = ap (λ ys. x ∷ ys) (as_it_is xs)

-- all texts came, and none is left in front
pub even : (all came : List (List ℕ)) (ps : List Pair) (front : Option (List ℕ)) → map (λ x. x) came ≡ all → came ≡ laid ps front → is_some front ≡ false → Some ps ≡ paired all
even all came ps None every is none = sym (paired_even ps) ∙ ap paired (sym is ∙ sym (as_it_is came) ∙ every)
even all came ps (Some key) every is none = absurd (let never : true ≡ false = none in cc)

-- all texts came, and one is left in front
pub odd : (all came : List (List ℕ)) (ps : List Pair) (front : Option (List ℕ)) → map (λ x. x) came ≡ all → came ≡ laid ps front → is_some front ≡ true → None ≡ paired all
odd all came ps None every is some = absurd (let never : false ≡ true = some in cc)
odd all came ps (Some key) every is some = sym (paired_odd ps key) ∙ ap paired (sym is ∙ sym (as_it_is came) ∙ every)
