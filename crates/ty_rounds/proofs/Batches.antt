-- What comes to a batch, as it is told.
use Rattle.std.proofs.Common.{◌≡◌, ℕ, false, true, List, [], ◌∷◌, ◌++◌, length, map, refl, sym, ap, arith, ◌∙◌}
use Rattle.std.proofs.lemmas.Bool.{eqb-true}
use Rattle.std.specs.Prelude.{is_some, nat_eq, Option, Some, None}
use Rattle.tc_base.specs.Labels.{is_label}
use Rattle.tc_base.specs.LabelTexts.{text_of}
use Rattle.tc_base.specs.declared.label.Label.{Label}
use Rattle.ty_core.specs.Serving.{entries}
use Rattle.ty_rounds.specs.Works.{listed}

pub listed_entries : (x : Option (List ℕ)) → listed x ≡ entries x
listed_entries None = refl
listed_entries (Some x) = refl

map_more : (xs ys : List Label) → map text_of (xs ++ ys) ≡ map text_of xs ++ map text_of ys
map_more [] ys = refl
map_more (x ∷ xs) ys = ap (λ (l : List (List ℕ)). text_of x ∷ l) (map_more xs ys)

pub more_labels : (old new : List Label) (x : Label) (text : List ℕ) → new ≡ old ++ x ∷ [] → text_of x ≡ text → map text_of new ≡ map text_of old ++ text ∷ []
more_labels old new x text more is = ap (map text_of) more ∙ map_more old (x ∷ []) ∙ ap (λ (t : List ℕ). map text_of old ++ t ∷ []) is

pub none_there : {A : Type 0} (l : List A) → nat_eq (length l) 0 ≡ true → l ≡ []
none_there [] e = refl
none_there (x ∷ l) e = absurd (let z : length (x ∷ l) ≡ 0 = eqb-true (length (x ∷ l)) 0 e in omega (arith, z))

pub no_label : (o : Option Label) (text : List ℕ) → is_some o ≡ is_label text → is_label text ≡ true → o ≡ None → ⊥
no_label o text some is none = let e : false ≡ true = sym (ap is_some none) ∙ some ∙ is in cc
