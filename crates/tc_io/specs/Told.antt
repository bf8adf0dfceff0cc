-- A list that an object may tell, and that only grows.
use Rattle.std.specs.Prelude.{◌≡◌, ◌⊎◌, List, [], ◌∷◌, ◌++◌, Option, option_map}

-- where it is told, these came behind it
abbrev pub Adds : {A : Type 0} → Option (List A) → Option (List A) → List A → Type 0
Adds {A} old new more = new ≡ option_map (λ (t : List A). t ++ more) old

-- where it is told, a front of these came behind it
pub record AddsFront {A : Type 0} (old new : Option (List A)) (more : List A) : Type 0 where
  pub front : List A
  pub back : List A
  pub parts : more ≡ front ++ back
  pub told : Adds old new front

-- by what an object tells, before a call and after it: this came behind it
abbrev pub Tells : {W A : Type 0} → (W → Option (List A)) → W → W → A → Type 0
Tells told old new x = Adds (told old) (told new) (x ∷ [])

-- nothing did
abbrev pub TellsNothing : {W A : Type 0} → (W → Option (List A)) → W → W → Type 0
TellsNothing told old new = Adds (told old) (told new) []

abbrev pub MayTell : {W A : Type 0} → (W → Option (List A)) → W → W → A → Type 0
MayTell told old new x = TellsNothing told old new ⊎ Tells told old new x
