-- A struct with no field that the machine holds, as it is made. Assumes `Logic`.
use Rattle.std.proofs.Common.{List, [], ◌∷◌, refl}
use seplogic.Ra.Ura.{Ura}
use mir.Val.{Val, vstruct, vnil}
use types.Logic.{Logic}
use types.Kit.{Goal, Step, step, Item, ‵, ◌$◌, fjoin, fpack, feq_i}
use denote.RattleType.{RattleType, Valss}
use denote.Steps.{nothing}
use denote.Struct.Struct.{Struct, within}

abbrev pub nothing_held : Val
nothing_held = vstruct vnil

abbrev pub bare : RattleType
bare = Struct (record { name = []; args = []; types = []; fields = [] })

pub bare_made : {M : Type 1} {𝓤 : Ura M} {𝓛 : Logic 𝓤} {K : Type 0} {Γ : List (Item 𝓤)} {G : Goal 𝓤 𝓛.H} → K → Step K 𝓛 (‵ (bare.own_val tt (nothing_held ∷ [])) ∷ Γ) G Γ G
bare_made t = step (λ s.
    nothing t $ feq_i t (List Val) (nothing_held ∷ []) (nothing_held ∷ []) refl $ fjoin t $
    fpack t (Valss []) (within (record { name = []; args = []; types = []; fields = [] }) tt (nothing_held ∷ [])) tt $ s)
