-- Answers and refusals that are handed on.
use Rattle.std.proofs.Common.{◌≡◌, Result, Ok, Err, sym, subst}
use Rattle.std.specs.Prelude.{IfErr, IfOk, IsErrAnd, MatchResult}
use Rattle.tc_space.specs.declared.errors.OpenErr.{OpenErr}
use Rattle.tc_space.specs.declared.errors.RecErr.{RecErr}

abbrev opened : {A : Type 0} → A → Result A OpenErr
opened x = Ok x

-- an answer whose refusals became others came as it was
pub mapped : {A : Type 0} (P : A → Type 0) (r : Result A RecErr) (x : A) → MatchResult r (λ y. opened x ≡ opened y) (λ e. ⊥) → IfOk r P → P x
mapped P (Ok y) x same p = subst P (let is : y ≡ x = cc in is) p
mapped P (Err e) x same p = absurd same

-- what is so of a refusal is so of that which `?` makes of it
pub if_err_handed : {A : Type 0} (r : Result A OpenErr) (w : OpenErr) (P : OpenErr → Type 0) → IsErrAnd r (λ y. y ≡ w) → P w → IfErr r P
if_err_handed (Ok x) w P is p = tt
if_err_handed (Err e) w P is p = subst P (sym is) p
