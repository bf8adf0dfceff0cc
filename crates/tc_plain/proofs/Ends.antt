-- The first and the last id.
use Rattle.std.proofs.Common.{◌≡◌, ℕ, List, [], ◌∷◌, refl, sym, ap, ◌∙◌}
use Rattle.std.specs.Prelude.{Some, None, slice_get, unwrap_or}
use Rattle.std.specs.List.{last_or}

-- what is last, where that number came before these
abbrev pub last_behind : ℕ → List ℕ → ℕ
last_behind n ids = unwrap_or (last_or (Some n) ids) 0

pub last_start : (ids : List ℕ) → last_behind 0 ids ≡ unwrap_or (last_or None ids) 0
last_start [] = refl
last_start (x ∷ ids) = refl

pub last_step : (n k all : ℕ) (ids rest : List ℕ) → last_behind n ids ≡ all → ids ≡ k ∷ rest → last_behind k rest ≡ all
last_step n k all ids rest e is = sym (ap (last_behind n) is) ∙ e

pub last_end : (n all : ℕ) (ids : List ℕ) → last_behind n ids ≡ all → ids ≡ [] → n ≡ all
last_end n all ids e is = sym (ap (last_behind n) is) ∙ e

pub first_is : (k : ℕ) (ids rest : List ℕ) → ids ≡ k ∷ rest → k ≡ unwrap_or (slice_get ids 0) 0
first_is k ids rest is = sym (ap (λ l. unwrap_or (slice_get l 0) 0) is)

pub first_none : (ids : List ℕ) → ids ≡ [] → 0 ≡ unwrap_or (slice_get ids 0) 0
first_none ids is = sym (ap (λ l. unwrap_or (slice_get l 0) 0) is)
