use Rattle.std.proofs.Common.{◌≡◌, ◌∙◌, refl, ap, subst, List, ℕ, [], ◌∷◌}
use Rattle.std.specs.Prelude.{IfOk}
use Rattle.tc_base.specs.Endian.{le_bytes}
use Rattle.tc_base.specs.Files.{wrote}
use Rattle.tc_model.proofs.values.spelled.Goals as goal

-- a number written over four zero bytes
over_zeros : (n : ℕ) → wrote 0 (le_bytes 4 n) (0 ∷ 0 ∷ 0 ∷ 0 ∷ []) ≡ le_bytes 4 n
unfolding wrote le_bytes
over_zeros n = refl

pub returns : goal.returns
returns c = subst (λ (v : List ℕ). IfOk c.from_slice.result (λ b. b ≡ v))
    (c.set_le.ensures.after ∙ ap (λ (n : ℕ). wrote 0 (le_bytes 4 n) (0 ∷ 0 ∷ 0 ∷ 0 ∷ [])) c.from.ensures ∙ over_zeros c.args.number) c.from_slice.ensures
