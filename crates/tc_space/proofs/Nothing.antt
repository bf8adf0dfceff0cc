-- Nothing written over an empty file.
use Rattle.std.proofs.Common.{◌≡◌, ℕ, List, [], ◌++◌, ◌+◌, length, drop, refl, sym, ap, ◌∙◌, zero, suc}
use Rattle.std.proofs.lemmas.List.{nil_from_length}
use Rattle.std.proofs.Math.Seq.{take-nil}
use Rattle.tc_base.specs.Files.{wrote}

drop_nil : (n : ℕ) → ◌≡◌ {A = List ℕ} (drop n []) []
drop_nil zero = refl
drop_nil (suc n) = refl

pub wrote_nothing : (at : ℕ) (bytes : List ℕ) → length bytes ≡ 0 → [] ≡ wrote at bytes []
unfolding wrote
wrote_nothing at bytes none =
    sym (ap (λ (l : List ℕ). l ++ bytes ++ drop (at + length bytes) []) (take-nil at)
    ∙ ap (λ (l : List ℕ). bytes ++ l) (drop_nil (at + length bytes))
    ∙ ap (λ (l : List ℕ). l ++ []) (nil_from_length bytes none))
