use Rattle.std.proofs.Common.{Some, Option, List, ℕ, ap, ◌∙◌, sym}
use Rattle.std.specs.Prelude.{option_map}
use Rattle.tc_base.specs.Lists.{pair}
use Rattle.bt_cursor.proofs.cursor.pair_of.Goals as goal

pub returns-in_default-clause-value : goal.returns-in_default-clause-value
returns-in_default-clause-value g c =
    λ ps means. ap (λ (v : Option (List ℕ)). option_map (pair c.args.place.now.key) v) (sym c.in_default.is ∙ (rw c.as_slice-key.ensures at c.in_ok-value.ensures.value) ps means)

pub returns-clause-value : goal.returns-clause-value
returns-clause-value g c =
    λ ps means. ap (λ (k : List ℕ). Some (pair k c.in-Some.value)) (c.in_ok-key.ensures ∙ c.as_slice-key.ensures) ∙ ap (λ (v : Option (List ℕ)). option_map (pair c.args.place.now.key) v) (sym c.in-Some.is ∙ (rw c.as_slice-key.ensures at c.in_ok-value.ensures.value) ps means)
