-- The numbers of connections, as some of them close.
use Rattle.std.proofs.Common.{◌≡◌, ◌<◌, ℕ, true, List, sym, ap, ◌∙◌}
use Rattle.std.specs.Prelude.{◌&&◌, not, nat_eq}
use Rattle.std.proofs.lemmas.Bool.{eqb-true, and_parts}
use Rattle.std.proofs.lemmas.Map.Views.{any-filter_same}
use Rattle.tc_io.specs.Lines.{has, without}

has_without : (d : ℕ) (xs : List ℕ) (c : ℕ) → has (without d xs) c ≡ (not (nat_eq c d) && has xs c)
has_without d xs c = any-filter_same (nat_eq c) (λ e. not (nat_eq e d)) (not (nat_eq c d)) (λ e is. ap (λ (x : ℕ). not (nat_eq x d)) (sym (eqb-true c e is))) xs

pub still_below : (d given : ℕ) (conns after : List ℕ) → after ≡ without d conns → ((c : ℕ) → has conns c ≡ true → c < given) → (c : ℕ) → has after c ≡ true → c < given
still_below d given conns after is below c listed =
    below c (and_parts (not (nat_eq c d)) (has conns c) (sym (has_without d conns c) ∙ sym (ap (λ (xs : List ℕ). has xs c) is) ∙ listed)).1
