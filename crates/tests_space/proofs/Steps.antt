-- One write more to one of two files.
use Rattle.std.proofs.Common.{◌≡◌, ◌∙◌, ℕ, ◌≤◌, List, length, sym, ap, subst, arith}
use Rattle.tc_base.specs.Files.{Files, wrote}
use Rattle.tc_space.specs.Effects.{Changes}
use Rattle.tests_space.specs.Client.{Holds}

module _ {S : Type 0} (tells : Type 0) (now : S → Files) where
  pub main_step : (s t : S) (main side : List ℕ) (at : ℕ) (bytes new : List ℕ) → Holds tells now main side s → (tells → Changes now 0 (wrote at bytes (now s 0)) s t) → wrote at bytes main ≡ new → Holds tells now new side t
  main_step s t main side at bytes new h changes is = record {
    main_is = λ told. (changes told).here ∙ ap (λ (l : List ℕ). wrote at bytes l) (h.main_is told) ∙ is;
    side_is = λ told. (changes told).others 2 (λ e. omega (arith, e)) ∙ h.side_is told;
  }

  pub side_step : (s t : S) (main side : List ℕ) (at : ℕ) (bytes new : List ℕ) → Holds tells now main side s → (tells → Changes now 2 (wrote at bytes (now s 2)) s t) → wrote at bytes side ≡ new → Holds tells now main new t
  side_step s t main side at bytes new h changes is = record {
    main_is = λ told. (changes told).others 0 (λ e. omega (arith, e)) ∙ h.main_is told;
    side_is = λ told. (changes told).here ∙ ap (λ (l : List ℕ). wrote at bytes l) (h.side_is told) ∙ is;
  }

  pub main_fits : (s : S) (main side : List ℕ) (at : ℕ) → Holds tells now main side s → at ≤ length main → tells → at ≤ length (now s 0)
  main_fits s main side at h le told = subst (λ (l : List ℕ). at ≤ length l) (sym (h.main_is told)) le

  pub side_fits : (s : S) (main side : List ℕ) (at : ℕ) → Holds tells now main side s → at ≤ length side → tells → at ≤ length (now s 2)
  side_fits s main side at h le told = subst (λ (l : List ℕ). at ≤ length l) (sym (h.side_is told)) le
