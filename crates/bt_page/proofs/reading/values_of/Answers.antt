use Rattle.std.proofs.Common.{◌≡◌, ◌<◌, ◌∙◌, ◌++◌, ◌∷◌, [], ap, arith, List, ℕ, length, length-append, refl, sym, append_assoc}
use Rattle.std.proofs.lemmas.List.{append-nil}
use Rattle.bt_page.specs.Pages.{SizeFits, value_bytes}
use Rattle.bt_page.proofs.Runs.{progress_start, progress_step, progress_none, err_handed}
use Rattle.bt_page.proofs.AtFronts.{value_free}
use Rattle.bt_page.proofs.reading.values_of.Goals as goal

abbrev So : ℕ → List (List ℕ) → List ℕ → Type 0
So n all tail = length all ≡ n

pub loop-i-init : goal.loop-i-init
loop-i-init c = record { read = ([], sym (append-nil c.args.values.now), refl, progress_start SizeFits value_bytes (So c.args.n) c.args.bytes.now) }

pub loop-i-preserved : goal.loop-i-preserved
loop-i-preserved c =
    let p = c.loop-i.invariant.read in
    let few : length p.0 < c.args.n = omega (arith, p.2, c.loop-i-test.true) in
    record {
      read = (
        p.0 ++ c.in_ok-value.value ∷ [],
        c.in_ok-push.ensures.ok ∙ ap (λ (l : List (List ℕ)). l ++ c.in_ok-value.value ∷ []) p.1 ∙ append_assoc c.args.values.now p.0 (c.in_ok-value.value ∷ []),
        omega (arith, p.2, length-append p.0 (c.in_ok-value.value ∷ [])),
        progress_step SizeFits value_bytes (So c.args.n) c.args.bytes.now p.0 c.loop-i.rest.now c.in_ok-value.value c.in_ok-value.behind.now value_free p.3 c.in_ok-value.ensures.found (λ tail t e. omega (arith, few, t)),
      );
    }

pub returns-in_err-value-clause-bad : goal.returns-in_err-value-clause-bad
returns-in_err-value-clause-bad c = λ h more rest len short e.
    let p = c.loop-i.invariant.read in
    let few : length p.0 < c.args.n = omega (arith, p.2, c.loop-i-test.true) in
    progress_none SizeFits value_bytes (So c.args.n) c.args.bytes.now p.0 c.loop-i.rest.now p.3 (c.in_err-value.ensures.bad (err_handed c.from_residual.result c.in_err-value.field-0.0 _ c.from_residual.ensures.1 h)) (λ tail t e. omega (arith, few, t)) more rest len short e

pub returns-clause-found : goal.returns-clause-found
returns-clause-found c = let p = c.loop-i.invariant.read in (p.0, p.1, omega (arith, p.2, c.loop-i-test.false, c.loop-i.auto.i-end), p.3.fits, p.3.is)
