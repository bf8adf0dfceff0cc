use Rattle.std.proofs.Common.{◌≡◌, ◌<◌, ◌++◌, ◌∷◌, [], arith, List, ℕ, length, length-append}
use Rattle.bt_page.specs.Pages.{SizeFits, value_bytes}
use Rattle.bt_page.proofs.Runs.{progress_step, progress_none, on_err_any}
use Rattle.bt_page.proofs.AtFronts.{value_free}
use Rattle.bt_slots.proofs.scanning.behind_values.Goals as goal

abbrev So : ℕ → List (List ℕ) → List ℕ → Type 0
So n all tail = length all ≡ n

pub loop-i-preserved : goal.loop-i-preserved
loop-i-preserved c =
    let p = c.loop-i.invariant.read in
    let few : length p.0 < c.args.n = omega (arith, p.1, c.loop-i-test.true) in
    let v = c.in_ok-rest.ensures.found in
    record {
      read = (
        p.0 ++ v.0 ∷ [],
        omega (arith, p.1, length-append p.0 (v.0 ∷ [])),
        progress_step SizeFits value_bytes (So c.args.n) c.args.bytes.now p.0 c.loop-i.rest.now v.0 c.in_ok-rest.rest.now value_free p.2 v.1 (λ tail t e. omega (arith, few, t)),
      );
    }

pub returns-in_err-rest-clause-bad : goal.returns-in_err-rest-clause-bad
returns-in_err-rest-clause-bad c =
    let p = c.loop-i.invariant.read in
    let few : length p.0 < c.args.n = omega (arith, p.1, c.loop-i-test.true) in
    on_err_any _ (progress_none SizeFits value_bytes (So c.args.n) c.args.bytes.now p.0 c.loop-i.rest.now p.2 c.in_err-rest.ensures.bad (λ tail t e. omega (arith, few, t)))
