use Rattle.std.proofs.Common.{◌≡◌, ◌∙◌, ◌++◌, ◌∷◌, [], ap, List, ℕ, arith, subst, sym, refl, length, length-append}
use Rattle.std.specs.List.{AllByRecursion, flat_map}
use Rattle.std.proofs.lemmas.List.{append-nil}
use Rattle.bt_page.specs.declared.page.NodeEntry.{NodeEntry}
use Rattle.bt_page.specs.Pages.{EntryFits, entry_bytes}
use Rattle.bt_page.proofs.Runs.{Progress, progress_start, progress_step, progress_none, on_err_any}
use Rattle.bt_page.proofs.AtFronts.{entry_free, entry_some, some_left, none_left}
use Rattle.bt_slots.proofs.scanning.count_entries.Goals as goal

abbrev Ends : List NodeEntry → List ℕ → Type 0
Ends all tail = tail ≡ []

pub loop-rest-init : goal.loop-rest-init
loop-rest-init c =
    let same : c.rest_from-rest.result.now ≡ c.args.bytes.now = c.rest_from-rest.ensures.is in
    let long = ap length same in
    record {
      short = omega (arith, long, c.rest_from-rest.ensures.short);
      few = omega (arith, long);
      read = ([], refl, subst (λ (l : List ℕ). Progress EntryFits entry_bytes Ends c.args.bytes.now [] l) (sym same) (progress_start EntryFits entry_bytes Ends c.args.bytes.now));
    }

pub overflow_add-count : goal.overflow_add-count
overflow_add-count c =
    let x = c.in_ok-rest.ensures.found in
    omega (arith, c.loop-rest.invariant.few, c.loop-rest.invariant.short, entry_some c.loop-rest.rest.now c.in_ok-rest.rest.now x.0 x.1)

pub loop-rest-preserved : goal.loop-rest-preserved
loop-rest-preserved c =
    let p = c.loop-rest.invariant.read in
    let x = c.in_ok-rest.ensures.found in
    record {
      short = c.loop-rest.invariant.short;
      few = omega (arith, c.loop-rest.invariant.few, entry_some c.loop-rest.rest.now c.in_ok-rest.rest.now x.0 x.1);
      read = (
        p.0 ++ x.0 ∷ [],
        omega (arith, p.1, length-append p.0 (x.0 ∷ [])),
        progress_step EntryFits entry_bytes Ends c.args.bytes.now p.0 c.loop-rest.rest.now x.0 c.in_ok-rest.rest.now entry_free p.2 x.1 (λ tail t e. some_left c.loop-rest.rest.now tail c.loop-rest-test.ensures t e),
      );
    }

pub loop-rest-smaller : goal.loop-rest-smaller
loop-rest-smaller c = let x = c.in_ok-rest.ensures.found in entry_some c.loop-rest.rest.now c.in_ok-rest.rest.now x.0 x.1

pub returns-in_err-rest-clause-bad : goal.returns-in_err-rest-clause-bad
returns-in_err-rest-clause-bad c =
    let p = c.loop-rest.invariant.read in
    let none : (all : List NodeEntry) → AllByRecursion EntryFits all → c.args.bytes.now ≡ flat_map entry_bytes all → ⊥ =
    (λ all fit e. progress_none EntryFits entry_bytes Ends c.args.bytes.now p.0 c.loop-rest.rest.now p.2 c.in_err-rest.ensures.bad (λ tail t e. some_left c.loop-rest.rest.now tail c.loop-rest-test.ensures t e) all [] refl fit (e ∙ sym (append-nil _))) in
    on_err_any _ none

pub returns-clause-found : goal.returns-clause-found
returns-clause-found c =
    let p = c.loop-rest.invariant.read in
    (p.0, p.1, p.2.fits, p.2.is ∙ ap (λ (l : List ℕ). flat_map entry_bytes p.0 ++ l) (none_left c.loop-rest.rest.now c.loop-rest-test.ensures) ∙ append-nil _)
