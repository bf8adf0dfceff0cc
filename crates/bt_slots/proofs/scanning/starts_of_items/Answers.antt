use Rattle.std.proofs.Common.{◌≡◌, ◌∙◌, ◌++◌, ◌∷◌, [], ap, List, ℕ, arith, sym, refl}
use Rattle.std.specs.List.{flat_map}
use Rattle.std.proofs.lemmas.List.{append-nil}
use Rattle.bt_page.specs.declared.page.Item.{Item}
use Rattle.bt_page.specs.Pages.{ItemFits, item_bytes}
use Rattle.bt_page.proofs.Runs.{progress_start, progress_step, progress_none}
use Rattle.bt_page.proofs.AtFronts.{item_free, item_some, some_left, none_left}
use Rattle.bt_slots.proofs.Scanned.{starts_none, starts_step}
use Rattle.bt_slots.proofs.scanning.starts_of_items.Goals as goal

abbrev Ends : List Item → List ℕ → Type 0
Ends all tail = tail ≡ []

pub loop-rest-init : goal.loop-rest-init
loop-rest-init c = record { few = omega arith; read = ([], starts_none item_bytes _ _ (append-nil _ ∙ c.in_ok-starts.ensures.items), progress_start ItemFits item_bytes Ends c.args.items.now) }

pub loop-rest-preserved : goal.loop-rest-preserved
loop-rest-preserved c =
    let p = c.loop-rest.invariant.read in
    let x = c.in_ok-rest.ensures.found in
    record {
      few = c.in_ok-count.ensures.few;
      read = (
        p.0 ++ x.0 ∷ [],
        starts_step item_bytes c.args.end c.args.items.now c.loop-rest.rest.now p.0 x.0 _ _ p.1 p.2.is c.requires c.in_ok-count.ensures.noted,
        progress_step ItemFits item_bytes Ends c.args.items.now p.0 c.loop-rest.rest.now x.0 c.in_ok-rest.rest.now item_free p.2 x.1 (λ tail t e. some_left c.loop-rest.rest.now tail c.loop-rest-test.ensures t e),
      );
    }

pub loop-rest-smaller : goal.loop-rest-smaller
loop-rest-smaller c = let x = c.in_ok-rest.ensures.found in item_some c.loop-rest.rest.now c.in_ok-rest.rest.now x.0 x.1

pub returns-in_err-rest-clause-bad : goal.returns-in_err-rest-clause-bad
returns-in_err-rest-clause-bad c = λ h all fit e.
    let p = c.loop-rest.invariant.read in
    progress_none ItemFits item_bytes Ends c.args.items.now p.0 c.loop-rest.rest.now p.2 c.in_err-rest.ensures.bad (λ tail t e. some_left c.loop-rest.rest.now tail c.loop-rest-test.ensures t e) all [] refl fit (e ∙ sym (append-nil _))

pub returns-clause-found : goal.returns-clause-found
returns-clause-found c =
    let p = c.loop-rest.invariant.read in
    (p.0, c.in_ok-extend_from_slice.ensures.items ∙ p.1, p.2.fits, p.2.is ∙ ap (λ (l : List ℕ). flat_map item_bytes p.0 ++ l) (none_left c.loop-rest.rest.now c.loop-rest-test.ensures) ∙ append-nil _)
