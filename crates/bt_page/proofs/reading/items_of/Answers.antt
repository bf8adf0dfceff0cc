use Rattle.std.proofs.Common.{◌≡◌, ◌∙◌, ◌++◌, [], ap, List, ℕ, sym, subst, refl}
use Rattle.std.specs.List.{flat_map}
use Rattle.std.proofs.lemmas.List.{append-nil}
use Rattle.bt_page.specs.declared.page.Item.{Item}
use Rattle.bt_page.specs.Pages.{ItemFits, item_bytes}
use Rattle.bt_page.proofs.Runs.{Progress, progress_start, progress_step, progress_none, err_handed}
use Rattle.bt_page.proofs.AtFronts.{item_free, item_some, some_left, none_left}
use Rattle.bt_page.proofs.reading.items_of.Goals as goal

abbrev Ends : List Item → List ℕ → Type 0
Ends all tail = tail ≡ []

pub loop-rest-init : goal.loop-rest-init
loop-rest-init c = subst (λ (l : List Item). Progress ItemFits item_bytes Ends c.args.bytes.now l c.args.bytes.now) (sym c.new-items.ensures) (progress_start ItemFits item_bytes Ends c.args.bytes.now)

pub loop-rest-preserved : goal.loop-rest-preserved
loop-rest-preserved c =
    subst (λ (l : List Item). Progress ItemFits item_bytes Ends c.args.bytes.now l c.in_ok-item.behind.now) (sym c.in_ok-push.ensures.ok)
    (progress_step ItemFits item_bytes Ends c.args.bytes.now c.loop-rest.items c.loop-rest.rest.now c.in_ok-item.item c.in_ok-item.behind.now item_free c.loop-rest.invariant c.in_ok-item.ensures.found (λ tail t e. some_left c.loop-rest.rest.now tail c.loop-rest-test.ensures t e))

pub loop-rest-smaller : goal.loop-rest-smaller
loop-rest-smaller c = item_some c.loop-rest.rest.now c.in_ok-item.behind.now c.in_ok-item.item c.in_ok-item.ensures.found

pub returns-in_err-item-clause-bad : goal.returns-in_err-item-clause-bad
returns-in_err-item-clause-bad c = λ h all fit e.
    progress_none ItemFits item_bytes Ends c.args.bytes.now c.loop-rest.items c.loop-rest.rest.now c.loop-rest.invariant (c.in_err-item.ensures.bad (err_handed c.from_residual.result c.in_err-item.field-0.0 _ c.from_residual.ensures.1 h)) (λ tail t e. some_left c.loop-rest.rest.now tail c.loop-rest-test.ensures t e) all [] refl fit (e ∙ sym (append-nil _))

pub returns-clause-found : goal.returns-clause-found
returns-clause-found c = (c.loop-rest.invariant.fits, c.loop-rest.invariant.is ∙ ap (λ (l : List ℕ). flat_map item_bytes c.loop-rest.items ++ l) (none_left c.loop-rest.rest.now c.loop-rest-test.ensures) ∙ append-nil _)
