use Rattle.std.proofs.Common.{◌∙◌, ◌-◌, List, ℕ, refl, sym, subst, ap, arith}
use Rattle.std.specs.Prelude.{slice_get}
use Rattle.bt_page.specs.Pages.{ItemFits}
use Rattle.bt_slots.specs.Marks.{StandsAt}
use Rattle.bt_slots.proofs.Marks.{further_is, moves_on, nth_first, nth_more, nth_none, stays_first, stays_none}
use Rattle.bt_slots.proofs.Places.{held, some_at}
use Rattle.bt_slots.proofs.leaf.SlottedLeaf.nth.Goals as goal

pub returns-then-n-eq0-clause-value : goal.returns-then-n-eq0-clause-value
returns-then-n-eq0-clause-value c = λ x at.
    let fits = held ItemFits c.args.self.now.items c.args.place x c.parts-parts.ensures.fits.items at in
    nth_first x _ _ _ _ fits (c.parts-parts.ensures.are x at) c.args.n c.if-n-eq0.true

pub returns-then-n-parts-clause-value : goal.returns-then-n-parts-clause-value
returns-then-n-parts-clause-value c = λ x at.
    let fits = held ItemFits c.args.self.now.items c.args.place x c.parts-parts.ensures.fits.items at in
    nth_none x _ _ _ _ fits (c.parts-parts.ensures.are x at) c.args.n (omega (arith, c.if-n-parts.true))

pub offset_on-offset-requires-clause-at : goal.offset_on-offset-requires-clause-at
offset_on-offset-requires-clause-at c =
    let further : List ℕ = c.parts-parts.result.further.now in
    let y = some_at c.args.self.now.items c.args.place c.requires.place in
    let fits = held ItemFits c.args.self.now.items c.args.place y.0 c.parts-parts.ensures.fits.items y.1 in
    let same = further_is y.0 _ _ _ _ fits (c.parts-parts.ensures.are y.0 y.1) in
    c.start-from.ensures.at further (λ e. subst (StandsAt c.args.mark.now.number c.args.mark.now.offset) same (c.requires.mark y.0 (ap (λ (i : ℕ). slice_get c.args.self.now.items i) e ∙ y.1)))

pub returns-clause-value : goal.returns-clause-value
returns-clause-value c = λ x at.
    let fits = held ItemFits c.args.self.now.items c.args.place x c.parts-parts.ensures.fits.items at in
    nth_more x _ _ _ _ fits (c.parts-parts.ensures.are x at) c.args.n c.offset_on-offset.result _ c.if-n-eq0.false (omega (arith, c.if-n-parts.false)) c.offset_on-offset.ensures c.value_at.ensures

pub returns-clause-mark : goal.returns-clause-mark
returns-clause-mark c = λ x at.
    let fits = held ItemFits c.args.self.now.items c.args.place x c.parts-parts.ensures.fits.items at in
    subst (StandsAt (c.args.n - 1) c.offset_on-offset.result) (sym (further_is x _ _ _ _ fits (c.parts-parts.ensures.are x at))) c.offset_on-offset.ensures

pub returns-then-n-eq0-clause-moved : goal.returns-then-n-eq0-clause-moved
returns-then-n-eq0-clause-moved c = stays_first c.args.place c.args.n _ c.args.mark.now c.if-n-eq0.true

pub returns-then-n-parts-clause-moved : goal.returns-then-n-parts-clause-moved
returns-then-n-parts-clause-moved c = stays_none c.args.place c.args.n c.args.mark.now

pub returns-clause-moved : goal.returns-clause-moved
returns-clause-moved c = moves_on c.args.place c.args.n _ c.args.mark.now _ c.if-n-eq0.false refl refl
