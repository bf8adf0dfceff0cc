use Rattle.std.proofs.Common.{subst, ap, ◌∙◌}
use Rattle.std.specs.FinMap.{get}
use Rattle.tc_space.specs.Frames.{In}
use Rattle.tc_space.specs.Stores.{ready_reads}
use Rattle.tc_space.specs.declared.errors.OpenErr.{OpenErr}
use Rattle.bt_rows.specs.declared.head.TreeHead.{TreeHead}
use Rattle.bt_rows.specs.Heads.{head_of}
use Rattle.bt_rows.specs.Orders.{before_by}
use Rattle.bt_rows.specs.Standing.{TreeStands, leaves_of}
use Rattle.bt_check.specs.Verdicts.{Breaks}
use Rattle.bt_check.specs.Walks.{IsHigh}
use Rattle.bt_check.proofs.Mapped.{if_err_handed, mapped}
use Rattle.bt_check.proofs.Verdicts.{breaks_at, seen_as, leaves_broken, tree_stands}
use Rattle.bt_check.proofs.checking.measure_tree.Goals as goal

pub see_all-requires : goal.see_all-requires
see_all-requires g c = ready_reads g.R.S.Space (In g.R.S.Space g.R.Records.file_of g.R.Records.holds) _ _ _ _ c.check_pages.ensures.looks.reads c.requires

pub returns-in_err-walked-clause-broken : goal.returns-in_err-walked-clause-broken
returns-in_err-walked-clause-broken g c =
    let breaks = λ (h : TreeHead) (e : OpenErr). Breaks (before_by g.O.Order.cmp) h c.args.index (g.R.Records.file_of c.args.store.now) (In g.R.S.Space g.R.Records.file_of g.R.Records.holds c.args.store.now c.args.space.now) e in
    if_err_handed c.from_residual.result c.in_err-walked.field-0.0 (breaks (head_of (g.R.Records.region c.args.store.now))) c.from_residual.ensures.1
    (subst (λ (h : TreeHead). breaks h c.in_err-walked.field-0.0) (c.read-head.ensures ∙ ap head_of c.opaque.ensures) (c.in_err-walked.ensures.broken (before_by g.O.Order.cmp)))

pub returns-in-None-clause-stands : goal.returns-in-None-clause-stands
returns-in-None-clause-stands g c = λ m i.
    let before = before_by g.O.Order.cmp in
    let p = c.in_ok-walked.ensures.ok m i in
    let sees = mapped _ c.see_all.result c.in_ok-seen.seen c.in_ok-seen.ensures.cases c.see_all.ensures.seen m (c.check_pages.ensures.looks.reads.means m i) in
    let v = sees c.read-head.result p.0.pages p.0.held p.1.placed in
    subst (λ (h : TreeHead). (s : TreeStands before h c.args.index (get m)) × IsHigh s.stand.pages h.root c.in_ok-walked.walked.height) (c.read-head.ensures ∙ ap head_of c.opaque.ensures)
    (tree_stands before c.read-head.result c.args.index (get m) p.0 c.in_ok-walked.walked.height (c.in-None.ensures before (leaves_of p.0) (seen_as before c.read-head.result c.args.index (get m) p.0 c.in_ok-walked.walked _ p.1 v)) p.1.high)

pub returns-clause-broken : goal.returns-clause-broken
returns-clause-broken g c =
    let before = before_by g.O.Order.cmp in
    subst (λ (h : TreeHead). Breaks before h c.args.index (g.R.Records.file_of c.args.store.now) (In g.R.S.Space g.R.Records.file_of g.R.Records.holds c.args.store.now c.args.space.now) c.broken.result) (c.read-head.ensures ∙ ap head_of c.opaque.ensures)
    (breaks_at before c.read-head.result c.args.index _ _ c.broken.result c.file-file.result c.in-Some.number c.broken.ensures c.file-file.ensures (λ m i.
    let p = c.in_ok-walked.ensures.ok m i in
    let sees = mapped _ c.see_all.result c.in_ok-seen.seen c.in_ok-seen.ensures.cases c.see_all.ensures.seen m (c.check_pages.ensures.looks.reads.means m i) in
    let v = sees c.read-head.result p.0.pages p.0.held p.1.placed in
    leaves_broken before c.read-head.result c.args.index (get m) _ p.0 (c.in-Some.ensures before (leaves_of p.0) (seen_as before c.read-head.result c.args.index (get m) p.0 c.in_ok-walked.walked _ p.1 v))))
