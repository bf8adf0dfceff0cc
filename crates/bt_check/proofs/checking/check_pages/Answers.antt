use Rattle.std.specs.FinMap.{get}
use Rattle.tc_space.specs.Frames.{In}
use Rattle.tc_space.specs.Stores.{ready_reads}
use Rattle.bt_check.proofs.Mapped.{mapped}
use Rattle.bt_check.proofs.Verdicts.{breaks_at, third_broken, fourth_broken, fifth_broken, pages_stand}
use Rattle.bt_check.proofs.checking.check_pages.Goals as goal

pub walk-requires : goal.walk-requires
walk-requires g c = ready_reads g.R.S.Space (In g.R.S.Space g.R.Records.file_of g.R.Records.holds) _ _ _ _ c.gather.ensures.looks.reads c.requires

pub returns-in_default-clause-broken : goal.returns-in_default-clause-broken
returns-in_default-clause-broken g c = λ before. breaks_at before c.args.head.now c.args.index _ _ c.broken.result c.file-file.result 3 c.broken.ensures c.file-file.ensures
    (λ m i.
    let walks = mapped _ c.walk.result c.in_ok-walked.walked c.in_ok-walked.ensures.cases c.walk.ensures.walked m (c.gather.ensures.looks.reads.means m i) in
    third_broken c.args.head.now c.args.index (get m) c.in_ok-collected.collected.ids c.in_ok-collected.collected.within c.in_ok-collected.ensures.head (c.in_ok-collected.ensures.ok m i) before
    (λ h pages a all. rw c.in_default.is at (walks h pages a all)))

pub returns-then-walked-clause-broken : goal.returns-then-walked-clause-broken
returns-then-walked-clause-broken g c = λ before. breaks_at before c.args.head.now c.args.index _ _ c.broken-then-walked.result c.file-file.result 4 c.broken-then-walked.ensures c.file-file.ensures
    (λ m i.
    let walks = mapped _ c.walk.result c.in_ok-walked.walked c.in_ok-walked.ensures.cases c.walk.ensures.walked m (c.gather.ensures.looks.reads.means m i) in
    fourth_broken c.args.head.now c.args.index (get m) c.in_ok-collected.collected.ids c.in_ok-collected.collected.within c.in_ok-collected.ensures.head (c.in_ok-collected.ensures.ok m i) before c.in-Some.walked
    (λ h pages a all. rw c.in-Some.is at (walks h pages a all)) c.if-walked.true)

pub returns-then-not-within-clause-broken : goal.returns-then-not-within-clause-broken
returns-then-not-within-clause-broken g c = λ before. breaks_at before c.args.head.now c.args.index _ _ c.broken-then-not-within.result c.file-file.result 5 c.broken-then-not-within.ensures c.file-file.ensures
    (λ m i.
    let walks = mapped _ c.walk.result c.in_ok-walked.walked c.in_ok-walked.ensures.cases c.walk.ensures.walked m (c.gather.ensures.looks.reads.means m i) in
    fifth_broken c.args.head.now c.args.index (get m) c.in_ok-collected.collected.ids c.in_ok-collected.collected.within c.in_ok-collected.ensures.head (c.in_ok-collected.ensures.ok m i) before c.in-Some.walked
    (λ h pages a all. rw c.in-Some.is at (walks h pages a all)) c.if-walked.false c.if-not-within.true)

pub returns-clause-ok : goal.returns-clause-ok
returns-clause-ok g c = λ m i.
    let walks = mapped _ c.walk.result c.in_ok-walked.walked c.in_ok-walked.ensures.cases c.walk.ensures.walked m (c.gather.ensures.looks.reads.means m i) in
    pages_stand c.args.head.now c.args.index (get m) c.in_ok-collected.collected.ids c.in_ok-collected.collected.within c.in_ok-collected.ensures.head (c.in_ok-collected.ensures.ok m i) c.in-Some.walked
    (λ h pages a all. rw c.in-Some.is at (walks h pages a all)) c.if-walked.false c.if-not-within.false
