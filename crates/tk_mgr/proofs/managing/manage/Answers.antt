use Rattle.std.proofs.Common.{refl, ap}
use Rattle.std.specs.Prelude.{Some, None, []}
use Rattle.tc_base.specs.declared.request.Request.TheVariants as request
use Rattle.tk_mgr.specs.declared.task.Task.TheVariants as task
use Rattle.ty_base.specs.Holding.{Laid, no_layout}
use Rattle.tk_mgr.specs.Managing.{FormedFrom, writes_files}
use Rattle.tk_mgr.specs.Tasks.{find_request, index_request, maximum_of, out_request, put_request}
use Rattle.tk_mgr.proofs.Replies.{find_idle}
use Rattle.tk_mgr.proofs.Ends.{carries_manages, laid_as, shows_manages, manages_as, idle_stays, fills_as, fills_asked, fills_before, not_both, packs_as, packs_large}
use Rattle.tk_mgr.proofs.managing.manage.Goals as goal

pub returns-in-Put-clause-managed : goal.returns-in-Put-clause-managed
returns-in-Put-clause-managed g c =
    manages_as g.B.S.Space g.B.Storage.reopens g.O.Sink g.B.Storage.holds g.B.Storage.lines _ (task.Put c.in-Put.word c.in-Put.key c.in-Put.value) _ _ _ _ _ _ c.in-Put.is
    (carries_manages g.B.S.Space g.B.Storage.reopens g.O.Sink g.B.Storage.holds g.B.Storage.lines (task.Put c.in-Put.word c.in-Put.key c.in-Put.value) (Some (put_request c.in-Put.word c.in-Put.key c.in-Put.value)) _ _ _ _ _ (λ d. refl) (λ d. refl) (λ f d. refl) c.put.ensures.carries)

pub returns-in-Out-clause-managed : goal.returns-in-Out-clause-managed
returns-in-Out-clause-managed g c =
    manages_as g.B.S.Space g.B.Storage.reopens g.O.Sink g.B.Storage.holds g.B.Storage.lines _ (task.Out c.in-Out.key) _ _ _ _ _ _ c.in-Out.is
    (carries_manages g.B.S.Space g.B.Storage.reopens g.O.Sink g.B.Storage.holds g.B.Storage.lines (task.Out c.in-Out.key) (Some (request.Out c.in-Out.key)) _ _ _ _ _ (λ d. refl) (λ d. refl) (λ f d. refl) c.take_out.ensures.carries)

pub returns-in-Optimize-clause-managed : goal.returns-in-Optimize-clause-managed
returns-in-Optimize-clause-managed g c =
    manages_as g.B.S.Space g.B.Storage.reopens g.O.Sink g.B.Storage.holds g.B.Storage.lines _ (task.Optimize c.in-Optimize.large) _ _ _ _ _ _ c.in-Optimize.is
    (carries_manages g.B.S.Space g.B.Storage.reopens g.O.Sink g.B.Storage.holds g.B.Storage.lines (task.Optimize c.in-Optimize.large) None _ _ _ _ _ (λ d. refl) (λ d. refl) (λ f d. refl) c.optimize.ensures.carries)

pub returns-in-Get-clause-managed : goal.returns-in-Get-clause-managed
returns-in-Get-clause-managed g c =
    manages_as g.B.S.Space g.B.Storage.reopens g.O.Sink g.B.Storage.holds g.B.Storage.lines _ (task.Get c.in-Get.key) _ _ _ _ _ _ c.in-Get.is
    (shows_manages g.B.S.Space g.B.Storage.reopens g.O.Sink g.B.Storage.holds g.B.Storage.lines (task.Get c.in-Get.key) _ _ _ _ _ _ (λ d. idle_stays (request.Get c.in-Get.key) d (record { updates_none = refl; packs_none = refl }))
    (record { sound = c.requires.may.sound; only = λ o t l. g.met.B.S.Space.only_kept c.args.space.now o t c.requires.may.sound l; clean = λ t. g.met.B.S.Space.clean c.args.space.now t c.requires.may.sound c.requires.may.untouched })
    (λ t u o le l. g.met.B.S.Space.earlier c.get.new.space t u o le l) c.get.ensures.keeps c.get.ensures.shows)

pub returns-in-List-clause-managed : goal.returns-in-List-clause-managed
returns-in-List-clause-managed g c =
    manages_as g.B.S.Space g.B.Storage.reopens g.O.Sink g.B.Storage.holds g.B.Storage.lines _ (task.List c.in-List.maximum c.in-List.values) _ _ _ _ _ _ c.in-List.is
    (shows_manages g.B.S.Space g.B.Storage.reopens g.O.Sink g.B.Storage.holds g.B.Storage.lines (task.List c.in-List.maximum c.in-List.values) _ _ _ _ _ _ (λ d. idle_stays (request.FwmKeys [] (maximum_of c.in-List.maximum)) d (record { updates_none = refl; packs_none = refl }))
    (record { sound = c.requires.may.sound; only = λ o t l. g.met.B.S.Space.only_kept c.args.space.now o t c.requires.may.sound l; clean = λ t. g.met.B.S.Space.clean c.args.space.now t c.requires.may.sound c.requires.may.untouched })
    (λ t u o le l. g.met.B.S.Space.earlier c.list.new.space t u o le l) c.list.ensures.keeps c.list.ensures.shows)

pub returns-in-SetIndex-clause-managed : goal.returns-in-SetIndex-clause-managed
returns-in-SetIndex-clause-managed g c =
    manages_as g.B.S.Space g.B.Storage.reopens g.O.Sink g.B.Storage.holds g.B.Storage.lines _ (task.SetIndex c.in-SetIndex.column c.in-SetIndex.code) _ _ _ _ _ _ c.in-SetIndex.is
    (carries_manages g.B.S.Space g.B.Storage.reopens g.O.Sink g.B.Storage.holds g.B.Storage.lines (task.SetIndex c.in-SetIndex.column c.in-SetIndex.code) (Some (index_request c.in-SetIndex.column c.in-SetIndex.code)) _ _ _ _ _ (λ d. refl) (λ d. refl) (λ f d. refl) c.set_index.ensures.carries)

pub returns-in-SearchOut-clause-managed : goal.returns-in-SearchOut-clause-managed
returns-in-SearchOut-clause-managed g c =
    manages_as g.B.S.Space g.B.Storage.reopens g.O.Sink g.B.Storage.holds g.B.Storage.lines _ (task.SearchOut c.in-SearchOut.wanted) _ _ _ _ _ _ c.in-SearchOut.is
    (carries_manages g.B.S.Space g.B.Storage.reopens g.O.Sink g.B.Storage.holds g.B.Storage.lines (task.SearchOut c.in-SearchOut.wanted) (Some (out_request c.in-SearchOut.wanted)) _ _ _ _ _ (λ d. refl) (λ d. refl) (λ f d. refl) c.search_out.ensures.carries)

pub returns-in-Search-clause-managed : goal.returns-in-Search-clause-managed
returns-in-Search-clause-managed g c =
    manages_as g.B.S.Space g.B.Storage.reopens g.O.Sink g.B.Storage.holds g.B.Storage.lines _ (task.Search c.in-Search.wanted c.in-Search.values) _ _ _ _ _ _ c.in-Search.is
    (shows_manages g.B.S.Space g.B.Storage.reopens g.O.Sink g.B.Storage.holds g.B.Storage.lines (task.Search c.in-Search.wanted c.in-Search.values) _ _ _ _ _ _ (λ d. idle_stays (find_request c.in-Search.wanted) d (find_idle c.in-Search.wanted))
    (record { sound = c.requires.may.sound; only = λ o t l. g.met.B.S.Space.only_kept c.args.space.now o t c.requires.may.sound l; clean = λ t. g.met.B.S.Space.clean c.args.space.now t c.requires.may.sound c.requires.may.untouched })
    (λ t u o le l. g.met.B.S.Space.earlier c.search.new.space t u o le l) c.search.ensures.keeps c.search.ensures.shows)

pub returns-in-Inform-clause-managed : goal.returns-in-Inform-clause-managed
returns-in-Inform-clause-managed g c =
    manages_as g.B.S.Space g.B.Storage.reopens g.O.Sink g.B.Storage.holds g.B.Storage.lines _ task.Inform _ _ _ _ _ _ c.in-Inform.is
    (shows_manages g.B.S.Space g.B.Storage.reopens g.O.Sink g.B.Storage.holds g.B.Storage.lines task.Inform _ _ _ _ _ _ (λ d. refl)
    (record { sound = c.requires.may.sound; only = λ o t l. g.met.B.S.Space.only_kept c.args.space.now o t c.requires.may.sound l; clean = λ t. g.met.B.S.Space.clean c.args.space.now t c.requires.may.sound c.requires.may.untouched })
    (λ t u o le l. g.met.B.S.Space.earlier c.inform.new.space t u o le l) c.inform.ensures.keeps c.inform.ensures.shows)

-- ---- files packed

pub returns-in-Put-clause-packs : goal.returns-in-Put-clause-packs
returns-in-Put-clause-packs g c = λ m h. packs_as g.B.S.Space g.B.Storage.reopens (g.B.Storage.packed (g.B.S.Space.now c.args.space.now)) _ (task.Put c.in-Put.word c.in-Put.key c.in-Put.value) _ _ c.in-Put.is (λ f is. absurd cc)

pub returns-in-Out-clause-packs : goal.returns-in-Out-clause-packs
returns-in-Out-clause-packs g c = λ m h. packs_as g.B.S.Space g.B.Storage.reopens (g.B.Storage.packed (g.B.S.Space.now c.args.space.now)) _ (task.Out c.in-Out.key) _ _ c.in-Out.is (λ f is. absurd cc)

pub returns-in-Get-clause-packs : goal.returns-in-Get-clause-packs
returns-in-Get-clause-packs g c = λ m h. packs_as g.B.S.Space g.B.Storage.reopens (g.B.Storage.packed (g.B.S.Space.now c.args.space.now)) _ (task.Get c.in-Get.key) _ _ c.in-Get.is (λ f is. absurd cc)

pub returns-in-List-clause-packs : goal.returns-in-List-clause-packs
returns-in-List-clause-packs g c = λ m h. packs_as g.B.S.Space g.B.Storage.reopens (g.B.Storage.packed (g.B.S.Space.now c.args.space.now)) _ (task.List c.in-List.maximum c.in-List.values) _ _ c.in-List.is (λ f is. absurd cc)

pub returns-in-SetIndex-clause-packs : goal.returns-in-SetIndex-clause-packs
returns-in-SetIndex-clause-packs g c = λ m h. packs_as g.B.S.Space g.B.Storage.reopens (g.B.Storage.packed (g.B.S.Space.now c.args.space.now)) _ (task.SetIndex c.in-SetIndex.column c.in-SetIndex.code) _ _ c.in-SetIndex.is (λ f is. absurd cc)

pub returns-in-SearchOut-clause-packs : goal.returns-in-SearchOut-clause-packs
returns-in-SearchOut-clause-packs g c = λ m h. packs_as g.B.S.Space g.B.Storage.reopens (g.B.Storage.packed (g.B.S.Space.now c.args.space.now)) _ (task.SearchOut c.in-SearchOut.wanted) _ _ c.in-SearchOut.is (λ f is. absurd cc)

pub returns-in-Search-clause-packs : goal.returns-in-Search-clause-packs
returns-in-Search-clause-packs g c = λ m h. packs_as g.B.S.Space g.B.Storage.reopens (g.B.Storage.packed (g.B.S.Space.now c.args.space.now)) _ (task.Search c.in-Search.wanted c.in-Search.values) _ _ c.in-Search.is (λ f is. absurd cc)

pub returns-in-Inform-clause-packs : goal.returns-in-Inform-clause-packs
returns-in-Inform-clause-packs g c = λ m h. packs_as g.B.S.Space g.B.Storage.reopens (g.B.Storage.packed (g.B.S.Space.now c.args.space.now)) _ task.Inform _ _ c.in-Inform.is (λ f is. absurd cc)

pub returns-in-Drill-clause-packs : goal.returns-in-Drill-clause-packs
returns-in-Drill-clause-packs g c = λ m h. packs_as g.B.S.Space g.B.Storage.reopens (g.B.Storage.packed (g.B.S.Space.now c.args.space.now)) _ (task.Drill c.in-Drill.seed c.in-Drill.count) _ _ c.in-Drill.is (λ f is. absurd cc)

pub returns-in-Optimize-clause-packs : goal.returns-in-Optimize-clause-packs
returns-in-Optimize-clause-packs g c = λ m h. packs_as g.B.S.Space g.B.Storage.reopens (g.B.Storage.packed (g.B.S.Space.now c.args.space.now)) _ (task.Optimize c.in-Optimize.large) _ _ c.in-Optimize.is (c.optimize.ensures.packs m h)

-- ---- which may write files

pub returns-in-Put-clause-writes : goal.returns-in-Put-clause-writes
returns-in-Put-clause-writes g c = λ full. ap writes_files c.in-Put.is

pub returns-in-Out-clause-writes : goal.returns-in-Out-clause-writes
returns-in-Out-clause-writes g c = λ full. ap writes_files c.in-Out.is

pub returns-in-Optimize-clause-writes : goal.returns-in-Optimize-clause-writes
returns-in-Optimize-clause-writes g c = λ full. ap writes_files c.in-Optimize.is

pub returns-in-Drill-clause-writes : goal.returns-in-Drill-clause-writes
returns-in-Drill-clause-writes g c = λ full. ap writes_files c.in-Drill.is

pub returns-in-Get-clause-writes : goal.returns-in-Get-clause-writes
returns-in-Get-clause-writes g c = λ full. absurd (c.get.ensures.not_full full)

pub returns-in-List-clause-writes : goal.returns-in-List-clause-writes
returns-in-List-clause-writes g c = λ full. absurd (c.list.ensures.not_full full)

pub returns-in-SetIndex-clause-writes : goal.returns-in-SetIndex-clause-writes
returns-in-SetIndex-clause-writes g c = λ full. ap writes_files c.in-SetIndex.is

pub returns-in-SearchOut-clause-writes : goal.returns-in-SearchOut-clause-writes
returns-in-SearchOut-clause-writes g c = λ full. ap writes_files c.in-SearchOut.is

pub returns-in-Search-clause-writes : goal.returns-in-Search-clause-writes
returns-in-Search-clause-writes g c = λ full. absurd (c.search.ensures.not_full full)

pub returns-in-Inform-clause-writes : goal.returns-in-Inform-clause-writes
returns-in-Inform-clause-writes g c = λ full. absurd (c.inform.ensures.not_full full)

-- ---- which only read

pub returns-in-Get-clause-reads : goal.returns-in-Get-clause-reads
returns-in-Get-clause-reads g c = λ reads. c.get.ensures.keeps

pub returns-in-List-clause-reads : goal.returns-in-List-clause-reads
returns-in-List-clause-reads g c = λ reads. c.list.ensures.keeps

pub returns-in-SetIndex-clause-reads : goal.returns-in-SetIndex-clause-reads
returns-in-SetIndex-clause-reads g c = λ reads. absurd (not_both (ap writes_files c.in-SetIndex.is) reads)

pub returns-in-SearchOut-clause-reads : goal.returns-in-SearchOut-clause-reads
returns-in-SearchOut-clause-reads g c = λ reads. absurd (not_both (ap writes_files c.in-SearchOut.is) reads)

pub returns-in-Search-clause-reads : goal.returns-in-Search-clause-reads
returns-in-Search-clause-reads g c = λ reads. c.search.ensures.keeps

pub returns-in-Inform-clause-reads : goal.returns-in-Inform-clause-reads
returns-in-Inform-clause-reads g c = λ reads. c.inform.ensures.keeps

pub returns-in-Put-clause-reads : goal.returns-in-Put-clause-reads
returns-in-Put-clause-reads g c = λ reads. absurd (not_both (ap writes_files c.in-Put.is) reads)

pub returns-in-Out-clause-reads : goal.returns-in-Out-clause-reads
returns-in-Out-clause-reads g c = λ reads. absurd (not_both (ap writes_files c.in-Out.is) reads)

pub returns-in-Optimize-clause-reads : goal.returns-in-Optimize-clause-reads
returns-in-Optimize-clause-reads g c = λ reads. absurd (not_both (ap writes_files c.in-Optimize.is) reads)

pub returns-in-Drill-clause-reads : goal.returns-in-Drill-clause-reads
returns-in-Drill-clause-reads g c = λ reads. absurd (not_both (ap writes_files c.in-Drill.is) reads)

-- ---- limits

pub returns-in-Put-clause-full : goal.returns-in-Put-clause-full
returns-in-Put-clause-full g c = λ is m h. fills_as _ (g.B.Storage.fills_since c.args.space.now c.put.new.space) _ _ (task.Put c.in-Put.word c.in-Put.key c.in-Put.value) m.contents c.in-Put.is
    (fills_asked _ (g.B.Storage.fills_since c.args.space.now c.put.new.space) _ (task.Put c.in-Put.word c.in-Put.key c.in-Put.value) (Some (put_request c.in-Put.word c.in-Put.key c.in-Put.value)) m.contents refl refl refl (c.put.ensures.full is m.contents h.has.held))

pub returns-in-Out-clause-full : goal.returns-in-Out-clause-full
returns-in-Out-clause-full g c = λ is m h. fills_as _ (g.B.Storage.fills_since c.args.space.now c.take_out.new.space) _ _ (task.Out c.in-Out.key) m.contents c.in-Out.is
    (fills_asked _ (g.B.Storage.fills_since c.args.space.now c.take_out.new.space) _ (task.Out c.in-Out.key) (Some (request.Out c.in-Out.key)) m.contents refl refl refl (c.take_out.ensures.full is m.contents h.has.held))

pub returns-in-Optimize-clause-full : goal.returns-in-Optimize-clause-full
returns-in-Optimize-clause-full g c = λ is m h. fills_as _ (g.B.Storage.fills_since c.args.space.now c.optimize.new.space) _ _ (task.Optimize c.in-Optimize.large) m.contents c.in-Optimize.is
    (fills_before _ (g.B.Storage.fills_since c.args.space.now c.optimize.new.space) _ (task.Optimize c.in-Optimize.large) m.contents refl (packs_large _ (g.B.Storage.lacks_large c.args.space.now c.optimize.new.space) c.in-Optimize.large m.contents (c.optimize.ensures.full is m.contents h.has.held)))

pub returns-in-Get-clause-full : goal.returns-in-Get-clause-full
returns-in-Get-clause-full g c = λ is m h. absurd (c.get.ensures.not_full is)

pub returns-in-List-clause-full : goal.returns-in-List-clause-full
returns-in-List-clause-full g c = λ is m h. absurd (c.list.ensures.not_full is)

pub returns-in-SetIndex-clause-full : goal.returns-in-SetIndex-clause-full
returns-in-SetIndex-clause-full g c = λ is m h. fills_as _ (g.B.Storage.fills_since c.args.space.now c.set_index.new.space) _ _ (task.SetIndex c.in-SetIndex.column c.in-SetIndex.code) m.contents c.in-SetIndex.is
    (fills_asked _ (g.B.Storage.fills_since c.args.space.now c.set_index.new.space) _ (task.SetIndex c.in-SetIndex.column c.in-SetIndex.code) (Some (index_request c.in-SetIndex.column c.in-SetIndex.code)) m.contents refl refl refl (c.set_index.ensures.full is m.contents h.has.held))

pub returns-in-SearchOut-clause-full : goal.returns-in-SearchOut-clause-full
returns-in-SearchOut-clause-full g c = λ is m h. fills_as _ (g.B.Storage.fills_since c.args.space.now c.search_out.new.space) _ _ (task.SearchOut c.in-SearchOut.wanted) m.contents c.in-SearchOut.is
    (fills_asked _ (g.B.Storage.fills_since c.args.space.now c.search_out.new.space) _ (task.SearchOut c.in-SearchOut.wanted) (Some (out_request c.in-SearchOut.wanted)) m.contents refl refl refl (c.search_out.ensures.full is m.contents h.has.held))

pub returns-in-Search-clause-full : goal.returns-in-Search-clause-full
returns-in-Search-clause-full g c = λ is m h. absurd (c.search.ensures.not_full is)

pub returns-in-Inform-clause-full : goal.returns-in-Inform-clause-full
returns-in-Inform-clause-full g c = λ is m h. absurd (c.inform.ensures.not_full is)

-- ---- and their numbers

pub returns-in-Put-clause-formed : goal.returns-in-Put-clause-formed
returns-in-Put-clause-formed g c = λ m h. packs_as g.B.S.Space g.B.Storage.reopens (FormedFrom g.B.Storage.layout (g.B.S.Space.now c.args.space.now)) _ (task.Put c.in-Put.word c.in-Put.key c.in-Put.value) _ _ c.in-Put.is (λ f is. absurd cc)

pub returns-in-Out-clause-formed : goal.returns-in-Out-clause-formed
returns-in-Out-clause-formed g c = λ m h. packs_as g.B.S.Space g.B.Storage.reopens (FormedFrom g.B.Storage.layout (g.B.S.Space.now c.args.space.now)) _ (task.Out c.in-Out.key) _ _ c.in-Out.is (λ f is. absurd cc)

pub returns-in-Get-clause-formed : goal.returns-in-Get-clause-formed
returns-in-Get-clause-formed g c = λ m h. packs_as g.B.S.Space g.B.Storage.reopens (FormedFrom g.B.Storage.layout (g.B.S.Space.now c.args.space.now)) _ (task.Get c.in-Get.key) _ _ c.in-Get.is (λ f is. absurd cc)

pub returns-in-List-clause-formed : goal.returns-in-List-clause-formed
returns-in-List-clause-formed g c = λ m h. packs_as g.B.S.Space g.B.Storage.reopens (FormedFrom g.B.Storage.layout (g.B.S.Space.now c.args.space.now)) _ (task.List c.in-List.maximum c.in-List.values) _ _ c.in-List.is (λ f is. absurd cc)

pub returns-in-SetIndex-clause-formed : goal.returns-in-SetIndex-clause-formed
returns-in-SetIndex-clause-formed g c = λ m h. packs_as g.B.S.Space g.B.Storage.reopens (FormedFrom g.B.Storage.layout (g.B.S.Space.now c.args.space.now)) _ (task.SetIndex c.in-SetIndex.column c.in-SetIndex.code) _ _ c.in-SetIndex.is (λ f is. absurd cc)

pub returns-in-SearchOut-clause-formed : goal.returns-in-SearchOut-clause-formed
returns-in-SearchOut-clause-formed g c = λ m h. packs_as g.B.S.Space g.B.Storage.reopens (FormedFrom g.B.Storage.layout (g.B.S.Space.now c.args.space.now)) _ (task.SearchOut c.in-SearchOut.wanted) _ _ c.in-SearchOut.is (λ f is. absurd cc)

pub returns-in-Search-clause-formed : goal.returns-in-Search-clause-formed
returns-in-Search-clause-formed g c = λ m h. packs_as g.B.S.Space g.B.Storage.reopens (FormedFrom g.B.Storage.layout (g.B.S.Space.now c.args.space.now)) _ (task.Search c.in-Search.wanted c.in-Search.values) _ _ c.in-Search.is (λ f is. absurd cc)

pub returns-in-Inform-clause-formed : goal.returns-in-Inform-clause-formed
returns-in-Inform-clause-formed g c = λ m h. packs_as g.B.S.Space g.B.Storage.reopens (FormedFrom g.B.Storage.layout (g.B.S.Space.now c.args.space.now)) _ task.Inform _ _ c.in-Inform.is (λ f is. absurd cc)

pub returns-in-Drill-clause-formed : goal.returns-in-Drill-clause-formed
returns-in-Drill-clause-formed g c = λ m h. packs_as g.B.S.Space g.B.Storage.reopens (FormedFrom g.B.Storage.layout (g.B.S.Space.now c.args.space.now)) _ (task.Drill c.in-Drill.seed c.in-Drill.count) _ _ c.in-Drill.is (λ f is. absurd cc)

pub returns-in-Optimize-clause-formed : goal.returns-in-Optimize-clause-formed
returns-in-Optimize-clause-formed g c = λ m h. packs_as g.B.S.Space g.B.Storage.reopens (FormedFrom g.B.Storage.layout (g.B.S.Space.now c.args.space.now)) _ (task.Optimize c.in-Optimize.large) _ _ c.in-Optimize.is (c.optimize.ensures.formed m h)

-- ---- laid out like what was there

pub returns-in-Put-clause-laid : goal.returns-in-Put-clause-laid
returns-in-Put-clause-laid g c = λ l.
    laid_as g.B.S.Space g.B.Storage.reopens g.O.Sink g.B.Storage.holds g.B.Storage.lines g.B.Storage.own g.B.Storage.layout l _ (task.Put c.in-Put.word c.in-Put.key c.in-Put.value) _ _ _ _ _ _ c.in-Put.is
    (carries_manages g.B.S.Space (Laid g.B.Storage.own g.B.Storage.layout l g.B.Storage.reopens) g.O.Sink g.B.Storage.holds g.B.Storage.lines (task.Put c.in-Put.word c.in-Put.key c.in-Put.value) (Some (put_request c.in-Put.word c.in-Put.key c.in-Put.value)) _ _ _ _ _ (λ d. refl) (λ d. refl) (λ f d. refl) (c.put.ensures.laid l))

pub returns-in-Out-clause-laid : goal.returns-in-Out-clause-laid
returns-in-Out-clause-laid g c = λ l.
    laid_as g.B.S.Space g.B.Storage.reopens g.O.Sink g.B.Storage.holds g.B.Storage.lines g.B.Storage.own g.B.Storage.layout l _ (task.Out c.in-Out.key) _ _ _ _ _ _ c.in-Out.is
    (carries_manages g.B.S.Space (Laid g.B.Storage.own g.B.Storage.layout l g.B.Storage.reopens) g.O.Sink g.B.Storage.holds g.B.Storage.lines (task.Out c.in-Out.key) (Some (request.Out c.in-Out.key)) _ _ _ _ _ (λ d. refl) (λ d. refl) (λ f d. refl) (c.take_out.ensures.laid l))

pub returns-in-Optimize-clause-laid : goal.returns-in-Optimize-clause-laid
returns-in-Optimize-clause-laid g c = λ l.
    laid_as g.B.S.Space g.B.Storage.reopens g.O.Sink g.B.Storage.holds g.B.Storage.lines g.B.Storage.own g.B.Storage.layout l _ (task.Optimize c.in-Optimize.large) _ _ _ _ _ _ c.in-Optimize.is
    (carries_manages g.B.S.Space (Laid g.B.Storage.own no_layout l g.B.Storage.reopens) g.O.Sink g.B.Storage.holds g.B.Storage.lines (task.Optimize c.in-Optimize.large) None _ _ _ _ _ (λ d. refl) (λ d. refl) (λ f d. refl) (c.optimize.ensures.laid l))

pub returns-in-Get-clause-laid : goal.returns-in-Get-clause-laid
returns-in-Get-clause-laid g c = λ l.
    laid_as g.B.S.Space g.B.Storage.reopens g.O.Sink g.B.Storage.holds g.B.Storage.lines g.B.Storage.own g.B.Storage.layout l _ (task.Get c.in-Get.key) _ _ _ _ _ _ c.in-Get.is
    (shows_manages g.B.S.Space (Laid g.B.Storage.own g.B.Storage.layout l g.B.Storage.reopens) g.O.Sink g.B.Storage.holds g.B.Storage.lines (task.Get c.in-Get.key) _ _ _ _ _ _ (λ d. idle_stays (request.Get c.in-Get.key) d (record { updates_none = refl; packs_none = refl }))
    (record { sound = c.requires.may.sound; only = λ o t x. g.met.B.S.Space.only_kept c.args.space.now o t c.requires.may.sound x; clean = λ t. g.met.B.S.Space.clean c.args.space.now t c.requires.may.sound c.requires.may.untouched })
    (λ t u o le x. g.met.B.S.Space.earlier c.get.new.space t u o le x) c.get.ensures.keeps c.get.ensures.shows)

pub returns-in-List-clause-laid : goal.returns-in-List-clause-laid
returns-in-List-clause-laid g c = λ l.
    laid_as g.B.S.Space g.B.Storage.reopens g.O.Sink g.B.Storage.holds g.B.Storage.lines g.B.Storage.own g.B.Storage.layout l _ (task.List c.in-List.maximum c.in-List.values) _ _ _ _ _ _ c.in-List.is
    (shows_manages g.B.S.Space (Laid g.B.Storage.own g.B.Storage.layout l g.B.Storage.reopens) g.O.Sink g.B.Storage.holds g.B.Storage.lines (task.List c.in-List.maximum c.in-List.values) _ _ _ _ _ _ (λ d. idle_stays (request.FwmKeys [] (maximum_of c.in-List.maximum)) d (record { updates_none = refl; packs_none = refl }))
    (record { sound = c.requires.may.sound; only = λ o t x. g.met.B.S.Space.only_kept c.args.space.now o t c.requires.may.sound x; clean = λ t. g.met.B.S.Space.clean c.args.space.now t c.requires.may.sound c.requires.may.untouched })
    (λ t u o le x. g.met.B.S.Space.earlier c.list.new.space t u o le x) c.list.ensures.keeps c.list.ensures.shows)

pub returns-in-SetIndex-clause-laid : goal.returns-in-SetIndex-clause-laid
returns-in-SetIndex-clause-laid g c = λ l.
    laid_as g.B.S.Space g.B.Storage.reopens g.O.Sink g.B.Storage.holds g.B.Storage.lines g.B.Storage.own g.B.Storage.layout l _ (task.SetIndex c.in-SetIndex.column c.in-SetIndex.code) _ _ _ _ _ _ c.in-SetIndex.is
    (carries_manages g.B.S.Space (Laid g.B.Storage.own g.B.Storage.layout l g.B.Storage.reopens) g.O.Sink g.B.Storage.holds g.B.Storage.lines (task.SetIndex c.in-SetIndex.column c.in-SetIndex.code) (Some (index_request c.in-SetIndex.column c.in-SetIndex.code)) _ _ _ _ _ (λ d. refl) (λ d. refl) (λ f d. refl) (c.set_index.ensures.laid l))

pub returns-in-SearchOut-clause-laid : goal.returns-in-SearchOut-clause-laid
returns-in-SearchOut-clause-laid g c = λ l.
    laid_as g.B.S.Space g.B.Storage.reopens g.O.Sink g.B.Storage.holds g.B.Storage.lines g.B.Storage.own g.B.Storage.layout l _ (task.SearchOut c.in-SearchOut.wanted) _ _ _ _ _ _ c.in-SearchOut.is
    (carries_manages g.B.S.Space (Laid g.B.Storage.own g.B.Storage.layout l g.B.Storage.reopens) g.O.Sink g.B.Storage.holds g.B.Storage.lines (task.SearchOut c.in-SearchOut.wanted) (Some (out_request c.in-SearchOut.wanted)) _ _ _ _ _ (λ d. refl) (λ d. refl) (λ f d. refl) (c.search_out.ensures.laid l))

pub returns-in-Search-clause-laid : goal.returns-in-Search-clause-laid
returns-in-Search-clause-laid g c = λ l.
    laid_as g.B.S.Space g.B.Storage.reopens g.O.Sink g.B.Storage.holds g.B.Storage.lines g.B.Storage.own g.B.Storage.layout l _ (task.Search c.in-Search.wanted c.in-Search.values) _ _ _ _ _ _ c.in-Search.is
    (shows_manages g.B.S.Space (Laid g.B.Storage.own g.B.Storage.layout l g.B.Storage.reopens) g.O.Sink g.B.Storage.holds g.B.Storage.lines (task.Search c.in-Search.wanted c.in-Search.values) _ _ _ _ _ _ (λ d. idle_stays (find_request c.in-Search.wanted) d (find_idle c.in-Search.wanted))
    (record { sound = c.requires.may.sound; only = λ o t x. g.met.B.S.Space.only_kept c.args.space.now o t c.requires.may.sound x; clean = λ t. g.met.B.S.Space.clean c.args.space.now t c.requires.may.sound c.requires.may.untouched })
    (λ t u o le x. g.met.B.S.Space.earlier c.search.new.space t u o le x) c.search.ensures.keeps c.search.ensures.shows)

pub returns-in-Inform-clause-laid : goal.returns-in-Inform-clause-laid
returns-in-Inform-clause-laid g c = λ l.
    laid_as g.B.S.Space g.B.Storage.reopens g.O.Sink g.B.Storage.holds g.B.Storage.lines g.B.Storage.own g.B.Storage.layout l _ task.Inform _ _ _ _ _ _ c.in-Inform.is
    (shows_manages g.B.S.Space (Laid g.B.Storage.own g.B.Storage.layout l g.B.Storage.reopens) g.O.Sink g.B.Storage.holds g.B.Storage.lines task.Inform _ _ _ _ _ _ (λ d. refl)
    (record { sound = c.requires.may.sound; only = λ o t x. g.met.B.S.Space.only_kept c.args.space.now o t c.requires.may.sound x; clean = λ t. g.met.B.S.Space.clean c.args.space.now t c.requires.may.sound c.requires.may.untouched })
    (λ t u o le x. g.met.B.S.Space.earlier c.inform.new.space t u o le x) c.inform.ensures.keeps c.inform.ensures.shows)

pub returns-in-Drill-clause-laid : goal.returns-in-Drill-clause-laid
returns-in-Drill-clause-laid g c = λ l. laid_as g.B.S.Space g.B.Storage.reopens g.O.Sink g.B.Storage.holds g.B.Storage.lines g.B.Storage.own g.B.Storage.layout l _ (task.Drill c.in-Drill.seed c.in-Drill.count) _ _ _ _ _ _ c.in-Drill.is (c.drill.ensures.laid l)
