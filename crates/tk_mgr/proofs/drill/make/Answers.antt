use Rattle.std.proofs.Common.{◌≡◌, ◌+◌, ◌*◌, ◌/◌, ◌%◌, rules, arith}
use Rattle.std.proofs.lemmas.Result.{IfOk-weaker, on_ok_weaker}
use Rattle.tk_mgr.specs.Asking.{LeavesLast, OfMark}
use Rattle.tk_mgr.specs.Tasks.{text_of}
use Rattle.tk_mgr.specs.declared.task.Task.TheVariants.{Drill}
use Rattle.ty_base.specs.Holding.{Frame, Laid}
use Rattle.tk_mgr.proofs.Ends.{on_ok_both}
use Rattle.tk_mgr.proofs.DrillEnds.{all_told, begun, last_left}
use Rattle.tk_mgr.proofs.Hundreds.{all_are_marks, hundreds_are_marks}
use Rattle.tk_mgr.specs.Managing.{task_less}
use Rattle.tk_mgr.proofs.Steps.{fills_within}
use Rattle.tk_mgr.proofs.drill.make.Goals as goal

pub returns-clause-text : goal.returns-clause-text
returns-clause-text g c = IfOk-weaker c.keep_rest.result _ (λ text. OfMark g.B.S.Space g.B.Storage.holds g.B.Storage.reopens c.args.base.now c.args.space.now (λ m. text ≡ text_of (Drill c.args.seed c.args.count) m.contents)) (λ text tells m h.
    let st = begun g.B.S.Space g.B.Storage.holds g.B.Storage.reopens c.args.seed c.new-run.result _ _ m c.new-run.ensures.drawn c.new-run.ensures.made c.new-run.ensures.accepted h in
    all_told g.B.S.Space g.B.Storage.holds g.B.Storage.reopens c.args.seed c.args.count _ _ _ _ m (omega (arith, c.in_ok-keep_hundreds.ensures.secures.made)) tells (c.in_ok-keep_hundreds.ensures.secures.each c.args.seed m st)) c.keep_rest.ensures.text

pub returns-clause-moments : goal.returns-clause-moments
returns-clause-moments g c = λ m h.
    let st = begun g.B.S.Space g.B.Storage.holds g.B.Storage.reopens c.args.seed c.new-run.result _ _ m c.new-run.ensures.drawn c.new-run.ensures.made c.new-run.ensures.accepted h in
    let there = c.in_ok-keep_hundreds.ensures.secures.each c.args.seed m st in
    let may = c.in_ok-keep_hundreds.ensures.secures.may in
    all_are_marks g.B.S.Space g.B.Storage.reopens g.B.Storage.holds c.args.seed c.args.count _ _ _ _ _ m (omega (arith, c.in_ok-keep_hundreds.ensures.secures.made)) (λ t. g.met.B.S.Space.clean c.keep_hundreds.new.space t may.sound may.untouched) there (c.keep_hundreds.ensures.moments c.args.seed m st) (c.keep_rest.ensures.moments c.args.seed m there)

pub returns-clause-last : goal.returns-clause-last
returns-clause-last g c = on_ok_weaker {Q = LeavesLast g.B.S.Space g.B.Storage.holds g.B.Storage.reopens (Drill c.args.seed c.args.count) c.args.base.now c.args.space.now c.keep_rest.new.space} c.keep_rest.result (λ secures m h o l.
    let st = begun g.B.S.Space g.B.Storage.holds g.B.Storage.reopens c.args.seed c.new-run.result _ _ m c.new-run.ensures.drawn c.new-run.ensures.made c.new-run.ensures.accepted h in
    let may = secures.may in
    last_left g.B.S.Space g.B.Storage.holds g.B.Storage.reopens c.args.seed c.args.count c.keep_hundreds.new.run c.keep_rest.new.run c.keep_rest.new.base c.keep_rest.new.space m (omega (arith, c.in_ok-keep_hundreds.ensures.secures.made)) secures.made
    (record { sound = may.sound; only = λ p t x. g.met.B.S.Space.only_kept c.keep_rest.new.space p t may.sound x; clean = λ t. g.met.B.S.Space.clean c.keep_rest.new.space t may.sound may.untouched })
    (secures.each c.args.seed m (c.in_ok-keep_hundreds.ensures.secures.each c.args.seed m st)) o l) c.keep_rest.ensures.secures

pub returns-in_err-keep_hundreds-clause-moments : goal.returns-in_err-keep_hundreds-clause-moments
returns-in_err-keep_hundreds-clause-moments g c = λ m h.
    let st = begun g.B.S.Space g.B.Storage.holds g.B.Storage.reopens c.args.seed c.new-run.result _ _ m c.new-run.ensures.drawn c.new-run.ensures.made c.new-run.ensures.accepted h in
    hundreds_are_marks g.B.S.Space g.B.Storage.reopens c.args.seed c.args.count m _ _ (c.keep_hundreds.ensures.moments c.args.seed m st)

pub returns-in_err-keep_hundreds-clause-full : goal.returns-in_err-keep_hundreds-clause-full
returns-in_err-keep_hundreds-clause-full g c = λ is m h.
    let st = begun g.B.S.Space g.B.Storage.holds g.B.Storage.reopens c.args.seed c.new-run.result _ _ m c.new-run.ensures.drawn c.new-run.ensures.made c.new-run.ensures.accepted h in
    fills_within (g.B.S.Space.log_full c.keep_hundreds.new.space) (g.B.Storage.fills_since c.args.space.now c.keep_hundreds.new.space) (g.B.Storage.lacks_large c.args.space.now c.keep_hundreds.new.space) c.args.seed (100 * (c.args.count / 100)) _ _ (omega arith) (c.in_err-keep_hundreds.ensures.full (search (rules, is)) c.args.seed m st)

pub returns-clause-full : goal.returns-clause-full
returns-clause-full g c = λ is m h.
    let st = begun g.B.S.Space g.B.Storage.holds g.B.Storage.reopens c.args.seed c.new-run.result _ _ m c.new-run.ensures.drawn c.new-run.ensures.made c.new-run.ensures.accepted h in
    let e = g.met.B.Storage.since_more c.args.space.now c.keep_hundreds.new.space c.keep_rest.new.space (c.keep_hundreds.ensures.moments c.args.seed m st).leaves.later in
    fills_within (g.B.S.Space.log_full c.keep_rest.new.space) (g.B.Storage.fills_since c.args.space.now c.keep_rest.new.space) (g.B.Storage.lacks_large c.args.space.now c.keep_rest.new.space) c.args.seed (c.keep_hundreds.new.run.made + c.args.count % 100) _ _ (omega (arith, c.in_ok-keep_hundreds.ensures.secures.made))
    (task_less (g.B.S.Space.log_full c.keep_rest.new.space) (g.B.Storage.fills_since c.keep_hundreds.new.space c.keep_rest.new.space) (g.B.Storage.fills_since c.args.space.now c.keep_rest.new.space) (g.B.Storage.lacks_large c.keep_hundreds.new.space c.keep_rest.new.space) (g.B.Storage.lacks_large c.args.space.now c.keep_rest.new.space) (Drill c.args.seed (c.keep_hundreds.new.run.made + c.args.count % 100)) m.contents e.fills (λ packs. absurd cc) (c.keep_rest.ensures.full is c.args.seed m (c.in_ok-keep_hundreds.ensures.secures.each c.args.seed m st)))

-- ---- laid out like what was there

pub returns-clause-laid : goal.returns-clause-laid
returns-clause-laid g c = on_ok_both {R = ((l : Frame) → LeavesLast g.B.S.Space g.B.Storage.holds (Laid g.B.Storage.own g.B.Storage.layout l g.B.Storage.reopens) (Drill c.args.seed c.args.count) c.args.base.now c.args.space.now c.keep_rest.new.space)} c.keep_rest.result (λ secures laid l m h o x.
    let like = Laid g.B.Storage.own g.B.Storage.layout l g.B.Storage.reopens in
    let st = begun g.B.S.Space g.B.Storage.holds like c.args.seed c.new-run.result _ _ m c.new-run.ensures.drawn c.new-run.ensures.made c.new-run.ensures.accepted h in
    let may = secures.may in
    last_left g.B.S.Space g.B.Storage.holds like c.args.seed c.args.count c.keep_hundreds.new.run c.keep_rest.new.run c.keep_rest.new.base c.keep_rest.new.space m (omega (arith, c.in_ok-keep_hundreds.ensures.secures.made)) secures.made
    (record { sound = may.sound; only = λ p t y. g.met.B.S.Space.only_kept c.keep_rest.new.space p t may.sound y; clean = λ t. g.met.B.S.Space.clean c.keep_rest.new.space t may.sound may.untouched })
    (laid l c.args.seed m (c.in_ok-keep_hundreds.ensures.laid l c.args.seed m st)) o x) c.keep_rest.ensures.secures c.keep_rest.ensures.laid

pub returns-clause-moved : goal.returns-clause-moved
returns-clause-moved g c = λ l m h.
    let like = Laid g.B.Storage.own g.B.Storage.layout l g.B.Storage.reopens in
    let st = begun g.B.S.Space g.B.Storage.holds like c.args.seed c.new-run.result _ _ m c.new-run.ensures.drawn c.new-run.ensures.made c.new-run.ensures.accepted h in
    let there = c.in_ok-keep_hundreds.ensures.laid l c.args.seed m st in
    let may = c.in_ok-keep_hundreds.ensures.secures.may in
    all_are_marks g.B.S.Space like g.B.Storage.holds c.args.seed c.args.count _ _ _ _ _ m (omega (arith, c.in_ok-keep_hundreds.ensures.secures.made)) (λ t. g.met.B.S.Space.clean c.keep_hundreds.new.space t may.sound may.untouched) there (c.keep_hundreds.ensures.moved l c.args.seed m st) (c.keep_rest.ensures.moved l c.args.seed m there)

pub returns-in_err-keep_hundreds-clause-moved : goal.returns-in_err-keep_hundreds-clause-moved
returns-in_err-keep_hundreds-clause-moved g c = λ l m h.
    let like = Laid g.B.Storage.own g.B.Storage.layout l g.B.Storage.reopens in
    let st = begun g.B.S.Space g.B.Storage.holds like c.args.seed c.new-run.result _ _ m c.new-run.ensures.drawn c.new-run.ensures.made c.new-run.ensures.accepted h in
    hundreds_are_marks g.B.S.Space like c.args.seed c.args.count m _ _ (c.keep_hundreds.ensures.moved l c.args.seed m st)
