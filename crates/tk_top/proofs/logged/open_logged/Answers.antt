use Rattle.std.proofs.Common.{◌≡◌, ◌∙◌, arith, rules, refl, sym, subst}
use Rattle.tc_base.specs.Files.{Files}
use Rattle.tc_space.specs.Frames.{keeps_then, only_reads_then}
use Rattle.tc_space.specs.declared.errors.OpenErr.TheVariants as open_err
use Rattle.tc_space.specs.Moments.{steady_then}
use Rattle.ty_base.specs.Holding.{Laid, log_stays, others_beside}
use Rattle.ty_base.specs.Opening.{OpensTo}
use Rattle.ty_base.proofs.Refusals.{cause_is, err_is}
use Rattle.ty_ulog.specs.Holding.{Holds}
use Rattle.ty_ulog.specs.Log.{records_in}
use Rattle.tk_top.proofs.Kept.{commit_rests, opened_holds, reads_rest, steady_moves, still_opened}
use Rattle.tk_top.proofs.Laying.{opened_laid}
use Rattle.tk_top.proofs.LoggedRuns.{breaks_base, breaks_beside, log_there, open_fault, open_not_full, opened_moves}
use Rattle.tk_top.proofs.Staying.{breaks_over}
use Rattle.tk_top.proofs.logged.open_logged.Goals as goal

pub returns-in-Ok-clause-opened : goal.returns-in-Ok-clause-opened
returns-in-Ok-clause-opened g c = let s = g.B.S.Space in let b = g.B.Storage in let reads = c.in_ok-ulog.ensures.reads in let stays = log_stays s b.own _ _ g.met.B.Storage.no_logs.1 c.in_ok-base.ensures.usable.others in record {
  ready = record {
    sound = c.in-Ok.ensures.outcome.ok;
    held = λ t. let x = c.in_ok-base.ensures.stands t in (x.0, subst (λ (f : Files). b.holds c.in_ok-base.base f x.0) (λ i f. sym (c.in-Ok.ensures.now t f ∙ reads.files t f) i) (c.in_ok-base.ensures.opened t x.0 x.1).holds);
  };
  untouched = c.in-Ok.ensures.touched;
  settings = refl;
  stands = λ t. let x = c.in_ok-base.ensures.stands t in (x.0, (x.1, log_there s c.args.space.now c.open.new.space stays c.in_ok-ulog.ensures.holds t));
  still = λ t. still_opened (g.B.Opens.shaped g.B.Opens.usual) (s.now c.args.space.now) (s.now c.commit.new.self)
      (λ some f. c.in-Ok.ensures.now t f ∙ reads.files t f ∙ (c.open.ensures.reads t some).files t f)
      (λ empty. subst (g.B.Opens.shaped g.B.Opens.usual) (λ i f. sym (c.in-Ok.ensures.now t f ∙ reads.files t f) i) (c.in_ok-base.ensures.usable.made t empty));
  marks = λ m h.
      let log = stays.same h.0 ∙ h.1.log in (
        opened_holds s b.holds b.reopens (OpensTo c.args.kind b.reopens) c.in_ok-base.base c.args.space.now c.open.new.space c.commit.new.self m h stays (c.in_ok-base.ensures.opened h.0 m.contents h.1.contents) (λ f. c.in-Ok.ensures.now h.0 f ∙ reads.files h.0 f),
        record { is_same = refl; holds = subst (λ file. Holds c.in_ok-ulog.ulog file (records_in file)) log (c.in_ok-ulog.ensures.holds h.0) },
      );
}

-- ---- a main file that is there

pub returns-in_err-base-clause-there : goal.returns-in_err-base-clause-there
returns-in_err-base-clause-there g c = λ t some. let reads = c.open.ensures.reads t some in record {
  rests = reads_rest g.B.S.Space c.args.space.now c.open.new.space (reads.keeps.steady t);
  spared = λ none. reads;
}

pub returns-in_err-ulog-clause-there : goal.returns-in_err-ulog-clause-there
returns-in_err-ulog-clause-there g c = λ t some. let s = g.B.S.Space in let reads = only_reads_then s _ _ _ (c.open.ensures.reads t some) c.open-2.ensures.reads in record {
  rests = reads_rest s c.args.space.now c.open-2.new.space (reads.keeps.steady t);
  spared = λ none. reads;
}

pub returns-in-Ok-clause-there : goal.returns-in-Ok-clause-there
returns-in-Ok-clause-there g c = λ t some. let s = g.B.S.Space in let reads = only_reads_then s _ _ _ (c.open.ensures.reads t some) c.in_ok-ulog.ensures.reads in record {
  rests = commit_rests s c.args.space.now c.open-2.new.space c.commit.new.self (reads.keeps.steady t) (reads.files t) (c.commit.ensures.moments t);
  spared = λ none. let x = c.in_ok-base.ensures.stands t in absurd (none x.0 (x.1, log_there s c.args.space.now c.open.new.space (log_stays s g.B.Storage.own _ _ g.met.B.Storage.no_logs.1 c.in_ok-base.ensures.usable.others) c.in_ok-ulog.ensures.holds t));
}

pub returns-in-Err-clause-there : goal.returns-in-Err-clause-there
returns-in-Err-clause-there g c = λ t some. let s = g.B.S.Space in let reads = only_reads_then s _ _ _ (c.open.ensures.reads t some) c.in_ok-ulog.ensures.reads in record {
  rests = commit_rests s c.args.space.now c.open-2.new.space c.commit.new.self (reads.keeps.steady t) (reads.files t) (c.commit.ensures.moments t);
  spared = λ none. let x = c.in_ok-base.ensures.stands t in absurd (none x.0 (x.1, log_there s c.args.space.now c.open.new.space (log_stays s g.B.Storage.own _ _ g.met.B.Storage.no_logs.1 c.in_ok-base.ensures.usable.others) c.in_ok-ulog.ensures.holds t));
}

-- ---- a file 2 that is no update log

pub returns-in_err-base-clause-unlogged : goal.returns-in_err-base-clause-unlogged
returns-in_err-base-clause-unlogged g c = λ t none. c.open.ensures.keeps

pub returns-in_err-ulog-clause-unlogged : goal.returns-in_err-ulog-clause-unlogged
returns-in_err-ulog-clause-unlogged g c = λ t none. keeps_then g.B.S.Space _ _ _ c.open.ensures.keeps c.open-2.ensures.reads.keeps

pub returns-in-Ok-clause-unlogged : goal.returns-in-Ok-clause-unlogged
returns-in-Ok-clause-unlogged g c = λ t none. let s = g.B.S.Space in absurd (none (log_there s c.args.space.now c.open.new.space (log_stays s g.B.Storage.own _ _ g.met.B.Storage.no_logs.1 c.in_ok-base.ensures.usable.others) c.in_ok-ulog.ensures.holds t))

pub returns-in-Err-clause-unlogged : goal.returns-in-Err-clause-unlogged
returns-in-Err-clause-unlogged g c = λ t none. let s = g.B.S.Space in absurd (none (log_there s c.args.space.now c.open.new.space (log_stays s g.B.Storage.own _ _ g.met.B.Storage.no_logs.1 c.in_ok-base.ensures.usable.others) c.in_ok-ulog.ensures.holds t))

-- ---- what a stop leaves

pub returns-in-Ok-clause-moments : goal.returns-in-Ok-clause-moments
returns-in-Ok-clause-moments g c = λ m h. let s = g.B.S.Space in
    opened_moves s g.B.Storage.reopens (OpensTo c.args.kind g.B.Storage.reopens) c.args.space.now c.open.new.space c.open-2.new.space c.commit.new.self m h c.open.ensures.keeps c.in_ok-ulog.ensures.reads (log_stays s g.B.Storage.own _ _ g.met.B.Storage.no_logs.1 c.in_ok-base.ensures.usable.others) (c.in_ok-base.ensures.opened h.0 m.contents h.1.contents).stand (c.commit.ensures.moments h.0)

pub returns-in-Err-clause-moments : goal.returns-in-Err-clause-moments
returns-in-Err-clause-moments g c = λ m h. let s = g.B.S.Space in
    opened_moves s g.B.Storage.reopens (OpensTo c.args.kind g.B.Storage.reopens) c.args.space.now c.open.new.space c.open-2.new.space c.commit.new.self m h c.open.ensures.keeps c.in_ok-ulog.ensures.reads (log_stays s g.B.Storage.own _ _ g.met.B.Storage.no_logs.1 c.in_ok-base.ensures.usable.others) (c.in_ok-base.ensures.opened h.0 m.contents h.1.contents).stand (c.commit.ensures.moments h.0)

pub returns-in_err-base-clause-moments : goal.returns-in_err-base-clause-moments
returns-in_err-base-clause-moments g c = λ m h. steady_moves g.B.S.Space g.B.Storage.reopens c.args.space.now c.open.new.space m (c.open.ensures.keeps.steady h.0)

pub returns-in_err-ulog-clause-moments : goal.returns-in_err-ulog-clause-moments
returns-in_err-ulog-clause-moments g c = λ m h. let s = g.B.S.Space in
    steady_moves s g.B.Storage.reopens c.args.space.now c.open-2.new.space m (steady_then s.moment s.left s.files_at s.kept c.args.space.now c.open.new.space c.open-2.new.space (c.open.ensures.keeps.steady h.0) (c.open-2.ensures.reads.keeps.steady h.0))

-- ---- files that are laid out alike

pub returns-in-Ok-clause-laid : goal.returns-in-Ok-clause-laid
returns-in-Ok-clause-laid g c = λ l m h. let s = g.B.S.Space in let b = g.B.Storage in let reads = c.in_ok-ulog.ensures.reads in
    opened_holds s b.holds (Laid b.own b.layout l b.reopens) (OpensTo c.args.kind (Laid b.own b.layout l b.reopens)) c.in_ok-base.base c.args.space.now c.open.new.space c.commit.new.self m h (log_stays s b.own _ _ g.met.B.Storage.no_logs.1 c.in_ok-base.ensures.usable.others)
    (opened_laid b.holds b.reopens b.own b.layout c.args.kind l c.in_ok-base.base (s.now c.args.space.now) (s.now c.open.new.space) m.contents (c.in_ok-base.ensures.opened h.0) (record { layout = c.in_ok-base.ensures.laid h.0; beside = others_beside s b.own c.args.space.now c.open.new.space h.0 c.in_ok-base.ensures.usable.others }) h.1.contents) (λ f. c.in-Ok.ensures.now h.0 f ∙ reads.files h.0 f)

pub returns-in-Ok-clause-moved : goal.returns-in-Ok-clause-moved
returns-in-Ok-clause-moved g c = λ l m h. let s = g.B.S.Space in let b = g.B.Storage in
    opened_moves s (Laid b.own b.layout l b.reopens) (OpensTo c.args.kind (Laid b.own b.layout l b.reopens)) c.args.space.now c.open.new.space c.open-2.new.space c.commit.new.self m h c.open.ensures.keeps c.in_ok-ulog.ensures.reads (log_stays s b.own _ _ g.met.B.Storage.no_logs.1 c.in_ok-base.ensures.usable.others)
    (opened_laid b.holds b.reopens b.own b.layout c.args.kind l c.in_ok-base.base (s.now c.args.space.now) (s.now c.open.new.space) m.contents (c.in_ok-base.ensures.opened h.0) (record { layout = c.in_ok-base.ensures.laid h.0; beside = others_beside s b.own c.args.space.now c.open.new.space h.0 c.in_ok-base.ensures.usable.others }) h.1.contents).stand (c.commit.ensures.moments h.0)

pub returns-in-Err-clause-moved : goal.returns-in-Err-clause-moved
returns-in-Err-clause-moved g c = λ l m h. let s = g.B.S.Space in let b = g.B.Storage in
    opened_moves s (Laid b.own b.layout l b.reopens) (OpensTo c.args.kind (Laid b.own b.layout l b.reopens)) c.args.space.now c.open.new.space c.open-2.new.space c.commit.new.self m h c.open.ensures.keeps c.in_ok-ulog.ensures.reads (log_stays s b.own _ _ g.met.B.Storage.no_logs.1 c.in_ok-base.ensures.usable.others)
    (opened_laid b.holds b.reopens b.own b.layout c.args.kind l c.in_ok-base.base (s.now c.args.space.now) (s.now c.open.new.space) m.contents (c.in_ok-base.ensures.opened h.0) (record { layout = c.in_ok-base.ensures.laid h.0; beside = others_beside s b.own c.args.space.now c.open.new.space h.0 c.in_ok-base.ensures.usable.others }) h.1.contents).stand (c.commit.ensures.moments h.0)

pub returns-in_err-base-clause-moved : goal.returns-in_err-base-clause-moved
returns-in_err-base-clause-moved g c = λ l m h. steady_moves g.B.S.Space (Laid g.B.Storage.own g.B.Storage.layout l g.B.Storage.reopens) c.args.space.now c.open.new.space m (c.open.ensures.keeps.steady h.0)

pub returns-in_err-ulog-clause-moved : goal.returns-in_err-ulog-clause-moved
returns-in_err-ulog-clause-moved g c = λ l m h. let s = g.B.S.Space in
    steady_moves s (Laid g.B.Storage.own g.B.Storage.layout l g.B.Storage.reopens) c.args.space.now c.open-2.new.space m (steady_then s.moment s.left s.files_at s.kept c.args.space.now c.open.new.space c.open-2.new.space (c.open.ensures.keeps.steady h.0) (c.open-2.ensures.reads.keeps.steady h.0))

-- ---- refusals

pub returns-in_err-base-clause-broken : goal.returns-in_err-base-clause-broken
returns-in_err-base-clause-broken g c = let s = g.B.S.Space in let breaks = g.B.Opens.breaks c.args.kind in
    rw (err_is c.from_residual.result _ c.from_residual.ensures.1)
    (breaks_base s (OpensTo c.args.kind g.B.Storage.reopens) breaks c.in_err-base.field-0.0 c.args.space.now c.open.new.space (breaks_over s breaks c.in_err-base.field-0.0 c.args.space.now c.open.new.space c.in_err-base.ensures.broken c.in_err-base.ensures.refused.sound))

pub returns-in_err-ulog-clause-broken : goal.returns-in_err-ulog-clause-broken
returns-in_err-ulog-clause-broken g c = let s = g.B.S.Space in let reads = c.open-2.ensures.reads in
    rw (err_is c.from_residual-in_err-ulog.result _ c.from_residual-in_err-ulog.ensures.1)
    (breaks_beside s (OpensTo c.args.kind g.B.Storage.reopens) (g.B.Opens.breaks c.args.kind) c.in_err-ulog.field-0.0 c.args.space.now c.open.new.space c.open-2.new.space c.in_err-ulog.ensures.broken
    (λ t. (log_stays s g.B.Storage.own _ _ g.met.B.Storage.no_logs.1 c.in_ok-base.ensures.usable.others).same t) c.in_ok-base.ensures.stands (keeps_then s _ _ _ c.open.ensures.keeps reads.keeps) (λ t some. only_reads_then s _ _ _ (c.open.ensures.reads t some) reads))

pub returns-in_err-ulog-clause-full : goal.returns-in_err-ulog-clause-full
returns-in_err-ulog-clause-full g c = rw (err_is c.from_residual-in_err-ulog.result _ c.from_residual-in_err-ulog.ensures.1) (λ full. absurd (open_not_full c.in_err-ulog.field-0.0 (cause_is _ _ full)))

pub returns-in_err-ulog-clause-cause : goal.returns-in_err-ulog-clause-cause
returns-in_err-ulog-clause-cause g c = rw (err_is c.from_residual-in_err-ulog.result _ c.from_residual-in_err-ulog.ensures.1)
    (λ fault.
    let e : c.in_err-ulog.field-0.0 ≡ open_err.Fault = open_fault c.in_err-ulog.field-0.0 (cause_is _ _ fault) in
    let rose = c.in_err-ulog.ensures.cause (search rules) in
    omega (arith, rose, c.open.ensures.keeps.later))
