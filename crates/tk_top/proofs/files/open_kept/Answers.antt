use Rattle.std.proofs.Common.{◌∙◌, sym, subst}
use Rattle.tc_base.specs.Files.{Files}
use Rattle.ty_base.specs.Holding.{Laid, log_stays, others_beside}
use Rattle.ty_base.specs.Opening.{OpensTo}
use Rattle.ty_base.proofs.Refusals.{err_is}
use Rattle.tk_top.proofs.Kept.{commit_moves, commit_rests, opened_holds, reads_rest, steady_moves, still_opened}
use Rattle.tk_top.proofs.Laying.{opened_laid}
use Rattle.tk_top.proofs.Staying.{breaks_over}
use Rattle.tk_top.proofs.files.open_kept.Goals as goal

pub returns-in-Ok-clause-opened : goal.returns-in-Ok-clause-opened
returns-in-Ok-clause-opened g c = let s = g.B.S.Space in let b = g.B.Storage in record {
  ready = record {
    sound = c.in-Ok.ensures.outcome.ok;
    held = λ t. let x = c.in_ok-base.ensures.stands t in (x.0, subst (λ (f : Files). b.holds c.in_ok-base.base f x.0) (λ i f. sym (c.in-Ok.ensures.now t f) i) (c.in_ok-base.ensures.opened t x.0 x.1).holds);
  };
  untouched = c.in-Ok.ensures.touched;
  stands = c.in_ok-base.ensures.stands;
  still = λ t. still_opened (g.B.Opens.shaped g.B.Opens.usual) (s.now c.args.space.now) (s.now c.commit.new.self)
      (λ some f. c.in-Ok.ensures.now t f ∙ (c.open.ensures.reads t some).files t f)
      (λ empty. subst (g.B.Opens.shaped g.B.Opens.usual) (λ i f. sym (c.in-Ok.ensures.now t f) i) (c.in_ok-base.ensures.usable.made t empty));
  marks = λ m h. opened_holds s b.holds b.reopens (OpensTo c.args.kind b.reopens) c.in_ok-base.base c.args.space.now c.open.new.space c.commit.new.self m h (log_stays s g.B.Storage.own _ _ g.met.B.Storage.no_logs.1 c.in_ok-base.ensures.usable.others) (c.in_ok-base.ensures.opened h.0 m.contents h.1.contents) (c.in-Ok.ensures.now h.0);
}

pub returns-in_err-base-clause-broken : goal.returns-in_err-base-clause-broken
returns-in_err-base-clause-broken g c = rw (err_is c.from_residual.result _ c.from_residual.ensures.1)
    (breaks_over g.B.S.Space (g.B.Opens.breaks c.args.kind) c.in_err-base.field-0.0 c.args.space.now c.open.new.space c.in_err-base.ensures.broken c.in_err-base.ensures.refused.sound)

pub returns-in-Ok-clause-moments : goal.returns-in-Ok-clause-moments
returns-in-Ok-clause-moments g c = λ m h. let s = g.B.S.Space in
    commit_moves s g.B.Storage.reopens c.args.space.now c.open.new.space c.commit.new.self m (c.open.ensures.keeps.steady h.0) (c.commit.ensures.moments h.0)
    (record { contents = (c.in_ok-base.ensures.opened h.0 m.contents h.1.contents).stand; log = (log_stays s g.B.Storage.own _ _ g.met.B.Storage.no_logs.1 c.in_ok-base.ensures.usable.others).same h.0 ∙ h.1.log })

pub returns-in-Err-clause-moments : goal.returns-in-Err-clause-moments
returns-in-Err-clause-moments g c = λ m h. let s = g.B.S.Space in
    commit_moves s g.B.Storage.reopens c.args.space.now c.open.new.space c.commit.new.self m (c.open.ensures.keeps.steady h.0) (c.commit.ensures.moments h.0)
    (record { contents = (c.in_ok-base.ensures.opened h.0 m.contents h.1.contents).stand; log = (log_stays s g.B.Storage.own _ _ g.met.B.Storage.no_logs.1 c.in_ok-base.ensures.usable.others).same h.0 ∙ h.1.log })

pub returns-in_err-base-clause-moments : goal.returns-in_err-base-clause-moments
returns-in_err-base-clause-moments g c = λ m h. steady_moves g.B.S.Space g.B.Storage.reopens c.args.space.now c.open.new.space m (c.open.ensures.keeps.steady h.0)

pub returns-in_err-base-clause-there : goal.returns-in_err-base-clause-there
returns-in_err-base-clause-there g c = λ t some. let reads = c.open.ensures.reads t some in record {
  rests = reads_rest g.B.S.Space c.args.space.now c.open.new.space (reads.keeps.steady t);
  spared = λ none. reads;
}

pub returns-in-Ok-clause-there : goal.returns-in-Ok-clause-there
returns-in-Ok-clause-there g c = λ t some. let x = c.in_ok-base.ensures.stands t in let reads = c.open.ensures.reads t some in record {
  rests = commit_rests g.B.S.Space c.args.space.now c.open.new.space c.commit.new.self (reads.keeps.steady t) (reads.files t) (c.commit.ensures.moments t);
  spared = λ none. absurd (none x.0 x.1);
}

pub returns-in-Err-clause-there : goal.returns-in-Err-clause-there
returns-in-Err-clause-there g c = λ t some. let x = c.in_ok-base.ensures.stands t in let reads = c.open.ensures.reads t some in record {
  rests = commit_rests g.B.S.Space c.args.space.now c.open.new.space c.commit.new.self (reads.keeps.steady t) (reads.files t) (c.commit.ensures.moments t);
  spared = λ none. absurd (none x.0 x.1);
}

pub returns-in-Ok-clause-laid : goal.returns-in-Ok-clause-laid
returns-in-Ok-clause-laid g c = λ l m h. let s = g.B.S.Space in let b = g.B.Storage in
    opened_holds s b.holds (Laid b.own b.layout l b.reopens) (OpensTo c.args.kind (Laid b.own b.layout l b.reopens)) c.in_ok-base.base c.args.space.now c.open.new.space c.commit.new.self m h (log_stays s g.B.Storage.own _ _ g.met.B.Storage.no_logs.1 c.in_ok-base.ensures.usable.others)
    (opened_laid b.holds b.reopens b.own b.layout c.args.kind l c.in_ok-base.base (s.now c.args.space.now) (s.now c.open.new.space) m.contents (c.in_ok-base.ensures.opened h.0) (record { layout = c.in_ok-base.ensures.laid h.0; beside = others_beside s b.own c.args.space.now c.open.new.space h.0 c.in_ok-base.ensures.usable.others }) h.1.contents) (c.in-Ok.ensures.now h.0)

pub returns-in-Ok-clause-moved : goal.returns-in-Ok-clause-moved
returns-in-Ok-clause-moved g c = λ l m h. let s = g.B.S.Space in let b = g.B.Storage in
    commit_moves s (Laid b.own b.layout l b.reopens) c.args.space.now c.open.new.space c.commit.new.self m (c.open.ensures.keeps.steady h.0) (c.commit.ensures.moments h.0)
    (record { contents = (opened_laid b.holds b.reopens b.own b.layout c.args.kind l c.in_ok-base.base (s.now c.args.space.now) (s.now c.open.new.space) m.contents (c.in_ok-base.ensures.opened h.0) (record { layout = c.in_ok-base.ensures.laid h.0; beside = others_beside s b.own c.args.space.now c.open.new.space h.0 c.in_ok-base.ensures.usable.others }) h.1.contents).stand; log = (log_stays s g.B.Storage.own _ _ g.met.B.Storage.no_logs.1 c.in_ok-base.ensures.usable.others).same h.0 ∙ h.1.log })

pub returns-in-Err-clause-moved : goal.returns-in-Err-clause-moved
returns-in-Err-clause-moved g c = λ l m h. let s = g.B.S.Space in let b = g.B.Storage in
    commit_moves s (Laid b.own b.layout l b.reopens) c.args.space.now c.open.new.space c.commit.new.self m (c.open.ensures.keeps.steady h.0) (c.commit.ensures.moments h.0)
    (record { contents = (opened_laid b.holds b.reopens b.own b.layout c.args.kind l c.in_ok-base.base (s.now c.args.space.now) (s.now c.open.new.space) m.contents (c.in_ok-base.ensures.opened h.0) (record { layout = c.in_ok-base.ensures.laid h.0; beside = others_beside s b.own c.args.space.now c.open.new.space h.0 c.in_ok-base.ensures.usable.others }) h.1.contents).stand; log = (log_stays s g.B.Storage.own _ _ g.met.B.Storage.no_logs.1 c.in_ok-base.ensures.usable.others).same h.0 ∙ h.1.log })

pub returns-in_err-base-clause-moved : goal.returns-in_err-base-clause-moved
returns-in_err-base-clause-moved g c = λ l m h. steady_moves g.B.S.Space (Laid g.B.Storage.own g.B.Storage.layout l g.B.Storage.reopens) c.args.space.now c.open.new.space m (c.open.ensures.keeps.steady h.0)
